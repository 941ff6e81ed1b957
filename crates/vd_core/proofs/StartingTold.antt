-- At opening the guest's disk agrees with what the store may hold.
use Rattle.std.proofs.Common.{◌≡◌, ℕ, ◌+◌, ◌-◌, ◌*◌, ◌/◌, ◌<◌, inl, inr, true, false, List, [], ◌∷◌, length, sym, ◌∙◌, ap, subst, arith, Contains, Some, slice_get}
use Rattle.std.specs.Option.{option_to_list}
use Rattle.std.proofs.lemmas.Option.{slice_get_cases}
use Rattle.vd_law.specs.declared.entry.Sector.{Sector}
use Rattle.vd_device.specs.Disks.{Disk, IsHonest}
use Rattle.vd_format.specs.declared.header.Header.{Header}
use Rattle.vd_format.specs.Layouts.{storage_start}
use Rattle.vd_format.proofs.Places.{in-place}
use Rattle.vd_format.proofs.Rules.{block_within}
use Rattle.vd_image.specs.Image.{Image, DiskHas}
use Rattle.vd_image.specs.Layouts.{layout_of}
use Rattle.vd_image.specs.Decoders.{format_of}
use Rattle.vd_image.proofs.Layouts.{parts_inside}
use Rattle.vd_table.specs.Tables.{Has}
use Rattle.vd_replay.specs.declared.state.State.{State}
use Rattle.vd_replay.specs.Images.{image_of}
use Rattle.vd_replay.specs.States.{IsState, IsWholeState, StateSays}
use Rattle.vd_replay.proofs.Starting.{start-local, start-background, whole-storage}
use Rattle.vd_passes.specs.declared.shape.Shape.{Shape}
use Rattle.vd_passes.specs.declared.pass.Pass.{Pass}
use Rattle.vd_passes.specs.Tracks.{track}
use Rattle.vd_passes.specs.Places.{IsIn, place_of}
use Rattle.vd_passes.specs.Requests.{requests}
use Rattle.vd_passes.specs.Coherent.{AgreesInSector}
use Rattle.vd_passes.proofs.Lists.{some-inj}
use Rattle.vd_passes.proofs.Tracks.{is-one}
use Rattle.vd_passes.proofs.PlacesGiven.{place-from}
use Rattle.vd_machine.specs.Start.{opening_at, IsStart, image_at}
use Rattle.vd_core.specs.Opening.{disk_shape}
use Rattle.vd_machine.proofs.Starting.{clean-one, clean-held}
use Rattle.vd_core.proofs.StartingDisk.{disk-over, sector-block}
use Rattle.vd_format.specs.Background.{background, background_of, base_at, zero_sector}

starts : (start : List Sector) (s : ℕ) (v : Sector) → slice_get start s ≡ Some v → (track start [] s).contents ≡ v ∷ []
unfolding track
starts start s v at = ap option_to_list at

module _ (s : State) (whole : IsWholeState s) (version : s.header.version ≡ 2) (disk : Disk) (opened : ℕ) (all : opened ≡ length disk.log) (honest : IsHonest disk) (says : StateSays disk.held s)
    (base start : List Sector) (is : IsStart (opening_at opened disk) base s.header start) where
  abbrev h : Header
  h = s.header

  abbrev image : Image
  image = image_at (opening_at opened disk)

  state : IsState (length disk.held) (image_of disk.held) h s
  state = says.current version

  same : (a : ℕ) → a < length disk.held → image a ≡ image_of disk.held a
  same a inside = clean-held disk opened a zero_sector all honest is.clean inside

  has : (x : ℕ) (v : Sector) → x < h.size → slice_get start x ≡ Some v → DiskHas (format_of h) (layout_of h) (base_at zero_sector base) zero_sector (image_of disk.held) x v
  has x v less at = disk-over (length disk.held) image (image_of disk.held) h s state state.opens.room same (base_at zero_sector base) zero_sector x v (is.disk x v at) less

  local-at : (x p : ℕ) (v : Sector) → x < h.size → slice_get start x ≡ Some v → slice_get s.fresh.bits (x / h.block) ≡ Some true → Has s.table (x / h.block / h.chunk) p → v ≡ image_of disk.held ((layout_of h).place p x)
  local-at x p v less at up given = start-local (length disk.held) (image_of disk.held) h s (base_at zero_sector base) x p v state (has x v less at) less up given

  background-at : (x : ℕ) (v : Sector) → x < h.size → slice_get start x ≡ Some v → slice_get s.fresh.bits (x / h.block) ≡ Some false → v ≡ background (base_at zero_sector base) zero_sector h.tracked x
  background-at x v less at down = start-background (length disk.held) (image_of disk.held) h s (base_at zero_sector base) x v state (has x v less at) less down

  place-held : (p x a : ℕ) → p < h.storage → a ≡ (layout_of h).place p x → image a ≡ image_of disk.held ((layout_of h).place p x)
  place-held p x a within at = let room = state.opens.room in let n = (parts_inside h whole.sized.valid).places p x within in ap image at ∙ same ((layout_of h).place p x) (omega (arith, room, n))

  module _ (base_sectors : ℕ) where
    abbrev shape : Shape
    shape = disk_shape h base_sectors

    some : 0 < h.block
    some = let b = block_within h whole.sized.valid in omega (arith, b.0)

    -- what the store may hold in the place of a sector of a local block is what the guest's disk had there
    stands-local : (x : ℕ) (v : Sector) → x < h.size → slice_get start x ≡ Some v → (b at : ℕ) → IsIn h.block b x → slice_get s.fresh.bits b ≡ Some true → place_of shape s.table.chunks b ≡ Some at
        → (w : Sector) → Contains (track disk.start disk.log (at + (x - h.block * b))).contents w → w ≡ v
    stands-local x v less there b at in_block up placed w held =
        let near = sector-block h.block b x some in_block in
        let from = place-from shape s.table.chunks b at placed in
        let p = from.0 in
        let a : ℕ = at + (x - h.block * b) in
        let local : slice_get s.fresh.bits (x / h.block) ≡ Some true = ap (slice_get s.fresh.bits) near ∙ up in
        let given : Has s.table (x / h.block / h.chunk) p = ap (λ (n : ℕ). slice_get s.table.chunks (n / h.chunk)) near ∙ from.1 in
        let stored = whole-storage s b whole up in
        let within : p < h.storage = (let e = some-inj (some-inj (sym from.1 ∙ stored.1)) in let lt = stored.2 in omega (arith, e, lt)) in
        let place : a ≡ (layout_of h).place p x = ap (λ (n : ℕ). n + (x - h.block * b)) from.2 ∙ in-place (storage_start h) h.chunk h.block p b x near in
        clean-one disk opened a w all is.clean held ∙ place-held p x a within place ∙ sym (local-at x p v less there local given)

    pub stands-at : {passes : List Pass} (x : ℕ) → x < length start → AgreesInSector (requests shape s.fresh.bits passes []) (place_of shape s.table.chunks) (background_of base h.tracked) x (track start [] x) (track disk.start disk.log)
    stands-at x within =
        let size = is.size in
        elim (slice_get_cases start x).1 [
          | inl got ↦ (let v = got.0 in let there = got.2 in record {
            local = λ b at in_block up placed w held.
                let same_one = stands-local x v (omega arith) there b at in_block up placed w held in
                subst (λ (xs : List Sector). Contains xs w) (sym (starts start x v there)) (subst (λ (u : Sector). Contains (v ∷ []) u) (sym same_one) (is-one v));
            other = λ b in_block down.
                let near = sector-block h.block b x some in_block in
                let is_back = background-at x v (omega arith) there (ap (slice_get s.fresh.bits) near ∙ down) in
                subst (λ (xs : List Sector). Contains xs (background_of base h.tracked x)) (sym (starts start x v there)) (subst (λ (u : Sector). Contains (v ∷ []) u) is_back (is-one v));
          })
          | inr past_it ↦ absurd (let far = past_it.0 in omega arith)
        ]
