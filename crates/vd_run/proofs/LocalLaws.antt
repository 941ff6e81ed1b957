-- Which blocks are local, by a state and by the image that it was read from.
use Rattle.std.proofs.Common.{ℕ, ◌≡◌, ◌+◌, ◌*◌, ◌/◌, ◌<◌, ◌≤◌, ◌↔◌, Bool, true, false, List, length, take, Some, ap, sym, ◌∙◌, arith}
use Rattle.std.specs.Prelude.{slice_get}
use Rattle.std.specs.Int.{div_ceil}
use Rattle.std.proofs.lemmas.List.{length-take}
use Rattle.std.proofs.lemmas.List.Sums.{count_by_more_yes, count_by_more_no, count_by-le-length}
use Rattle.std.proofs.lemmas.Option.{slice_get_within, get_or_from_slice_get}
use Rattle.vd_lists.proofs.Places.{slice_get_take}
use Rattle.vd_lists.proofs.Options.{same_option}
use Rattle.vd_device.specs.declared.store.Store as store
use Rattle.vd_bits.specs.Marks.{count_true}
use Rattle.vd_format.specs.Layouts.{blocks_of}
use Rattle.vd_law.specs.declared.entry.Sector.{Sector}
use Rattle.vd_image.specs.Image.{Mapping}
use Rattle.vd_image.specs.Layouts.{layout_of}
use Rattle.vd_image.specs.Decoders.{Entry, mapping_in, mask_has, format_of}
use Rattle.vd_image.proofs.Deciding.{maps_one}
use Rattle.vd_image.proofs.Layouts.{parts_apart}
use Rattle.vd_replay.specs.Images.{image_of}
use Rattle.vd_replay.specs.States.{IsWholeState, IsState, IsEntryOf}
use Rattle.vd_replay.specs.declared.state.State.{State}
use Rattle.vd_replay.proofs.StateLaws.{storage_from}
use Rattle.vd_replay.proofs.Starting.{whole-storage}
use Rattle.vd_run.specs.Reopening.{IsLocalIn, AreLocal}

-- one more bit is counted
pub count_more : (bits : List Bool) (n : ℕ) (bit : Bool) → slice_get bits n ≡ Some bit → count_true (take (n + 1) bits) ≡ count_true (take n bits) + (let one : ℕ = elim bit [ true ↦ 1 | false ↦ 0 ] in one)
count_more bits n true at = count_by_more_yes (λ b. b) bits n false (slice_get_within bits n true at) (get_or_from_slice_get bits n true false at)
count_more bits n false at = count_by_more_no (λ b. b) bits n false (slice_get_within bits n false at) (get_or_from_slice_get bits n false false at) ∙ omega arith

pub count_few : (bits : List Bool) (n : ℕ) → count_true (take n bits) ≤ n
count_few bits n = let a = count_by-le-length (λ b. b) (take n bits) in let b = length-take n bits in omega arith

-- a block that is in its chunk's mask is local in the image, and no other is
mask_local : (held : List Sector) (s : State) (b : ℕ) → IsState (length held) (image_of held) s.header s → IsWholeState s → b < blocks_of s.header → (bit : Bool) → slice_get s.fresh.bits b ≡ Some bit → (bit ≡ true) ↔ IsLocalIn held s.header b
mask_local held s b state whole within bit at = (there, back)
  where
    chunk : ℕ
    chunk = b / s.header.chunk

    said : IsEntryOf s.header (image_of held) s.map (b / s.header.chunk)
    said = let apart = parts_apart s.header whole.sized.valid in state.entries (b / s.header.chunk) (apart.chunks b within)

    there : bit ≡ true → IsLocalIn held s.header b
    there set =
        let p = whole-storage s b whole (at ∙ ap Some set) in
        let stores = (state.table (b / s.header.chunk) p.0).0 p.1 in
        let storage : said.entry.storage ≡ p.0 + 1 = ap (λ (e : Entry). e.storage) (same_option said.entry stores.0 (slice_get s.map (b / s.header.chunk)) said.stands stores.1) ∙ stores.2 in
        let mask = (state.fresh b bit at).0 set in
        let has : mask_has (b / s.header.chunk * s.header.chunk) said.entry.mask b ≡ true =
        ap (λ (e : Entry). mask_has (b / s.header.chunk * s.header.chunk) e.mask b) (same_option said.entry mask.0 (slice_get s.map (b / s.header.chunk)) said.stands mask.1) ∙ mask.2 in
        (p.0, (mapping_in s.header (b / s.header.chunk) said.entry, said.maps, (storage_from said.entry.storage p.0 storage, has)))

    back : IsLocalIn held s.header b → bit ≡ true
    back local =
        let one : local.1.0 ≡ mapping_in s.header (b / s.header.chunk) said.entry =
        maps_one (format_of s.header) (layout_of s.header) (image_of held) s.header.generation (b / s.header.chunk) local.1.0 (mapping_in s.header (b / s.header.chunk) said.entry) local.1.1 said.maps in
        let has : mask_has (b / s.header.chunk * s.header.chunk) said.entry.mask b ≡ true = ap (λ (m : Mapping). m.has b) (sym one) ∙ local.1.2.1 in
        (state.fresh b bit at).1 (said.entry, said.stands, has)

-- the numbers of local blocks that a state tells
pub counts_local : {S : Type 0} {g : store.Ghosts S} {store : S} (s : State) (local of : ℕ) → IsWholeState s → (g.tells store → IsState (length (g.disk store).held) (image_of (g.disk store).held) s.header s)
    → of ≡ div_ceil s.header.tracked s.header.block → of ≤ blocks_of s.header → local ≡ count_true (take of s.fresh.bits) → AreLocal g s.header store local of
counts_local {g = g} {store} s local of whole says of_is inside local_is = record {
  of_is = of_is;
  are = take of s.fresh.bits;
  many = length-take of s.fresh.bits ∙ (let k = whole.sized.fresh in omega arith);
  local_is = local_is;
  each = λ t b is at. (
      let less : b < of = (let k = slice_get_within (take of s.fresh.bits) b is at in let n = length-take of s.fresh.bits in omega arith) in
      mask_local (g.disk store).held s b (says t) whole (omega (arith, less)) is (sym (slice_get_take of s.fresh.bits b less) ∙ at)
      );
}
