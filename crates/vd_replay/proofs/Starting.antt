-- What a core that is made from a state may take from it.
use Rattle.std.proofs.Common.{ℕ, ◌≡◌, ◌+◌, ◌-◌, ◌*◌, ◌/◌, ◌%◌, ◌==◌, ◌<◌, ◌⊎◌, ◌↔◌, inl, inr, Bool, true, false, if◌then◌else◌, length, Option, Some, None, Ok, refl, ap, sym, ◌∙◌, subst, arith}
use Rattle.std.specs.Prelude.{slice_get}
use Rattle.std.specs.Int.{bit_at}
use Rattle.std.proofs.lemmas.Bool.{cases_eq}
use Rattle.std.proofs.lemmas.Nat.Bits.{bit_at-zero}
use Rattle.std.proofs.lemmas.Option.{slice_get_within}
use Rattle.vd_lists.proofs.Places.{some_place}
use Rattle.vd_lists.proofs.Options.{same_option}
use Rattle.vd_format.proofs.Rules.{chunk_within}
use Rattle.vd_table.specs.Tables.{Has}
use Rattle.vd_table.proofs.Links.{none_some}
use Rattle.vd_image.specs.Log.{Sector}
use Rattle.vd_image.specs.Image.{Header, Mapping, Image, Maps, IsLocalBy, DiskHas, unmapped_sector}
use Rattle.vd_image.specs.Layouts.{layout_of}
use Rattle.vd_image.specs.Decoders.{Entry, IsEntry, header_of, shape_of, mask_has, mapping_in, format_of}
use Rattle.vd_image.proofs.Deciding.{maps_one}
use Rattle.vd_image.proofs.Layouts.{parts_apart}
use Rattle.vd_image.proofs.Openings.{header_valid}
use Rattle.vd_replay.specs.States.{IsWholeState, IsState}
use Rattle.vd_replay.specs.declared.state.State.{State}
use Rattle.vd_replay.proofs.StateLaws.{storage_from, in_mask, mask_is}
use Rattle.vd_format.specs.Background.{zero_sector, background}

-- ---- whatever the store tells

-- a chunk with a local block has a storage chunk
pub whole-storage : (s : State) (b : ℕ) → IsWholeState s → slice_get s.fresh.bits b ≡ Some true → (p : ℕ) × Has s.table (b / s.header.chunk) p × (p < s.header.storage)
whole-storage s b whole at = (e.storage - 1, whole.placed.has (b / s.header.chunk) (e.storage - 1) within (e, m.1, stored), (let k = grammar.storage in omega arith))
  where
    m : (e : Entry) × (slice_get s.map (b / s.header.chunk) ≡ Some e) × (true ≡ mask_has (b / s.header.chunk * s.header.chunk) e.mask b)
    m = in_mask s.header s.map s.fresh b true whole.sized.valid whole.sized.map whole.sized.chunk whole.sized.fresh whole.spread at

    e : Entry
    e = m.0

    within : b / s.header.chunk < length s.map
    within = slice_get_within s.map (b / s.header.chunk) e m.1

    grammar : IsEntry (shape_of s.header) (b / s.header.chunk) e
    grammar = whole.entries.each (b / s.header.chunk) e (let k = whole.sized.map in omega (arith, k, within)) m.1

    some_block : e.mask ≡ 0 → ⊥
    some_block none =
        let some : 0 < s.header.chunk = (let k = (chunk_within s.header whole.sized.valid).0 in omega (arith, k)) in
        let here : true ≡ (bit_at e.mask (b % s.header.chunk) == 1) = m.2 ∙ mask_is s.header.chunk e.mask b some in
        let empty : (bit_at e.mask (b % s.header.chunk) == 1) ≡ false = ap (λ (n : ℕ). bit_at n (b % s.header.chunk) == 1) none ∙ ap (λ (n : ℕ). n == 1) (bit_at-zero (b % s.header.chunk)) in
        cc

    stored : e.storage ≡ e.storage - 1 + 1
    stored = elim (cases_eq e.storage 0) [
      | inl none ↦ absurd (some_block (grammar.empty.1 none))
      | inr some ↦ omega arith
    ]

-- a chunk has no storage chunk exactly where its entry has none
pub whole-given : (s : State) (c : ℕ) (e : Entry) → IsWholeState s → slice_get s.map c ≡ Some e → (slice_get s.table.chunks c ≡ Some None) ↔ (e.storage ≡ 0)
whole-given s c e whole at = (none_given, given_none)
  where
    within : c < length s.map
    within = slice_get_within s.map c e at

    none_given : slice_get s.table.chunks c ≡ Some None → e.storage ≡ 0
    none_given none = elim (cases_eq e.storage 0) [
      | inl zeros ↦ zeros
      | inr some ↦ absurd (none_some (sym none ∙ whole.placed.has c (e.storage - 1) within (e, at, omega arith)))
    ]

    by_given : (o : Option ℕ) → slice_get s.table.chunks c ≡ Some o → e.storage ≡ 0 → slice_get s.table.chunks c ≡ Some None
    by_given None is zeros = is
    by_given (Some p) is zeros = absurd (let k = (whole.placed.given c p is).1 in let same = same_option k.0 e (slice_get s.map c) k.1 at in let n = ap (λ (x : Entry). x.storage) same in let up = k.2 in omega (arith, n, up, zeros))

    given_none : e.storage ≡ 0 → slice_get s.table.chunks c ≡ Some None
    given_none zeros = let o = some_place s.table.chunks c (let k = whole.sized.map in let t = whole.sized.table in omega (arith, k, t, within)) in by_given o.0 o.1 zeros

-- ---- by the image

-- the mapping of a sector's chunk in the image is that of an entry of the grammar in the state
record Mapped (image : Image) (h : Header) (s : State) (x : ℕ) : Type 0 where
  entry : Entry
  stands : slice_get s.map (x / h.block / h.chunk) ≡ Some entry
  kind : entry.zeros ≡ false
  maps : Maps (format_of h) (layout_of h) image h.generation (x / h.block / h.chunk) (mapping_in h (x / h.block / h.chunk) entry)

mapped : (sectors : ℕ) (image : Image) (h : Header) (s : State) (x : ℕ) → IsState sectors image h s → x < h.size → Mapped image h s x
mapped sectors image h s x is less =
    let apart = parts_apart h (header_valid (image 0) h is.opens.reads) in
    let e = is.entries (x / h.block / h.chunk) (apart.chunks (x / h.block) (apart.blocks x less)) in
    record { entry = e.entry; stands = e.stands; kind = e.grammar.kind; maps = e.maps }

-- what a sector of the disk is, by such a mapping
abbrev IsShown : Image → Header → (base : ℕ → Sector) → Mapping → (x : ℕ) → Sector → Type 0
IsShown image h base m x v = ((p : ℕ) × IsLocalBy m (x / h.block) p × (v ≡ image ((layout_of h).place p x)))
    ⊎ (((p : ℕ) → IsLocalBy m (x / h.block) p → ⊥) × (v ≡ unmapped_sector base zero_sector h.tracked m x))

shown_by : (image : Image) (h : Header) (s : State) (base : ℕ → Sector) (x : ℕ) (v : Sector) → header_of (image 0) ≡ Ok h → DiskHas (format_of h) (layout_of h) base zero_sector image x v
    → (w : Mapped image h s x) → IsShown image h base (mapping_in h (x / h.block / h.chunk) w.entry) x v
shown_by image h s base x v reads disk w = subst (λ (m : Mapping). IsShown image h base m x v) mapping shown
  where
    same_header : disk.header ≡ h
    same_header = let a = disk.reads in cc

    maps : Maps (format_of h) (layout_of h) image h.generation (x / h.block / h.chunk) disk.mapping
    maps = subst (λ (g : Header). Maps (format_of h) (layout_of h) image g.generation (x / h.block / h.chunk) disk.mapping) same_header disk.maps

    mapping : disk.mapping ≡ mapping_in h (x / h.block / h.chunk) w.entry
    mapping = maps_one (format_of h) (layout_of h) image h.generation (x / h.block / h.chunk) disk.mapping (mapping_in h (x / h.block / h.chunk) w.entry) maps w.maps

    shown : IsShown image h base disk.mapping x v
    shown = subst (λ (g : Header). ((p : ℕ) × IsLocalBy disk.mapping (x / h.block) p × (v ≡ image ((layout_of h).place p x)))
        ⊎ (((p : ℕ) → IsLocalBy disk.mapping (x / h.block) p → ⊥) × (v ≡ unmapped_sector base zero_sector g.tracked disk.mapping x))) same_header disk.has

-- a sector of a local block stands in its chunk's storage
pub start-local : (sectors : ℕ) (image : Image) (h : Header) (s : State) (base : ℕ → Sector) (x p : ℕ) (v : Sector) → IsState sectors image h s → DiskHas (format_of h) (layout_of h) base zero_sector image x v → x < h.size
    → slice_get s.fresh.bits (x / h.block) ≡ Some true → Has s.table (x / h.block / h.chunk) p → v ≡ image ((layout_of h).place p x)
start-local sectors image h s base x p v is disk less up given = by_shown (shown_by image h s base x v is.opens.reads disk w)
  where
    w : Mapped image h s x
    w = mapped sectors image h s x is less

    local : IsLocalBy (mapping_in h (x / h.block / h.chunk) w.entry) (x / h.block) p
    local =
        let mask = (is.fresh (x / h.block) true up).0 refl in
        let store = (is.table (x / h.block / h.chunk) p).0 given in
        let one : mask.0 ≡ w.entry = same_option mask.0 w.entry (slice_get s.map (x / h.block / h.chunk)) mask.1 w.stands in
        let two : store.0 ≡ w.entry = same_option store.0 w.entry (slice_get s.map (x / h.block / h.chunk)) store.1 w.stands in (
          storage_from w.entry.storage p (ap (λ (e : Entry). e.storage) (sym two) ∙ store.2),
          ap (λ (e : Entry). mask_has (x / h.block / h.chunk * h.chunk) e.mask (x / h.block)) (sym one) ∙ mask.2,
        )

    by_shown : IsShown image h base (mapping_in h (x / h.block / h.chunk) w.entry) x v → v ≡ image ((layout_of h).place p x)
    by_shown (inl (q, by, there)) = there ∙ ap (λ (k : ℕ). image ((layout_of h).place k x)) (same_option q p (mapping_in h (x / h.block / h.chunk) w.entry).storage by.0 local.0)
    by_shown (inr (none, there)) = absurd (none p local)

-- a sector of another block is the background
pub start-background : (sectors : ℕ) (image : Image) (h : Header) (s : State) (base : ℕ → Sector) (x : ℕ) (v : Sector) → IsState sectors image h s → DiskHas (format_of h) (layout_of h) base zero_sector image x v → x < h.size
    → slice_get s.fresh.bits (x / h.block) ≡ Some false → v ≡ background base zero_sector h.tracked x
start-background sectors image h s base x v is disk less down = by_shown (shown_by image h s base x v is.opens.reads disk w)
  where
    w : Mapped image h s x
    w = mapped sectors image h s x is less

    by_shown : IsShown image h base (mapping_in h (x / h.block / h.chunk) w.entry) x v → v ≡ background base zero_sector h.tracked x
    by_shown (inl (q, by, there)) = absurd (let up = (is.fresh (x / h.block) false down).1 (w.entry, w.stands, by.1) in cc)
    by_shown (inr (none, there)) = there ∙ ap (λ (z : Bool). if z then zero_sector else background base zero_sector h.tracked x) w.kind

-- each sector of the disk has a content
pub disk-there : (sectors : ℕ) (image : Image) (h : Header) (s : State) (base : ℕ → Sector) (x : ℕ) → IsState sectors image h s → x < h.size → (v : Sector) × DiskHas (format_of h) (layout_of h) base zero_sector image x v
disk-there sectors image h s base x is less = by_mask m.storage refl (m.has (x / h.block)) refl
  where
    w : Mapped image h s x
    w = mapped sectors image h s x is less

    m : Mapping
    m = mapping_in h (x / h.block / h.chunk) w.entry

    absent : ((p : ℕ) → IsLocalBy m (x / h.block) p → ⊥) → (v : Sector) × DiskHas (format_of h) (layout_of h) base zero_sector image x v
    absent none = (unmapped_sector base zero_sector h.tracked m x, record { header = h; reads = is.opens.reads; mapping = m; maps = w.maps; has = inr (none, refl) })

    by_mask : (storage : Option ℕ) → m.storage ≡ storage → (has : Bool) → m.has (x / h.block) ≡ has → (v : Sector) × DiskHas (format_of h) (layout_of h) base zero_sector image x v
    by_mask None none has at = absent (λ p local. let a = local.0 in cc)
    by_mask (Some p) some false at = absent (λ q local. let a = local.1 in cc)
    by_mask (Some p) some true at = (image ((layout_of h).place p x), record { header = h; reads = is.opens.reads; mapping = m; maps = w.maps; has = inl (p, (some, at), refl) })
