-- What a state says of the image that it was read from, in the words of the laws.
use Rattle.std.proofs.Common.{ℕ, zero, suc, ◌≡◌, ◌+◌, ◌*◌, ◌/◌, ◌%◌, ◌<◌, ◌≤◌, ◌⊎◌, inl, inr, Bool, true, false, if◌then◌else◌, List, [], ◌∷◌, length, Option, Some, None, Ok, refl, ap, sym, ◌∙◌, subst, arith}
use Rattle.std.specs.Prelude.{slice_get, nat_lt}
use Rattle.std.proofs.lemmas.Bool.{cases_lt, le-ltb}
use Rattle.std.proofs.lemmas.Nat.{div-add-mod', mod_below}
use Rattle.std.proofs.lemmas.Option.{slice_get_within, get_or_from_slice_get}
use Rattle.vd_lists.proofs.Places.{some_place}
use Rattle.vd_law.specs.declared.entry.Sector.{Sector}
use Rattle.vd_format.specs.Headers.{IsValid}
use Rattle.vd_format.specs.Layouts.{blocks_of, chunks_of}
use Rattle.vd_format.proofs.Rules.{block_within}
use Rattle.vd_table.specs.Tables.{TableState, Has}
use Rattle.vd_image.specs.Image.{Header, Mapping, Record, Image, Format, Layout, Maps, GivesStorage, IsLocalBy, IsLocal, IsMapping, IsCurrent, IsConsistent, DiskHas, unmapped_sector}
use Rattle.vd_image.specs.Layouts.{layout_of}
use Rattle.vd_image.specs.Decoders.{header_of, Entry, mask_has, mapping_in, format_of}
use Rattle.vd_image.proofs.Deciding.{maps_one}
use Rattle.vd_image.proofs.Decoders.{entry_is_mapping}
use Rattle.vd_image.proofs.Layouts.{parts_apart}
use Rattle.vd_image.proofs.Openings.{header_valid}
use Rattle.vd_replay.specs.States.{IsState}
use Rattle.vd_replay.specs.declared.state.State.{State}
use Rattle.vd_replay.proofs.StateLaws.{storage_is, storage_from}
use Rattle.vd_safety.specs.Mirrors.{bit_of, storage_given, storage_of}
use Rattle.vd_machine.specs.Opened.{is_in}
use Rattle.vd_format.specs.Background.{zero_sector, background}

-- ---- bits and tables

pub up_there : (bits : List Bool) (b : ℕ) → bit_of bits b ≡ true → slice_get bits b ≡ Some true
up_there [] b h = absurd cc
up_there (x ∷ bits) zero h = ap Some h
up_there (x ∷ bits) (suc b) h = up_there bits b h

pub there_up : (bits : List Bool) (b : ℕ) → slice_get bits b ≡ Some true → bit_of bits b ≡ true
there_up bits b h = get_or_from_slice_get bits b true false h

pub down_there : (bits : List Bool) (b : ℕ) → b < length bits → bit_of bits b ≡ false → slice_get bits b ≡ Some false
down_there [] b within h = absurd (omega (arith, within))
down_there (x ∷ bits) zero within h = ap Some h
down_there (x ∷ bits) (suc b) within h = down_there bits b (omega arith) h

given_is : (o : Option (Option ℕ)) (p : ℕ) → storage_given o ≡ Some p → o ≡ Some (Some p)
given_is None p h = absurd cc
given_is (Some None) p h = absurd cc
given_is (Some (Some q)) p h = cc

pub stored_has : (table : TableState) (c p : ℕ) → storage_of table c ≡ Some p → Has table c p
stored_has table c p h = given_is (slice_get table.chunks c) p h

pub has_stored : (table : TableState) (c p : ℕ) → Has table c p → storage_of table c ≡ Some p
has_stored table c p h = ap storage_given h

same_entry : (e x : Entry) (o : Option Entry) → o ≡ Some e → o ≡ Some x → e ≡ x
same_entry e x o is also = cc

-- ---- mappings

-- the mappings that a consistent image decides by are in the grammar, and of chunks that exist
pub maps_grammar : (f : Format) (l : Layout) (image : Image) (generation c : ℕ) (m : Mapping) → IsConsistent f l image generation → Maps f l image generation c m → (c < l.chunks) × IsMapping l c m
maps_grammar f l image generation c m consistent (inl last) =
    let item = consistent.records last.slot last.counts.within last.counts.item last.counts.reads last.counts.current in
    let k = item.facts last.place last.fact last.counts.stands in (
      subst (λ (d : ℕ). d < l.chunks) last.names k.0,
      subst (λ (y : Mapping). IsMapping l c y) last.mapping (subst (λ (d : ℕ). IsMapping l d last.fact.mapping) last.names k.1),
    )
maps_grammar f l image generation c m consistent (inr page) =
    let held = consistent.mappings c page.1 in
    let same : held.0 ≡ m = (let a = held.1 in let b = page.2 in cc) in
    (page.1, subst (λ (y : Mapping). IsMapping l c y) same held.2)

-- a chunk's mapping in the image is that of its entry in the state
pub record IsMapped (h : Header) (image : Image) (map : List Entry) (c : ℕ) (m : Mapping) : Type 0 where
  pub entry : Entry
  pub stands : slice_get map c ≡ Some entry
  pub is : mapping_in h c entry ≡ m
  pub grammar : IsMapping (layout_of h) c m

pub mapped : (sectors : ℕ) (image : Image) (h : Header) (s : State) (c : ℕ) (m : Mapping) → IsState sectors image h s → Maps (format_of h) (layout_of h) image h.generation c m → IsMapped h image s.map c m
mapped sectors image h s c m is maps =
    let g = maps_grammar (format_of h) (layout_of h) image h.generation c m is.opens.consistent maps in
    let e = is.entries c g.0 in
    record { entry = e.entry; stands = e.stands; is = maps_one (format_of h) (layout_of h) image h.generation c (mapping_in h c e.entry) m e.maps maps; grammar = g.1 }

-- ---- storage

pub has_gives : (sectors : ℕ) (image : Image) (h : Header) (s : State) (c p : ℕ) → IsState sectors image h s → length s.map ≡ chunks_of h → Has s.table c p → GivesStorage (format_of h) (layout_of h) image h.generation c p
has_gives sectors image h s c p is size has =
    let k = (is.table c p).0 has in
    let within : c < chunks_of h = (let w = slice_get_within s.map c k.0 k.1 in omega arith) in
    let e = is.entries c within in
    let same : k.0 ≡ e.entry = same_entry k.0 e.entry (slice_get s.map c) k.1 e.stands in
    (mapping_in h c e.entry, e.maps, storage_from e.entry.storage p (ap (λ (x : Entry). x.storage) (sym same) ∙ k.2))

pub gives_has : (sectors : ℕ) (image : Image) (h : Header) (s : State) (c p : ℕ) → IsState sectors image h s → GivesStorage (format_of h) (layout_of h) image h.generation c p → Has s.table c p
gives_has sectors image h s c p is (m, maps, storage) =
    let w = mapped sectors image h s c m is maps in
    (is.table c p).1 (w.entry, w.stands, storage_is w.entry.storage p (ap (λ (x : Mapping). x.storage) w.is ∙ storage))

-- ---- local blocks

-- the block is in the mask of its chunk's entry
pub up_mask : (sectors : ℕ) (image : Image) (h : Header) (s : State) (b : ℕ) → IsState sectors image h s → bit_of s.fresh.bits b ≡ true → is_in (slice_get s.map (b / h.chunk)) (b / h.chunk * h.chunk) b ≡ true
up_mask sectors image h s b is up =
    let k = (is.fresh b true (up_there s.fresh.bits b up)).0 refl in
    ap (λ (o : Option Entry). is_in o (b / h.chunk * h.chunk) b) k.1 ∙ k.2

pub up_local : (sectors : ℕ) (image : Image) (h : Header) (s : State) (b : ℕ) → IsState sectors image h s → length s.fresh.bits ≡ blocks_of h → bit_of s.fresh.bits b ≡ true → (p : ℕ) × IsLocal (format_of h) (layout_of h) image h.generation b p
up_local sectors image h s b is size up =
    let valid = header_valid (image 0) h is.opens.reads in
    let there = up_there s.fresh.bits b up in
    let within : b < blocks_of h = (let w = slice_get_within s.fresh.bits b true there in omega arith) in
    let e = is.entries (b / h.chunk) ((parts_apart h valid).chunks b within) in
    let k = (is.fresh b true there).0 refl in
    let same : k.0 ≡ e.entry = same_entry k.0 e.entry (slice_get s.map (b / h.chunk)) k.1 e.stands in
    let has : mask_has (b / h.chunk * h.chunk) e.entry.mask b ≡ true = ap (λ (x : Entry). mask_has (b / h.chunk * h.chunk) x.mask b) (sym same) ∙ k.2 in
    let g = (entry_is_mapping h (b / h.chunk) e.entry valid).0 e.grammar in
    let p = g.has_storage b has in
    (p.0, (mapping_in h (b / h.chunk) e.entry, e.maps, (p.1, has)))

pub local_up : (sectors : ℕ) (image : Image) (h : Header) (s : State) (b p : ℕ) → IsState sectors image h s → length s.fresh.bits ≡ blocks_of h → IsLocal (format_of h) (layout_of h) image h.generation b p → bit_of s.fresh.bits b ≡ true
local_up sectors image h s b p is size (m, maps, local) =
    let w = mapped sectors image h s (b / h.chunk) m is maps in
    let within : b < length s.fresh.bits = (let k = (w.grammar.blocks b local.1).0 in omega (arith, k, size)) in
    let bit = some_place s.fresh.bits b within in
    let up : bit.0 ≡ true = (is.fresh b bit.0 bit.1).1 (w.entry, w.stands, ap (λ (x : Mapping). x.has b) w.is ∙ local.1) in
    there_up s.fresh.bits b (bit.1 ∙ ap Some up)

-- ---- slots

pub below_next : (sectors : ℕ) (image : Image) (h : Header) (s : State) (k : ℕ) (r : Record) → IsState sectors image h s → k < h.slots → (format_of h).record_of (image ((layout_of h).slot_at k)) ≡ Some r → IsCurrent r h.generation → k < s.cursor.next
below_next sectors image h s k r is within reads current = elim (cases_lt k s.cursor.next) [
  | inl below ↦ below
  | inr above ↦ absurd (is.none_later k above (within, (r, reads, current)))
]

-- ---- the disk

row_below : (p n r w : ℕ) → p < n → r < w → p * w + r < n * w
row_below p n r w below less = grind arith

-- a sector of a block that exists is one of the disk
pub block_inside : (h : Header) (x : ℕ) → IsValid h → x / h.block < blocks_of h → x < h.size
block_inside h x valid less =
    let some : 0 < h.block = (let k = (block_within h valid).0 in omega (arith, k)) in
    let all : h.size ≡ h.size / h.block * h.block = (let w = div-add-mod' h.size h.block in let none = valid.whole_blocks in omega (arith, w, none)) in
    let whole = div-add-mod' x h.block in
    let rest = mod_below x h.block some in
    let row = row_below (x / h.block) (h.size / h.block) (x % h.block) h.block less rest in
    omega (arith, all, whole, row)

-- past its end the disk that the image stands for has zeros
pub disk_past : (image : Image) (h : Header) (base : ℕ → Sector) (x : ℕ) (v : Sector) → header_of (image 0) ≡ Ok h → IsConsistent (format_of h) (layout_of h) image h.generation
    → DiskHas (format_of h) (layout_of h) base zero_sector image x v → h.size ≤ x → v ≡ zero_sector
disk_past image h base x v reads consistent has past = by_has has.has
  where
    same : has.header ≡ h
    same = let a = has.reads in cc

    maps : Maps (format_of h) (layout_of h) image h.generation (x / h.block / h.chunk) has.mapping
    maps = subst (λ (g : Header). Maps (format_of h) (layout_of h) image g.generation (x / h.block / h.chunk) has.mapping) same has.maps

    grammar : IsMapping (layout_of h) (x / h.block / h.chunk) has.mapping
    grammar = (maps_grammar (format_of h) (layout_of h) image h.generation (x / h.block / h.chunk) has.mapping consistent maps).1

    beyond : nat_lt x h.tracked ≡ false
    beyond = le-ltb x h.tracked (let t = (header_valid (image 0) h reads).tracked in omega (arith, t, past))

    by_has : ((p : ℕ) × IsLocalBy has.mapping (x / h.block) p × (v ≡ image ((layout_of h).place p x))) ⊎ (((p : ℕ) → IsLocalBy has.mapping (x / h.block) p → ⊥) × (v ≡ unmapped_sector base zero_sector has.header.tracked has.mapping x)) → v ≡ zero_sector
    by_has (inl (p, local, at)) = absurd (let k = block_inside h x (header_valid (image 0) h reads) (grammar.blocks (x / h.block) local.1).0 in omega (arith, k, past))
    by_has (inr (none, at)) =
        at
        ∙ ap (λ (g : Header). unmapped_sector base zero_sector g.tracked has.mapping x) same
        ∙ ap (λ (z : Bool). if z then zero_sector else background base zero_sector h.tracked x) (grammar.kind refl)
        ∙ ap (λ (z : Bool). if z then base x else zero_sector) beyond
