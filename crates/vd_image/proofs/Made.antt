-- A new image opens, and its disk is the base below `tracked` and zeros from there on.
use Rattle.std.proofs.Common.{ℕ, ◌≡◌, ◌+◌, ◌-◌, ◌*◌, ◌%◌, ◌<◌, ◌≤◌, ◌==◌, ◌++◌, inl, inr, Bool, true, false, not, List, Some, None, replicate, if◌then◌else◌, lit<, lit≤, arith, refl, ap, sym, subst, ◌∙◌}
use Rattle.std.specs.Option.{option_map}
use Rattle.std.proofs.lemmas.Bool.{ne_eqb, le-leb}
use Rattle.std.proofs.lemmas.Nat.{mod_below}
use Rattle.std.proofs.lemmas.Nat.Bits.{bit_at-zero}
use Rattle.std.proofs.lemmas.List.{replicate-append-replicate, length-replicate}
use Rattle.vd_format.specs.Numbers.{u32_at, u64_at, has_magic}
use Rattle.vd_format.specs.Background.{background, zero_sector}
use Rattle.vd_format.specs.Headers.{IsValid}
use Rattle.vd_format.specs.Entries.{entry_from}
use Rattle.vd_format.proofs.Bytes.{u32_at-append, u64_at-append}
use Rattle.vd_format.proofs.Headers.{header_of-spelling}
use Rattle.vd_image.specs.Log.{Sector}
use Rattle.vd_image.specs.Image.{Header, Mapping, Record, unmapped_sector, IsMapping, Maps, GivesStorage, HasNoLater, DiskHas}
use Rattle.vd_image.specs.Layouts.{layout_of, page_mappings}
use Rattle.vd_image.specs.Decoders.{Entry, has_kind, entry_byte, entry_at, record_of, this_version, mapping_in, record_in, entry_place, format_of}
use Rattle.vd_format.specs.Layouts.{store_need}
use Rattle.vd_image.specs.Openings.{Opens}
use Rattle.vd_image.specs.Made.{header_sector, made_image, small_header}
use Rattle.vd_image.proofs.Decoders.{entry_is_mapping}

-- numbers in zeros are 0
u32_zeros : (at : ℕ) → at ≤ 508 → u32_at zero_sector.bytes at ≡ 0
unfolding zero_sector
u32_zeros at within =
    let sum : at + (4 + (508 - at)) ≡ 512 = omega (arith, within) in
    let rest : replicate 4 0 ++ replicate (508 - at) 0 ≡ replicate (4 + (508 - at)) 0 = replicate-append-replicate 4 (508 - at) 0 in
    let whole : replicate at 0 ++ (replicate 4 0 ++ replicate (508 - at) 0) ≡ replicate 512 0 =
    ap (λ (xs : List ℕ). replicate at 0 ++ xs) rest ∙ replicate-append-replicate at (4 + (508 - at)) 0 ∙ ap (λ (n : ℕ). replicate n 0) sum in
    ap (λ (xs : List ℕ). u32_at xs at) (sym whole) ∙ u32_at-append (replicate at 0) (replicate (508 - at) 0) at 0 (length-replicate at 0) (lit< tt)

u64_zeros : (at : ℕ) → at ≤ 504 → u64_at zero_sector.bytes at ≡ 0
unfolding zero_sector
u64_zeros at within =
    let sum : at + (8 + (504 - at)) ≡ 512 = omega (arith, within) in
    let rest : replicate 8 0 ++ replicate (504 - at) 0 ≡ replicate (8 + (504 - at)) 0 = replicate-append-replicate 8 (504 - at) 0 in
    let whole : replicate at 0 ++ (replicate 8 0 ++ replicate (504 - at) 0) ≡ replicate 512 0 =
    ap (λ (xs : List ℕ). replicate at 0 ++ xs) rest ∙ replicate-append-replicate at (8 + (504 - at)) 0 ∙ ap (λ (n : ℕ). replicate n 0) sum in
    ap (λ (xs : List ℕ). u64_at xs at) (sym whole) ∙ u64_at-append (replicate at 0) (replicate (504 - at) 0) at 0 (length-replicate at 0) (lit< tt)

-- an entry of zeros
abbrev empty : Entry
empty = record { storage = 0; zeros = false; mask = 0 }

kind_of_zeros : (chunk : ℕ) → has_kind zero_sector.bytes (entry_byte chunk) ≡ true
unfolding has_kind
kind_of_zeros chunk =
    let below = mod_below chunk page_mappings (lit< tt) in
    le-leb (u32_at zero_sector.bytes (16 * (chunk % 32) + 4)) 1 (let e = u32_zeros (16 * (chunk % 32) + 4) (omega arith) in omega arith)

entry_of_zeros : (chunk : ℕ) → entry_at zero_sector (entry_place chunk) ≡ empty
unfolding entry_from
entry_of_zeros chunk =
    let below = mod_below chunk page_mappings (lit< tt) in
    let storage = u32_zeros (16 * (chunk % 32)) (omega arith) in
    let kind = u32_zeros (16 * (chunk % 32) + 4) (omega arith) in
    let mask = u64_zeros (16 * (chunk % 32) + 8) (omega arith) in
    ap (λ (n : ℕ). make n (u32_at zero_sector.bytes (16 * (chunk % 32) + 4)) (u64_at zero_sector.bytes (16 * (chunk % 32) + 8))) storage
    ∙ ap (λ (n : ℕ). make 0 n (u64_at zero_sector.bytes (16 * (chunk % 32) + 8))) kind
    ∙ ap (λ (n : ℕ). make 0 0 n) mask
  where
    make : ℕ → ℕ → ℕ → Entry
    make storage kind mask = record { storage = storage; zeros = not (kind == 0); mask = mask }

no_record : record_of zero_sector ≡ None
unfolding record_of has_magic zero_sector
no_record = refl

-- every other sector is zeros
made_more : (h : Header) (s : ℕ) → 0 < s → made_image h s ≡ zero_sector
made_more h s some = ap (λ (b : Bool). if b then header_sector h else zero_sector) (ne_eqb s 0 (λ none. omega arith))

-- what the map says of each chunk: no storage, and the base
abbrev blank : Header → ℕ → Mapping
blank h chunk = mapping_in h chunk empty

blank_read : (h : Header) (chunk : ℕ) → (format_of h).mapping_of (made_image h ((layout_of h).map_at chunk)) chunk ≡ Some (blank h chunk)
blank_read h chunk =
    ap (λ (v : Sector). (format_of h).mapping_of v chunk) (made_more h ((layout_of h).map_at chunk) (omega arith))
    ∙ ap (λ (b : Bool). if b then Some (mapping_in h chunk (entry_at zero_sector (entry_place chunk))) else None) (kind_of_zeros chunk)
    ∙ ap (λ (e : Entry). Some (mapping_in h chunk e)) (entry_of_zeros chunk)

blank_good : (h : Header) (chunk : ℕ) → IsValid h → IsMapping (layout_of h) chunk (blank h chunk)
blank_good h chunk valid = (entry_is_mapping h chunk empty valid).0
    (record { storage = omega arith; kind = refl; mask = lit< tt; blocks = λ i bit. absurd (let none = bit_at-zero i in omega arith); empty = (λ none. refl, λ none. refl) })

pub made_slot_unread : (h : Header) (k : ℕ) (r : Record) → (format_of h).record_of (made_image h ((layout_of h).slot_at k)) ≡ Some r → ⊥
made_slot_unread h k r reads =
    let zeros = ap (λ (v : Sector). (format_of h).record_of v) (made_more h ((layout_of h).slot_at k) (omega arith)) in
    let none = ap (option_map (record_in h)) no_record in
    cc

pub made_maps : (h : Header) (generation chunk : ℕ) (m : Mapping) → Maps (format_of h) (layout_of h) (made_image h) generation chunk m → m ≡ blank h chunk
made_maps h generation chunk m (inl last) = absurd (made_slot_unread h last.slot last.counts.item last.counts.reads)
made_maps h generation chunk m (inr page) = let reads = page.2 in let read = blank_read h chunk in cc

pub made_gives_none : (h : Header) (generation chunk p : ℕ) → GivesStorage (format_of h) (layout_of h) (made_image h) generation chunk p → ⊥
made_gives_none h generation chunk p (m, maps, storage) = let same = made_maps h generation chunk m maps in let given : (blank h chunk).storage ≡ Some p = subst (λ (w : Mapping). w.storage ≡ Some p) same storage in cc

-- each chunk's kind is base
pub made_base : (h : Header) (generation chunk : ℕ) (m : Mapping) → Maps (format_of h) (layout_of h) (made_image h) generation chunk m → m.zeros ≡ false
made_base h generation chunk m maps = ap (λ (w : Mapping). w.zeros) (made_maps h generation chunk m maps)

pub made_opens : (h : Header) → IsValid h → h.version ≡ this_version → Opens (store_need h) (made_image h) h
made_opens h valid version = record {
  reads = header_of-spelling (header_sector h) h (record { valid = valid; bytes = refl });
  version = version;
  room = omega arith;
  consistent = record {
    mappings = λ c within. (blank h c, blank_read h c, blank_good h c valid);
    records = λ k within r reads current. absurd (made_slot_unread h k r reads);
    one_to_one = λ c d p first second. absurd (made_gives_none h h.generation c p first);
  };
}

pub made_no_later : (h : Header) → HasNoLater (format_of h) (layout_of h) (made_image h) h.generation
made_no_later h k r within reads = absurd (made_slot_unread h k r reads)

pub made_disk : (h : Header) (base : ℕ → Sector) (s : ℕ) (v : Sector) → IsValid h → DiskHas (format_of h) (layout_of h) base zero_sector (made_image h) s v → v ≡ background base zero_sector h.tracked s
made_disk h base s v valid has =
    let read = header_of-spelling (header_sector h) h (record { valid = valid; bytes = refl }) in
    let reads = has.reads in
    let header : has.header ≡ h = cc in
    let chunk = (layout_of h).chunk_of ((layout_of h).block_of s) in
    let mapping : has.mapping ≡ blank h chunk = made_maps h has.header.generation chunk has.mapping has.maps in
    elim has.has [
      | inl local ↦ absurd (let given : (blank h chunk).storage ≡ Some local.0 = subst (λ (w : Mapping). w.storage ≡ Some local.0) mapping local.1.0 in cc)
      | inr not ↦ not.1 ∙ ap (λ (w : Mapping). unmapped_sector base zero_sector has.header.tracked w s) mapping ∙ ap (λ (g : Header). background base zero_sector g.tracked s) header
    ]

-- some header is valid
pub some_header : (h : Header) × IsValid h × (h.version ≡ this_version)
some_header = (
  small_header,
  record {
    version = inr refl;
    block = (0, lit< tt, refl);
    chunk = (2, lit< tt, refl);
    whole_blocks = refl;
    some_block = lit≤ tt;
    size = lit≤ tt;
    some_storage = lit≤ tt;
    storage = lit≤ tt;
    some_slot = lit≤ tt;
    slots = lit≤ tt;
    tracked = lit≤ tt;
    some_generation = lit≤ tt;
    generation = lit< tt;
  },
  refl,
)
