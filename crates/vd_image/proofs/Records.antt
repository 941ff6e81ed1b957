-- The grammar of a record's facts in bytes is that of the record which they stand for.
use Rattle.std.proofs.Common.{ℕ, zero, suc, ◌≡◌, ◌+◌, ◌*◌, ◌&&◌, ◌<◌, ◌≤◌, ◌↔◌, inl, inr, Bool, if◌then◌else◌, nat_le, List, [], map, drop, slice_range, length, Option, Some, None, true, false, slice_index, slice_index_or, arith, refl, ap, sym, subst, ◌∙◌}
use Rattle.std.proofs.lemmas.List.{length-map}
use Rattle.std.specs.Option.{option_map}
use Rattle.std.proofs.lemmas.Option.{slice_get-map, slice_get-get_or, slice_get_within, get_or_from_slice_get}
use Rattle.std.proofs.lemmas.List.Kept.{AllPairs-from_increasing}
use Rattle.std.specs.Prelude.{slice_get}
use Rattle.std.proofs.lemmas.Bool.{cases_Bool, leb-true}
use Rattle.vd_format.specs.Numbers.{u64_at, has_magic, are_zeros}
use Rattle.vd_format.specs.Records.{AreFacts, most_facts, record_magic, old_record_magic, count_in, is_well_formed, have_kinds, facts_from as facts_read}
use Rattle.vd_format.specs.Headers.{IsValid}
use Rattle.vd_image.specs.Log.{Sector, At}
use Rattle.vd_image.specs.Image.{Header, Fact, IsMapping, IsRecord}
use Rattle.vd_image.specs.Layouts.{layout_of}
use Rattle.vd_image.specs.Decoders.{Fact2, Said, IsEntry, record_of, shape_of, fact_in, record_in}
use Rattle.vd_image.proofs.Decoders.{entry_is_mapping}

abbrev chunks : List Fact2 → List ℕ
chunks facts = map (λ fact. fact.chunk) facts

-- a fact of the record stands for one in bytes
fact_at : (h : Header) (facts : List Fact2) (i : ℕ) (f : Fact) → At (map (fact_in h) facts) i f → (x : Fact2) × At facts i x × (fact_in h x ≡ f)
fact_at h facts i f at = go (slice_get facts i) refl
  where
    go : (x : Option Fact2) → slice_get facts i ≡ x → (x : Fact2) × At facts i x × (fact_in h x ≡ f)
    go None none = absurd (let e = slice_get-map (fact_in h) facts i in let k = ap (option_map (fact_in h)) none in cc)
    go (Some x) some = (x, some, (let e = slice_get-map (fact_in h) facts i in let k = ap (option_map (fact_in h)) some in cc))

at_fact : (h : Header) (facts : List Fact2) (i : ℕ) (x : Fact2) → At facts i x → At (map (fact_in h) facts) i (fact_in h x)
at_fact h facts i x at = slice_get-map (fact_in h) facts i ∙ ap (option_map (fact_in h)) at

chunk_at : (facts : List Fact2) (i : ℕ) (x : Fact2) → At facts i x → slice_index (chunks facts) i ≡ x.chunk
chunk_at facts i x at = get_or_from_slice_get (chunks facts) i x.chunk 0 (slice_get-map (λ fact. fact.chunk) facts i ∙ ap (option_map (λ fact. fact.chunk)) at)

-- facts of the grammar make a record of the grammar
record_from : (h : Header) (r : Said) → IsValid h → r.well_formed ≡ true → AreFacts (shape_of h) r.facts → IsRecord (layout_of h) (record_in h r)
record_from h r valid well_formed are = record {
  well_formed = well_formed;
  rising = λ i j f g less at also.
      let x = fact_at h r.facts i f at in
      let y = fact_at h r.facts j g also in
      let within : j < length (chunks r.facts) = (let k = slice_get_within r.facts j y.0 y.1 in let e = length-map r.facts (λ (fact : Fact2). fact.chunk) in omega arith) in
      let rises : slice_index (chunks r.facts) i < slice_index (chunks r.facts) j = AllPairs-from_increasing (chunks r.facts) are.rising i j 0 less within in
      let first : slice_index (chunks r.facts) i ≡ f.chunk = chunk_at r.facts i x.0 x.1 ∙ ap (λ (z : Fact). z.chunk) x.2 in
      let second : slice_index (chunks r.facts) j ≡ g.chunk = chunk_at r.facts j y.0 y.1 ∙ ap (λ (z : Fact). z.chunk) y.2 in
      omega arith;
  facts = λ i f at.
      let x = fact_at h r.facts i f at in
      let within = slice_get_within r.facts i x.0 x.1 in
      let same : slice_index_or r.facts i x.0 ≡ x.0 = get_or_from_slice_get r.facts i x.0 x.0 x.1 in
      let chunk : x.0.chunk < (shape_of h).chunks = subst (λ (z : Fact2). z.chunk < (shape_of h).chunks) same (are.chunks i x.0 within) in
      let entry : IsEntry (shape_of h) x.0.chunk x.0.entry = subst (λ (z : Fact2). IsEntry (shape_of h) z.chunk z.entry) same (are.entries i x.0 within) in
      subst (λ (z : Fact). (z.chunk < (layout_of h).chunks) × IsMapping (layout_of h) z.chunk z.mapping) x.2 (chunk, (entry_is_mapping h x.0.chunk x.0.entry valid).0 entry);
}

-- and the other way
facts_from : (h : Header) (r : Said) → IsValid h → 1 ≤ length r.facts → length r.facts ≤ most_facts → IsRecord (layout_of h) (record_in h r) → AreFacts (shape_of h) r.facts
facts_from h r valid some most is = record {
  some_fact = some;
  most = most;
  rising = λ k within.
      let e = length-map r.facts (λ (fact : Fact2). fact.chunk) in
      let x = inside k (omega arith) in
      let y = inside (k + 1) (omega arith) in
      let less = is.rising k (k + 1) (fact_in h x.0) (fact_in h y.0) (omega arith) (at_fact h r.facts k x.0 x.1) (at_fact h r.facts (k + 1) y.0 y.1) in
      let first = chunk_at r.facts k x.0 x.1 in
      let second = chunk_at r.facts (k + 1) y.0 y.1 in
      omega arith;
  chunks = λ k d within. (is.facts k (fact_in h (slice_index_or r.facts k d)) (at_fact h r.facts k (slice_index_or r.facts k d) (slice_get-get_or r.facts k d within))).0;
  entries = λ k d within.
      let x : Fact2 = slice_index_or r.facts k d in
      (entry_is_mapping h x.chunk x.entry valid).1 (is.facts k (fact_in h x) (at_fact h r.facts k x (slice_get-get_or r.facts k d within))).1;
}
  where
    inside : (k : ℕ) → k < length r.facts → (x : Fact2) × At r.facts k x
    inside k within = go (slice_get r.facts k) refl
      where
        go : (x : Option Fact2) → slice_get r.facts k ≡ x → (x : Fact2) × At r.facts k x
        go None none = absurd (let e = slice_get-get_or r.facts k (record { chunk = 0; entry = record { storage = 0; zeros = false; mask = 0 } }) within in cc)
        go (Some x) some = (x, some)

pub record_is_facts : (h : Header) (r : Said) → IsValid h → 1 ≤ length r.facts → length r.facts ≤ most_facts → r.well_formed ≡ true → AreFacts (shape_of h) r.facts ↔ IsRecord (layout_of h) (record_in h r)
record_is_facts h r valid some most well_formed = (record_from h r valid well_formed, facts_from h r valid some most)

length-facts_from : (bytes : List ℕ) (at n : ℕ) → length (facts_read bytes at n) ≡ n
unfolding facts_read
length-facts_from bytes at zero = refl
length-facts_from bytes at (suc n) = ap suc (length-facts_from bytes (at + 20) n)

first_two : (a b c d e : Bool) → (a && b && c && d && e) ≡ true → (a ≡ true) × (b ≡ true)
first_two true true c d e h = (refl, refl)
first_two true false c d e h = absurd cc
first_two false b c d e h = absurd cc

-- a record whose bytes are well formed has some facts, and no more than fit
pub facts_fit : (sector : Sector) (r : Said) → record_of sector ≡ Some r → r.well_formed ≡ true → (1 ≤ length r.facts) × (length r.facts ≤ most_facts)
unfolding record_of is_well_formed
facts_fit sector r reads well_formed = elim (cases_Bool (has_magic record_magic sector.bytes)) [
  | inr other ↦ absurd (not_old (sym (ap (λ (b : Bool). if b then Some new else old) other) ∙ reads))
  | inl magic ↦ (let e = ap (λ (b : Bool). if b then Some new else old) magic in let same : new ≡ r = cc in fits (ap (λ (x : Said). x.well_formed) same ∙ well_formed) same)
]
  where
    new : Said
    new = record { version = 2; generation = u64_at sector.bytes 8; well_formed = is_well_formed sector.bytes; facts = facts_read sector.bytes 24 (count_in sector.bytes) }

    older : Said
    older = record { version = 1; generation = u64_at sector.bytes 8; well_formed = false; facts = [] }

    old : Option Said
    old = if has_magic old_record_magic sector.bytes then Some older else None

    not_old : old ≡ Some r → ⊥
    not_old read = elim (cases_Bool (has_magic old_record_magic sector.bytes)) [
      | inr none ↦ (let e : old ≡ None = ap (λ (b : Bool). if b then Some older else None) none in absurd cc)
      | inl magic ↦
          let e : old ≡ Some older = ap (λ (b : Bool). if b then Some older else None) magic in
          let same : older ≡ r = cc in
          let bad : older.well_formed ≡ true = ap (λ (x : Said). x.well_formed) same ∙ well_formed in
          absurd cc
    ]

    fits : is_well_formed sector.bytes ≡ true → new ≡ r → (1 ≤ length r.facts) × (length r.facts ≤ most_facts)
    fits is same =
        let count = count_in sector.bytes in
        let two = first_two (nat_le 1 count) (nat_le count most_facts) (are_zeros (slice_range sector.bytes 20 24)) (are_zeros (drop (24 + 20 * count) sector.bytes)) (have_kinds sector.bytes 24 count) is in
        let size : length r.facts ≡ count = ap (λ (x : Said). length x.facts) (sym same) ∙ length-facts_from sector.bytes 24 count in
        let some = leb-true 1 count two.0 in
        let most = leb-true count most_facts two.1 in
        (omega (arith, some, size), omega (arith, most, size))

pub read_record_is_facts : (h : Header) (sector : Sector) (r : Said) → IsValid h → record_of sector ≡ Some r → r.well_formed ≡ true → AreFacts (shape_of h) r.facts ↔ IsRecord (layout_of h) (record_in h r)
read_record_is_facts h sector r valid reads well_formed = let fits = facts_fit sector r reads well_formed in record_is_facts h r valid fits.0 fits.1 well_formed
