-- It can be told whether the bytes of an image are in the grammar.
use Rattle.std.proofs.Common.{ℕ, zero, suc, ◌≡◌, ◌+◌, ◌<◌, ◌≤◌, ◌⊎◌, inl, inr, Bool, true, false, List, [], ◌∷◌, Option, Some, None, map, if◌then◌else◌, arith, refl, ap, sym, subst}
use Rattle.std.specs.Option.{option_map}
use Rattle.std.proofs.lemmas.Bool.{cases_lt, cases_eq, cases_Bool}
use Rattle.vd_format.specs.Headers.{IsValid}
use Rattle.vd_format.specs.Entries.{is_entry}
use Rattle.vd_format.proofs.Entries.{entry_grammar, grammar_entry}
use Rattle.vd_image.specs.Log.{Sector, At}
use Rattle.vd_image.specs.Image.{Header, Mapping, Fact, Record, Image, IsCurrent, IsMapping, IsRecord, IsGoodMapping, IsGoodSlot}
use Rattle.vd_image.specs.Layouts.{layout_of}
use Rattle.vd_image.specs.Decoders.{Entry, Fact2, Said, IsEntry, has_kind, entry_byte, entry_at, record_of, shape_of, mapping_in, fact_in, record_in, entry_place, format_of}
use Rattle.vd_image.proofs.Decoders.{entry_is_mapping}

-- P holds, or it doesn't
abbrev pub IsTold : Type 0 → Type 0
IsTold P = P ⊎ (P → ⊥)

both : (P Q : Type 0) → IsTold P → IsTold Q → IsTold (P × Q)
both P Q (inl p) (inl q) = inl (p, q)
both P Q (inl p) (inr not) = inr (λ h. not h.1)
both P Q (inr not) q = inr (λ h. not h.0)

told_by : (P Q : Type 0) → (P → Q) → (Q → P) → IsTold P → IsTold Q
told_by P Q to from (inl p) = inl (to p)
told_by P Q to from (inr not) = inr (λ q. not (from q))

told_bool : (x y : Bool) → IsTold (x ≡ y)
told_bool true true = inl refl
told_bool true false = inr (λ h. absurd cc)
told_bool false true = inr (λ h. absurd cc)
told_bool false false = inl refl

told_less : (a b : ℕ) → IsTold (a < b)
told_less a b = elim (cases_lt a b) [ inl less ↦ inl less | inr more ↦ inr (λ less. omega arith) ]

told_equal : (a b : ℕ) → IsTold (a ≡ b)
told_equal a b = cases_eq a b

told_entry : (h : Header) (chunk : ℕ) (e : Entry) → IsTold (IsEntry (shape_of h) chunk e)
told_entry h chunk e = elim (cases_Bool (is_entry (shape_of h) chunk e)) [
  | inl is ↦ inl (entry_grammar (shape_of h) chunk e is)
  | inr not ↦ inr (λ is. absurd (let yes = grammar_entry (shape_of h) chunk e is in cc))
]

told_mapping : (h : Header) (chunk : ℕ) (e : Entry) → IsValid h → IsTold (IsMapping (layout_of h) chunk (mapping_in h chunk e))
told_mapping h chunk e valid = let same = entry_is_mapping h chunk e valid in told_by (IsEntry (shape_of h) chunk e) (IsMapping (layout_of h) chunk (mapping_in h chunk e)) same.0 same.1 (told_entry h chunk e)

-- the facts of a record, whose chunks begin at `from` or later
record AreGood (h : Header) (from : ℕ) (facts : List Fact) : Type 0 where
  floor : (i : ℕ) (f : Fact) → At facts i f → from ≤ f.chunk
  rising : (i j : ℕ) (f g : Fact) → i < j → At facts i f → At facts j g → f.chunk < g.chunk
  each : (i : ℕ) (f : Fact) → At facts i f → (f.chunk < (layout_of h).chunks) × IsMapping (layout_of h) f.chunk f.mapping

head_is : (x f : Fact) (xs : List Fact) → At (x ∷ xs) 0 f → x ≡ f
head_is x f xs at = cc

good_more : (h : Header) (from : ℕ) (x : Fact) (xs : List Fact) → from ≤ x.chunk → x.chunk < (layout_of h).chunks → IsMapping (layout_of h) x.chunk x.mapping → AreGood h (x.chunk + 1) xs → AreGood h from (x ∷ xs)
good_more h from x xs floor within mapping rest = record { floor = floors; rising = rises; each = eaches }
  where
    floors : (i : ℕ) (f : Fact) → At (x ∷ xs) i f → from ≤ f.chunk
    floors zero f at = subst (λ (y : Fact). from ≤ y.chunk) (head_is x f xs at) floor
    floors (suc i) f at = let k = rest.floor i f at in omega arith

    rises : (i j : ℕ) (f g : Fact) → i < j → At (x ∷ xs) i f → At (x ∷ xs) j g → f.chunk < g.chunk
    rises zero zero f g less at also = absurd (omega (arith, less))
    rises zero (suc j) f g less at also = subst (λ (y : Fact). y.chunk < g.chunk) (head_is x f xs at) (let k = rest.floor j g also in omega arith)
    rises (suc i) zero f g less at also = absurd (omega (arith, less))
    rises (suc i) (suc j) f g less at also = rest.rising i j f g (omega (arith, less)) at also

    eaches : (i : ℕ) (f : Fact) → At (x ∷ xs) i f → (f.chunk < (layout_of h).chunks) × IsMapping (layout_of h) f.chunk f.mapping
    eaches zero f at = subst (λ (y : Fact). (y.chunk < (layout_of h).chunks) × IsMapping (layout_of h) y.chunk y.mapping) (head_is x f xs at) (within, mapping)
    eaches (suc i) f at = rest.each i f at

good_rest : (h : Header) (from : ℕ) (x : Fact) (xs : List Fact) → AreGood h from (x ∷ xs) → AreGood h (x.chunk + 1) xs
good_rest h from x xs good = record {
  floor = λ i f at. let k = good.rising 0 (suc i) x f (omega arith) refl at in omega arith;
  rising = λ i j f g less at also. good.rising (suc i) (suc j) f g (omega arith) at also;
  each = λ i f at. good.each (suc i) f at;
}

told_facts : (h : Header) (from : ℕ) (facts : List Fact2) → IsValid h → IsTold (AreGood h from (map (fact_in h) facts))
told_facts h from [] valid = inl (record { floor = λ i f at. absurd cc; rising = λ i j f g less at also. absurd cc; each = λ i f at. absurd cc })
told_facts h from (x ∷ xs) valid = elim (told_less x.chunk from) [
  | inl less ↦ inr (λ good. let k = good.floor 0 (fact_in h x) refl in omega arith)
  | inr floor ↦ elim (told_less x.chunk (layout_of h).chunks) [
    | inr not ↦ inr (λ good. not (good.each 0 (fact_in h x) refl).0)
    | inl within ↦ elim (told_mapping h x.chunk x.entry valid) [
      | inr not ↦ inr (λ good. not (good.each 0 (fact_in h x) refl).1)
      | inl mapping ↦ elim (told_facts h (x.chunk + 1) xs valid) [
        | inr not ↦ inr (λ good. not (good_rest h from (fact_in h x) (map (fact_in h) xs) good))
        | inl rest ↦ inl (good_more h from (fact_in h x) (map (fact_in h) xs) (elim (cases_lt x.chunk from) [ inl less ↦ absurd (floor less) | inr more ↦ omega arith ]) within mapping rest)
      ]
    ]
  ]
]

told_record : (h : Header) (r : Said) → IsValid h → IsTold (IsRecord (layout_of h) (record_in h r))
told_record h r valid = elim (told_bool r.well_formed true) [
  | inr not ↦ inr (λ is. not is.well_formed)
  | inl well_formed ↦ elim (told_facts h 0 r.facts valid) [
    | inr not ↦ inr (λ is. not (record { floor = λ i f at. omega arith; rising = is.rising; each = is.facts }))
    | inl good ↦ inl (record { well_formed = well_formed; rising = good.rising; facts = good.each })
  ]
]

-- whether the map is good at this chunk
pub told_page : (h : Header) (image : Image) (chunk : ℕ) → IsValid h → IsTold (IsGoodMapping (format_of h) (layout_of h) image chunk)
told_page h image chunk valid = go (has_kind (image ((layout_of h).map_at chunk)).bytes (entry_byte chunk)) refl
  where
    v : Sector
    v = image ((layout_of h).map_at chunk)

    e : Entry
    e = entry_at v (entry_place chunk)

    read : Bool → Option Mapping
    read kind = if kind then Some (mapping_in h chunk e) else None

    go : (kind : Bool) → has_kind v.bytes (entry_byte chunk) ≡ kind → IsTold (IsGoodMapping (format_of h) (layout_of h) image chunk)
    go false none = inr (λ good. absurd (let reads = good.1 in let k = ap read none in cc))
    go true some = elim (told_mapping h chunk e valid) [
      | inl is ↦ inl (mapping_in h chunk e, ap read some, is)
      | inr not ↦ inr (λ good. not (let reads = good.1 in let k = ap read some in let same : good.0 ≡ mapping_in h chunk e = cc in subst (λ (m : Mapping). IsMapping (layout_of h) chunk m) same good.2))
    ]

-- whether a slot is
pub told_slot : (h : Header) (image : Image) (generation k : ℕ) → IsValid h → IsTold (IsGoodSlot (format_of h) (layout_of h) image generation k)
told_slot h image generation k valid = by_reading (record_of (image ((layout_of h).slot_at k))) refl
  where
    v : Sector
    v = image ((layout_of h).slot_at k)

    current : (r : Record) → IsTold (IsCurrent r generation)
    current r = both (r.same_version ≡ true) (r.generation ≡ generation) (told_bool r.same_version true) (told_equal r.generation generation)

    by_reading : (x : Option Said) → record_of v ≡ x → IsTold (IsGoodSlot (format_of h) (layout_of h) image generation k)
    by_reading None none = inl (λ r reads now. absurd (let e = ap (option_map (record_in h)) none in cc))
    by_reading (Some r) some = elim (current (record_in h r)) [
      | inr not ↦ inl (λ s reads now. absurd (not (subst (λ (y : Record). IsCurrent y generation) (same s reads) now)))
      | inl now ↦ elim (told_record h r valid) [
        | inl is ↦ inl (λ s reads also. subst (λ (y : Record). IsRecord (layout_of h) y) (sym (same s reads)) is)
        | inr bad ↦ inr (λ good. bad (good (record_in h r) (ap (option_map (record_in h)) some) now))
      ]
    ]
      where
        same : (s : Record) → (format_of h).record_of v ≡ Some s → s ≡ record_in h r
        same s reads = let e = ap (option_map (record_in h)) some in cc
