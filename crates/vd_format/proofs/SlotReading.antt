-- Reading fact by fact gives the facts of the record, where all are in the grammar.
use Rattle.std.proofs.Common.{◌≡◌, ℕ, zero, suc, ◌+◌, ◌-◌, ◌*◌, ◌<◌, ◌≤◌, Bool, true, false, cond, List, [], ◌∷◌, ◌++◌, length, Option, Some, None, refl, sym, ap, ◌∙◌, append_assoc, arith}
use Rattle.std.specs.Prelude.{◌&&◌, nat_le, option_map, slice_range, drop}
use Rattle.std.proofs.lemmas.List.{append-nil}
use Rattle.vd_format.specs.declared.journal.Fact2.{Fact2}
use Rattle.vd_format.specs.declared.map.Shape2.{Shape2}
use Rattle.vd_law.specs.declared.entry.Sector.{Sector}
use Rattle.vd_format.specs.Numbers.{are_zeros}
use Rattle.vd_format.specs.Entries.{has_kind}
use Rattle.vd_format.specs.Records.{Said, Nothing, Facts, Outside, fact_from, facts_from, have_kinds, count_in, is_well_formed, are_facts, slot_of}
use Rattle.vd_format.specs.declared.journal.facts.Slot2.TheVariants.{Other, Counts, Bad}
use Rattle.vd_format.proofs.Records.{Says, No_magic, Other_generation, In_grammar, Not_in_grammar, says}
use Rattle.vd_format.specs.SlotReading.{slot_for, is_fact, next_fact, with_fact, facts_in, record_facts, slot_counts, said_for}

-- ---- what a slot says and what reading it gives

counts_same : (a b : List Fact2) → Counts a ≡ Counts b → Facts a ≡ Facts b
counts_same a b told = let same : a ≡ b = cc in ap Facts same

pub for_facts : (said : Said) (facts : List Fact2) → slot_for said ≡ Counts facts → said ≡ Facts facts
for_facts Nothing facts told = absurd cc
for_facts (Facts others) facts told = counts_same others facts told
for_facts Outside facts told = absurd cc

pub for_nothing : (said : Said) → slot_for said ≡ Other → said ≡ Nothing
for_nothing Nothing told = refl
for_nothing (Facts others) told = absurd cc
for_nothing Outside told = absurd cc

pub for_outside : (said : Said) → slot_for said ≡ Bad → said ≡ Outside
for_outside Nothing told = absurd cc
for_outside (Facts others) told = absurd cc
for_outside Outside told = refl

-- ---- fact by fact

abbrev some_facts : List Fact2 → Option (List Fact2)
some_facts facts = Some facts

-- all of them, or nothing
abbrev pub all_facts : Shape2 → ℕ → List ℕ → ℕ → ℕ → Option (List Fact2)
all_facts shape from bytes at n = cond (have_kinds bytes at n && are_facts shape from (facts_from bytes at n)) (Some (facts_from bytes at n)) None

map_cond : (test : Bool) (fact : Fact2) (facts : List Fact2) → option_map (λ others. fact ∷ others) (cond test (Some facts) None) ≡ cond test (Some (fact ∷ facts)) None
map_cond true fact facts = refl
map_cond false fact facts = refl

step : (a b k t : Bool) (fact : Fact2) (rest : List Fact2) (others : Fact2 → Option (List Fact2)) → others fact ≡ cond (k && t) (Some rest) None
    → with_fact (cond (a && b) (Some fact) None) others ≡ cond ((b && k) && (a && t)) (Some (fact ∷ rest)) None
step true true k t fact rest others later = ap (option_map (λ facts. fact ∷ facts)) later ∙ map_cond (k && t) fact rest
step true false k t fact rest others later = refl
step false true true t fact rest others later = refl
step false true false t fact rest others later = refl
step false false k t fact rest others later = refl

pub facts_in-all : (shape : Shape2) (from : ℕ) (bytes : List ℕ) (at n : ℕ) → facts_in shape from bytes at n ≡ all_facts shape from bytes at n
unfolding facts_in have_kinds are_facts facts_from next_fact is_fact
facts_in-all shape from bytes at zero = refl
facts_in-all shape from bytes at (suc n) =
    let fact : Fact2 = fact_from bytes at in
    let rest : List Fact2 = facts_from bytes (at + 20) n in
    step (is_fact shape from fact) (has_kind bytes (at + 4)) (have_kinds bytes (at + 20) n) (are_facts shape (fact.chunk + 1) rest) fact rest (λ fact. facts_in shape (fact.chunk + 1) bytes (at + 20) n) (facts_in-all shape (fact.chunk + 1) bytes (at + 20) n)

-- ---- a loop over the facts

-- the facts before, and those that are still read
abbrev pub with_front : List Fact2 → Option (List Fact2) → Option (List Fact2)
with_front front others = option_map (λ facts. front ++ facts) others

front_then : (front : List Fact2) (fact : Fact2) (others : Option (List Fact2)) → with_front front (option_map (λ facts. fact ∷ facts) others) ≡ with_front (front ++ fact ∷ []) others
front_then front fact None = refl
front_then front fact (Some facts) = ap some_facts (sym (append_assoc front (fact ∷ []) facts))

with_nil : (others : Option (List Fact2)) → with_front [] others ≡ others
with_nil None = refl
with_nil (Some facts) = refl

-- so many facts were read, and what is left completes them
pub record ReadsOn (shape : Shape2) (bytes : List ℕ) (count place from : ℕ) (facts : List Fact2) : Type 0 where
  pub len : length facts ≡ place
  pub rest : with_front facts (facts_in shape from bytes (24 + 20 * place) (count - place)) ≡ facts_in shape 0 bytes 24 count

pub begins : (shape : Shape2) (bytes : List ℕ) (count : ℕ) → with_front [] (facts_in shape 0 bytes (24 + 20 * 0) (count - 0)) ≡ facts_in shape 0 bytes 24 count
begins shape bytes count = with_nil (facts_in shape 0 bytes 24 (count - 0)) ∙ (let all : count - 0 ≡ count = omega arith in ap (facts_in shape 0 bytes 24) all)

pub goes_on : (shape : Shape2) (from : ℕ) (bytes : List ℕ) (count place : ℕ) (front : List Fact2) (fact : Fact2) (total : Option (List Fact2)) → place < count → next_fact shape from bytes (24 + 20 * place) ≡ Some fact
    → with_front front (facts_in shape from bytes (24 + 20 * place) (count - place)) ≡ total → with_front (front ++ fact ∷ []) (facts_in shape (fact.chunk + 1) bytes (24 + 20 * (place + 1)) (count - (place + 1))) ≡ total
unfolding facts_in
goes_on shape from bytes count place front fact total inside next before =
    let left : count - place ≡ suc (count - (place + 1)) = omega arith in
    let on : 24 + 20 * (place + 1) ≡ 24 + 20 * place + 20 = omega arith in
    let one : with_front front (facts_in shape from bytes (24 + 20 * place) (count - place)) ≡ with_front (front ++ fact ∷ []) (facts_in shape (fact.chunk + 1) bytes (24 + 20 * place + 20) (count - (place + 1))) =
    rw (left, next) (front_then front fact (facts_in shape (fact.chunk + 1) bytes (24 + 20 * place + 20) (count - (place + 1)))) in
    rw on (sym one ∙ before)

pub gives_up : (shape : Shape2) (from : ℕ) (bytes : List ℕ) (count place : ℕ) (front : List Fact2) (total : Option (List Fact2)) → place < count → next_fact shape from bytes (24 + 20 * place) ≡ None
    → with_front front (facts_in shape from bytes (24 + 20 * place) (count - place)) ≡ total → total ≡ None
unfolding facts_in
gives_up shape from bytes count place front total inside next before =
    let left : count - place ≡ suc (count - (place + 1)) = omega arith in
    let one : with_front front (facts_in shape from bytes (24 + 20 * place) (count - place)) ≡ None = rw (left, next) refl in
    sym before ∙ one

pub ends : (shape : Shape2) (from : ℕ) (bytes : List ℕ) (count place : ℕ) (front : List Fact2) (total : Option (List Fact2)) → count ≤ place
    → with_front front (facts_in shape from bytes (24 + 20 * place) (count - place)) ≡ total → total ≡ Some front
unfolding facts_in
ends shape from bytes count place front total past before =
    let none : count - place ≡ 0 = omega arith in
    let one : with_front front (facts_in shape from bytes (24 + 20 * place) (count - place)) ≡ Some front = rw none (ap some_facts (append-nil front)) in
    sym before ∙ one

-- ---- a whole record

-- a record's parts tested, and then its facts read
pub record_facts-in : (shape : Shape2) (bytes : List ℕ) (count : ℕ) → count_in bytes ≡ count → (nat_le 1 count && nat_le count 24 && are_zeros (slice_range bytes 20 24) && are_zeros (drop (24 + 20 * count) bytes)) ≡ true
    → record_facts shape bytes ≡ facts_in shape 0 bytes 24 count
unfolding record_facts is_well_formed
record_facts-in shape bytes count is parts = rw (is, parts) (sym (facts_in-all shape 0 bytes 24 count))

pub record_facts-none : (shape : Shape2) (bytes : List ℕ) (count : ℕ) → count_in bytes ≡ count → (nat_le 1 count && nat_le count 24 && are_zeros (slice_range bytes 20 24) && are_zeros (drop (24 + 20 * count) bytes)) ≡ false
    → record_facts shape bytes ≡ None
unfolding record_facts is_well_formed
record_facts-none shape bytes count is parts = rw (is, parts) refl

by_cases : (shape : Shape2) (sector : Sector) (said : Said) → Says shape sector said → said ≡ cond (slot_counts shape sector.bytes) (said_for (record_facts shape sector.bytes)) Nothing
unfolding record_facts
by_cases shape sector said (No_magic none is) = is ∙ rw none refl
by_cases shape sector said (Other_generation magic other is) = is ∙ rw (magic, other) refl
by_cases shape sector said (In_grammar magic same good is) = is ∙ rw (magic, same, good) refl
by_cases shape sector said (Not_in_grammar magic same bad is) = is ∙ rw (magic, same, bad) refl

pub slot_of-in : (shape : Shape2) (sector : Sector) → slot_of shape sector ≡ cond (slot_counts shape sector.bytes) (said_for (record_facts shape sector.bytes)) Nothing
slot_of-in shape sector = by_cases shape sector (slot_of shape sector) (says shape sector)
