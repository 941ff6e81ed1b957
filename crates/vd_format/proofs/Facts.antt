-- The grammar of a record's facts and its test say the same.
use Rattle.std.proofs.Common.{◌≡◌, ℕ, zero, suc, ◌+◌, ◌<◌, ◌≤◌, true, List, [], ◌∷◌, length, map, refl, arith}
use Rattle.std.specs.Prelude.{◌&&◌, nat_le, nat_lt, slice_index}
use Rattle.std.specs.List.{All}
use Rattle.std.specs.List.Sorted.{IsStrictlyIncreasing}
use Rattle.std.proofs.lemmas.Bool.{and_parts, and_from, leb-true, le-leb, ltb-true, lt-ltb}
use Rattle.std.proofs.lemmas.List.Elements.{All-cons, All-head, All-tail}
use Rattle.vd_format.specs.declared.journal.Fact2.{Fact2}
use Rattle.vd_format.specs.declared.map.Shape2.{Shape2}
use Rattle.vd_format.specs.Entries.{IsEntry, is_entry}
use Rattle.vd_format.specs.Records.{AreFacts, are_facts, most_facts}
use Rattle.vd_format.proofs.Entries.{entry_grammar, grammar_entry}

abbrev chunk_of : Fact2 → ℕ
chunk_of fact = fact.chunk

-- what the test says of the first fact
record First (shape : Shape2) (from : ℕ) (f : Fact2) (facts : List Fact2) : Type 0 where
  least : from ≤ f.chunk
  within : f.chunk < shape.chunks
  entry : is_entry shape f.chunk f.entry ≡ true
  later : are_facts shape (f.chunk + 1) facts ≡ true

first_of_facts : (shape : Shape2) (from : ℕ) (f : Fact2) (facts : List Fact2) → are_facts shape from (f ∷ facts) ≡ true → First shape from f facts
unfolding are_facts
first_of_facts shape from f facts told =
    let last = and_parts (nat_le from f.chunk && nat_lt f.chunk shape.chunks && is_entry shape f.chunk f.entry) (are_facts shape (f.chunk + 1) facts) told in
    let entry = and_parts (nat_le from f.chunk && nat_lt f.chunk shape.chunks) (is_entry shape f.chunk f.entry) last.0 in
    let chunk = and_parts (nat_le from f.chunk) (nat_lt f.chunk shape.chunks) entry.0 in
    record { least = leb-true from f.chunk chunk.0; within = ltb-true f.chunk shape.chunks chunk.1; entry = entry.1; later = last.1 }

facts_of_first : (shape : Shape2) (from : ℕ) (f : Fact2) (facts : List Fact2) → First shape from f facts → are_facts shape from (f ∷ facts) ≡ true
unfolding are_facts
facts_of_first shape from f facts first =
    and_from (nat_le from f.chunk && nat_lt f.chunk shape.chunks && is_entry shape f.chunk f.entry) (are_facts shape (f.chunk + 1) facts)
    (and_from (nat_le from f.chunk && nat_lt f.chunk shape.chunks) (is_entry shape f.chunk f.entry)
    (and_from (nat_le from f.chunk) (nat_lt f.chunk shape.chunks) (le-leb from f.chunk first.least) (lt-ltb f.chunk shape.chunks first.within)) first.entry) first.later

chunks_within : (shape : Shape2) (from : ℕ) (facts : List Fact2) → are_facts shape from facts ≡ true → All (λ (fact : Fact2). fact.chunk < shape.chunks) facts
chunks_within shape from [] told = λ k d inside. absurd (omega arith)
chunks_within shape from (f ∷ facts) told =
    let first = first_of_facts shape from f facts told in
    All-cons (λ (fact : Fact2). fact.chunk < shape.chunks) f facts first.within (chunks_within shape (f.chunk + 1) facts first.later)

entries_right : (shape : Shape2) (from : ℕ) (facts : List Fact2) → are_facts shape from facts ≡ true → All (λ (fact : Fact2). IsEntry shape fact.chunk fact.entry) facts
entries_right shape from [] told = λ k d inside. absurd (omega arith)
entries_right shape from (f ∷ facts) told =
    let first = first_of_facts shape from f facts told in
    All-cons (λ (fact : Fact2). IsEntry shape fact.chunk fact.entry) f facts (entry_grammar shape f.chunk f.entry first.entry) (entries_right shape (f.chunk + 1) facts first.later)

chunks_rise : (shape : Shape2) (from : ℕ) (facts : List Fact2) → are_facts shape from facts ≡ true → IsStrictlyIncreasing (map chunk_of facts)
chunks_rise shape from [] told k inside = absurd (omega arith)
chunks_rise shape from (f ∷ []) told k inside = absurd (omega arith)
chunks_rise shape from (f ∷ g ∷ facts) told zero inside =
    let first = first_of_facts shape from f (g ∷ facts) told in
    let second = first_of_facts shape (f.chunk + 1) g facts first.later in
    omega (arith, second.least)
chunks_rise shape from (f ∷ g ∷ facts) told (suc k) inside =
    let first = first_of_facts shape from f (g ∷ facts) told in
    let next : suc k + 1 ≡ suc (k + 1) = omega arith in
    rw next (chunks_rise shape (f.chunk + 1) (g ∷ facts) first.later k (omega arith))

-- the first chunk is at least this one
Begins : ℕ → List Fact2 → Type 0
Begins from [] = Unit {0}
Begins from (f ∷ facts) = from ≤ f.chunk

rise_later : (f : Fact2) (facts : List Fact2) → IsStrictlyIncreasing (map chunk_of (f ∷ facts)) → IsStrictlyIncreasing (map chunk_of facts)
rise_later f facts rise k inside =
    let next : suc k + 1 ≡ suc (k + 1) = omega arith in
    let step : slice_index (map chunk_of facts) k < slice_index (map chunk_of (f ∷ facts)) (suc k + 1) = rise (suc k) (omega arith) in
    rw next at step

begins_later : (f : Fact2) (facts : List Fact2) → IsStrictlyIncreasing (map chunk_of (f ∷ facts)) → Begins (f.chunk + 1) facts
unfolding Begins
begins_later f [] rise = tt
begins_later f (g ∷ facts) rise = let step : f.chunk < g.chunk = rise 0 (omega arith) in omega (arith, step)

test_passes : (shape : Shape2) (from : ℕ) (facts : List Fact2) → Begins from facts → IsStrictlyIncreasing (map chunk_of facts) → All (λ (fact : Fact2). fact.chunk < shape.chunks) facts
    → All (λ (fact : Fact2). IsEntry shape fact.chunk fact.entry) facts → are_facts shape from facts ≡ true
unfolding Begins are_facts
test_passes shape from [] begins rise chunks entries = refl
test_passes shape from (f ∷ facts) begins rise chunks entries =
    facts_of_first shape from f facts (record {
      least = begins;
      within = All-head (λ (fact : Fact2). fact.chunk < shape.chunks) f facts chunks;
      entry = grammar_entry shape f.chunk f.entry (All-head (λ (fact : Fact2). IsEntry shape fact.chunk fact.entry) f facts entries);
      later = test_passes shape (f.chunk + 1) facts (begins_later f facts rise) (rise_later f facts rise) (All-tail (λ (fact : Fact2). fact.chunk < shape.chunks) f facts chunks)
          (All-tail (λ (fact : Fact2). IsEntry shape fact.chunk fact.entry) f facts entries);
    })

begins_at_zero : (facts : List Fact2) → Begins 0 facts
unfolding Begins
begins_at_zero [] = tt
begins_at_zero (f ∷ facts) = omega arith

-- facts that pass the test are in the grammar
pub facts_grammar : (shape : Shape2) (facts : List Fact2) → 1 ≤ length facts → length facts ≤ most_facts → are_facts shape 0 facts ≡ true → AreFacts shape facts
facts_grammar shape facts some most told =
    record { some_fact = some; most = most; rising = chunks_rise shape 0 facts told; chunks = chunks_within shape 0 facts told; entries = entries_right shape 0 facts told }

-- and facts in the grammar pass it
pub grammar_facts : (shape : Shape2) (facts : List Fact2) → AreFacts shape facts → are_facts shape 0 facts ≡ true
grammar_facts shape facts are = test_passes shape 0 facts (begins_at_zero facts) are.rising are.chunks are.entries
