-- Reading a slot fact by fact.
use Rattle.std.specs.Prelude.{ℕ, zero, suc, ◌+◌, ◌&&◌, ◌==◌, Bool, List, [], ◌∷◌, Option, Some, None, option_map, nat_lt, nat_le, if◌then◌else◌}
use Rattle.vd_format.specs.declared.journal.Fact2.{Fact2}
use Rattle.vd_format.specs.declared.map.Shape2.{Shape2}
use Rattle.vd_format.specs.Numbers.{u64_at, has_magic}
use Rattle.vd_format.specs.Entries.{has_kind, is_entry}
use Rattle.vd_format.specs.Records.{Said, Nothing, Facts, Outside, record_magic, count_in, fact_from, facts_from, are_facts, is_well_formed}
use Rattle.vd_format.specs.declared.journal.facts.Slot2.{Slot2}
use Rattle.vd_format.specs.declared.journal.facts.Slot2.TheVariants.{Other, Counts, Bad}

-- what a slot says, as the value that reading it gives
abbrev pub slot_for : Said → Slot2
slot_for Nothing = Other
slot_for (Facts facts) = Counts facts
slot_for Outside = Bad

-- the fact is in the grammar, and its chunk is at least `from`
unfoldable pub is_fact : Shape2 → ℕ → Fact2 → Bool
is_fact shape from fact = nat_le from fact.chunk && nat_lt fact.chunk shape.chunks && is_entry shape fact.chunk fact.entry

-- the fact that stands from a byte on, where it is in the grammar
unfoldable pub next_fact : Shape2 → ℕ → List ℕ → ℕ → Option Fact2
next_fact shape from bytes at = let fact = fact_from bytes at in if is_fact shape from fact && has_kind bytes (at + 4) then Some fact else None

-- one fact before others
abbrev pub with_fact : Option Fact2 → (Fact2 → Option (List Fact2)) → Option (List Fact2)
with_fact None others = None
with_fact (Some fact) others = option_map (λ facts. fact ∷ facts) (others fact)

-- so many facts from a byte on, where all are in the grammar
unfoldable pub facts_in : Shape2 → ℕ → List ℕ → ℕ → ℕ → Option (List Fact2)
facts_in shape from bytes at zero = Some []
facts_in shape from bytes at (suc n) = with_fact (next_fact shape from bytes at) (λ fact. facts_in shape (fact.chunk + 1) bytes (at + 20) n)

-- the facts of a record, where it is in the grammar
unfoldable pub record_facts : Shape2 → List ℕ → Option (List Fact2)
record_facts shape bytes = if is_well_formed bytes && are_facts shape 0 (facts_from bytes 24 (count_in bytes)) then Some (facts_from bytes 24 (count_in bytes)) else None

-- the slot counts
abbrev pub slot_counts : Shape2 → List ℕ → Bool
slot_counts shape bytes = has_magic record_magic bytes && (u64_at bytes 8 == shape.generation)

-- what a record that counts says
abbrev pub said_for : Option (List Fact2) → Said
said_for None = Outside
said_for (Some facts) = Facts facts
