-- The slots of the journal, one after another: `at` gives the sector of each slot.
use Rattle.std.specs.Prelude.{ℕ, zero, suc, ◌≡◌, ◌-◌, ◌<◌, ◌≤◌, List, [], ◌++◌, Result, Ok, Err, slice_set}
use Rattle.std.specs.List.{fold}
use Rattle.vd_law.specs.declared.entry.Sector.{Sector}
use Rattle.vd_format.specs.declared.map.Entry.{Entry}
use Rattle.vd_format.specs.declared.journal.Fact2.{Fact2}
use Rattle.vd_format.specs.declared.map.Shape2.{Shape2}
use Rattle.vd_format.specs.Records.{Said, Nothing, Facts, Outside}
use Rattle.vd_replay.specs.Pages.{AreEntries}
unfoldable use Rattle.vd_format.specs.Records.{slot_of}

-- the facts of a slot that counts
abbrev pub facts_said : Said → List Fact2
facts_said Nothing = []
facts_said (Facts facts) = facts
facts_said Outside = []

-- the facts of the first n slots, in their order
abbrev pub facts_to : Shape2 → (ℕ → Sector) → (n : ℕ) → List Fact2
facts_to shape at zero = []
facts_to shape at (suc n) = facts_to shape at n ++ facts_said (slot_of shape (at n))

-- the entries, with those of the facts in their place, one fact after another
abbrev pub put_facts : List Entry → List Fact2 → List Entry
put_facts entries facts = fold (λ (es : List Entry) (fact : Fact2). slice_set es fact.chunk fact.entry) entries facts

abbrev pub CountsAt : Shape2 → Sector → Type 0
CountsAt shape sector = slot_of shape sector ≡ Nothing → ⊥

-- of the first n slots, `next` is one past the highest that counts, 0 where none does
pub record IsNextSlot (shape : Shape2) (at : ℕ → Sector) (n next : ℕ) : Type 0 where
  pub within : next ≤ n
  pub counts : 0 < next → CountsAt shape (at (next - 1))
  pub none_later : (k : ℕ) → next ≤ k → k < n → CountsAt shape (at k) → ⊥

-- each of the first n slots that counts is in the grammar, and its facts were put over the map's entries
pub record AreReplayed (shape : Shape2) (at : ℕ → Sector) (n : ℕ) (pages entries : List Entry) (next : ℕ) : Type 0 where
  pub good : (k : ℕ) → k < n → slot_of shape (at k) ≡ Outside → ⊥
  pub entries_are : entries ≡ put_facts pages (facts_to shape at n)
  pub next_is : IsNextSlot shape at n next

-- of the first n slots, this is the first that counts and is outside the grammar
pub record IsFirstOutside (shape : Shape2) (at : ℕ → Sector) (n slot : ℕ) : Type 0 where
  pub within : slot < n
  pub bad : slot_of shape (at slot) ≡ Outside
  pub before : (k : ℕ) → k < slot → slot_of shape (at k) ≡ Outside → ⊥

-- the first n slots were judged: their facts were put, or the first bad one was found
abbrev pub Replayed : Shape2 → (ℕ → Sector) → (n : ℕ) → (pages entries : List Entry) → Result ℕ ℕ → Type 0
Replayed shape at n pages entries (Ok next) = AreReplayed shape at n pages entries next
Replayed shape at n pages entries (Err slot) = IsFirstOutside shape at n slot

-- the slots before `slot` were taken over: `next` is no further, and the entries are in the grammar
pub record AreTaken (shape : Shape2) (slot next : ℕ) (entries : List Entry) : Type 0 where
  pub within : next ≤ slot
  pub grammar : AreEntries shape shape.chunks entries
