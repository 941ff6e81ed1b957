-- The rule of the table, and what each step on it tells.
use Rattle.std.specs.Prelude.{◌≡◌, ◌≢◌, ◌⊎◌, ℕ, suc, zero, ◌+◌, ◌*◌, ◌<◌, Bool, true, false, cond, List, [], ◌∷◌, ◌++◌, length, map, Option, Some, None}
use Rattle.std.specs.List.{All}
use mathlib.Core.Option.{none, some}
use Rattle.std.proofs.Math.Nat.{lt_irrefl}
use lib.ListN.{get_elem?}
use Rattle.atomic_table.specs.Table.{State, Me, Step}
use Rattle.vd_turn.specs.declared.board.Note.{Note}
use Rattle.vd_turn.specs.declared.board.View.{View}
use Rattle.vd_turn.specs.Values.{PassValue}

module _ {V : Type 0} where
  abbrev pub note : ℕ → V → Note V
  note pass x = record { pass = pass; value = x }

  abbrev pub note_of : PassValue V → Note V
  note_of pass = note pass.number pass.last

  abbrev pub view_of : List (Note V) → Bool → List ℕ → View V
  view_of notes holds found = record { notes = notes; holds = holds; found = found }

  -- a note of x for each of count passes, from pass on
  abbrev pub notes_from : ℕ → ℕ → V → List (Note V)
  notes_from pass zero x = []
  notes_from pass (suc count) x = note pass x ∷ notes_from (suc pass) count x

  -- the passes of these notes have seen x
  abbrev pub noting : V → List (Note V) → List (Note V)
  noting x notes = map (λ n. note n.pass x) notes

  -- the seat that is made first knows that each pass has seen x
  abbrev pub first_view : ℕ → V → View V
  first_view count x = view_of (notes_from 0 count x) false []

  -- what a seat is that knows of one pass: while it holds, slot 0 is out and empty
  abbrev pub carried : Bool → List (ℕ × Option V)
  carried holds = cond holds ((0, None) ∷ []) []

  abbrev pub knowing : ℕ → V → Bool → List ℕ → Me (Option V) (View V)
  knowing pass x holds found = (view_of (note pass x ∷ []) holds found, carried holds)

  -- the value in the first note
  abbrev pub known_last : (notes : List (Note V)) → 0 < length notes → V
  known_last [] h = absurd (lt_irrefl 0 h)
  known_last (n ∷ ns) h = n.value

  -- the same, after a step that found this word
  abbrev pub finding : View V → ℕ → View V
  finding v word = view_of v.notes v.holds (v.found ++ word ∷ [])

module _ {V : Type 0} (size : V → ℕ) where
  -- no seat holds, and the value x is at home
  pub record Home (x : V) (s : State (Option V) (View V)) : Type 0 where
    pub even : s.words ≡ 2 * size x ∷ []
    pub here : s.homes ≡ some (Some x) ∷ []
    pub free : (seat : ℕ) (v : View V) → get_elem? s.views seat ≡ some v → v.holds ≡ false

  -- one seat holds, and x is the value that it took
  pub record Away (x : V) (s : State (Option V) (View V)) : Type 0 where
    pub odd : s.words ≡ (2 * size x + 1) ∷ []
    pub out : s.homes ≡ none ∷ []
    pub holder : ℕ
    pub pass : ℕ
    pub found : List ℕ
    pub took : get_elem? s.views holder ≡ some (view_of (note pass x ∷ []) true found)
    pub alone : (seat : ℕ) (v : View V) → get_elem? s.views seat ≡ some v → v.holds ≡ true → seat ≡ holder

module _ {V : Type 0} (IsLater : ℕ → V → V → Type 0) (passes : ℕ) where
  -- the pass of the note is the seat's, and x is later than what the pass has seen
  pub record IsNoteOf (seat_of : ℕ → ℕ) (x : V) (seat : ℕ) (n : Note V) : Type 0 where
    pub counted : n.pass < passes
    pub seated : seat_of n.pass ≡ seat
    pub later : IsLater n.pass n.value x

-- value is the one last at home or taken
pub record HasOneValue {V : Type 0} (IsLater : ℕ → V → V → Type 0) (size : V → ℕ) (passes : ℕ) (s : State (Option V) (View V)) : Type 0 where
  pub value : V
  pub seat_of : ℕ → ℕ
  pub known : (seat : ℕ) (v : View V) → get_elem? s.views seat ≡ some v → All (IsNoteOf IsLater passes seat_of value seat) v.notes
  pub phase : Home size value s ⊎ Away size value s

module _ {V : Type 0} (IsLater : ℕ → V → V → Type 0) (size : V → ℕ) where
  -- the word was the one told first, and the seat has the value; or it was another, and nothing else changes
  pub record IsTaken (m : Me (Option V) (View V)) (found : ℕ) (m' : Me (Option V) (View V)) : Type 0 where
    pub value : V
    pub after : m' ≡ (view_of (noting value m.0.notes) true (m.0.found ++ found ∷ []), (0, Some value) ∷ m.1)
    pub later : All (λ n. IsLater n.pass n.value value) m.0.notes
    pub counted : found ≡ 2 * size value

  abbrev pub TakesValue : Step (Option V) → Me (Option V) (View V) → ℕ → Me (Option V) (View V) → Type 0
  TakesValue st m found m' = (found ≡ st.first → IsTaken m found m') × (found ≢ st.first → m' ≡ (finding m.0 found, m.1))

-- the value is at home again, and the pass has seen it
abbrev pub GivesValueBack : {V : Type 0} → Step (Option V) → Me (Option V) (View V) → ℕ → Me (Option V) (View V) → Type 0
GivesValueBack {V} st m found m' = (x : V) → m.1 ≡ (0, Some x) ∷ [] → m' ≡ (view_of (noting x m.0.notes) false m.0.found, [])

-- a load
abbrev pub LoadsWord : {V : Type 0} → Step (Option V) → Me (Option V) (View V) → ℕ → Me (Option V) (View V) → Type 0
LoadsWord st m found m' = m' ≡ (finding m.0 found, m.1)
