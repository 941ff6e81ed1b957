-- The rule of the marks: what the words and the views of all seats have to do with each other.
use Rattle.std.specs.Prelude.{◌≡◌, ℕ, ◌+◌, ◌-◌, ◌/◌, ◌%◌, ◌<◌, ◌≤◌, ◌↔◌, Bool, List, [], ◌∷◌, ◌++◌, length, slice_index, nat_eq}
use Rattle.std.specs.List.{sum_by}
use Rattle.std.specs.Int.{bit_at, div_ceil}
use mathlib.Core.Option.{some}
use lib.ListN.{get_elem?}
use Rattle.atomic_table.specs.Table.{State, Me, Step}
use Rattle.vd_words.specs.declared.view.View.{View}
use Rattle.vd_words.specs.declared.view.Plan.{Plan}
use Rattle.vd_words.specs.Counts.{times, count_past, times_seen, once_below}

-- the first word is the cursor
abbrev pub cursor : List ℕ → ℕ
cursor words = slice_index words 0

-- and each further word has the marks of 64 blocks
abbrev pub word_of : ℕ → ℕ
word_of block = 1 + block / 64

abbrev pub word_count : ℕ → ℕ
word_count blocks = 1 + div_ceil blocks 64

-- whether the block's bit is set in the word found
abbrev pub has_mark : ℕ → ℕ → Bool
has_mark word block = nat_eq (bit_at word (block % 64)) 1

abbrev pub IsMarked : List ℕ → ℕ → Type 0
IsMarked words block = bit_at (slice_index words (word_of block)) (block % 64) ≡ 1

-- what a count of each view gives over all views
abbrev pub total : (View → ℕ) → List View → ℕ
total f views = sum_by f views

abbrev pub view : ℕ → List ℕ → List ℕ → List (ℕ × Bool) → List ℕ → View
view parts marked drawn looks found = record { parts = parts; marked = marked; drawn = drawn; looks = looks; found = found }

-- the seat that is made first has all parts
abbrev pub maker : Plan → View
maker plan = view (plan.scans + 1) [] [] [] []

abbrev pub newcomer : View
newcomer = view 1 [] [] [] []

-- the view of a seat that another took in
abbrev pub nobody : View
nobody = view 0 [] [] [] []

-- a part has drawn one number at most that is not below the limit, and a seat with no part has done nothing
pub record EndsOnce (plan : Plan) (v : View) : Type 0 where
  pub ended_once : count_past plan.drawn v.drawn ≤ v.parts
  pub idle : v.parts ≡ 0 → v ≡ nobody

-- A block's bit is set exactly where some seat has marked it, and that of each block that was seen marked is set.
-- Each number below the cursor was drawn once, and no other was
pub record AreMarksCounted (plan : Plan) (s : State (Unit {0}) View) : Type 0 where
  pub sized : length s.words ≡ word_count plan.blocks
  pub seats : total (λ v. v.parts) s.views ≡ plan.scans + 1
  pub marked : (b : ℕ) → IsMarked s.words b ↔ (0 < total (λ v. times b v.marked) s.views)
  pub seen : (b : ℕ) → 0 < total (λ v. times_seen b v.looks) s.views → IsMarked s.words b
  pub drawn : (x : ℕ) → total (λ v. times x v.drawn) s.views ≡ once_below x (cursor s.words)
  pub counted : total (λ v. length v.drawn) s.views ≡ cursor s.words
  pub bounded : cursor s.words ≤ plan.drawn + total (λ v. count_past plan.drawn v.drawn) s.views
  pub each : (i : ℕ) (v : View) → get_elem? s.views i ≡ some v → EndsOnce plan v

abbrev pub Seated : Type 0
Seated = Me (Unit {0}) View

-- the seat has drawn the number found, which is no less than how many it had drawn
abbrev pub view_after_draw : View → ℕ → View
view_after_draw v n = view v.parts v.marked (v.drawn ++ n ∷ []) v.looks v.found

abbrev pub Drawn : Step (Unit {0}) → Seated → ℕ → Seated → Type 0
Drawn st m n w = (w ≡ (view_after_draw m.0 n, m.1)) × (length m.0.drawn ≤ n)

-- the seat has looked at the block, and found this word
abbrev pub view_after_look : ℕ → ℕ → View → View
view_after_look block word v = view v.parts v.marked v.drawn (v.looks ++ (block, has_mark word block) ∷ []) (v.found ++ word ∷ [])

abbrev pub Looked : ℕ → Step (Unit {0}) → Seated → ℕ → Seated → Type 0
Looked block st m n w = w ≡ (view_after_look block n m.0, m.1)

-- the seat has marked the block
abbrev pub view_after_mark : ℕ → View → View
view_after_mark block v = view v.parts (v.marked ++ block ∷ []) v.drawn v.looks v.found

abbrev pub Marked : ℕ → Step (Unit {0}) → Seated → ℕ → Seated → Type 0
Marked block st m n w = w ≡ (view_after_mark block m.0, m.1)

-- what the seat with all parts learns: all numbers below the cursor were drawn once, and each block seen is marked
abbrev pub Settled : Step (Unit {0}) → Seated → ℕ → Seated → Type 0
Settled st m n w =
    (w ≡ m)
    × ((x : ℕ) → times x m.0.drawn ≡ once_below x n)
    × ((b : ℕ) → 0 < times_seen b m.0.looks → 0 < times b m.0.marked)

abbrev pub with_one_less : View → View
with_one_less v = view (v.parts - 1) v.marked v.drawn v.looks v.found

abbrev pub both : View → View → View
both v w = view (v.parts + w.parts) (v.marked ++ w.marked) (v.drawn ++ w.drawn) (v.looks ++ w.looks) (v.found ++ w.found)
