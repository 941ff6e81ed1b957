-- Sets of numbers, each told as a list that has a truth value for each number below a bound.
use Rattle.std.specs.Prelude.{◌≡◌, ℕ, ◌<◌, ◌≤◌, Bool, false, true, List, length, Some, slice_get}
use Rattle.std.specs.List.{count_by}

-- `at` is the lowest marked number from `from` on
pub record IsLowest (marked : List Bool) (from at : ℕ) : Type 0 where
  pub is_marked : slice_get marked at ≡ Some true
  pub reached : from ≤ at
  pub below : (i : ℕ) → from ≤ i → i < at → slice_get marked i ≡ Some false

-- no number from `from` on is marked
abbrev pub NoneFrom : List Bool → ℕ → Type 0
NoneFrom marked from = (i : ℕ) → from ≤ i → i < length marked → slice_get marked i ≡ Some false

-- how many are true
abbrev pub count_true : List Bool → ℕ
count_true marked = count_by (λ is_marked. is_marked) marked
