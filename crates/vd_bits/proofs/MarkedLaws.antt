-- How many members a set has after one of its numbers changed.
use Rattle.std.proofs.Common.{◌≡◌, ℕ, ◌<◌, Bool, true, false, List, length, set, Some, arith, length-set}
use Rattle.std.specs.List.{slice_get}
use Rattle.vd_bits.specs.Marks.{count_true}
use Rattle.vd_bits.proofs.SetLaws.{count-set_true, count-set_false, count-le-length}

module _ (low : List Bool) (i : ℕ) (inside : i < length low) where
  -- no count goes past the numbers that there are
  pub has_room : slice_get low i ≡ Some false → count_true low < length low
  has_room e = omega (arith, count-set_true low i inside e, count-le-length (set low i true), length-set low i true)

  pub is_counted : slice_get low i ≡ Some true → 0 < count_true low
  is_counted e = omega (arith, count-set_false low i inside e)
