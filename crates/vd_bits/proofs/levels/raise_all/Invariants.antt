use Rattle.std.proofs.Common.{◌≡◌, ℕ, ◌+◌, ◌^◌, ◌<◌, ◌≤◌, Bool, List, true, Some, length, replicate, slice_get}
use Rattle.vd_bits.specs.Summaries.{AreLevels, Summarizes}
use Rattle.vd_bits.proofs.levels.raise_all.Given as goal

abbrev pub invariant-loop-level : goal.invariant-loop-level
invariant-loop-level l = record {
  later : (n : ℕ) → l.level-index ≤ n → slice_get l.above n ≡ slice_get l.fn.above n;
  done : (marked : List Bool) → AreLevels marked l.fn.above → (n : ℕ) (level : List Bool) → n < l.level-index → slice_get l.above n ≡ Some level
      → Summarizes (64 ^ (n + 1)) (replicate (length marked) true) level;
}
