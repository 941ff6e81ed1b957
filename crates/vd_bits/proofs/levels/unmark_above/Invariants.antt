use Rattle.std.proofs.Common.{◌≡◌, ℕ, ◌+◌, ◌/◌, ◌^◌, ◌<◌, ◌≤◌, Bool, List, false, Some, length, slice_get, slice_set}
use Rattle.vd_bits.specs.Summaries.{AreLevels, Summarizes}
use Rattle.vd_bits.specs.Searches.{NoneOf}
use Rattle.vd_bits.proofs.levels.unmark_above.Given as goal

abbrev pub invariant-loop-level : goal.invariant-loop-level
invariant-loop-level l = record {
  place : l.place ≡ l.fn.page / 64 ^ l.level-index;
  later : (n : ℕ) → l.level-index ≤ n → slice_get l.above n ≡ slice_get l.fn.above n;
  empty : (marked : List Bool) → l.fn.page < length marked → AreLevels marked l.fn.above → NoneOf (slice_set marked l.fn.page false) 64 (l.fn.page / 64)
      → NoneOf (slice_set marked l.fn.page false) (64 ^ (l.level-index + 1)) (l.fn.page / 64 ^ (l.level-index + 1));
  done : (marked : List Bool) → l.fn.page < length marked → AreLevels marked l.fn.above → NoneOf (slice_set marked l.fn.page false) 64 (l.fn.page / 64)
      → (n : ℕ) (level : List Bool) → n < l.level-index → slice_get l.above n ≡ Some level → Summarizes (64 ^ (n + 1)) (slice_set marked l.fn.page false) level;
}
