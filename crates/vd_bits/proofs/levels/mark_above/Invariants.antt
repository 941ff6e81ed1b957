use Rattle.std.proofs.Common.{◌≡◌, ℕ, ◌+◌, ◌/◌, ◌^◌, ◌<◌, ◌≤◌, Bool, List, true, Some, length, slice_get, slice_set}
use Rattle.vd_bits.specs.Summaries.{AreLevels, Summarizes}
use Rattle.vd_bits.proofs.levels.mark_above.Given as goal

abbrev pub invariant-loop-level : goal.invariant-loop-level
invariant-loop-level l = record {
  place : l.place ≡ l.fn.page / 64 ^ l.level-index;
  later : (n : ℕ) → l.level-index ≤ n → slice_get l.above n ≡ slice_get l.fn.above n;
  done : (marked : List Bool) → l.fn.page < length marked → AreLevels marked l.fn.above
      → (n : ℕ) (level : List Bool) → n < l.level-index → slice_get l.above n ≡ Some level → Summarizes (64 ^ (n + 1)) (slice_set marked l.fn.page true) level;
}
