use Rattle.std.proofs.Common.{◌+◌, ◌/◌, ◌^◌, Bool, List}
use Rattle.vd_bits.specs.Summaries.{AreLevels}
use Rattle.vd_bits.specs.Searches.{NoneInWord}
use Rattle.vd_bits.proofs.SearchLaws.{Climbs}
use Rattle.vd_bits.proofs.levels.climb.Given as goal

abbrev pub invariant-loop-level : goal.invariant-loop-level
invariant-loop-level l = (marked : List Bool) → AreLevels marked l.above → NoneInWord marked l.from → Climbs marked l.from (64 ^ (l.level + 1)) (l.place / 64 + 1)
