use Rattle.std.proofs.Common.{◌+◌, ◌*◌, ◌^◌, ◌<◌, ◌≤◌, false, length, replicate}
use Rattle.vd_bits.specs.Summaries.{AreLevels}
use Rattle.vd_bits.proofs.levels.empty_levels.Given as goal

abbrev pub invariant-loop-words : goal.invariant-loop-words
invariant-loop-words l = record {
  levels : AreLevels (replicate l.fn.pages false) l.above.items;
  enough : l.fn.pages ≤ 64 ^ length l.above.items * l.words;
  needed : 64 ^ length l.above.items * l.words < l.fn.pages + 64 ^ length l.above.items;
}

abbrev pub decreases-loop-words : goal.decreases-loop-words
decreases-loop-words l = l.words
