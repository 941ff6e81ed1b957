use Rattle.std.proofs.Common.{◌+◌, ◌*◌, ◌^◌, ◌<◌, length}
use Rattle.vd_bits.proofs.SearchLaws.{Descends}
use Rattle.vd_bits.proofs.levels.descend.Given as goal

abbrev pub invariant-loop-level : goal.invariant-loop-level
invariant-loop-level l = record {
  small : l.place * 64 < 2 ^ 64;
  descends : Descends l.flags (64 ^ (length l.above + 1)) l.word (64 ^ (l.level + 1)) l.place;
}
