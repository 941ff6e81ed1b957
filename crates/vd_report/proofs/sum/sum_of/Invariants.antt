use Rattle.std.proofs.Common.{take}
use Rattle.vd_report.specs.Sums.{SumsReplies}
use Rattle.vd_report.proofs.sum.sum_of.Given as goal

abbrev pub invariant-loop-at : goal.invariant-loop-at
invariant-loop-at l = SumsReplies l.guests (take l.at l.log.entries) l.sum
