use Rattle.std.proofs.Common.{◌≡◌, take}
use Rattle.vd_law.specs.Entries.{past}
use Rattle.vd_law.specs.Contents.{firm_after}
use Rattle.vd_judge.proofs.contents.firm.Given as goal

abbrev pub invariant-loop-i : goal.invariant-loop-i
invariant-loop-i l = l.firm ≡ firm_after (past (take l.i l.log.entries)) l.s
