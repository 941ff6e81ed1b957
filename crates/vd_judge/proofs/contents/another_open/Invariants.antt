use Rattle.std.proofs.Common.{◌≡◌, false, take}
use Rattle.vd_law.specs.Entries.{past}
use Rattle.vd_judge.specs.ContentStates.{some_open}
use Rattle.vd_judge.proofs.contents.another_open.Given as goal

abbrev pub invariant-loop-i : goal.invariant-loop-i
invariant-loop-i l = some_open (past (take l.k l.log.entries)) l.id l.s (past (take l.i l.log.entries)) ≡ false
