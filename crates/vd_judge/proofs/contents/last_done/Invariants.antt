use Rattle.std.proofs.Common.{◌≡◌, take}
use Rattle.vd_law.specs.Entries.{past}
use Rattle.vd_law.specs.Contents.{last_done}
use Rattle.vd_judge.proofs.contents.last_done.Given as goal

abbrev pub invariant-loop-i : goal.invariant-loop-i
invariant-loop-i l = l.last ≡ last_done (past (take l.i l.log.entries)) l.s
