use Rattle.std.proofs.Common.{take}
use Rattle.std.specs.Prelude.{◌↔◌, IsTrue}
use Rattle.std.specs.List.{Contains}
use Rattle.vd_law.specs.Entries.{past}
use Rattle.vd_law.specs.Contents.{could_after}
use Rattle.vd_judge.proofs.deciding.could.Given as goal

abbrev pub invariant-loop-i : goal.invariant-loop-i
invariant-loop-i g l =
    IsTrue l.found ↔ Contains (could_after (g.F.Flat.disk l.start) (past (take l.i l.log.entries)) l.s) l.v
