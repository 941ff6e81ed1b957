use Rattle.std.proofs.Common.{take}
use Rattle.vd_law.specs.Rules.{IsLegal}
use Rattle.vd_judge.proofs.deciding.is_legal.Given as goal

abbrev pub invariant-loop-i : goal.invariant-loop-i
invariant-loop-i g l = IsLegal (g.F.Flat.disk l.start) (take l.i l.log.entries)
