use Rattle.std.proofs.Common.{◌≤◌, take}
use Rattle.vd_law.specs.Entries.{past}
use Rattle.vd_judge.specs.ContentStates.{IsSearch}
use Rattle.vd_judge.proofs.deciding.may.Given as goal

abbrev pub invariant-loop-i : goal.invariant-loop-i
invariant-loop-i g l = record {
  search : IsSearch (g.F.Flat.disk l.start) (past (take l.i l.log.entries)) l.s l.firm l.v l.search;
  bound : l.search.number ≤ l.i;
}
