use Rattle.std.proofs.Common.{◌≡◌, ◌≤◌, take}
use Rattle.vd_law.specs.Entries.{past}
use Rattle.vd_law.specs.Calls.{before_ask}
use Rattle.vd_judge.proofs.contents.ask_place.Given as goal

abbrev pub invariant-loop-i : goal.invariant-loop-i
invariant-loop-i l = record {
  within : l.place ≤ l.i;
  before : past (take l.place l.log.entries) ≡ before_ask (past (take l.i l.log.entries)) l.id;
}
