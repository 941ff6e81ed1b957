use Rattle.std.proofs.Common.{◌≡◌, ◌+◌, ◌++◌, take}
use Rattle.std.specs.Prelude.{map}
use Rattle.vd_law.specs.Entries.{past}
use Rattle.vd_law.specs.Calls.{last_call}
use Rattle.vd_law.specs.Joining.{raised_entry, sectors_told}
use Rattle.vd_log.proofs.history.History.join.Given as goal

abbrev pub invariant-loop-i : goal.invariant-loop-i
invariant-loop-i l = record {
  entries : l.self.log.entries ≡ l.fn.self.log.entries ++ map (raised_entry (λ pass. last_call (past l.fn.self.log.entries) pass)) (take l.i l.next.log.entries);
  numbers : l.self.numbers ≡ l.fn.self.numbers ++ take l.i l.next.numbers;
  opened : l.self.opened ≡ l.fn.self.opened;
  events : l.self.log.left.events + l.i ≡ l.fn.self.log.left.events;
  sectors : l.self.log.left.sectors + sectors_told (take l.i l.next.log.entries) ≡ l.fn.self.log.left.sectors;
}
