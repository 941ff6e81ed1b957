use Rattle.std.proofs.Common.{◌≡◌, take}
use Rattle.vd_law.specs.Entries.{past}
use Rattle.vd_law.specs.Calls.{last_call}
use Rattle.vd_log.proofs.calls.last_call.Given as goal

abbrev pub invariant-loop-i : goal.invariant-loop-i
invariant-loop-i l = l.last ≡ last_call (past (take l.i l.log.entries)) l.pass
