use Rattle.std.proofs.Common.{◌≡◌, ◌≤◌, length, take}
use Rattle.vd_law.specs.Entries.{past}
use Rattle.vd_law.specs.Contents.{issued_contents}
use Rattle.vd_faults.proofs.failures.written.Given as goal

abbrev pub invariant-loop-i : goal.invariant-loop-i
invariant-loop-i l = (l.count ≤ l.i) × (l.count ≡ length (issued_contents (past (take l.i l.log.entries)) l.s))
