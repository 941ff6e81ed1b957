use Rattle.std.proofs.Common.{◌≡◌, take}
use Rattle.vd_report.specs.Ending.{are_ok}
use Rattle.vd_run.proofs.reporting.are_ok.Given as goal

abbrev pub invariant-loop-at : goal.invariant-loop-at
invariant-loop-at l = l.ok ≡ are_ok (take l.at l.log.entries)
