use Rattle.std.proofs.Common.{◌≡◌, ◌≤◌, ◌++◌}
use Rattle.vd_report.proofs.Telling.{shown}
use Rattle.vd_report.proofs.replies.put_seen.Given as goal

abbrev pub invariant-loop-at : goal.invariant-loop-at
invariant-loop-at g l = record {
  told_before : g.O.Sink.tells l.out → g.O.Sink.tells l.initial.out;
  wrote : g.O.Sink.tells l.out → g.O.Sink.written l.out ≡ g.O.Sink.written l.initial.out ++ shown l.guest l.log.entries l.from l.at;
  no_fewer_faults : g.O.Sink.faults l.initial.out ≤ g.O.Sink.faults l.out;
}
