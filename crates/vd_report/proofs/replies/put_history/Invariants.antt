use Rattle.std.proofs.Common.{◌≡◌, ◌≤◌, ◌++◌}
use Rattle.vd_report.specs.Replies.{history_text}
use Rattle.vd_report.proofs.replies.put_history.Given as goal

abbrev pub invariant-loop-before : goal.invariant-loop-before
invariant-loop-before g l = record {
  told_before : g.O.Sink.tells l.out → g.O.Sink.tells l.initial.out;
  wrote : g.O.Sink.tells l.out → g.O.Sink.written l.out ≡ g.O.Sink.written l.initial.out ++ history_text l.before l.history.log.entries;
  no_fewer_faults : g.O.Sink.faults l.initial.out ≤ g.O.Sink.faults l.out;
}
