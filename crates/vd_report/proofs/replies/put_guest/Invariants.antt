use Rattle.std.proofs.Common.{◌≡◌, ◌≤◌, ◌++◌, take}
use Rattle.std.specs.List.{flat_map, slice_range}
use Rattle.vd_law.specs.Entries.{past}
use Rattle.vd_report.specs.Replies.{seen_in, seen_since_ask, guest_text}
use Rattle.vd_report.proofs.replies.put_guest.Given as goal

abbrev pub invariant-loop-at : goal.invariant-loop-at
invariant-loop-at g l = record {
  told_before : g.O.Sink.tells l.out → g.O.Sink.tells l.initial.out;
  wrote : g.O.Sink.tells l.out → g.O.Sink.written l.out ≡ g.O.Sink.written l.initial.out ++ guest_text (past (take l.at l.log.entries)) l.guest;
  no_fewer_faults : g.O.Sink.faults l.initial.out ≤ g.O.Sink.faults l.out;
  range : l.asked ≤ l.at;
  seen : flat_map (seen_in l.guest) (slice_range l.log.entries l.asked l.at) ≡ seen_since_ask (past (take l.at l.log.entries)) l.guest;
}
