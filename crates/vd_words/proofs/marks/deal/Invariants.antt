use Rattle.std.proofs.Common.{◌≡◌, ◌+◌, ◌-◌, [], replicate}
use Rattle.vd_words.specs.Rule.{view}
use Rattle.vd_words.specs.Values.{new_scan}
use Rattle.vd_words.proofs.marks.deal.Given as goal

abbrev pub invariant-loop-dealt : goal.invariant-loop-dealt
invariant-loop-dealt l = record {
  seat_is : l.seat.table_id ≡ l.board.shared.table_id;
  parts_left : l.seat.me ≡ (view ((l.scans + 1) - l.dealt) [] [] [] [], []);
  scans_are : l.list.items ≡ replicate l.dealt (new_scan l.board.shared.table_id l.limit);
}
