use Rattle.std.proofs.Common.{◌≡◌, ◌≤◌, false, [], map, vec_capacity, ◌-◌}
use Rattle.std.specs.List.{range_with_len}
use Rattle.vd_turn.specs.Board.{notes_from, view_of}
use Rattle.vd_turn.specs.Passes.{resting}
use Rattle.vd_turn.proofs.dealing.deal.Given as goal

-- the passes below `number` are made, and the seat has the notes of the others
abbrev pub invariant-loop-number : goal.invariant-loop-number
invariant-loop-number g l = record {
  table : l.place.table_id ≡ l.top.table_id;
  left : l.place.me ≡ (view_of (notes_from l.number (l.count - l.number) l.top.key.start.value) false [], []);
  room : l.count ≤ vec_capacity l.passes;
  made : l.passes.items ≡ map (resting l.top.table_id l.top.key.start.value) (range_with_len 0 l.number);
}
