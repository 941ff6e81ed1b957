use Rattle.std.proofs.Common.{◌≡◌, ◌++◌, false, [], map}
use Rattle.std.specs.List.{All}
use Rattle.vd_turn.specs.Board.{view_of, note_of}
use Rattle.vd_turn.proofs.dealing.gather.Given as goal

-- the seat has the notes of the passes that are gone
abbrev pub invariant-loop-pass : goal.invariant-loop-pass
invariant-loop-pass g l = record {
  table : l.place.table_id ≡ l.top.table_id;
  rests : l.place.me ≡ (view_of l.place.me.0.notes false l.place.me.0.found, []);
  notes : map note_of l.passes.items ++ l.place.me.0.notes ≡ map note_of l.fn.passes.items;
  each : All (λ pass. (pass.turn ≡ l.top.table_id) × (pass.holds ≡ false)) l.passes.items;
}

abbrev pub decreases-loop-pass : goal.decreases-loop-pass
decreases-loop-pass g l = goal.left-loop-pass g l
