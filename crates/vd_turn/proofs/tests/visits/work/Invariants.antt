use Rattle.std.proofs.Common.{◌≡◌, false}
use Rattle.std.specs.Vec.{vec_capacity}
use Rattle.vd_turn.proofs.tests.visits.work.Given as goal

abbrev pub invariant-loop : goal.invariant-loop
invariant-loop g l = record {
  rests : l.pass.holds ≡ false;
  number : l.pass.number ≡ l.initial.pass.number;
  turn : l.pass.turn ≡ l.initial.pass.turn;
  fixed : vec_capacity l.pass.last.made ≡ vec_capacity l.initial.pass.last.made;
}
