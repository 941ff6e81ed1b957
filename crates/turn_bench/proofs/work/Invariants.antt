use Rattle.std.proofs.Common.{◌≡◌, false}
use Rattle.turn_bench.proofs.work.Given as goal

abbrev pub invariant-loop : goal.invariant-loop
invariant-loop g l = record {
  rests : l.pass.holds ≡ false;
  number : l.pass.number ≡ l.initial.pass.number;
  turn : l.pass.turn ≡ l.initial.pass.turn;
}
