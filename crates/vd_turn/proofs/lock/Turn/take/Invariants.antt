use Rattle.std.proofs.Common.{◌≡◌, false}
use Rattle.vd_turn.proofs.lock.Turn.take.Given as goal

-- a try that failed leaves the pass as it was, but for the words that it found
abbrev pub invariant-loop : goal.invariant-loop
invariant-loop g l = record {
  can : (goal.iterator-loop g).can_next l.iterator' × (goal.iterator-loop g).is_finite l.iterator';
  rests : l.pass.holds ≡ false;
  number : l.pass.number ≡ l.initial.pass.number;
  last : l.pass.last ≡ l.initial.pass.last;
  turn : l.pass.turn ≡ l.initial.pass.turn;
}
