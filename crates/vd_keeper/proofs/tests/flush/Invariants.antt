use Rattle.vd_keeper.specs.Putting.{IsSameImage}
use Rattle.vd_keeper.proofs.tests.flush.Given as goal

abbrev pub invariant-loop-turn : goal.invariant-loop-turn
invariant-loop-turn l = IsSameImage l.fn.keeper.header l.keeper.header
