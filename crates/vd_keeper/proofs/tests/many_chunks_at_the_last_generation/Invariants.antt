use Rattle.std.proofs.Common.{◌≡◌}
use Rattle.vd_keeper.proofs.tests.many_chunks_at_the_last_generation.Given as goal

abbrev pub invariant-loop-block : goal.invariant-loop-block
invariant-loop-block g l = l.keeper.header ≡ l.initial.keeper.header
