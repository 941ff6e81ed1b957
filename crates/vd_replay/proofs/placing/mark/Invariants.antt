use Rattle.std.proofs.Common.{◌≡◌, length}
use Rattle.vd_replay.specs.Placing.{AreMarked}
use Rattle.vd_replay.proofs.placing.mark.Given as goal

abbrev pub invariant-loop-page : goal.invariant-loop-page
invariant-loop-page l = record {
  size : length l.more ≡ length l.fn.more;
  marked : AreMarked l.map l.pages l.page l.more;
}
