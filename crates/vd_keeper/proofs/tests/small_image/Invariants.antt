use Rattle.std.proofs.Common.{◌≡◌}
use Rattle.vd_format.specs.Layouts.{blocks_of}
use Rattle.vd_keeper.specs.Putting.{IsFull}
use Rattle.vd_keeper.proofs.tests.small_image.Given as goal

abbrev pub invariant-loop-block : goal.invariant-loop-block
invariant-loop-block g l = record {
  blocks : blocks_of l.keeper.header ≡ 16;
  full : IsFull l.keeper.header l.table;
}
