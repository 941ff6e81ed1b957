use Rattle.std.proofs.Common.{ap, ◌∙◌}
use Rattle.vd_format.specs.Layouts.{blocks_of}
use Rattle.vd_keeper.proofs.Laws.{still-full}
use Rattle.vd_keeper.proofs.tests.small_image.Goals as goal

pub loop-block-init : goal.loop-block-init
loop-block-init g c = record {
  blocks = c.flush-seen.ensures.blocks ∙ ap blocks_of (c.owe.ensures ∙ c.in_ok-keeper.ensures);
  full = still-full c.owe.new.keeper.header c.flush-seen.new.keeper.header c.in_ok-whole.whole c.flush-seen.ensures (rw (c.owe.ensures, c.in_ok-keeper.ensures) c.in_ok-whole.ensures);
}

pub loop-block-preserved : goal.loop-block-preserved
loop-block-preserved g c = record {
  blocks = c.row.ensures.blocks ∙ c.loop-block.invariant.blocks;
  full = still-full c.loop-block.keeper.header c.row.new.keeper.header c.in_ok-whole.whole c.row.ensures c.loop-block.invariant.full;
}
