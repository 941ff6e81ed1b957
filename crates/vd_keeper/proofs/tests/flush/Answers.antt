use Rattle.vd_keeper.proofs.Laws.{still-full}
use Rattle.vd_keeper.proofs.tests.flush.Goals as goal

pub step-requires : goal.step-requires
step-requires c = still-full c.args.keeper.now.header c.loop-turn.keeper.header c.args.table.now c.loop-turn.invariant c.requires
