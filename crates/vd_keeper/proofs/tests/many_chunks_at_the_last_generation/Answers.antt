use Rattle.vd_keeper.proofs.Laws.{still-full}
use Rattle.vd_keeper.proofs.tests.many_chunks_at_the_last_generation.Goals as goal

pub flush-seen-requires : goal.flush-seen-requires
flush-seen-requires g c =
    rw (c.whole.view_is, c.owe-2.ensures)
    (still-full c.loop-block.keeper.header c.row.new.keeper.header c.in_ok-whole.whole c.row.ensures (rw (c.loop-block.invariant, c.in_ok-keeper.ensures) c.in_ok-whole.ensures))
