use Rattle.vd_keeper.proofs.Opened.{new-view, new-keeper}
use Rattle.vd_keeper.proofs.keeper.Keeper.new.Goals as goal

pub invariant_of-result : goal.invariant_of-result
invariant_of-result c =
    rw (c.copy_from.ensures, c.in_ok-new.ensures, c.in_ok-new-2.ensures, c.in_ok-new-3.ensures, c.pages_in.ensures, c.layout_of-layout.ensures.blocks, c.layout_of-layout.ensures.chunks)
    (new-keeper c.args.header.now c.args.stale.now c.args.marked c.args.next c.requires.valid c.requires.version c.requires.slots c.requires.chunk c.requires.blocks c.requires.pages)

pub returns : goal.returns
returns c =
    rw (c.copy_from.ensures, c.in_ok-new.ensures, c.in_ok-new-2.ensures, c.in_ok-new-3.ensures, c.pages_in.ensures, c.layout_of-layout.ensures.blocks, c.layout_of-layout.ensures.chunks)
    (new-view c.args.header.now c.args.stale.now c.args.marked c.args.next)
