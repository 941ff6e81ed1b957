use Rattle.std.proofs.Common.{true, sym, ap, ◌∙◌}
use Rattle.vd_keeper.specs.Moves.{after_seal}
use Rattle.vd_keeper.proofs.Ended.{sealed-by-view, sealed-by-keeper, recycle-sure, recycle-next, recycle-header, other-sure, other-next, other-header}
use Rattle.vd_keeper.proofs.keeper.Keeper.seal.Goals as goal

pub invariant_of-self : goal.invariant_of-self
invariant_of-self c =
    let i = c.self.inside in
    rw (c.pour.ensures.into, c.pour.ensures.empty)
    (sealed-by-keeper i c.self.invariant true 0 (recycle-sure i.way c.in-Recycle.tracked i.sure c.in-Recycle.is) (recycle-next i.way c.in-Recycle.tracked i.next c.in-Recycle.is) c.next_header-self-inside.result
    (c.next_header-self-inside.ensures ∙ recycle-header i.way c.in-Recycle.tracked i.header c.in-Recycle.is) (rw (sym c.self.view_is) at c.requires))

pub invariant_of-self-in_default : goal.invariant_of-self-in_default
invariant_of-self-in_default c =
    let i = c.self.inside in
    rw (c.pour.ensures.into, c.pour.ensures.empty)
    (sealed-by-keeper i c.self.invariant i.sure i.next (other-sure i.way i.sure c.in_default.not-Recycle) (other-next i.way i.next c.in_default.not-Recycle) i.header (other-header i.way i.header c.in_default.not-Recycle) (rw (sym c.self.view_is) at c.requires))

pub returns-in-Recycle : goal.returns-in-Recycle
returns-in-Recycle c =
    let i = c.self.inside in
    rw (c.pour.ensures.into, c.pour.ensures.empty)
    (sealed-by-view i c.self.invariant true 0 (recycle-sure i.way c.in-Recycle.tracked i.sure c.in-Recycle.is) (recycle-next i.way c.in-Recycle.tracked i.next c.in-Recycle.is) c.next_header-self-inside.result
    (c.next_header-self-inside.ensures ∙ recycle-header i.way c.in-Recycle.tracked i.header c.in-Recycle.is))
    ∙ ap after_seal c.self.view_is

pub returns-in_default : goal.returns-in_default
returns-in_default c =
    let i = c.self.inside in
    rw (c.pour.ensures.into, c.pour.ensures.empty)
    (sealed-by-view i c.self.invariant i.sure i.next (other-sure i.way i.sure c.in_default.not-Recycle) (other-next i.way i.next c.in_default.not-Recycle) i.header (other-header i.way i.header c.in_default.not-Recycle))
    ∙ ap after_seal c.self.view_is
