use Rattle.std.proofs.Common.{◌∙◌, not}
use Rattle.vd_keeper.specs.KeeperFields.{keeper_state}
use Rattle.vd_keeper.proofs.Counts.{left-some, due-found, due-head, due-nothing}
use Rattle.vd_keeper.proofs.keeper.Keeper.is_due.Goals as goal

pub returns-in-Nothing : goal.returns-in-Nothing
returns-in-Nothing c = rw (← c.self.view_is) ((λ no. absurd cc), (λ due. absurd (due-nothing (keeper_state c.self.inside) c.in-Nothing.is due)))

pub returns-in-Records : goal.returns-in-Records
returns-in-Records c =
    rw (← c.self.view_is)
    (due-found c.self.inside c.is_some.result c.in-Records.is (c.is_some.ensures ∙ left-some c.self.inside c.self.invariant c.next.result c.next.ensures.next c.next.ensures.none.0))

pub returns-in-Recycle : goal.returns-in-Recycle
returns-in-Recycle c = rw (← c.self.view_is) (due-head (keeper_state c.self.inside) c.in-Recycle.tracked c.in-Recycle.is)
