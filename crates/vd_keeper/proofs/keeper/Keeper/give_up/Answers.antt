use Rattle.std.proofs.Common.{ap, ◌∙◌}
use Rattle.vd_keeper.specs.Moves.{after_break}
use Rattle.vd_keeper.proofs.Ended.{broken-view, broken-keeper}
use Rattle.vd_keeper.proofs.keeper.Keeper.give_up.Goals as goal

pub invariant_of-self : goal.invariant_of-self
invariant_of-self c = rw (c.join.ensures.into, c.join.ensures.empty, c.join-2.ensures.into, c.join-2.ensures.empty) (broken-keeper c.self.inside c.self.invariant)

pub returns : goal.returns
returns c = rw (c.join.ensures.into, c.join.ensures.empty, c.join-2.ensures.into, c.join-2.ensures.empty) (broken-view c.self.inside c.self.invariant) ∙ ap after_break c.self.view_is
