use Rattle.std.proofs.Common.{◌≡◌, length, sym, ap, ◌∙◌}
use Rattle.vd_format.specs.Layouts.{blocks_of}
use Rattle.vd_keeper.specs.Keeping.{no_marks}
use Rattle.vd_keeper.specs.Moves.{after_adopt}
use Rattle.vd_keeper.proofs.Begun.{no-snapshot}
use Rattle.vd_keeper.proofs.Owed.{adopted-view, adopted-kept}
use Rattle.vd_keeper.proofs.keeper.Keeper.adopt.Goals as goal
use Rattle.vd_keeper.proofs.keeper.Keeper.adopt.Goals.{After-adopt}

size : (c : After-adopt) → length c.args.fresh.now.bits ≡ blocks_of c.self.inside.header
size c = rw (sym c.self.view_is) at c.requires.blocks

none : (c : After-adopt) → c.self.inside.snapshot.bits ≡ no_marks (blocks_of c.self.inside.header)
none c = no-snapshot c.self.inside c.self.invariant (rw (sym c.self.view_is) at c.requires.rest)

pub invariant_of-self : goal.invariant_of-self
invariant_of-self c = let k = (goal.at.invariant_of-self c).After-adopt in rw c.adopt.ensures (adopted-kept c.self.inside c.args.fresh.now.bits c.self.invariant (size k) (none k))

pub returns : goal.returns
returns c =
    let k = (goal.at.returns c).After-adopt in
    rw c.adopt.ensures (adopted-view c.self.inside c.args.fresh.now.bits c.self.invariant (size k) (none k)) ∙ ap (after_adopt c.args.fresh.now.bits) c.self.view_is
