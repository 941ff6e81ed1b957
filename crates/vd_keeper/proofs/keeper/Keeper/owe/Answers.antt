use Rattle.std.proofs.Common.{◌<◌, true, ap, sym}
use Rattle.vd_format.specs.Layouts.{blocks_of}
use Rattle.vd_keeper.proofs.Owed.{off, is-true, owed-kept, owed-view, stale-view, logged-view}
use Rattle.vd_keeper.proofs.keeper.Keeper.owe.Goals as goal
use Rattle.vd_keeper.proofs.keeper.Keeper.owe.Goals.{else-not-get-via-then-not-get+else-not-has, else-not-get-via-else-not-get}

pub invariant_of-self : goal.invariant_of-self
invariant_of-self c =
    rw c.add.ensures
    (owed-kept c.self.inside c.args.block c.self.invariant (rw (sym c.self.view_is) at c.requires) (off c.self.inside.stale.bits c.args.block c.if-not-get.ensures) (off c.self.inside.snapshot.bits c.args.block c.if-not-has.ensures))

pub returns-then-not-has : goal.returns-then-not-has
returns-then-not-has c =
    rw (c.add.ensures, ← c.self.view_is) (owed-view c.self.inside c.args.block c.self.invariant (rw (sym c.self.view_is) at c.requires) (off c.self.inside.stale.bits c.args.block c.if-not-get.ensures))

pub returns-else-not-get : goal.returns-else-not-get
returns-else-not-get c =
    let inside : c.args.block < blocks_of c.self.inside.header = rw (sym c.self.view_is) at c.requires in
    rw (← c.self.view_is)
    (elim c.else-not-get.branch [
      | else-not-get-via-then-not-get+else-not-has w ↦ logged-view c.self.inside c.args.block c.self.invariant inside (off c.self.inside.stale.bits c.args.block w.if-not-get.ensures) w.if-not-has.ensures
      | else-not-get-via-else-not-get w ↦ stale-view c.self.inside c.args.block c.self.invariant inside (is-true c.self.inside.stale.bits c.args.block w.if-not-get.ensures)
    ])
