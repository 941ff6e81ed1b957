use Rattle.std.proofs.Common.{◌≡◌, true, Some, ap}
use Rattle.std.specs.List.{slice_get}
use Rattle.vd_keeper.proofs.Owed.{either-left, either-of}
use Rattle.vd_keeper.proofs.keeper.Keeper.is_owed.Goals as goal

pub returns-then-has : goal.returns-then-has
returns-then-has c =
    let is : slice_get c.self.inside.later.bits c.args.block ≡ Some true = c.if-has.ensures in
    rw (← c.self.view_is, c.if-has.true) (either-left c.self.inside.later.bits c.self.inside.snapshot.bits c.args.block is)

pub returns-else-has : goal.returns-else-has
returns-else-has c = rw (← c.self.view_is) (either-of c.self.inside.later.bits c.self.inside.snapshot.bits c.args.block c.has-else-has.result c.if-has.ensures c.has-else-has.ensures)
