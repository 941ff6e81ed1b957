use Rattle.std.proofs.Common.{sym}
use Rattle.vd_keeper.proofs.SetLaws.{added-chunk, added-indexed}
use Rattle.vd_keeper.proofs.sets.BlockSet.add.Goals as goal

pub mark-requires : goal.mark-requires
mark-requires c = rw c.from.ensures (added-chunk c.self.inside c.args.block c.self.invariant (rw (sym c.self.view_is) at c.requires))

pub invariant_of-self : goal.invariant_of-self
invariant_of-self c = rw (c.set.ensures, c.mark.ensures, c.from.ensures) (added-indexed c.self.inside c.args.block c.self.invariant (rw (sym c.self.view_is) at c.requires))
