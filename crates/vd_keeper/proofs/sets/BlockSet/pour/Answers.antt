use Rattle.vd_keeper.proofs.Joining.{emptied-indexed}
use Rattle.vd_keeper.proofs.sets.BlockSet.pour.Goals as goal

pub invariant_of-self : goal.invariant_of-self
invariant_of-self c = rw (c.pour.ensures.empty, c.clear.ensures) (emptied-indexed c.self.inside c.self.invariant)
