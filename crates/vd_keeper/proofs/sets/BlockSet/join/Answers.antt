use Rattle.std.proofs.Common.{◌≡◌, length, sym}
use Rattle.vd_keeper.proofs.Joining.{emptied-indexed, joined-indexed}
use Rattle.vd_keeper.proofs.sets.BlockSet.join.Goals as goal

pub invariant_of-self : goal.invariant_of-self
invariant_of-self c = rw (c.pour.ensures.empty, c.join.ensures.empty) (emptied-indexed c.self.inside c.self.invariant)

pub invariant_of-into : goal.invariant_of-into
invariant_of-into c =
    let chunk : c.self.inside.blocks.chunk ≡ c.into.inside.blocks.chunk = sym (rw (sym c.self.view_is, sym c.into.view_is) at c.requires.chunk) in
    let size : length c.self.inside.blocks.bits ≡ length c.into.inside.blocks.bits = sym (rw (sym c.self.view_is, sym c.into.view_is) at c.requires.size) in
    rw (c.pour.ensures.into, c.join.ensures.into) (joined-indexed c.self.inside c.into.inside c.self.invariant c.into.invariant chunk size)
