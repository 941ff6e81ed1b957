use Rattle.std.proofs.Common.{◌+◌, ◌^◌, ◌<◌, ◌≤◌, ap, arith, length}
use Rattle.vd_bits.specs.Blocks.{Blocks}
use Rattle.vd_bits.proofs.Chunks.{part_counted, count_fits, put_tallied}
use Rattle.vd_bits.proofs.bits.Bits.put_mask.Goals as goal
use Rattle.vd_bits.proofs.bits.Bits.put_mask.Goals.{After-put_part}

fits : (c : After-put_part) → c.args.mask < 2 ^ c.stretch-at.result.1
fits c = rw c.stretch-at.ensures.count c.requires.exist

inside : (c : After-put_part) → c.stretch-at.result.0 + c.stretch-at.result.1 ≤ length c.self.inside.flags
inside c = omega (arith, ap (λ (b : Blocks). length b.bits) c.self.view_is)

pub overflow_sub-self : goal.overflow_sub-self
overflow_sub-self c =
    omega (arith, part_counted c.self.inside.flags c.stretch-at.result.0 c.stretch-at.result.1 c.part-before.result c.args.mask c.part-before.ensures (fits c), c.self.invariant.count)

pub overflow_add-self : goal.overflow_add-self
overflow_add-self c =
    omega (arith, count_fits c.self.inside c.self.invariant c.stretch-at.result.0 c.stretch-at.result.1 c.part-before.result c.args.mask c.part-before.ensures (fits c) (inside c))

pub invariant_of-self : goal.invariant_of-self
invariant_of-self c =
    let k = (goal.at.invariant_of-self c).After-put_part in
    put_tallied c.self.inside c.self.invariant c.stretch-at.result.0 c.stretch-at.result.1 c.part-before.result c.args.mask c.part-before.ensures (fits k) (inside k) c.put_part.new.self c.put_part.ensures
