use Rattle.std.proofs.Common.{◌-◌, ◌<◌, ap, sym, arith, length, set, false, length-set}
use Rattle.vd_lists.proofs.Changes.{slice_set_unchanged}
use Rattle.vd_bits.specs.Blocks.{Blocks}
use Rattle.vd_bits.proofs.Chunks.{tallied}
use Rattle.vd_bits.proofs.MarkedLaws.{is_counted}
use Rattle.vd_bits.proofs.SetLaws.{count-set_false}
use Rattle.vd_bits.proofs.bits.Bits.clear.Goals as goal

pub overflow_sub-self : goal.overflow_sub-self
overflow_sub-self c =
    let inside : c.args.block < length c.self.inside.flags = omega (arith, ap (λ (b : Blocks). length b.bits) c.self.view_is) in
    omega (arith, is_counted c.self.inside.flags c.args.block inside c.if-get.ensures, c.self.invariant.count)

pub invariant_of-self : goal.invariant_of-self
invariant_of-self c =
    let s = c.self.inside.flags in
    let inside : c.args.block < length s = omega (arith, ap (λ (b : Blocks). length b.bits) c.self.view_is) in
    rw c.put.ensures (tallied c.self.inside (set s c.args.block false) (c.self.inside.count - 1) c.self.invariant (length-set s c.args.block false)
    (omega (arith, count-set_false s c.args.block inside c.if-get.ensures, c.self.invariant.count)))

pub returns-else-get : goal.returns-else-get
returns-else-get c = ap (λ bits. record { chunk = c.args.self.now.chunk; bits = bits }) (sym (slice_set_unchanged c.args.self.now.bits c.args.block false (rw (← c.self.view_is) c.if-get.ensures)))
