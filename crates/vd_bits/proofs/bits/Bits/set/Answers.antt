use Rattle.std.proofs.Common.{◌+◌, ◌<◌, ap, sym, arith, length, set, true, length-set}
use Rattle.vd_lists.proofs.Changes.{slice_set_unchanged}
use Rattle.vd_bits.specs.Blocks.{Blocks}
use Rattle.vd_bits.proofs.Chunks.{tallied}
use Rattle.vd_bits.proofs.MarkedLaws.{has_room}
use Rattle.vd_bits.proofs.SetLaws.{count-set_true}
use Rattle.vd_bits.proofs.bits.Bits.set.Goals as goal

pub overflow_add-self : goal.overflow_add-self
overflow_add-self c =
    let inside : c.args.block < length c.self.inside.flags = omega (arith, ap (λ (b : Blocks). length b.bits) c.self.view_is) in
    omega (arith, has_room c.self.inside.flags c.args.block inside c.if-not-get.ensures, c.self.invariant.count, c.self.invariant.few)

pub invariant_of-self : goal.invariant_of-self
invariant_of-self c =
    let s = c.self.inside.flags in
    let inside : c.args.block < length s = omega (arith, ap (λ (b : Blocks). length b.bits) c.self.view_is) in
    rw c.put.ensures (tallied c.self.inside (set s c.args.block true) (c.self.inside.count + 1) c.self.invariant (length-set s c.args.block true)
    (omega (arith, count-set_true s c.args.block inside c.if-not-get.ensures, c.self.invariant.count)))

pub returns-else-not-get : goal.returns-else-not-get
returns-else-not-get c = ap (λ bits. record { chunk = c.args.self.now.chunk; bits = bits }) (sym (slice_set_unchanged c.args.self.now.bits c.args.block true (rw (← c.self.view_is) c.if-not-get.ensures)))
