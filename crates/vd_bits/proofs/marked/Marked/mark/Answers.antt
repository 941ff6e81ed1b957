use Rattle.std.proofs.Common.{◌<◌, true, length, sym, ap, arith, length-set}
use Rattle.std.proofs.lemmas.List.{with_items_is}
use Rattle.vd_lists.proofs.Changes.{slice_set_unchanged}
use Rattle.vd_bits.proofs.SetLaws.{count-set_true}
use Rattle.vd_bits.proofs.MarkedLaws.{has_room}
use Rattle.vd_bits.proofs.LevelLaws.{word_above}
use Rattle.vd_bits.proofs.marked.Marked.mark.Goals as goal

pub returns-then-get : goal.returns-then-get
returns-then-get c = sym (slice_set_unchanged c.args.self.now c.args.page true (rw (← c.self.view_is) c.if-get.ensures))

pub overflow_add-self : goal.overflow_add-self
overflow_add-self c =
    omega (arith, has_room c.self.inside.flags c.args.page (omega (arith, ap length c.self.view_is)) c.if-get.ensures, c.self.invariant.count, c.self.invariant.fits)

pub mark_above-requires : goal.mark_above-requires
mark_above-requires c =
    rw c.deref_mut.ensures.value (word_above c.self.inside.flags c.self.inside.above.items c.args.page (omega (arith, ap length c.self.view_is)) c.self.invariant.covered.levels)

pub invariant_of-self : goal.invariant_of-self
invariant_of-self c =
    let flags = c.self.inside.flags in let inside : c.args.page < length flags = omega (arith, ap length c.self.view_is) in
    record {
      count = rw c.put.ensures (omega (arith, count-set_true flags c.args.page inside c.if-get.ensures, c.self.invariant.count));
      fits = rw (c.put.ensures, length-set) c.self.invariant.fits;
      covered = rw (c.put.ensures, with_items_is c.self.inside.above c.mark_above.new.above (omega arith)) (c.mark_above.ensures flags inside (rw c.deref_mut.ensures.value c.self.invariant.covered));
    }
