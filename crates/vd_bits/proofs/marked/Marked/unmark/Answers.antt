use Rattle.std.proofs.Common.{◌/◌, ◌<◌, false, length, set, sym, ap, arith, length-set, subst}
use Rattle.std.proofs.lemmas.List.{with_items_is}
use Rattle.vd_lists.proofs.Changes.{slice_set_unchanged}
use Rattle.vd_bits.specs.Searches.{HasOne, NoneOf}
use Rattle.vd_bits.proofs.SetLaws.{count-set_false}
use Rattle.vd_bits.proofs.MarkedLaws.{is_counted}
use Rattle.vd_bits.proofs.LevelLaws.{word_above, covered, kept-level}
use Rattle.vd_bits.proofs.marked.Marked.unmark.Goals as goal

pub returns-then-not-get : goal.returns-then-not-get
returns-then-not-get c = sym (slice_set_unchanged c.args.self.now c.args.page false (rw (← c.self.view_is) c.if-not-get.ensures))

pub overflow_sub-self : goal.overflow_sub-self
overflow_sub-self c =
    omega (arith, is_counted c.self.inside.flags c.args.page (omega (arith, ap length c.self.view_is)) c.if-not-get.ensures, c.self.invariant.count)

pub unmark_above-requires : goal.unmark_above-requires
unmark_above-requires c =
    rw c.deref_mut.ensures.value (word_above c.self.inside.flags c.self.inside.above.items c.args.page (omega (arith, ap length c.self.view_is)) c.self.invariant.covered.levels)

pub invariant_of-self : goal.invariant_of-self
invariant_of-self c =
    let flags = c.self.inside.flags in let inside : c.args.page < length flags = omega (arith, ap length c.self.view_is) in
    let none = subst (λ new. NoneOf new 64 (c.args.page / 64)) c.empties.ensures.level (c.empties.ensures.empty c.if-empties.true) in
    record {
      count = rw c.empties.ensures.level (omega (arith, count-set_false flags c.args.page inside c.if-not-get.ensures, c.self.invariant.count));
      fits = rw (c.empties.ensures.level, length-set) c.self.invariant.fits;
      covered = rw (c.empties.ensures.level, with_items_is c.self.inside.above c.unmark_above.new.above (omega arith)) (c.unmark_above.ensures flags inside none (rw c.deref_mut.ensures.value c.self.invariant.covered));
    }

pub invariant_of-self-else-empties : goal.invariant_of-self-else-empties
invariant_of-self-else-empties c =
    let flags = c.self.inside.flags in let inside : c.args.page < length flags = omega (arith, ap length c.self.view_is) in
    let one = subst (λ new. HasOne new 64 (c.args.page / 64)) c.empties.ensures.level (c.empties.ensures.kept c.if-empties.false) in
    let was = c.self.invariant.covered in
    record {
      count = rw c.empties.ensures.level (omega (arith, count-set_false flags c.args.page inside c.if-not-get.ensures, c.self.invariant.count));
      fits = rw (c.empties.ensures.level, length-set) c.self.invariant.fits;
      covered = rw c.empties.ensures.level
          (covered flags (set flags c.args.page false) c.self.inside.above.items c.self.inside.above.items (length-set flags c.args.page false) (omega arith) was
          (λ n high there. kept-level flags c.self.inside.above.items c.args.page inside was.levels 1 one n high (omega arith) there));
    }
