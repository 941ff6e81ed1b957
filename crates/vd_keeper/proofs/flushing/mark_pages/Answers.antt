use Rattle.std.proofs.Common.{◌-◌, refl, arith}
use Rattle.vd_keeper.proofs.PageMarks.{page-inside, marking-one, marking-all}
use Rattle.vd_keeper.proofs.flushing.mark_pages.Goals as goal

pub loop-chunk-init : goal.loop-chunk-init
loop-chunk-init c = record { size = refl; both = refl }

pub mark-requires : goal.mark-requires
mark-requires c = page-inside c.args.set.now c.args.marked.now c.loop-chunk.marked c.loop-chunk.at c.in-Some.chunk c.loop-chunk.invariant c.in-Some.ensures.next c.requires.enough

pub overflow_add-at : goal.overflow_add-at
overflow_add-at c = omega (arith, c.in-Some.ensures.next.below, c.requires.few)

pub loop-chunk-smaller : goal.loop-chunk-smaller
loop-chunk-smaller c = omega (arith, c.in-Some.ensures.next.below, c.in-Some.ensures.next.from_on)

pub loop-chunk-preserved : goal.loop-chunk-preserved
loop-chunk-preserved c = rw c.mark.ensures (marking-one c.args.set.now c.args.marked.now c.loop-chunk.marked c.loop-chunk.at c.in-Some.chunk c.loop-chunk.invariant c.in-Some.ensures.next c.requires.enough)

pub returns : goal.returns
returns c = marking-all c.args.set.now c.args.marked.now c.loop-chunk.marked c.loop-chunk.at c.loop-chunk.invariant (c.in_default.ensures.none.0 refl)
