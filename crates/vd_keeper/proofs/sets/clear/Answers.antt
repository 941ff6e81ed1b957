use Rattle.std.proofs.Common.{length, refl, ◌∙◌, length-set, false}
use Rattle.vd_keeper.proofs.Moving.{fewer, none-left}
use Rattle.vd_keeper.proofs.sets.clear.Goals as goal

pub loop-member-smaller : goal.loop-member-smaller
loop-member-smaller c = rw c.unmark.ensures (fewer c.loop-member.set 0 c.in-Some.member c.in-Some.ensures.lowest)

pub loop-member-preserved : goal.loop-member-preserved
loop-member-preserved c = rw c.unmark.ensures (length-set c.loop-member.set c.in-Some.member false ∙ c.loop-member.invariant)

pub returns : goal.returns
returns c = none-left c.loop-member.set (length c.args.set.now) (c.in_default.ensures.none.0 refl) c.loop-member.invariant
