use Rattle.std.proofs.Common.{length, refl, arith}
use Rattle.vd_keeper.proofs.Moving.{fewer, joined-one, joined-all, none-left, lowest-inside}
use Rattle.vd_keeper.proofs.sets.join.Goals as goal

pub loop-member-init : goal.loop-member-init
loop-member-init c = record { size = c.requires; same = refl; both = refl }

pub mark-requires : goal.mark-requires
mark-requires c = omega (arith, c.loop-member.invariant.size, lowest-inside c.loop-member.from 0 c.in-Some.member c.in-Some.ensures.lowest)

pub loop-member-smaller : goal.loop-member-smaller
loop-member-smaller c = rw c.unmark.ensures (fewer c.loop-member.from 0 c.in-Some.member c.in-Some.ensures.lowest)

pub loop-member-preserved : goal.loop-member-preserved
loop-member-preserved c = rw (c.unmark.ensures, c.mark.ensures) (joined-one c.args.from.now c.args.into.now c.loop-member.from c.loop-member.into c.in-Some.member c.loop-member.invariant c.in-Some.ensures.lowest)

pub returns-clause-into : goal.returns-clause-into
returns-clause-into c = joined-all c.args.from.now c.args.into.now c.loop-member.from c.loop-member.into c.loop-member.invariant (c.in_default.ensures.none.0 refl)

pub returns-clause-empty : goal.returns-clause-empty
returns-clause-empty c = none-left c.loop-member.from (length c.args.from.now) (c.in_default.ensures.none.0 refl) c.loop-member.invariant.same
