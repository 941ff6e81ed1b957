use Rattle.vd_bits.specs.Marks.{count_true}
use Rattle.vd_keeper.proofs.Moving.{IsJoining}
use Rattle.vd_keeper.proofs.sets.join.Given as goal

abbrev pub invariant-loop-member : goal.invariant-loop-member
invariant-loop-member l = IsJoining l.fn.from l.fn.into l.from l.into

abbrev pub decreases-loop-member : goal.decreases-loop-member
decreases-loop-member l = count_true l.from
