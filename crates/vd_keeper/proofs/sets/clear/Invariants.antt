use Rattle.std.proofs.Common.{◌≡◌, length}
use Rattle.vd_bits.specs.Marks.{count_true}
use Rattle.vd_keeper.proofs.sets.clear.Given as goal

abbrev pub invariant-loop-member : goal.invariant-loop-member
invariant-loop-member l = length l.set ≡ length l.fn.set

abbrev pub decreases-loop-member : goal.decreases-loop-member
decreases-loop-member l = count_true l.set
