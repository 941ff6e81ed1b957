use Rattle.std.proofs.Common.{◌-◌, length}
use Rattle.vd_keeper.proofs.Pouring.{IsPouring}
use Rattle.vd_keeper.proofs.sets.pour.Given as goal

abbrev pub invariant-loop-chunk : goal.invariant-loop-chunk
invariant-loop-chunk l = IsPouring l.fn.from l.fn.into l.from l.into l.at

abbrev pub decreases-loop-chunk : goal.decreases-loop-chunk
decreases-loop-chunk l = length l.chunks - l.at
