use Rattle.std.proofs.Common.{◌-◌, length}
use Rattle.vd_core.proofs.Copied.{IsCopied}
use Rattle.vd_core.proofs.opening.copied.Given as goal

abbrev pub invariant-loop-page : goal.invariant-loop-page
invariant-loop-page l = IsCopied l.from l.marks l.copy

abbrev pub decreases-loop-page : goal.decreases-loop-page
decreases-loop-page l = length l.marks - l.from
