use Rattle.vd_core.proofs.opening.end_passes.Given as goal

abbrev pub decreases-loop-p : goal.decreases-loop-p
decreases-loop-p l = goal.left-loop-p l
