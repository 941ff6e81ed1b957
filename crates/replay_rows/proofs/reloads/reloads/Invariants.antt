use Rattle.vd_replay.specs.States.{IsSized}
use Rattle.replay_rows.proofs.reloads.reloads.Given as goal

abbrev pub invariant-loop-changes : goal.invariant-loop-changes
invariant-loop-changes g l = IsSized l.state
