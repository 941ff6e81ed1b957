use Rattle.vd_crash.proofs.flushes.Moves.{opening_keeps, step_keeps}
use Rattle.vd_crash.proofs.flushes.each_step_keeps.Goals as goal

pub returns : goal.returns
returns c = record { opening = opening_keeps; step = step_keeps }
