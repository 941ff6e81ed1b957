use Rattle.vd_crash.proofs.flushes.Moves.{every_run}
use Rattle.vd_crash.proofs.flushes.every_run_is_safe.Goals as goal

pub returns : goal.returns
returns c = every_run
