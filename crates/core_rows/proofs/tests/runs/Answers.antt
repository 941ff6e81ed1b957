use Rattle.std.proofs.Common.{arith}
use Rattle.core_rows.proofs.Runs.{all-idle}
use Rattle.core_rows.proofs.tests.runs.Goals as goal

pub loop-call-init : goal.loop-call-init
loop-call-init g c = let made = c.in_ok-core.ensures in (made.idle 0 (omega arith), made.size, made.passes)

pub finish-history-requires : goal.finish-history-requires
finish-history-requires g c = let now = c.loop-call.invariant in record { idle = all-idle c.loop-call.core.passes now.2 now.0 }
