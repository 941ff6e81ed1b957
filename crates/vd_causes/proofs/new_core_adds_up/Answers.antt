use Rattle.vd_causes.proofs.WearingFlushes.{new-worn}
use Rattle.vd_causes.proofs.new_core_adds_up.Goals as goal

pub returns : goal.returns
returns c = λ k r empty idle. new-worn {k = k} {r = r} empty idle
