use Rattle.vd_crash.proofs.primitives.Keeping.{every_interleaving}
use Rattle.vd_crash.proofs.primitives.every_interleaving_is_safe.Goals as goal

pub returns : goal.returns
returns c = every_interleaving
