use Rattle.vd_format.proofs.BackgroundLaws.{filled_zero}
use Rattle.vd_format.proofs.zeros.zero.Goals as goal

pub returns : goal.returns
returns c = filled_zero c.filled.result c.filled.ensures
