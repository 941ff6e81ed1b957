use Rattle.vd_legal.proofs.Laws.{faithful-kept}
use Rattle.vd_legal.proofs.steps_stay_faithful.Goals as goal

-- src/lib.rt:27:1
pub returns : goal.returns
returns g c i a b step was told = faithful-kept step was told
