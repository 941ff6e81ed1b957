use Rattle.vd_metadata.proofs.Laws.{metadata-kept}
use Rattle.vd_metadata.proofs.steps_attend_to_metadata.Goals as goal

pub returns : goal.returns
returns g c = λ i c c' step was. metadata-kept step was
