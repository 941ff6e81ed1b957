use Rattle.vd_safety.proofs.Laws.{safely-kept, stopped-kept}
use Rattle.vd_safety.proofs.steps_stay_safe.Goals as goal

pub returns-clause-safe : goal.returns-clause-safe
returns-clause-safe g c = λ i before after step was faithful logged safe. safely-kept step was faithful logged safe

pub returns-clause-stopped : goal.returns-clause-stopped
returns-clause-stopped g c = λ i before after step was safe stopped. stopped-kept step was safe stopped
