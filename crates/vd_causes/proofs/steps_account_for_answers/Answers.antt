use Rattle.vd_causes.proofs.Laws.{accounted-kept, logged-kept}
use Rattle.vd_causes.proofs.steps_account_for_answers.Goals as goal

pub returns-clause-accounted : goal.returns-clause-accounted
returns-clause-accounted g c = λ i a b step was accounted. accounted-kept step was accounted

pub returns-clause-logged : goal.returns-clause-logged
returns-clause-logged g c = λ i a b step was logged told. logged-kept step was logged told
