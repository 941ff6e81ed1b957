use Rattle.vd_causes.proofs.worns_are_caused.Goals as goal

pub returns : goal.returns
returns c = λ at_opening k r rises. rises.caused
