use Rattle.vd_crash.proofs.facts.New.{opening_can_be_met}
use Rattle.vd_crash.proofs.facts.an_opening_can_be_met.Goals as goal

pub returns : goal.returns
returns c = opening_can_be_met
