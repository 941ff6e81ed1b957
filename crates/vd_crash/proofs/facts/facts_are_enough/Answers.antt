use Rattle.vd_crash.proofs.facts.Recovered.{safe_now}
use Rattle.vd_crash.proofs.facts.facts_are_enough.Goals as goal

pub returns : goal.returns
returns c = safe_now
