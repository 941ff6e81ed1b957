use Rattle.vd_crash.proofs.facts.Opened.{holds_at_opening}
use Rattle.vd_crash.proofs.facts.facts_at_opening.Goals as goal

pub returns : goal.returns
returns c = holds_at_opening
