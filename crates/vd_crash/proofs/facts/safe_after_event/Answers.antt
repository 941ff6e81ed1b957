use Rattle.vd_crash.proofs.facts.Moments.{safe_event}
use Rattle.vd_crash.proofs.facts.safe_after_event.Goals as goal

pub returns : goal.returns
returns c = safe_event
