use Rattle.vd_crash.proofs.facts.Moments.{safe_entry, safe_late, safe_other}
use Rattle.vd_crash.proofs.facts.safe_after_entry.Goals as goal

pub returns : goal.returns
returns c = record { last = safe_entry; late = safe_late; other = safe_other }
