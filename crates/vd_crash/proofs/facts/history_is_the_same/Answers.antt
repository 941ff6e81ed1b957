use Rattle.vd_crash.proofs.facts.Histories.{events_numbered, up_to_first}
use Rattle.vd_crash.proofs.facts.history_is_the_same.Goals as goal

pub returns : goal.returns
returns c = record { all = events_numbered; first = up_to_first }
