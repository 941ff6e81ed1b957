use Rattle.core_rows.proofs.Runs.{entered, entered-others}
use Rattle.core_rows.proofs.calls.kept_out.Goals as goal

pub returns-in-Ok-clause-busy : goal.returns-in-Ok-clause-busy
returns-in-Ok-clause-busy g c = entered c.in-Ok.ensures.enters.enters.enters c.requires.asked

pub returns-in-Ok-clause-others : goal.returns-in-Ok-clause-others
returns-in-Ok-clause-others g c = entered-others c.in-Ok.ensures.enters.enters.enters
