use Rattle.std.proofs.Common.{◌∙◌, sym}
use Rattle.vd_run.proofs.running.look.Goals as goal

pub returns-clause-size : goal.returns-clause-size
returns-clause-size g c = λ told. c.sectors-sectors.ensures.held told ∙ sym (c.sectors-sectors.ensures.start (c.in_flight-flying.ensures.recorded told))
