use Rattle.std.proofs.Common.{sym}
use Rattle.vd_core.proofs.Known.{known-history}
use Rattle.vd_core.proofs.state.Core.history.Goals as goal

pub returns-clause-known : goal.returns-clause-known
returns-clause-known g c = rw (sym c.self.view_is) (known-history c.self.invariant.0 c.in_flight-flight.ensures.recorded)
