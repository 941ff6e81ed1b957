use Rattle.std.proofs.Common.{[], ◌∷◌, arith}
use Rattle.vd_device.proofs.Flights.{at_front}
use Rattle.vd_mem.proofs.tests.submit_alone.Goals as goal

pub returns-clause-alone : goal.returns-clause-alone
returns-clause-alone g c = c.submit_read.ensures.flight [] (c.submit_read.result ∷ []) (at_front c.submit_read.result []) (c.in_flight.ensures.none (omega arith))
