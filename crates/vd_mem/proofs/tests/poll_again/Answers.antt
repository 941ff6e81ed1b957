use Rattle.std.proofs.Common.{[], ◌∷◌}
use Rattle.vd_device.proofs.Flights.{at_front}
use Rattle.vd_mem.proofs.tests.poll_again.Goals as goal

pub settle-requires-clause-mine : goal.settle-requires-clause-mine
settle-requires-clause-mine c = ([], c.args.read ∷ [], at_front c.args.read [], c.requires.alone)
