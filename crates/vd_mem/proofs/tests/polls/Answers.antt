use Rattle.std.proofs.Common.{[], ◌∷◌}
use Rattle.vd_device.proofs.Flights.{at_front}
use Rattle.vd_mem.proofs.tests.polls.Goals.{then-released, else-released}
use Rattle.vd_mem.proofs.tests.polls.Goals as goal

pub settle-requires-clause-mine : goal.settle-requires-clause-mine
settle-requires-clause-mine g c =
    ([], c.submit_alone-read.result ∷ [], at_front c.submit_alone-read.result [], c.submit_alone-read.ensures.alone)

pub release-requires-clause-alone : goal.release-requires-clause-alone
release-requires-clause-alone g c =
    let kept = c.in-NotYet.ensures.settles.settles in
    rw kept.0 (kept.2 (c.submit_alone-read.result ∷ []) c.submit_alone-read.ensures.alone)

pub poll_again-requires-clause-alone : goal.poll_again-requires-clause-alone
poll_again-requires-clause-alone g c =
    let kept = c.in-NotYet.ensures.settles.settles in
    elim c.if-released.branch [
      | then-released w ↦ rw w.store-is w.release.ensures
      | else-released w ↦ rw (w.store-is, kept.0) (kept.2 (c.submit_alone-read.result ∷ []) c.submit_alone-read.ensures.alone)
    ]
