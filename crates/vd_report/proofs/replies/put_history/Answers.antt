use Rattle.std.proofs.Common.{arith}
use Rattle.vd_report.proofs.Guests.{guests-failed}
use Rattle.vd_report.proofs.replies.put_history.Goals as goal

pub returns-in_err-put_guest-clause-writes : goal.returns-in_err-put_guest-clause-writes
returns-in_err-put_guest-clause-writes g c = λ told.
    guests-failed c.args.guests c.args.history.now.log.entries c.loop-before.before (omega arith) c.from_residual.ensures.0
    (c.loop-before.invariant.wrote (c.put_guest.ensures.told_before told)) (rw (← c.log.ensures.log) (c.in_err-put_guest.ensures.writes told))
