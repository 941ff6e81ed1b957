use Rattle.std.proofs.Common.{arith}
use Rattle.vd_report.proofs.Guests.{guest-failed, guest-going, seen-next}
use Rattle.vd_report.proofs.Telling.{entry_at, at-entry_at}
use Rattle.vd_report.proofs.replies.put_guest.Goals as goal

pub returns-in_err-put_reply-clause-writes : goal.returns-in_err-put_reply-clause-writes
returns-in_err-put_reply-clause-writes g c = λ told.
    guest-failed c.args.guest c.args.log.now.entries c.loop-at.at (omega arith) c.from_residual.ensures.0
    (c.loop-at.invariant.wrote (c.put_reply.ensures.told_before told)) (c.in_err-put_reply.ensures.writes told)

pub loop-at-preserved : goal.loop-at-preserved
loop-at-preserved g c =
    let es = c.args.log.now.entries in
    let there = at-entry_at es c.loop-at.at (omega arith) in
    record {
      told_before = λ told. c.loop-at.invariant.told_before (c.put_reply.ensures.told_before told);
      wrote = λ told. guest-going c.args.guest es c.loop-at.at _ (omega arith)
          (c.loop-at.invariant.wrote (c.put_reply.ensures.told_before told)) (c.in_ok-put_reply.ensures.writes told);
      no_fewer_faults = omega arith;
      range = omega arith;
      seen = rw (c.asked_after-asked.ensures.next (entry_at es c.loop-at.at) there)
          (seen-next c.args.guest es c.loop-at.asked c.loop-at.at (entry_at es c.loop-at.at) c.loop-at.invariant.range (omega arith) there c.loop-at.invariant.seen);
    }
