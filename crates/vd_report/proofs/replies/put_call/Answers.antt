use Rattle.vd_io.proofs.Composing.{writes-failed, writes-after}
use Rattle.vd_report.proofs.replies.put_call.Goals as goal

pub returns-in_err-put_head-clause-writes : goal.returns-in_err-put_head-clause-writes
returns-in_err-put_head-clause-writes g c = λ told. writes-failed _ c.from_residual.ensures.0 (c.in_err-put_head.ensures.writes told)

pub returns-in_err-put_seen_after-clause-writes : goal.returns-in_err-put_seen_after-clause-writes
returns-in_err-put_seen_after-clause-writes g c = λ told.
    writes-after _ (c.in_ok-put_head.ensures.writes (c.put_seen_after.ensures.told_before told)).ok
    (writes-failed _ c.from_residual-in_err-put_seen_after.ensures.0 (c.in_err-put_seen_after.ensures.writes told))

pub returns-clause-writes : goal.returns-clause-writes
returns-clause-writes g c = λ told.
    let written = c.write.ensures.told_before told in
    writes-after _ (c.in_ok-put_head.ensures.writes (c.put_seen_after.ensures.told_before written)).ok
    (writes-after _ (c.in_ok-put_seen_after.ensures.writes written).ok (c.write.ensures.writes told))
