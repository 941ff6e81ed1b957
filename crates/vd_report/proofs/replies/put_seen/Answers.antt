use Rattle.std.proofs.Common.{arith}
use Rattle.vd_report.proofs.Telling.{shown-failed, shown-going}
use Rattle.vd_report.proofs.replies.put_seen.Goals as goal

pub returns-in_err-put_seen_at-clause-writes : goal.returns-in_err-put_seen_at-clause-writes
returns-in_err-put_seen_at-clause-writes g c = λ told.
    shown-failed c.args.guest c.args.log.now.entries c.args.from c.loop-at.at c.args.to (omega arith) (omega arith) (omega arith) c.from_residual.ensures.0
    (c.loop-at.invariant.wrote (c.put_seen_at.ensures.told_before told)) (c.in_err-put_seen_at.ensures.writes told)

pub loop-at-preserved : goal.loop-at-preserved
loop-at-preserved g c = record {
  told_before = λ told. c.loop-at.invariant.told_before (c.put_seen_at.ensures.told_before told);
  wrote = λ told. shown-going c.args.guest c.args.log.now.entries c.args.from c.loop-at.at _ (omega arith) (omega arith)
      (c.loop-at.invariant.wrote (c.put_seen_at.ensures.told_before told)) (c.in_ok-put_seen_at.ensures.writes told);
  no_fewer_faults = omega arith;
}
