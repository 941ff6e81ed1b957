use Rattle.vd_report.proofs.Counting.{counts-more}
use Rattle.vd_report.proofs.sum.sum_of.Goals as goal

pub loop-at-preserved : goal.loop-at-preserved
loop-at-preserved c = counts-more c.args.guests c.args.log.now.entries c.loop-at.at _ c.loop-at.sum c.with_entry-sum.result c.event.ensures c.loop-at.invariant c.with_entry-sum.ensures
