use Rattle.std.proofs.Common.{length, arith}
use Rattle.vd_law.specs.Entries.{Past}
use Rattle.vd_law.specs.Contents.{issued_contents}
use Rattle.vd_law.proofs.Going.{going_on}
use Rattle.vd_faults.proofs.failures.written.Goals as goal

pub loop-i-preserved : goal.loop-i-preserved
loop-i-preserved c = (
  omega (arith, c.loop-i.invariant.0, c.written_with-count.ensures.bound),
  going_on (λ (p : Past). length (issued_contents p c.args.s)) c.args.log.now.entries c.loop-i.i _ _ _ c.event.ensures c.written_with-count.ensures.count c.loop-i.invariant.1,
)
