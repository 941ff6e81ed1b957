use Rattle.std.proofs.Common.{arith}
use Rattle.vd_law.specs.Entries.{Past}
use Rattle.vd_law.specs.Calls.{progress}
use Rattle.vd_law.proofs.Going.{going_on}
use Rattle.vd_judge.proofs.calls.progress.Goals as goal

pub loop-i-preserved : goal.loop-i-preserved
loop-i-preserved c = record {
  state = going_on (λ (p : Past). progress p c.args.id) c.args.log.now.entries c.loop-i.i _ _ _ c.event.ensures c.with_event-state.ensures.state c.loop-i.invariant.state;
  bound = omega (arith, c.with_event-state.ensures.bound, c.loop-i.invariant.bound);
}
