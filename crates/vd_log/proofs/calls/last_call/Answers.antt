use Rattle.vd_law.specs.Entries.{Past}
use Rattle.vd_law.specs.Calls.{last_call}
use Rattle.vd_law.proofs.Going.{going_on}
use Rattle.vd_log.proofs.calls.last_call.Goals as goal

pub loop-i-preserved : goal.loop-i-preserved
loop-i-preserved c =
    going_on (λ (p : Past). last_call p c.args.pass) c.args.log.now.entries c.loop-i.i _ _ _ c.event.ensures c.last_with-last.ensures c.loop-i.invariant
