use Rattle.std.proofs.Common.{◌≡◌}
use Rattle.vd_law.specs.Entries.{Past}
use Rattle.vd_law.specs.Contents.{last_done}
use Rattle.vd_law.proofs.Going.{goes_on}
use Rattle.vd_judge.proofs.contents.last_done.Goals as goal

pub loop-i-preserved : goal.loop-i-preserved
loop-i-preserved c =
    goes_on (λ (p : Past). c.done_with-last.result ≡ last_done p c.args.s) c.args.log.now.entries c.loop-i.i _ c.event.ensures (c.done_with-last.ensures c.loop-i.invariant)
