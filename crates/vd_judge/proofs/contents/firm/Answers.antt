use Rattle.std.proofs.Common.{◌≡◌}
use Rattle.vd_law.specs.Entries.{Past}
use Rattle.vd_law.specs.Contents.{firm_after}
use Rattle.vd_law.proofs.Going.{goes_on}
use Rattle.vd_judge.proofs.contents.firm.Goals as goal

pub loop-i-preserved : goal.loop-i-preserved
loop-i-preserved c =
    goes_on (λ (p : Past). c.firm_with-firm.result ≡ firm_after p c.args.s) c.args.log.now.entries c.loop-i.i _ c.event.ensures (c.firm_with-firm.ensures c.loop-i.invariant)
