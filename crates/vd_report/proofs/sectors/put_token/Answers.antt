use Rattle.vd_report.proofs.Same.{token-same, token-mixed}
use Rattle.vd_report.proofs.sectors.put_token.Goals as goal

pub returns-in-Some-clause-writes : goal.returns-in-Some-clause-writes
returns-in-Some-clause-writes g c =
    rw (token-same c.args.sector.now.bytes c.in-Some.field-0 c.in-Some.ensures.same) (rw c.short_token.ensures.text at c.write.ensures.writes)

pub returns-in-None-clause-writes : goal.returns-in-None-clause-writes
returns-in-None-clause-writes g c =
    rw (token-mixed c.args.sector.now.bytes c.in-None.ensures.mixed) (rw c.long_token.ensures.text at c.write-in-None.ensures.writes)
