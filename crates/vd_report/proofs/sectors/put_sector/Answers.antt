use Rattle.vd_report.proofs.Same.{token-same, token-mixed, take-behind}
use Rattle.vd_report.proofs.sectors.put_sector.Goals as goal

pub returns-in-Some-clause-writes : goal.returns-in-Some-clause-writes
returns-in-Some-clause-writes g c =
    rw (token-same c.args.sector.now.bytes c.in-Some.field-0 c.in-Some.ensures.same)
    (rw (take-behind 3 32 _ _ c.short_token.ensures.text c.short_token.ensures.size) at c.write.ensures.writes)

pub returns-in-None-clause-writes : goal.returns-in-None-clause-writes
returns-in-None-clause-writes g c =
    rw (token-mixed c.args.sector.now.bytes c.in-None.ensures.mixed)
    (rw (take-behind 1024 32 _ _ c.long_token.ensures.text c.long_token.ensures.size) at c.write-in-None.ensures.writes)
