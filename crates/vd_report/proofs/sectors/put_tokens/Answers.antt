use Rattle.std.proofs.Common.{[], ◌++◌, arith}
use Rattle.std.specs.Prelude.{codes}
use Rattle.vd_report.specs.Tokens.{token}
use Rattle.vd_report.proofs.Pieces.{pieces-failed}
use Rattle.vd_report.proofs.sectors.put_tokens.Goals as goal

pub returns-in_err-put_token-clause-writes : goal.returns-in_err-put_token-clause-writes
returns-in_err-put_token-clause-writes g c = λ told.
    pieces-failed (λ s. codes " " ++ token s.bytes) c.args.sectors.now c.loop-sector.sector-index (record { bytes = [] }) (omega arith) c.from_residual.ensures.0
    (c.loop-sector.invariant.wrote (c.put_token.ensures.told_before told)) (c.in_err-put_token.ensures.writes told)
