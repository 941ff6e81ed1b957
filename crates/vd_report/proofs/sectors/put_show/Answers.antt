use Rattle.vd_io.proofs.Composing.{writes-failed, writes-after}
use Rattle.vd_report.proofs.sectors.put_show.Goals as goal

pub returns-in_err-put_phrase-clause-writes : goal.returns-in_err-put_phrase-clause-writes
returns-in_err-put_phrase-clause-writes g c = λ told. writes-failed _ c.from_residual.ensures.0 (c.in_err-put_phrase.ensures.writes told)

pub returns-in_err-put_tokens-clause-writes : goal.returns-in_err-put_tokens-clause-writes
returns-in_err-put_tokens-clause-writes g c = λ told.
    writes-after _ (c.in_ok-put_phrase.ensures.writes (c.put_tokens.ensures.told_before told)).ok
    (writes-failed _ c.from_residual-in_err-put_tokens.ensures.0 (c.in_err-put_tokens.ensures.writes told))

pub returns-clause-writes : goal.returns-clause-writes
returns-clause-writes g c = λ told.
    let written = c.write.ensures.told_before told in
    writes-after _ (c.in_ok-put_phrase.ensures.writes (c.put_tokens.ensures.told_before written)).ok
    (writes-after _ (c.in_ok-put_tokens.ensures.writes written).ok (c.write.ensures.writes told))
