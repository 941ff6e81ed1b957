use Rattle.std.proofs.Common.{◌∙◌}
use Rattle.std.proofs.lemmas.Result.{err_from_is_err_and}
use Rattle.vd_trace.proofs.Verdicts.{accepts-err, accepts-ok, kept-trace}
use Rattle.vd_trace.proofs.trace.Trace.read.Goals as goal

pub returns-in_err-read_lines-clause-accepts : goal.returns-in_err-read_lines-clause-accepts
returns-in_err-read_lines-clause-accepts g c = λ told says spelled.
    let p = err_from_is_err_and c.from_residual-in_err-read_lines.result c.from_residual-in_err-read_lines.ensures.1 in
    rw (p.1, p.2) (accepts-err c.args.guests (g.I.Source.rest c.args.source.now) says (g.I.Source.tells c.read_lines.new.source) c.in_err-read_lines.field-0.0 told spelled
    (rw (← c.in_ok-draft.ensures.guests) (c.in_err-read_lines.ensures.reads told)))

pub returns-clause-accepts : goal.returns-clause-accepts
returns-clause-accepts g c = λ told says spelled.
    accepts-ok c.args.guests (g.I.Source.rest c.args.source.now) says c.read_lines.new.draft (c.in_ok-read_lines.ensures.guests ∙ c.in_ok-draft.ensures.guests) spelled (c.in_ok-read_lines.ensures.reads told)

pub invariant_of-result : goal.invariant_of-result
invariant_of-result g c = kept-trace c.read_lines.new.draft c.in_ok-read_lines.ensures.kept.0 c.in_ok-read_lines.ensures.kept.1

pub returns-in_err-read_lines-clause-behind : goal.returns-in_err-read_lines-clause-behind
returns-in_err-read_lines-clause-behind g c = λ told.
    let p = err_from_is_err_and c.from_residual-in_err-read_lines.result c.from_residual-in_err-read_lines.ensures.1 in
    rw (p.1, p.2, ← c.in_ok-draft.ensures.guests) (c.in_err-read_lines.ensures.behind told)
