use Rattle.std.proofs.Common.{arith, ◌<◌, length}
use Rattle.std.proofs.lemmas.Result.{err_from_is_err_and}
use Rattle.vd_trace.proofs.Readings.{took-line, refused-line, long-stops, no-source}
use Rattle.vd_trace.proofs.Taken.{more-taken}
use Rattle.vd_trace.proofs.streaming.step.Goals as goal

pub returns-in_err-take-in-Some-clause-goes : goal.returns-in_err-take-in-Some-clause-goes
returns-in_err-take-in-Some-clause-goes g c = λ all stands.
    let p = err_from_is_err_and c.from_residual.result c.from_residual.ensures.1 in
    rw (p.1, p.2) (refused-line all (g.I.Source.tells c.args.source.now) c.args.window.now (g.I.Source.rest c.args.source.now) c.stripped.result.now c.in-Some.end c.args.draft.now
    c.in_err-take-in-Some.field-0.0 stands (rw c.bytes.ensures at c.in-Some.ensures) (rw c.bytes-in-Some.ensures at c.stripped.ensures) c.in_err-take-in-Some.ensures.reads)

pub returns-in_err-take-in-Some-clause-cause : goal.returns-in_err-take-in-Some-clause-cause
returns-in_err-take-in-Some-clause-cause g c =
    let p = err_from_is_err_and c.from_residual.result c.from_residual.ensures.1 in
    rw (p.1, p.2) (λ e. absurd (no-source c.args.draft.now.guests c.requires.0 c.stripped.result.now c.in_err-take-in-Some.field-0.0 e (c.in_err-take-in-Some.ensures.reads c.requires.0 c.requires.1)))

pub returns-then-len-clause-goes : goal.returns-then-len-clause-goes
returns-then-len-clause-goes g c = λ all stands.
    let long : 1101 < length c.args.window.now = omega (arith, c.if-len.true, c.len.ensures.value) in
    long-stops all (g.I.Source.tells c.args.source.now) c.args.window.now (g.I.Source.rest c.args.source.now) c.args.draft.now c.from.result stands
    (rw c.bytes.ensures at c.in-None.ensures) long c.from.ensures

pub returns-in_ok-take-in-Some-clause-goes : goal.returns-in_ok-take-in-Some-clause-goes
returns-in_ok-take-in-Some-clause-goes g c = λ all stands.
    took-line all (g.I.Source.tells c.args.source.now) c.args.window.now c.skip.new.self (g.I.Source.rest c.args.source.now) c.stripped.result.now c.in-Some.end c.args.draft.now c.take.new.draft
    stands (rw c.bytes.ensures at c.in-Some.ensures) (rw c.bytes-in-Some.ensures at c.stripped.ensures) c.skip.ensures c.in_ok-take-in-Some.ensures.reads

pub returns-in_err-take-in-Some-clause-takes : goal.returns-in_err-take-in-Some-clause-takes
returns-in_err-take-in-Some-clause-takes g c = λ all taken told.
    let p = err_from_is_err_and c.from_residual.result c.from_residual.ensures.1 in
    rw (p.1, p.2) (λ e. absurd (no-source c.args.draft.now.guests c.requires.0 c.stripped.result.now c.in_err-take-in-Some.field-0.0 e (c.in_err-take-in-Some.ensures.reads c.requires.0 c.requires.1)))

pub returns-in_ok-take-in-Some-clause-takes : goal.returns-in_ok-take-in-Some-clause-takes
returns-in_ok-take-in-Some-clause-takes g c = λ all taken told.
    more-taken all c.args.window.now c.skip.new.self (g.I.Source.rest c.args.source.now) c.stripped.result.now c.in-Some.end c.args.draft.now c.take.new.draft
    (taken told) (rw c.bytes.ensures at c.in-Some.ensures) (rw c.bytes-in-Some.ensures at c.stripped.ensures) c.skip.ensures c.in_ok-take-in-Some.ensures.reads
