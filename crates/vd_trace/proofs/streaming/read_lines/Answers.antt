use Rattle.std.proofs.Common.{arith, ◌≡◌, ◌<◌, ◌++◌, [], ◌∷◌, List, ℕ, length, subst, sym, ◌∙◌}
use Rattle.std.proofs.lemmas.Result.{err_from_is_err_and, MatchResult-weaker}
use Rattle.std.specs.Str.Lines.{lines}
use Rattle.vd_trace.specs.Keeping.{HasReadLines}
use Rattle.vd_trace.specs.Streaming.{EndsBy}
use Rattle.vd_trace.proofs.Readings.{stops-ends, all-read, last-left, no-source}
use Rattle.vd_trace.proofs.streaming.read_lines.Goals as goal

pub returns-in_err-step-clause-reads : goal.returns-in_err-step-clause-reads
returns-in_err-step-clause-reads g c = λ told.
    let p = err_from_is_err_and c.from_residual.result c.from_residual.ensures.1 in
    rw (p.1, p.2, ← c.pieces.invariant.guests) (c.in_err-step.ensures.goes (lines (g.I.Source.rest c.args.source.now)) c.pieces.invariant.stands)

pub returns-then-len-eq0-clause-kept : goal.returns-then-len-eq0-clause-kept
returns-then-len-eq0-clause-kept g c =
    let stands = c.in_ok-step.ensures.goes (lines (g.I.Source.rest c.args.source.now)) c.pieces.invariant.stands in (stands.done, stands.read)

pub returns-then-len-eq0-clause-reads : goal.returns-then-len-eq0-clause-reads
returns-then-len-eq0-clause-reads g c = λ told.
    let all = lines (g.I.Source.rest c.args.source.now) in
    let stands = c.in_ok-step.ensures.goes all c.pieces.invariant.stands in
    let ended = c.in_ok-step.ensures.ended c.if-branch.true in
    let empty : length c.step.new.window ≡ 0 = omega (arith, c.len.ensures.value, c.if-len-eq0.true) in
    all-read all (g.I.Source.tells c.step.new.source) c.step.new.window (g.I.Source.rest c.step.new.source) c.step.new.draft stands told (ended.1 told) empty

pub take-requires : goal.take-requires
take-requires g c =
    let stands = c.in_ok-step.ensures.goes (lines (g.I.Source.rest c.args.source.now)) c.pieces.invariant.stands in (stands.done, stands.read)

pub returns-clause-kept : goal.returns-clause-kept
returns-clause-kept g c =
    let stands = c.in_ok-step.ensures.goes (lines (g.I.Source.rest c.args.source.now)) c.pieces.invariant.stands in
    MatchResult-weaker c.take.result (c.take.ensures.reads stands.done stands.read) (λ u read. (_, read)) (λ e stops. tt)

pub returns-clause-reads : goal.returns-clause-reads
returns-clause-reads g c = λ told.
    let all : List (List ℕ) = lines (g.I.Source.rest c.args.source.now) in
    let stands = c.in_ok-step.ensures.goes all c.pieces.invariant.stands in
    let ended = c.in_ok-step.ensures.ended c.if-branch.true in
    let some : 0 < length c.step.new.window = omega (arith, c.len.ensures.value, c.if-len-eq0.false) in
    let whole : all ≡ stands.done ++ c.bytes.result.now ∷ [] =
    rw c.bytes.ensures (last-left all (g.I.Source.tells c.step.new.source) c.step.new.window (g.I.Source.rest c.step.new.source) c.step.new.draft stands told (ended.1 told) ended.0 some) in
    MatchResult-weaker c.take.result (c.take.ensures.reads stands.done stands.read) (λ u read. subst (λ (done : List (List ℕ)). HasReadLines done c.take.new.draft) (sym whole) read)
    (λ e stops. subst (λ (n : ℕ). EndsBy n all (g.I.Source.tells c.step.new.source) e) (c.in_ok-step.ensures.guests ∙ c.pieces.invariant.guests)
    (stops-ends c.step.new.draft.guests all stands.done c.bytes.result.now [] (g.I.Source.tells c.step.new.source) e (λ now. whole) stops))

pub returns-clause-cause : goal.returns-clause-cause
returns-clause-cause g c =
    let stands = c.in_ok-step.ensures.goes (lines (g.I.Source.rest c.args.source.now)) c.pieces.invariant.stands in
    MatchResult-weaker c.take.result (c.take.ensures.reads stands.done stands.read) (λ u read. tt) (λ e stops is. absurd (no-source c.step.new.draft.guests stands.done c.bytes.result.now e is stops))

pub returns-in_err-step-clause-behind : goal.returns-in_err-step-clause-behind
returns-in_err-step-clause-behind g c = λ told.
    let p = err_from_is_err_and c.from_residual.result c.from_residual.ensures.1 in
    rw (p.1, p.2, ← c.pieces.invariant.guests) (c.in_err-step.ensures.takes (g.I.Source.rest c.args.source.now) c.pieces.invariant.taken told)

pub returns-clause-behind : goal.returns-clause-behind
returns-clause-behind g c = λ told.
    let stands = c.in_ok-step.ensures.goes (lines (g.I.Source.rest c.args.source.now)) c.pieces.invariant.stands in
    MatchResult-weaker c.take.result (c.take.ensures.reads stands.done stands.read) (λ u read. tt) (λ e stops is. absurd (no-source c.step.new.draft.guests stands.done c.bytes.result.now e is stops))
