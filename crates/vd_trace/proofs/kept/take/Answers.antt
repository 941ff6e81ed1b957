use Rattle.std.proofs.Common.{refl}
use Rattle.vd_trace.proofs.Drafts.{shown-now, stops-bad, stops-much, read-more, taken-next}
use Rattle.vd_trace.proofs.kept.take.Goals as goal

pub returns-in_default-clause-reads : goal.returns-in_default-clause-reads
returns-in_default-clause-reads c = λ done read. stops-bad done c.args.draft.now c.args.line.now c.from-number.result read c.from-number.ensures
    (λ ms keeps says good. let none = (c.in_default.ensures ms (shown-now ms c.args.draft.now c.is_empty-shown.result keeps c.is_empty-shown.ensures) says).1 good in cc)

pub returns-then-not-is_within-clause-reads : goal.returns-then-not-is_within-clause-reads
returns-then-not-is_within-clause-reads c = λ done read. stops-much done c.args.draft.now c.args.line.now c.from-number.result c.in-Some.says read c.from-number.ensures
    (λ ms keeps. (c.in-Some.ensures ms (shown-now ms c.args.draft.now c.is_empty-shown.result keeps c.is_empty-shown.ensures) c.in-Some.says).0 refl)
    (λ within. let no = c.if-not-is_within.ensures.1 within in cc)

pub keep-requires : goal.keep-requires
keep-requires c =
    let within = c.if-not-is_within.ensures.0 refl in
    taken-next c.requires.0 c.args.draft.now c.args.line.now c.in-Some.says c.requires.1
    (λ ms keeps. (c.in-Some.ensures ms (shown-now ms c.args.draft.now c.is_empty-shown.result keeps c.is_empty-shown.ensures) c.in-Some.says).0 refl) within.0 within.1

pub returns-clause-reads : goal.returns-clause-reads
returns-clause-reads c = λ done read.
    let within = c.if-not-is_within.ensures.0 refl in
    read-more done c.args.draft.now c.keep.new.draft c.args.line.now c.in-Some.says read
    (λ ms keeps. (c.in-Some.ensures ms (shown-now ms c.args.draft.now c.is_empty-shown.result keeps c.is_empty-shown.ensures) c.in-Some.says).0 refl) within.0 within.1 c.in_ok-keep.ensures
