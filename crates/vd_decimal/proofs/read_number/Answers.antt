use Rattle.std.proofs.lemmas.Bool.{iff_false}
use Rattle.vd_decimal.proofs.Spelling.{IsUtf8-digits, plain-none, parse-spells, exact-value}
use Rattle.vd_decimal.proofs.read_number.Goals as goal

pub returns-then-not-are_plain-clause-exact : goal.returns-then-not-are_plain-clause-exact
returns-then-not-are_plain-clause-exact c = plain-none _ _ (iff_false c.are_plain.ensures c.if-not-are_plain.true)

pub returns-then-not-are_plain-clause-value : goal.returns-then-not-are_plain-clause-value
returns-then-not-are_plain-clause-value c = exact-value _ _ _ (plain-none _ _ (iff_false c.are_plain.ensures c.if-not-are_plain.true))

pub returns-in-Ok-clause-exact : goal.returns-in-Ok-clause-exact
returns-in-Ok-clause-exact c =
    rw c.ok.ensures.value (parse-spells c.args.most c.args.digits.now _ (c.are_plain.ensures.0 c.if-not-are_plain.false) (rw c.in-Ok.ensures.cases.0 at c.parse.ensures.value.0))

pub returns-in-Ok-clause-value : goal.returns-in-Ok-clause-value
returns-in-Ok-clause-value c = exact-value _ _ _ (returns-in-Ok-clause-exact c)

pub returns-in-Err-clause-exact : goal.returns-in-Err-clause-exact
returns-in-Err-clause-exact c = absurd (c.in-Err.ensures.cases.0 (IsUtf8-digits _ (c.are_plain.ensures.0 c.if-not-are_plain.false).digits))

pub returns-in-Err-clause-value : goal.returns-in-Err-clause-value
returns-in-Err-clause-value c = absurd (c.in-Err.ensures.cases.0 (IsUtf8-digits _ (c.are_plain.ensures.0 c.if-not-are_plain.false).digits))
