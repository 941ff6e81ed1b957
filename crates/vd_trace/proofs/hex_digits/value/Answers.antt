use Rattle.vd_trace.proofs.Digits.{letter-worth, other-worth}
use Rattle.vd_trace.proofs.hex_digits.value.Goals as goal

pub returns-then-letter-lt6 : goal.returns-then-letter-lt6
returns-then-letter-lt6 c = letter-worth c.args.digit c.ranges.digit.fits c.if-number-lt10.false c.if-letter-lt6.true

pub returns-else-letter-lt6 : goal.returns-else-letter-lt6
returns-else-letter-lt6 c = other-worth c.args.digit c.ranges.digit.fits c.if-number-lt10.false c.if-letter-lt6.false
