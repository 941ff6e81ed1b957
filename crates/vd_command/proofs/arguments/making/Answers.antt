use Rattle.std.proofs.Common.{refl}
use Rattle.vd_command.specs.Reading.{make_command}
use Rattle.vd_command.proofs.Making.{same_test}
use Rattle.vd_command.proofs.arguments.making.Goals as goal

pub returns-then-not-valid : goal.returns-then-not-valid
unfolding make_command
returns-then-not-valid c = rw (same_test _ _ c.requires c.valid.ensures, c.if-not-valid.true) refl

pub returns : goal.returns
unfolding make_command
returns c = rw (same_test _ _ c.requires c.valid.ensures, c.if-not-valid.false) refl
