-- What is written through `value_mut`.
use Rattle.std.specs.Borrow.{Lends, MutBor, Fml}
use denote.RattleType.{RattleType}
use Rattle.vd_turn.specs.contracts.holding.Held.{the_row}

-- h ends with the last value behind r
abbrev pub LendsValue : (R : RattleType) → MutBor R.Denot → MutBor R.Denot → Fml
LendsValue R h r = Lends (the_row R) R h r (λ x. x)
