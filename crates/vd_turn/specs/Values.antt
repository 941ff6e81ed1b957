-- What contracts see of a turn and of a pass.
use Rattle.std.specs.Prelude.{ℕ, Bool, List}
use Rattle.atomic_table.specs.Seated.{TableId}

-- the table tells it from every other turn; start is the value that it was made with
pub record TurnValue (V : Type 0) : Type 0 where
  pub id : TableId
  pub passes : ℕ
  pub start : V

-- last is the value that the pass took, while it holds, and else the one that it gave back last, at first the one at making;
-- found are the words that its tries to take have found
pub record PassValue (V : Type 0) : Type 0 where
  pub turn : TableId
  pub number : ℕ
  pub holds : Bool
  pub last : V
  pub found : List ℕ
