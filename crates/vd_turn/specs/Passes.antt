-- What a pass knows, and what it is to a turn.
use Rattle.std.specs.Prelude.{◌≡◌, ◌≢◌, ◌⊎◌, ℕ, ◌%◌, ◌<◌, true, false, List, [], ◌∷◌, ◌++◌, map}
use Rattle.std.specs.List.{Contains}
use Rattle.atomic_table.specs.Seated.{TableId}
use Rattle.vd_turn.specs.declared.keeping.Kept.{Ghosts}
use Rattle.vd_turn.specs.Values.{TurnValue, PassValue}

module _ {V : Type 0} where
  abbrev pub pass_number : PassValue V → ℕ
  pass_number pass = pass.number

  -- the pass has the value x in hand
  abbrev pub HoldsValue : PassValue V → V → Type 0
  HoldsValue pass x = (pass.holds ≡ true) × (pass.last ≡ x)

  -- the pass holds nothing, and x is what it gave back last, or the value at making
  abbrev pub Rests : PassValue V → V → Type 0
  Rests pass x = (pass.holds ≡ false) × (pass.last ≡ x)

  -- a pass that has seen x and holds nothing, before its first try
  abbrev pub resting : TableId → V → ℕ → PassValue V
  resting turn x number = record { turn = turn; number = number; holds = false; last = x; found = [] }

  -- this try's load found a holder, or its exchange from the word that the load found, found another
  abbrev pub FindsTaken : PassValue V → PassValue V → Type 0
  FindsTaken before after =
      ((word : ℕ) × (after.found ≡ before.found ++ word ∷ []) × (word % 2 ≡ 1))
      ⊎ ((word : ℕ) × (other : ℕ) × (after.found ≡ before.found ++ word ∷ other ∷ []) × (other ≢ word))

  -- each pass of the turn is there
  abbrev pub HasAll : TurnValue V → List (PassValue V) → Type 0
  HasAll turn passes = (number : ℕ) → number < turn.passes → Contains (map pass_number passes) number

module _ {V E P F : Type 0} where
  -- the pass is one of the turn's, and the value that it knows has the turn's fixed part
  abbrev pub Belongs : Ghosts V E P F → TurnValue V → PassValue V → Type 0
  Belongs g turn pass = (pass.turn ≡ turn.id) × (g.fixed pass.last ≡ g.fixed turn.start)
