-- The seat of a pass, and the pass as its callers see it.
use Rattle.std.proofs.Common.{◌≡◌, ℕ, ◌<◌, Bool, List, length, sym, refl, ap, ◌∙◌, subst, arith, Option}
use Rattle.atomic_table.specs.Table.{Me}
use Rattle.atomic_table.specs.Seated.{TableId}
use Rattle.vd_turn.specs.declared.board.View.{View}
use Rattle.vd_turn.specs.Values.{PassValue}
use Rattle.vd_turn.specs.Board.{knowing, known_last}

module _ {V : Type 0} where
  -- the pass that stands over this seat
  abbrev pub pass_over : TableId → ℕ → (m : Me (Option V) (View V)) → 0 < length m.0.notes → PassValue V
  pass_over turn number m some = record { turn = turn; number = number; holds = m.0.holds; last = known_last m.0.notes some; found = m.0.found }

  -- what the seat of a pass is
  pub seat_is : (turn : TableId) (number : ℕ) (m : Me (Option V) (View V)) (some : 0 < length m.0.notes) (v : PassValue V) → pass_over turn number m some ≡ v
      → m ≡ knowing number (known_last m.0.notes some) m.0.holds m.0.found → m ≡ knowing v.number v.last v.holds v.found
  seat_is turn number m some v is kept = subst (λ (u : PassValue V). m ≡ knowing u.number u.last u.holds u.found) is kept

  pub seat_when : (turn : TableId) (number : ℕ) (m : Me (Option V) (View V)) (some : 0 < length m.0.notes) (v : PassValue V) (holds : Bool) → pass_over turn number m some ≡ v
      → m ≡ knowing number (known_last m.0.notes some) m.0.holds m.0.found → v.holds ≡ holds → m ≡ knowing v.number v.last holds v.found
  seat_when turn number m some v holds is kept same = seat_is turn number m some v is kept ∙ ap (λ (b : Bool). knowing v.number v.last b v.found) same

  -- and back
  pub seat_kept : (own number : ℕ) (x : V) (holds : Bool) (found : List ℕ) (m : Me (Option V) (View V)) (some : 0 < length m.0.notes) → own ≡ number → m ≡ knowing number x holds found
      → m ≡ knowing own (known_last m.0.notes some) m.0.holds m.0.found
  seat_kept own number x holds found m some same is =
      subst (λ (k : Me (Option V) (View V)). (h : 0 < length k.0.notes) → k ≡ knowing own (known_last k.0.notes h) k.0.holds k.0.found) (sym is) (λ h. ap (λ (n : ℕ). knowing n x holds found) (sym same)) some

  pub last_is : (number : ℕ) (x : V) (holds : Bool) (found : List ℕ) (m : Me (Option V) (View V)) (some : 0 < length m.0.notes) → m ≡ knowing number x holds found → known_last m.0.notes some ≡ x
  last_is number x holds found m some is = subst (λ (k : Me (Option V) (View V)). (h : 0 < length k.0.notes) → known_last k.0.notes h ≡ x) (sym is) (λ h. refl) some

  pub some_note : (number : ℕ) (x : V) (holds : Bool) (found : List ℕ) (m : Me (Option V) (View V)) → m ≡ knowing number x holds found → 0 < length m.0.notes
  some_note number x holds found m is = subst (λ (k : Me (Option V) (View V)). 0 < length k.0.notes) (sym is) (omega arith)
