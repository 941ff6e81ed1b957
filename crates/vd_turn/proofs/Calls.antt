-- The steps, for a seat that is known by an equation.
use Rattle.std.proofs.Common.{◌≡◌, ◌≢◌, ℕ, ◌+◌, ◌*◌, ◌%◌, eqb, true, false, List, [], ◌∷◌, ◌++◌, sym, ap, ◌∙◌, subst, arith, Option, Some, None}
use mathlib.Core.Option.{none}
use prog.Atomic.{either}
use Rattle.std.proofs.lemmas.List.Elements.{All-head}
use Rattle.std.specs.List.{All}
use Rattle.atomic_table.specs.Table.{State, Me, step, Allows, rest}
use Rattle.vd_turn.specs.declared.board.Note.{Note}
use Rattle.vd_turn.specs.declared.board.View.{View}
use Rattle.vd_turn.specs.declared.keeping.Kept.{Ghosts}
use Rattle.vd_turn.specs.Values.{PassValue}
use Rattle.vd_turn.specs.Lists.{IsLaterFor, IsGrownBy, size}
use Rattle.vd_turn.specs.Board.{note, view_of, noting, knowing, finding, LoadsWord, HasOneValue, IsTaken, TakesValue, GivesValueBack}
use Rattle.vd_turn.proofs.Steps.{looks, takes_value, gives_value}
use Rattle.vd_turn.proofs.Entries.{later_reflexive, later_carries}

module _ {S : Type 0} where
  slot_in : S → List (ℕ × S) → S
  slot_in d [] = d
  slot_in d (x ∷ xs) = x.1

  pub front : (l r : List (ℕ × S)) (x : ℕ × S) → l ≡ x ∷ r → l ≡ x ∷ rest l
  front l r x e = e ∙ ap (λ cs. x ∷ rest cs) (sym e)

  pub same_slot : (l m : List (ℕ × S)) (x y : S) → l ≡ (0, x) ∷ m → l ≡ (0, y) ∷ rest l → y ≡ x
  unfolding slot_in
  same_slot l m x y e f = ap (slot_in x) (sym f ∙ e)

-- what a seat is that has the value x in hand
abbrev pub in_hand : {V : Type 0} → ℕ → V → V → List ℕ → Me (Option V) (View V)
in_hand pass last x found = (view_of (note pass last ∷ []) true found, (0, Some x) ∷ [])

module _ {V E P F : Type 0} (g : Ghosts V E P F) where
  abbrev M : Type 0
  M = Me (Option V) (View V)

  abbrev Rule : ℕ → State (Option V) (View V) → Type 0
  Rule passes = HasOneValue (IsLaterFor g) (size g) passes

  pub may_look : (passes slots id pass : ℕ) (last : V) (fs : List ℕ) (m : M) → m ≡ knowing pass last false fs → Allows (Rule passes) slots id m 0 (λ n. n) (LoadsWord (step slots 0 0 0 none) m)
  may_look passes slots id pass last fs m is =
      subst (λ (z : M). Allows (Rule passes) slots id z 0 (λ n. n) (LoadsWord (step slots 0 0 0 none) z)) (sym is) (looks (IsLaterFor g) (size g) passes slots id pass last fs)

  pub may_take : (passes slots id old pass : ℕ) (last : V) (fs : List ℕ) (m : M) → m ≡ knowing pass last false fs → old % 2 ≢ 1
      → Allows (Rule passes) slots id m 0 (λ n. either (eqb n old) (old + 1) n) (TakesValue (IsLaterFor g) (size g) (step slots 0 old (old + 1) none) m)
  may_take passes slots id old pass last fs m is odd =
      subst (λ (z : M). Allows (Rule passes) slots id z 0 (λ n. either (eqb n old) (old + 1) n) (TakesValue (IsLaterFor g) (size g) (step slots 0 old (old + 1) none) z))
      (sym is) (takes_value (IsLaterFor g) (size g) passes (later_reflexive g) slots id old pass last fs (omega arith))

  pub may_give : (passes slots id pass n : ℕ) (x y : V) (fs : List ℕ) (m : M) → m ≡ in_hand pass x y fs → n ≡ 2 * size g y → IsGrownBy g pass x y
      → Allows (Rule passes) slots id m 0 (λ _. n) (λ _. GivesValueBack (step slots 0 n 0 none) m n)
  may_give passes slots id pass n x y fs m is counted grown =
      subst (λ (z : M). Allows (Rule passes) slots id z 0 (λ _. n) (λ _. GivesValueBack (step slots 0 n 0 none) z n))
      (sym is) (gives_value (IsLaterFor g) (size g) passes (IsGrownBy g) (later_reflexive g) (later_carries g) slots id pass x y fs n counted grown)

  module _ (found pass : ℕ) (last : V) (fs : List ℕ) (m m' : M) (is : m ≡ knowing pass last false fs) (t : IsTaken (IsLaterFor g) (size g) m found m') where
    pub has_value : m' ≡ in_hand pass t.value t.value (fs ++ found ∷ [])
    has_value = t.after ∙ ap (λ (z : M). let k : M = (view_of (noting t.value z.0.notes) true (z.0.found ++ found ∷ []), (0, Some t.value) ∷ z.1) in k) is

    pub is_later : IsLaterFor g pass last t.value
    is_later = All-head (λ (n : Note V). IsLaterFor g n.pass n.value t.value) (note pass last) [] (subst (λ (z : M). All (λ n. IsLaterFor g n.pass n.value t.value) z.0.notes) is t.later)

module _ {V : Type 0} where
  -- after a step that found a word
  pub found_one : (pass : ℕ) (last : V) (fs : List ℕ) (word : ℕ) (m m' : Me (Option V) (View V)) → m ≡ knowing pass last false fs → m' ≡ (finding m.0 word, m.1) → m' ≡ knowing pass last false (fs ++ word ∷ [])
  found_one pass last fs word m m' is after = after ∙ ap (λ (z : Me (Option V) (View V)). let k : Me (Option V) (View V) = (finding z.0 word, z.1) in k) is

  -- after the slot of a seat was exchanged
  pub exchanged_slot : (pass : ℕ) (last : V) (fs : List ℕ) (x y : Option V) (m m' : Me (Option V) (View V)) → m ≡ (view_of (note pass last ∷ []) true fs, (0, x) ∷ []) → m' ≡ (m.0, (0, y) ∷ rest m.1)
      → m' ≡ (view_of (note pass last ∷ []) true fs, (0, y) ∷ [])
  exchanged_slot pass last fs x y m m' is e = e ∙ ap (λ (z : Me (Option V) (View V)). let k : Me (Option V) (View V) = (z.0, (0, y) ∷ rest z.1) in k) is

  -- what `try_take` reads from the slot is the value that the step told
  pub read_value : (pass : ℕ) (last x y : V) (fs : List ℕ) (read : Option V) (m : Me (Option V) (View V)) → m ≡ in_hand pass last x fs → m.1 ≡ (0, read) ∷ rest m.1 → read ≡ Some y → y ≡ x
  read_value pass last x y fs read m is front same = let e : Some y ≡ Some x = sym same ∙ same_slot m.1 [] (Some x) read (ap (λ (z : Me (Option V) (View V)). z.1) is) front in cc

  -- after `give`: the value was put into the slot, and the word stored
  pub given_back : (v : PassValue V) (y : V) (m m1 m2 : Me (Option V) (View V)) → m ≡ knowing v.number v.last true v.found → m1 ≡ (m.0, (0, Some y) ∷ rest m.1)
      → ((z : V) → m1.1 ≡ (0, Some z) ∷ [] → m2 ≡ (view_of (noting z m1.0.notes) false m1.0.found, [])) → m2 ≡ knowing v.number y false v.found
  given_back v y m m1 m2 is put told =
      let hand = exchanged_slot v.number v.last v.found None (Some y) m m1 is put in
      told y (ap (λ (z : Me (Option V) (View V)). z.1) hand) ∙ ap (λ (z : Me (Option V) (View V)). let k : Me (Option V) (View V) = (view_of (noting y z.0.notes) false z.0.found, []) in k) hand
