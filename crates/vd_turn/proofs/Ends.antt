-- What is known of the value once all passes are together.
use Rattle.std.proofs.Common.{◌≡◌, ℕ, suc, zero, ◌*◌, ◌<◌, List, [], ◌∷◌, false, map, length, sym, refl, ap, ◌∙◌, subst, arith, Option, Some}
use mathlib.Core.Option.{some, some-injective}
use lib.ListN.{get_elem?}
use Rattle.std.specs.List.{All, Contains}
use Rattle.std.proofs.lemmas.List.Elements.{All-nil, All-cons, All-head, All-tail}
use Rattle.atomic_table.specs.Table.{State, opening, Final, Seen}
use Rattle.vd_turn.specs.declared.board.Note.{Note}
use Rattle.vd_turn.specs.declared.board.View.{View}
use Rattle.vd_turn.specs.Values.{PassValue}
use Rattle.vd_turn.specs.declared.keeping.Kept.{Ghosts}
use Rattle.vd_turn.specs.Lists.{IsLaterFor, size}
use Rattle.vd_turn.specs.Board.{view_of, first_view, HasOneValue, note_of}
use Rattle.vd_turn.specs.Passes.{pass_number}
use Rattle.vd_turn.proofs.Steps.{starts, ends}
use Rattle.vd_turn.proofs.Entries.{later_reflexive}

-- what two facts say together of the first is so
pub from_first : {T : Type 0} (P R : T → Type 0) (Q : Type 0) (items : List T) → 0 < length items → ((t : T) → P t → R t → Q) → All P items → All R items → Q
from_first P R Q [] low f all also = absurd (omega arith)
from_first P R Q (t ∷ ts) low f all also = f t (All-head P t ts all) (All-head R t ts also)

module _ {V : Type 0} where
  unmapped : (P : Note V → Type 0) (items : List (PassValue V)) → All P (map note_of items) → All (λ t. P (note_of t)) items
  unmapped P [] all = All-nil (λ t. P (note_of t))
  unmapped P (t ∷ ts) all = All-cons (λ u. P (note_of u)) t ts (All-head P (note_of t) (map note_of ts) all) (unmapped P ts (All-tail P (note_of t) (map note_of ts) all))

  noted : (items : List (PassValue V)) (p : ℕ) → Contains (map pass_number items) p → (n : Note V) × Contains (map note_of items) n × (n.pass ≡ p)
  noted [] p c = absurd (omega (arith, c.1))
  noted (t ∷ ts) p (zero, low, same) = (note_of t, (zero, (let h : 0 < suc (length (map note_of ts)) = omega arith in h), refl), same)
  noted (t ∷ ts) p (suc k, low, same) = let r = noted ts p (k, (let h : k < length (map pass_number ts) = omega arith in h), same) in
      (r.0, (suc r.1.0, (let h : suc r.1.0 < suc (length (map note_of ts)) = omega (arith, r.1.1) in h), r.1.2), r.2)

  pub some_there : (items : List (PassValue V)) (p : ℕ) → Contains (map pass_number items) p → 0 < length items
  some_there [] p c = absurd (omega (arith, c.1))
  some_there (t ∷ ts) p c = omega arith

module _ {V E P F : Type 0} (g : Ghosts V E P F) (passes : ℕ) where
  abbrev Rule : State (Option V) (View V) → Type 0
  Rule = HasOneValue (IsLaterFor g) (size g) passes

  -- what is found in the slot is a value later than what each pass has seen
  pub closes : (id count : ℕ) (items : List (PassValue V)) (v : View V) (ws : List ℕ) (xs : List (Option V)) (found : Option V) → v ≡ view_of (map note_of items) false v.found → passes ≡ count
      → ((p : ℕ) → p < count → Contains (map pass_number items) p) → Final (Seen Rule id v) ws xs → get_elem? xs 0 ≡ some found
      → (x : V) × (found ≡ Some x) × All (λ (t : PassValue V). IsLaterFor g t.number t.last x) items
  closes id count items v ws xs found is counted covered final at =
      let within : (p : ℕ) → p < passes → p < count = λ p low. omega arith in
      let e = ends (IsLaterFor g) (size g) passes id (map note_of items) v.found ws xs (λ p low. noted items p (covered p (within p low))) (subst (λ (u : View V). Final (Seen Rule id u) ws xs) is final) in
      (e.0, some-injective found (Some e.0) (sym at ∙ ap (λ l. get_elem? l 0) e.1), unmapped (λ n. IsLaterFor g n.pass n.value e.0) items e.2)

  pub later_end : (id count : ℕ) (items : List (PassValue V)) (v : View V) (ws : List ℕ) (xs : List (Option V)) (x : V) (found : Option V) → v ≡ view_of (map note_of items) false v.found → passes ≡ count
      → ((p : ℕ) → p < count → Contains (map pass_number items) p) → Final (Seen Rule id v) ws xs → get_elem? xs 0 ≡ some found → found ≡ Some x → All (λ (t : PassValue V). IsLaterFor g t.number t.last x) items
  later_end id count items v ws xs x found is counted covered final at out =
      let e = closes id count items v ws xs found is counted covered final at in
      let some : Some x ≡ Some e.0 = sym out ∙ e.1 in let same : x ≡ e.0 = cc in
      subst (λ (y : V). All (λ (t : PassValue V). IsLaterFor g t.number t.last y) items) (sym same) e.2

  pub may_start : (n : ℕ) (x y : V) (items : List (Option V)) → items ≡ Some x ∷ [] → y ≡ x → n ≡ 2 * size g x → Rule (opening (n ∷ []) items (first_view passes y))
  may_start n x y items one same counted = subst (λ (z : List (Option V) × V). Rule (opening (n ∷ []) z.0 (first_view passes z.1))) (λ i. (sym one i, sym same i)) (starts (IsLaterFor g) (size g) passes (later_reflexive g) x n counted)
