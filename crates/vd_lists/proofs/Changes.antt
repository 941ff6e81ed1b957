-- A list with one element set. Its length is std's `length-set`, an element set twice its `set-set`.
use Rattle.std.proofs.Common.{ℕ, zero, suc, ◌≡◌, ◌≢◌, ◌<◌, ◌⊎◌, inl, inr, List, [], ◌∷◌, length, get_or, Some, refl, ap, sym, ◌∙◌, arith}
use Rattle.std.specs.Prelude.{slice_get, slice_set}
use Rattle.std.proofs.lemmas.Bool.{cases_eq}
use Rattle.std.proofs.lemmas.Option.{same_Some, slice_get_within}
use Rattle.vd_lists.proofs.Places.{read_place}

-- the place that was set, inside the list
pub slice_set_inside : {X : Type 0} (xs : List X) (i : ℕ) (x : X) → i < length xs → slice_get (slice_set xs i x) i ≡ Some x
slice_set_inside [] i x h = absurd (omega arith)
slice_set_inside (y ∷ xs) zero x h = refl
slice_set_inside (y ∷ xs) (suc i) x h = slice_set_inside xs i x (omega arith)

-- the place that was set, where something stood
pub slice_set_here : {X : Type 0} (xs : List X) (i : ℕ) (x old : X) → slice_get xs i ≡ Some old → slice_get (slice_set xs i x) i ≡ Some x
slice_set_here xs i x old there = slice_set_inside xs i x (slice_get_within xs i old there)

-- each other place
pub slice_set_other : {X : Type 0} (xs : List X) (i j : ℕ) (x : X) → j ≢ i → slice_get (slice_set xs i x) j ≡ slice_get xs j
slice_set_other [] i j x apart = refl
slice_set_other (y ∷ xs) zero zero x apart = absurd (apart refl)
slice_set_other (y ∷ xs) zero (suc j) x apart = refl
slice_set_other (y ∷ xs) (suc i) zero x apart = refl
slice_set_other (y ∷ xs) (suc i) (suc j) x apart = slice_set_other xs i j x (λ e. apart (ap suc e))

-- what stands in the changed list is the new one or an old one
pub slice_set_either : {X : Type 0} (xs : List X) (i j : ℕ) (x old y : X) → slice_get xs i ≡ Some old → slice_get (slice_set xs i x) j ≡ Some y → ((j ≡ i) × (y ≡ x)) ⊎ ((j ≢ i) × (slice_get xs j ≡ Some y))
slice_set_either xs i j x old y there h = elim (cases_eq j i) [
  | inl e ↦ inl (e, same_Some y x (sym h ∙ ap (slice_get (slice_set xs i x)) e ∙ slice_set_here xs i x old there))
  | inr ne ↦ inr (ne, sym (slice_set_other xs i j x ne) ∙ h)
]

-- what stood there, written back, changes nothing
pub slice_set_unchanged : {X : Type 0} (xs : List X) (i : ℕ) (x : X) → slice_get xs i ≡ Some x → slice_set xs i x ≡ xs
slice_set_unchanged [] i x there = refl
slice_set_unchanged (y ∷ xs) zero x there = ap (λ z. z ∷ xs) (sym (same_Some y x there))
slice_set_unchanged (y ∷ xs) (suc i) x there = ap (λ ys. y ∷ ys) (slice_set_unchanged xs i x there)

-- what is read where something was written is what was written
pub read_written : {X : Type 0} (xs : List X) (i : ℕ) (x old y : X) → slice_get xs i ≡ Some old → y ≡ get_or (slice_set xs i x) i y → y ≡ x
read_written xs i x old y there is =
    let here = slice_set_here xs i x old there in
    same_Some y x (sym (read_place (slice_set xs i x) i x y here is) ∙ here)
