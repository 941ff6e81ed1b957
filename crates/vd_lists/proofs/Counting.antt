-- Sums over the elements of a list, by its places.
use Rattle.std.proofs.Common.{ℕ, suc, ◌≡◌, ◌+◌, ◌≤◌, List, [], ◌∷◌, Some, refl, ap, arith, sum_by}
use Rattle.std.specs.Prelude.{slice_get, slice_set}
use Rattle.std.proofs.lemmas.List.Sums.{sum_by-cons, sum_by-set, get_or-le-sum_by}
use Rattle.std.proofs.lemmas.Option.{get_or_from_slice_get, slice_get_within}

-- where each element counts none, there is none
pub sum_of_zeros : {X : Type 0} (f : X → ℕ) (xs : List X) → ((i : ℕ) (x : X) → slice_get xs i ≡ Some x → f x ≡ 0) → sum_by f xs ≡ 0
sum_of_zeros f [] none = refl
sum_of_zeros f (x ∷ xs) none = let step = sum_by-cons f x xs in let first = none 0 x refl in let rest = sum_of_zeros f xs (λ i. none (suc i)) in omega arith

-- the one at a place counts no more than all
pub sum_at_place : {X : Type 0} (f : X → ℕ) (xs : List X) (i : ℕ) (x : X) → slice_get xs i ≡ Some x → f x ≤ sum_by f xs
sum_at_place f xs i x at =
    let same = ap f (get_or_from_slice_get xs i x x at) in let part = get_or-le-sum_by f xs i x (slice_get_within xs i x at) in omega arith

-- with another in its place
pub sum_of_changed : {X : Type 0} (f : X → ℕ) (xs : List X) (i : ℕ) (x y : X) → slice_get xs i ≡ Some x → sum_by f (slice_set xs i y) + f x ≡ sum_by f xs + f y
sum_of_changed f xs i x y at =
    let same = ap f (get_or_from_slice_get xs i x x at) in let all = sum_by-set f xs i y x (slice_get_within xs i x at) in omega arith
