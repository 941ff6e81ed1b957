-- Members of a list, and the pass that the code reads at a number.
use Rattle.std.proofs.Common.{◌≡◌, ℕ, zero, suc, List, [], ◌∷◌, get_or, refl, ap, subst, Some, slice_get, slice_set}
pub use Rattle.vd_lists.proofs.Places.{same_member as same-member, read_place as read-there}
pub use Rattle.vd_lists.proofs.Changes.{slice_set_here as set-here, read_written as read-back}
use Rattle.vd_passes.specs.declared.pass.Pass.{Pass}
use Rattle.vd_passes.specs.Steps.{IsAt}

pub set-twice : {X : Type 0} (xs : List X) (i : ℕ) (x y : X) → slice_set (slice_set xs i x) i y ≡ slice_set xs i y
set-twice [] i x y = refl
set-twice (z ∷ zs) zero x y = refl
set-twice (z ∷ zs) (suc i) x y = ap (λ ws. z ∷ ws) (set-twice zs i x y)

-- the pass that was read is the one of which this is known
pub picked : {P : Pass → Type 0} (passes : List Pass) (i : ℕ) (at : IsAt passes i P) (q : Pass) → q ≡ get_or passes i q → at.0 ≡ q
picked {P} passes i at q is = same-member passes i at.0 q at.1 (read-there passes i at.0 q at.1 is)

-- what is known of the pass that stands there holds of the same pass by another name
pub at-same : (passes : List Pass) (i : ℕ) (q p : Pass) (P : Pass → Type 0) → slice_get passes i ≡ Some q → slice_get passes i ≡ Some p → P q → P p
at-same passes i q p P there too holds = subst P (same-member passes i q p there too) holds
