-- Passes that have asked nothing yet, one after the other.
use Rattle.std.proofs.Common.{◌≡◌, ℕ, zero, suc, ◌+◌, List, [], ◌∷◌, ◌++◌, replicate, subst, sym, arith, length-append, Some, slice_get}
use Rattle.vd_passes.specs.declared.pass.Pass.{Pass}
use Rattle.vd_passes.specs.Passes.{IsNew}
use Rattle.vd_passes.proofs.Lists.{some-inj}
use Rattle.vd_core.specs.Opening.{AreNew}
use Rattle.vd_format.specs.Background.{zero_sector}

each-push : {X : Type 0} (P : X → Type 0) (xs : List X) (x : X) → ((i : ℕ) (y : X) → slice_get xs i ≡ Some y → P y) → P x → (i : ℕ) (y : X) → slice_get (xs ++ x ∷ []) i ≡ Some y → P y
each-push P [] x each last zero y at = subst P (some-inj at) last
each-push P [] x each last (suc i) y at = cc
each-push P (z ∷ xs) x each last zero y at = each 0 y at
each-push P (z ∷ xs) x each last (suc i) y at = each-push P xs x (λ j w h. each (suc j) w h) last i y at

pub new-none : (block : ℕ) → AreNew 0 block []
new-none block = record { many = omega arith; each = λ i p at. cc }

pub new-push : (n block : ℕ) (passes passes' : List Pass) (p : Pass) → AreNew n block passes → IsNew (replicate block zero_sector) p → passes' ≡ passes ++ p ∷ [] → AreNew (n + 1) block passes'
new-push n block passes passes' p new is after = subst (AreNew (n + 1) block) (sym after) (record {
  many = let many = new.many in omega (arith, length-append passes (p ∷ []));
  each = each-push (IsNew (replicate block zero_sector)) passes p new.each is;
})
