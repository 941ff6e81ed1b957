-- Values that may be missing.
use Rattle.std.proofs.Common.{◌≡◌, ◌⊎◌, inl, inr, Bool, true, false, cond, Option, Some, None, refl, sym, ◌∙◌}
use Rattle.std.proofs.lemmas.Option.{same_Some}

-- there is none, or there is one
pub cases_option : {X : Type 0} (o : Option X) → (o ≡ None) ⊎ ((x : X) × (o ≡ Some x))
cases_option None = inl refl
cases_option (Some x) = inr (x, refl)

-- `Some` of two values is one only where they are
pub some_injective : {X : Type 0} {x y : X} → Some x ≡ Some y → x ≡ y
some_injective {x = x} {y} h = same_Some x y h

-- one value is only one
pub same_option : {X : Type 0} (x y : X) (o : Option X) → o ≡ Some x → o ≡ Some y → x ≡ y
same_option x y o is also = same_Some x y (sym is ∙ also)

-- a test that finds nothing has passed, and the one after it too
pub test_passed : {X : Type 0} (test : Bool) (x : X) (later : Option X) → cond test later (Some x) ≡ None → (test ≡ true) × (later ≡ None)
test_passed true x later h = (refl, h)
test_passed false x later h = absurd cc
