-- The place of a block in numbers of the code.
use Rattle.std.proofs.Common.{◌≡◌, ℕ, ◌/◌, ◌^◌, ◌<◌, List, sym, ◌∙◌, Option, Some, None, slice_get}
use Rattle.vd_format.specs.Layouts.{place_of_block}
use Rattle.vd_passes.specs.declared.shape.Shape.{Shape}
use Rattle.vd_passes.specs.Places.{place_of}
use Rattle.vd_lists.proofs.Options.{some_injective}
use Rattle.vd_passes.proofs.PlacesGiven.{place-some, place-none}

module _ (shape : Shape) (chunks : List (Option ℕ)) (b : ℕ) where
  pub place-fits : (p : ℕ) → slice_get chunks (b / shape.chunk) ≡ Some (Some p) → ((x : ℕ) → place_of shape chunks b ≡ Some x → x < 2 ^ 64) → place_of_block shape.storage_at shape.chunk shape.block p b < 2 ^ 64
  place-fits p has small = small (place_of_block shape.storage_at shape.chunk shape.block p b) (place-some shape chunks b p has)

  -- the place is that number
  pub place-is : (p x : ℕ) → slice_get chunks (b / shape.chunk) ≡ Some (Some p) → place_of shape chunks b ≡ Some x → place_of_block shape.storage_at shape.chunk shape.block p b ≡ x
  place-is p x has at = some_injective (sym (place-some shape chunks b p has) ∙ at)

  pub no-place : (x : ℕ) → slice_get chunks (b / shape.chunk) ≡ Some None → place_of shape chunks b ≡ Some x → 0 ≡ x
  no-place x none at = absurd (let e = sym (place-none shape chunks b none) ∙ at in cc)
