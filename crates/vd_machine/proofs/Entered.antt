-- A pass that has the region of its next piece's block.
use Rattle.std.proofs.Common.{◌≡◌, ℕ, Bool, true, false, List, sym, ◌∙◌, ap, subst, Option, Some, slice_get, slice_set}
use Rattle.std.specs.Prelude.{if◌then◌else◌}
use Rattle.vd_law.specs.Entries.{Entry}
use Rattle.vd_regions.specs.declared.regions.Region.{Region}
use Rattle.vd_regions.specs.declared.regions.Mode.{Mode}
use Rattle.vd_regions.specs.declared.regions.Mode.TheVariants.{Shared, Own}
use Rattle.vd_regions.specs.Holding.{Hinders}
use Rattle.vd_passes.specs.declared.shape.Shape.{Shape}
use Rattle.vd_passes.specs.declared.pass.Pass.{Pass}
use Rattle.vd_passes.specs.Places.{place_of}
use Rattle.vd_passes.specs.Passes.{after_enter}
use Rattle.vd_passes.specs.Requests.{requests}
use Rattle.vd_passes.specs.Steps.{IsPieceToEnter}
use Rattle.vd_machine.specs.Entering.{EntersBlock}

abbrev pub region_in : (block : ℕ) → Mode → Region
region_in block mode = record { first = block; last = block; mode = mode }

pub mode-own : (write : Bool) (mode : Mode) → write ≡ true → mode ≡ Own → mode ≡ (if write then Own else Shared)
mode-own write mode is own = own ∙ sym (ap (λ (b : Bool). if b then Own else Shared) is)

pub mode-shared : (write : Bool) (mode : Mode) → write ≡ false → mode ≡ Shared → mode ≡ (if write then Own else Shared)
mode-shared write mode is shared = shared ∙ sym (ap (λ (b : Bool). if b then Own else Shared) is)

pub enters-block : (shape : Shape) (chunks : List (Option ℕ)) (regions regions' : List (Option Region)) (i : ℕ) (passes : List Pass) (q r s : Pass) (block piece at : ℕ) (mode : Mode)
    → slice_get passes i ≡ Some q → r ≡ q → s ≡ after_enter r block piece at → IsPieceToEnter shape q block piece → ((x : ℕ) → place_of shape chunks block ≡ Some x → at ≡ x)
    → mode ≡ (if q.write then Own else Shared) → ((by : ℕ) → Hinders regions i (region_in block mode) by → ⊥) → regions' ≡ slice_set regions i (Some (region_in block mode))
    → (fresh : List Bool) (entries : List Entry) → EntersBlock chunks regions regions' i (requests shape fresh passes entries) (requests shape fresh (slice_set passes i s) entries)
enters-block shape chunks regions regions' i passes q r s block piece at mode there same after next place wants free held fresh entries = record {
  enters = record {
    pass = q;
    there = there;
    block = block;
    piece = piece;
    at = at;
    is_next = next;
    place = place;
    after = ap (λ (x : Pass). requests shape fresh (slice_set passes i x) entries) (after ∙ ap (λ (x : Pass). after_enter x block piece at) same);
  };
  free = subst (λ (m : Mode). (by : ℕ) → Hinders regions i (region_in block m) by → ⊥) wants free;
  regions_after = held ∙ ap (λ (m : Mode). slice_set regions i (Some (region_in block m))) wants;
}
