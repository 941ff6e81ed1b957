use Rattle.std.proofs.Common.{◌≡◌, ◌<◌, ℕ, Some}
use Rattle.std.specs.List.{slice_get}
use Rattle.vd_regions.specs.declared.regions.Region.{Region}
use Rattle.vd_regions.specs.Holding.{Clash}
use Rattle.vd_regions.proofs.regions.Regions.ask.Given as goal

abbrev pub invariant-loop-by : goal.invariant-loop-by
invariant-loop-by l = (p : ℕ) (region : Region) → p < l.by → slice_get l.held-items p ≡ Some (Some region) → Clash region l.wanted → ⊥
