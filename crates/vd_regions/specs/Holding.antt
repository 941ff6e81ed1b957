-- Which passes may hold which blocks at once.
use Rattle.std.specs.Prelude.{◌≡◌, ◌≢◌, ◌⊎◌, ℕ, ◌<◌, ◌≤◌, List, Option, Some, length, slice_get}
use Rattle.vd_regions.specs.declared.regions.Region.{Region}
use Rattle.vd_regions.specs.declared.regions.Mode.TheVariants.{Own}

-- the regions have a block in common, and one of them is its pass's own
pub record Clash (a b : Region) : Type 0 where
  pub reaches : a.first ≤ b.last
  pub reached : b.first ≤ a.last
  pub own : (a.mode ≡ Own) ⊎ (b.mode ≡ Own)

-- pass `by` keeps `pass` from what it wants
pub record Hinders (held : List (Option Region)) (pass : ℕ) (wanted : Region) (by : ℕ) : Type 0 where
  pub other : by ≢ pass
  pub region : Region
  pub holds : slice_get held by ≡ Some (Some region)
  pub clash : Clash region wanted

-- and it is the lowest pass that does
pub record IsFirstHindrance (held : List (Option Region)) (pass : ℕ) (wanted : Region) (by : ℕ) : Type 0 where
  pub hinders : Hinders held pass wanted by
  pub first : (other : ℕ) → other < by → Hinders held pass wanted other → ⊥

-- no two passes hold blocks in common, unless both share them
abbrev pub AreApart : List (Option Region) → Type 0
AreApart held = (a b : ℕ) (x y : Region) → a ≢ b → slice_get held a ≡ Some (Some x) → slice_get held b ≡ Some (Some y) → Clash x y → ⊥

pub record IsHolding (held : List (Option Region)) : Type 0 where
  pub apart : AreApart held
  pub few : length held ≤ 64
