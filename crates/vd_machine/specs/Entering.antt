-- A pass enters the block of its next piece.
use Rattle.std.specs.Prelude.{ℕ, ◌≡◌, ◌+◌, ◌*◌, ◌/◌, ◌^◌, ◌<◌, ◌≤◌, if◌then◌else◌, List, Option, Some, length, slice_get, slice_set}
use Rattle.vd_regions.specs.declared.regions.Region.{Region}
use Rattle.vd_regions.specs.declared.regions.Mode.TheVariants.{Shared, Own}
use Rattle.vd_regions.specs.Holding.{Hinders, IsFirstHindrance}
use Rattle.vd_passes.specs.declared.shape.Shape.{Shape}
use Rattle.vd_passes.specs.declared.pass.Pass.{Pass}
use Rattle.vd_passes.specs.Requests.{RequestState}
use Rattle.vd_passes.specs.Places.{place_of}
use Rattle.vd_passes.specs.Steps.{IsPieceToEnter, Enters}

-- the region that the pass wants of a block: to itself where it writes
abbrev pub wanted_region : Pass → (block : ℕ) → Region
wanted_region p block = record { first = block; last = block; mode = if p.write then Own else Shared }

-- part of its request is left, and its blocks lie in the disk
pub record CanEnter (shape : Shape) (chunks : List (Option ℕ)) (p : Pass) : Type 0 where
  pub some : 0 < shape.block
  pub small : shape.block ≤ 128
  pub chunk : 0 < shape.chunk
  pub left : p.done < p.count
  pub fits : p.first + p.count ≤ 2 ^ 26
  pub few : length chunks < 2 ^ 32
  pub inside : (b : ℕ) → shape.block * b ≤ p.first + p.done → b / shape.chunk < length chunks
  pub places : (b x : ℕ) → place_of shape chunks b ≡ Some x → x < 2 ^ 64

-- the pass is kept out by another, the lowest that keeps it out, and nothing changes
pub record IsKeptOut (regions regions' : List (Option Region)) (i by : ℕ) (r r' : RequestState) : Type 0 where
  pub pass : Pass
  pub there : slice_get r.passes i ≡ Some pass
  pub block : ℕ
  pub piece : ℕ
  pub is_next : IsPieceToEnter r.shape pass block piece
  pub hindrance : IsFirstHindrance regions i (wanted_region pass block) by
  pub regions_same : regions' ≡ regions
  pub same : r' ≡ r

-- it has the region, and nobody keeps it out
pub record EntersBlock (chunks : List (Option ℕ)) (regions regions' : List (Option Region)) (i : ℕ) (r r' : RequestState) : Type 0 where
  pub enters : Enters (place_of r.shape chunks) i r r'
  pub free : (by : ℕ) → Hinders regions i (wanted_region enters.pass enters.block) by → ⊥
  pub regions_after : regions' ≡ slice_set regions i (Some (wanted_region enters.pass enters.block))
