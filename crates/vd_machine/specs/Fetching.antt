-- The base read of a block.
use Rattle.std.specs.Prelude.{ℕ, ◌≡◌, ◌⊎◌, ◌*◌, ◌<◌}
use Rattle.vd_device.specs.declared.base.Base as base
use Rattle.vd_passes.specs.Laying.{count_below}
use Rattle.vd_passes.specs.Requests.{RequestState}
use Rattle.vd_passes.specs.Steps.{Fetches, FillsZeros}

-- the part that the base has of the block is read, or there is none
abbrev pub FetchesBlock : {B : Type 0} (h : base.Ghosts B) → (i : ℕ) → (r r' : RequestState) → (b b' : B) → Type 0
FetchesBlock h i r r' b b' =
    ((f : Fetches h i r r' b b') × (0 < count_below r.shape.limit (r.shape.block * f.pass.block) r.shape.block))
    ⊎ (FillsZeros i r r' × (b' ≡ b))
