-- Why a block is local: it was so at opening, or a write in it is done.
use Rattle.std.specs.Prelude.{ℕ, ◌≡◌, ◌↔◌, ◌⊎◌, ◌<◌, Bool, true, List, Some, slice_get}
use Rattle.vd_law.specs.Entries.{Entry, past}
use Rattle.vd_law.specs.Contents.{last_done}
use Rattle.vd_format.specs.declared.map.Entry.{Entry as MapEntry}
use Rattle.vd_passes.specs.declared.shape.Shape.{Shape}
use Rattle.vd_passes.specs.Places.{IsIn}
use Rattle.vd_machine.specs.Opened.{was_local}

-- a write in a sector of the block is done in the history
abbrev pub IsWrittenIn : Shape → List Entry → (b : ℕ) → Type 0
IsWrittenIn shape history b = (s : ℕ) × IsIn shape.block b s × (0 < last_done (past history) s)

-- the blocks that are local are those that were so by these entries, and those in which a write of the history is done
pub record AreLocalBy (shape : Shape) (had : List MapEntry) (fresh : List Bool) (history : List Entry) : Type 0 where
  pub each : (b : ℕ) → b < shape.blocks → (slice_get fresh b ≡ Some true) ↔ ((was_local shape had b ≡ true) ⊎ IsWrittenIn shape history b)
