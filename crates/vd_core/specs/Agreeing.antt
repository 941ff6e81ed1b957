-- What the store of a core holds of the guest's disk.
use Rattle.std.specs.Prelude.{ℕ, ◌≡◌, ◌+◌, ◌-◌, ◌*◌, ◌<◌, Bool, true, false, List, length, Some, slice_get}
use Rattle.std.specs.List.{Contains}
use Rattle.vd_law.specs.declared.entry.Sector.{Sector}
use Rattle.vd_law.specs.Entries.{Entry}
use Rattle.vd_law.specs.Contents.{could}
use Rattle.vd_device.specs.Disks.{Disk}
use Rattle.vd_table.specs.Tables.{TableState}
use Rattle.vd_passes.specs.declared.shape.Shape.{Shape}
use Rattle.vd_passes.specs.Places.{IsIn, place_of}
use Rattle.vd_format.specs.Background.{background_of}

-- Each fresh block has a place in the store, and whatever the store may hold there for a sector may stand in that sector of the
-- guest's disk by the history. In a sector of a block that isn't fresh what stands behind the image may: the base below the tracked
-- part's end, else zeros.
pub record AgreesWith (shape : Shape) (table : TableState) (fresh : List Bool) (start base : List Sector) (history : List Entry) (disk : Disk) : Type 0 where
  pub placed : (b : ℕ) → slice_get fresh b ≡ Some true → (x : ℕ) × (place_of shape table.chunks b ≡ Some x)
  pub held : (b x s : ℕ) (v : Sector) → s < length start → IsIn shape.block b s → slice_get fresh b ≡ Some true → place_of shape table.chunks b ≡ Some x
      → Contains (could disk.start disk.log (x + (s - shape.block * b))) v → Contains (could start history s) v
  pub behind : (b s : ℕ) → s < length start → IsIn shape.block b s → slice_get fresh b ≡ Some false → Contains (could start history s) (background_of base shape.tracked s)
