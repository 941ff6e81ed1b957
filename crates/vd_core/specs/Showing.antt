-- What the disk of a store shows once a flush was the last.
use Rattle.std.specs.Prelude.{ℕ, ◌≡◌, ◌<◌, ◌≤◌, List, Some, slice_get}
use Rattle.std.specs.List.{Contains}
use Rattle.vd_law.specs.declared.entry.Sector.{Sector}
use Rattle.vd_law.specs.declared.entry.CallId.{CallId}
use Rattle.vd_law.specs.declared.entry.Answer.TheVariants.{Ok}
use Rattle.vd_law.specs.Entries.{Flush, Entry, Ask, Done, Reply}
use Rattle.vd_law.specs.Contents.{could}
use Rattle.vd_device.specs.Disks.{Disk}
use Rattle.vd_format.specs.declared.header.Header.{Header}
use Rattle.vd_image.specs.Image.{geometry_of, DiskHas}
use Rattle.vd_image.specs.Layouts.{layout_of}
use Rattle.vd_image.specs.Decoders.{format_of}
use Rattle.vd_image.specs.CrashImages.{IsCrashImage}
use Rattle.vd_replay.specs.Images.{image_of}
use Rattle.vd_format.specs.Background.{zero_sector, base_at}

-- A flush was asked once each write was done that is done in the history, and is answered Ok.
pub record EndsFlushed (history : List Entry) : Type 0 where
  pub id : CallId
  pub ask : ℕ
  pub reply : ℕ
  pub asked : slice_get history ask ≡ Some (Ask id Flush)
  pub replied : slice_get history reply ≡ Some (Reply id Ok)
  pub later : ask < reply
  pub none_done : (m : ℕ) (other : CallId) → ask ≤ m → slice_get history m ≡ Some (Done other) → ⊥

-- The store may hold these sectors now, and a crash may leave them.
pub record MayHold (disk : Disk) (held : List Sector) : Type 0 where
  pub now : (a : ℕ) (v : Sector) → slice_get held a ≡ Some v → Contains (could disk.start disk.log a) v
  pub left : IsCrashImage disk.start disk.log held

-- Each sector of the disk that these stand for, by whatever header of this geometry, may stand there by the history.
pub record ShowsCould (h : Header) (base start : List Sector) (history : List Entry) (held : List Sector) : Type 0 where
  pub each : (g : Header) → geometry_of g ≡ geometry_of h → (s : ℕ) (v : Sector) → s < g.size
      → DiskHas (format_of g) (layout_of g) (base_at zero_sector base) zero_sector (image_of held) s v → Contains (could start history s) v
