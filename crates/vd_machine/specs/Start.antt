-- The guest's disk when a core was made: a function of what its store had told then, so that no field holds it.
use Rattle.std.specs.Prelude.{ℕ, ◌≡◌, ◌<◌, List, [], ◌∷◌, length, take, Some, slice_get}
use Rattle.std.specs.List.{Contains}
use Rattle.vd_law.specs.declared.entry.Sector.{Sector}
use Rattle.vd_law.specs.Entries.{Entry}
use Rattle.vd_law.specs.Contents.{may}
use Rattle.vd_device.specs.Disks.{Disk}
use Rattle.vd_format.specs.declared.header.Header.{Header}
use Rattle.vd_image.specs.Log.{Writes}
use Rattle.vd_image.specs.Image.{Image, HasNoLater, DiskHas}
use Rattle.vd_image.specs.Layouts.{layout_of}
use Rattle.vd_image.specs.Decoders.{format_of}
use Rattle.vd_passes.specs.Tracks.{Track, track}
use Rattle.vd_format.specs.Background.{zero_sector, base_at}

-- what a store had told at some moment
pub record ToldAtOpening : Type 0 where
  pub start : List Sector
  pub log : List Entry

-- what it had told after so many events
abbrev pub opening_at : (events : ℕ) → Disk → ToldAtOpening
opening_at events disk = record { start = disk.start; log = take events disk.log }

-- no write is open, and one content alone may be held
pub record HasOneContent (t : Track) : Type 0 where
  pub none : t.writes ≡ []
  pub one : (v w : Sector) → Contains t.contents v → Contains t.contents w → v ≡ w

-- Each sector of the store was settled: no write was open, and none had failed without a later one that was done.
abbrev pub WasClean : ToldAtOpening → Type 0
WasClean o = (a : ℕ) → HasOneContent (track o.start o.log a)

abbrev pub first_or_zeros : List Sector → Sector
first_or_zeros [] = zero_sector
first_or_zeros (v ∷ more) = v

-- what a clean store held
unfoldable pub image_at : ToldAtOpening → Image
image_at o a = first_or_zeros (track o.start o.log a).contents

-- These are the sectors of the guest's disk at that moment: the disk that the image stands for which the store, being clean, held,
-- with this header and over this base.
pub record IsStart (o : ToldAtOpening) (base : List Sector) (h : Header) (start : List Sector) : Type 0 where
  pub clean : WasClean o
  pub size : length start ≡ h.size
  pub disk : (s : ℕ) (v : Sector) → slice_get start s ≡ Some v → DiskHas (format_of h) (layout_of h) (base_at zero_sector base) zero_sector (image_at o) s v

-- A crash at that moment would have left what the store held and nothing else: each write had gone to a sector of the store, and of
-- none another content was left. And no record was of a later generation than the header's.
pub record WasSafe (o : ToldAtOpening) (h : Header) : Type 0 where
  pub inside : (i a : ℕ) (v : Sector) → Writes o.log i a v → a < length o.start
  pub durable : (a : ℕ) (v : Sector) → a < length o.start → Contains (may o.start o.log a) v → v ≡ image_at o a
  pub no_later : HasNoLater (format_of h) (layout_of h) (image_at o) h.generation
