-- What the store of a core may hold after a crash, and what is found of it.
use Rattle.std.specs.Prelude.{ℕ, ◌≡◌, ◌⊎◌, ◌/◌, ◌<◌, Bool, true, false, List, length, Some, slice_get}
use Rattle.std.specs.List.{Contains}
use Rattle.vd_law.specs.declared.entry.Sector.{Sector}
use Rattle.vd_law.specs.Entries.{Entry}
use Rattle.vd_law.specs.Contents.{may}
use Rattle.vd_format.specs.declared.header.Header.{Header}
use Rattle.vd_image.specs.Log.{Writes}
use Rattle.vd_image.specs.Image.{geometry_of, HasNoLater, IsSound, DiskHas}
use Rattle.vd_image.specs.Layouts.{layout_of}
use Rattle.vd_image.specs.Decoders.{format_of}
use Rattle.vd_image.specs.Openings.{Opens}
use Rattle.vd_replay.specs.Images.{image_of}
use Rattle.vd_table.specs.Tables.{TableState}
use Rattle.vd_keeper.specs.Keeping.{KeeperState}
use Rattle.vd_safety.specs.Mirrors.{bit_of, storage_of}
use Rattle.vd_format.specs.Background.{zero_sector, base_at, background}

-- What a store holds now, and may keep after a crash.
pub record IsHeldNow (before : List Sector) (log : List Entry) (now : List Sector) : Type 0 where
  pub size : length now ≡ length before
  pub each : (a : ℕ) (v : Sector) → slice_get now a ≡ Some v → Contains (may before log a) v
  pub inside : (i a : ℕ) (v : Sector) → Writes log i a v → a < length before

-- What is found of such a store.
pub record IsOpenAgain (h : Header) (base disk : List Sector) (entries : List Entry) (now : List Sector) : Type 0 where
  pub sound : IsSound (format_of h) (layout_of h) (image_of now)
  pub header : Header
  pub geometry : geometry_of header ≡ geometry_of h
  pub opens : Opens (length now) (image_of now) header
  pub no_later : HasNoLater (format_of header) (layout_of header) (image_of now) header.generation
  pub allowed : (s : ℕ) (v : Sector) → s < h.size → DiskHas (format_of h) (layout_of h) (base_at zero_sector base) zero_sector (image_of now) s v → Contains (may disk entries s) v
  -- the same by the header that is found
  pub allowed_again : (s : ℕ) (v : Sector) → s < header.size → DiskHas (format_of header) (layout_of header) (base_at zero_sector base) zero_sector (image_of now) s v → Contains (may disk entries s) v

-- Where a sector of the disk that such a store stands for is found: its block is local and has the storage that it has now, or the
-- sector has the background, and its block isn't local in every image.
abbrev pub IsFound : Header → (base : List Sector) → TableState → (fresh : List Bool) → KeeperState → (now : List Sector) → (s : ℕ) → (v : Sector) → Type 0
IsFound h base table fresh k now s v =
    ((p : ℕ) × (storage_of table (s / h.block / h.chunk) ≡ Some p) × (bit_of fresh (s / h.block) ≡ true) × (v ≡ image_of now ((layout_of h).place p s)))
    ⊎ ((bit_of k.stale (s / h.block) ≡ false) × (v ≡ background (base_at zero_sector base) zero_sector k.header.tracked s))
