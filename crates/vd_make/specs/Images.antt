-- New images: what `make` leaves, also where it is cut off at any moment.
use Rattle.std.specs.Prelude.{ℕ, ◌≡◌, ◌+◌, ◌<◌, ◌≤◌, ◌⊎◌, List, ◌++◌, length, take, Some, Err, slice_get}
use Rattle.std.specs.List.{AllByRecursion}
use Rattle.vd_law.specs.declared.entry.Sector.{Sector}
use Rattle.vd_law.specs.declared.entry.CallId.{CallId}
use Rattle.vd_law.specs.declared.entry.Answer.TheVariants as answers
use Rattle.vd_law.specs.Entries.{Entry, Issue, Seen, Reply}
use Rattle.vd_format.specs.declared.header.Header.{Header}
use Rattle.vd_format.specs.declared.header.HeaderError.TheVariants.{NotImage}
use Rattle.vd_format.specs.Headers.{header_of}
use Rattle.vd_format.specs.Layouts.{storage_start}
use Rattle.vd_device.specs.declared.store.Store as store
use Rattle.vd_device.specs.Disks.{Disk}
use Rattle.vd_image.specs.Image.{HasNoLater, DiskHas}
use Rattle.vd_image.specs.Layouts.{layout_of}
use Rattle.vd_image.specs.Decoders.{format_of}
use Rattle.vd_image.specs.Openings.{Opens}
use Rattle.vd_image.specs.CrashImages.{sectors_or, IsCrashImage}
use Rattle.vd_image.specs.Made.{header_sector}
use Rattle.vd_make.specs.Making.{WasMade}
use Rattle.vd_make.specs.Putting.{AreAll}
use Rattle.vd_format.specs.Background.{zero_sector, background}

-- The store's sectors are a new image with this header: it opens, no slot has a record of a later generation, and over
-- every base its disk is the base in the tracked part and zeros from there on.
pub record IsNewImage (h : Header) (sectors : List Sector) : Type 0 where
  pub opens : Opens (length sectors) (sectors_or zero_sector sectors) h
  pub no_later : HasNoLater (format_of h) (layout_of h) (sectors_or zero_sector sectors) h.generation
  pub disk : (base : ℕ → Sector) (s : ℕ) → s < h.size
      → DiskHas (format_of h) (layout_of h) base zero_sector (sectors_or zero_sector sectors) s (background base zero_sector h.tracked s)

-- they are no image: the first sector is refused for its magic
abbrev pub IsNoImage : List Sector → Type 0
IsNoImage sectors = header_of (sectors_or zero_sector sectors 0) ≡ Err NotImage

-- the event is one of making: zeros are written below the storage, or the header is written, or a flush is made
abbrev pub IsEntryOfMaking : Header → Entry → Type 0
IsEntryOfMaking h (Issue id first content) = (first + length content ≤ storage_start h)
    × (AreAll zero_sector content ⊎ ((first + length content ≤ 1) × AreAll (header_sector h) content))
IsEntryOfMaking h (Seen id first content) = ⊥
IsEntryOfMaking h _ = Unit {0}

-- among the events from `from` on, and before k, is a flush's success
abbrev pub HasFlushed : (from k : ℕ) → List Entry → Type 0
HasFlushed from k log = (i : ℕ) × (id : CallId) × (from ≤ i) × (i < k) × (slice_get log i ≡ Some (Reply id answers.Ok))

-- The log has grown by events of making, and once a flush of these has succeeded, each image that a crash may leave at each
-- moment is no image or the whole new one.
pub record MakesSafely (h : Header) (old new : Disk) : Type 0 where
  pub start : new.start ≡ old.start
  pub more : List Entry
  pub log : new.log ≡ old.log ++ more
  pub writes : AllByRecursion (IsEntryOfMaking h) more
  pub safe : (k : ℕ) (image : List Sector) → HasFlushed (length old.log) k new.log → IsCrashImage new.start (take k new.log) image
      → IsNoImage image ⊎ IsNewImage h image

-- the store holds the new image, and a crash leaves it
pub record HasNewImage (h : Header) (d : Disk) : Type 0 where
  pub held : IsNewImage h d.held
  pub durable : (image : List Sector) → IsCrashImage d.start d.log image → IsNewImage h image

-- What `make` with this status leaves of a store: its making leaves no image or the whole one wherever it is cut off, and what it
-- has made is whole.
pub record Makes {S : Type 0} (g : store.Ghosts S) (h : Header) (status : ℕ) (s s' : S) : Type 0 where
  pub safe : g.tells s' → g.records s' → MakesSafely h (g.disk s) (g.disk s')
  pub made : WasMade status → g.tells s' → g.records s' → HasNewImage h (g.disk s')
