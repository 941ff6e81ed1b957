-- What `show` answers: sectors, or one line that says why not.
use Rattle.std.specs.Prelude.{ℕ, ◌≡◌, ◌+◌, ◌<◌, ◌≤◌, ◌⊎◌, true, List, length, Some, ⊤, Result, Ok, Err, slice_get}
use Rattle.vd_law.specs.declared.entry.Sector.{Sector}
use Rattle.vd_device.specs.declared.store.Store as store
use Rattle.vd_device.specs.declared.base.Base as base
use Rattle.vd_device.specs.Quiet.{IsCallFault, IsFault}
use Rattle.vd_format.specs.declared.header.Header.{Header}
use Rattle.vd_format.specs.declared.header.HeaderError.{HeaderError}
use Rattle.vd_format.specs.declared.header.HeaderError.TheVariants as header_errors
use Rattle.vd_format.specs.Headers.{header_of}
use Rattle.vd_format.specs.Layouts.{store_need}
use Rattle.vd_image.specs.Image.{DiskHas}
use Rattle.vd_image.specs.Layouts.{layout_of}
use Rattle.vd_image.specs.Decoders.{this_version, format_of}
use Rattle.vd_image.specs.Openings.{Opens}
use Rattle.vd_replay.specs.Images.{image_of}
use Rattle.vd_replay.specs.Fresh.{is_fresh}
use Rattle.vd_replay.specs.Refusals.{Refused}
use Rattle.vd_replay.specs.declared.error.OpenError as refusal
use Rattle.vd_replay.specs.declared.error.OpenError.TheVariants as refusals
use Rattle.vd_replay.specs.declared.disk.DiskFault.{DiskFault}
use Rattle.vd_replay.specs.declared.disk.DiskFault.TheVariants as faults
use Rattle.vd_report.specs.declared.line.Line.{Line}
use Rattle.vd_report.specs.declared.line.Line.TheVariants as lines
use Rattle.vd_report.specs.Statuses.{status_of_line}
use Rattle.vd_report.specs.Outcomes.{Outcome, Says, Shown}
use Rattle.vd_format.specs.Background.{zero_sector, base_at, background}
use Rattle.vd_device.specs.Devices.{Devices, AreTold}

abbrev pub header_line : HeaderError → Line
header_line header_errors.NotImage = lines.NotImage
header_line (header_errors.Version version) = lines.Version version
header_line (header_errors.Field field) = lines.BadField field

-- the line that names why an image was not opened
abbrev pub show_line : refusal.OpenError → Line
show_line (refusals.Store ticket) = lines.StoreFault ticket
show_line (refusals.Header e) = header_line e
show_line (refusals.TooSmall need have) = lines.TooSmall need have
show_line refusals.OldVersion = lines.OldVersion
show_line (refusals.BadEntry chunk value) = lines.BadEntry chunk value
show_line (refusals.BadRecord slot) = lines.BadRecord slot
show_line (refusals.DoubleChunk a b) = lines.DoubleChunk a b
show_line (refusals.Changed field) = lines.Changed field
show_line refusals.NotBuilt = lines.NotBuilt
show_line refusals.NoMemory = lines.NoMemory

-- an image of version 1 with this header that is as it was made, in a store that has room for it
pub record IsOldImage (held : List Sector) (h : Header) : Type 0 where
  pub reads : header_of (image_of held 0) ≡ Ok h
  pub version : h.version ≡ 1
  pub room : store_need h ≤ length held
  pub fresh : is_fresh h held ≡ true

-- the image opens by this header: one of version 2 by its map and its records, one of version 1 as it was made
abbrev pub OpensAs : (held : List Sector) → Header → Type 0
OpensAs held h = Opens (length held) (image_of held) h ⊎ IsOldImage held h

-- These are sectors of its disk from `first` on, over this base: of a local block what its storage holds, else the base in
-- the tracked part and zeros from there on. In version 1 no block is local.
pub record ShowsDisk (held base : List Sector) (h : Header) (first : ℕ) (sectors : List Sector) : Type 0 where
  pub current : h.version ≡ this_version → (i : ℕ) (v : Sector) → slice_get sectors i ≡ Some v
      → DiskHas (format_of h) (layout_of h) (base_at zero_sector base) zero_sector (image_of held) (first + i) v
  pub old : h.version ≡ 1 → (i : ℕ) (v : Sector) → slice_get sectors i ≡ Some v → v ≡ background (base_at zero_sector base) zero_sector h.tracked (first + i)

-- the image opens, and the range lies past its disk
pub record IsPastDisk (held : List Sector) (first count : ℕ) : Type 0 where
  pub header : Header
  pub opens : OpensAs held header
  pub past : header.size < first + count

-- the image opens, the range lies in its disk, and these are its sectors
pub record IsInDisk (held base : List Sector) (first count : ℕ) (sectors : List Sector) : Type 0 where
  pub header : Header
  pub opens : OpensAs held header
  pub within : first + count ≤ header.size
  pub disk : ShowsDisk held base header first sectors

-- the line that names the device that failed to give sectors
abbrev pub fault_line : DiskFault → Line
fault_line (faults.Store ticket) = lines.StoreFault ticket
fault_line (faults.Base ticket) = lines.BaseFault ticket

-- the image itself is what is refused
abbrev pub IsJudged : refusal.OpenError → Type 0
IsJudged e = (status_of_line (show_line e) ≡ 3) ⊎ (status_of_line (show_line e) ≡ 8)

-- what was found is printed: the sectors, or the line
abbrev pub show_outcome : Result ⊤ Line → (first : ℕ) → List Sector → Outcome
show_outcome (Ok found) first sectors = Shown first sectors
show_outcome (Err line) first sectors = Says line

module _ {S B : Type 0} (g : store.Ghosts S) (h : base.Ghosts B) where
  -- What is found: there is no memory, which is free, or a device failed, or the image decides, by what the devices held as they
  -- were handed in, where they tell it: it is refused, with status 3 or 8, or the range lies past its disk, or its sectors are shown.
  pub data Finds (first count : ℕ) (d d' : Devices S B) : Outcome → Type 0 where
    Without_memory : Finds first count d d' (Says lines.NoMemory)
    Store_failed : (ticket : ℕ) → IsCallFault g d.store d'.store ticket → Finds first count d d' (Says (lines.StoreFault ticket))
    Base_failed : (ticket : ℕ) → IsFault h d.base d'.base ticket → Finds first count d d' (Says (lines.BaseFault ticket))
    Image_refused : (e : refusal.OpenError) → IsJudged e → (AreTold g h d' → Refused 1 (g.disk d.store).held e)
        → Finds first count d d' (Says (show_line e))
    Past_the_disk : (AreTold g h d' → IsPastDisk (g.disk d.store).held first count) → Finds first count d d' (Says lines.PastTheDisk)
    Is_shown : (sectors : List Sector) → length sectors ≡ count
        → (AreTold g h d' → IsInDisk (g.disk d.store).held (h.content d.base) first count sectors)
        → Finds first count d d' (Shown first sectors)
