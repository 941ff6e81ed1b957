-- The guest's disk, by a state: where each of its sectors comes from.
use Rattle.std.specs.Prelude.{ℕ, ◌≡◌, ◌+◌, ◌/◌, ◌^◌, ◌<◌, ◌≤◌, ◌⊎◌, Bool, true, false, List, None, Some, ⊤, Result, IfErr, slice_get}
use Rattle.vd_law.specs.declared.entry.Sector.{Sector}
use Rattle.vd_device.specs.Tickets.{IsRange}
use Rattle.vd_format.specs.declared.header.Header.{Header}
use Rattle.vd_format.specs.Layouts.{storage_start, store_need}
use Rattle.vd_table.specs.Tables.{Has}
use Rattle.vd_image.specs.Image.{DiskHas}
use Rattle.vd_image.specs.Layouts.{layout_of}
use Rattle.vd_image.specs.Decoders.{Entry, this_version, format_of}
use Rattle.vd_replay.specs.Images.{image_of}
use Rattle.vd_replay.specs.declared.state.State.{State}
use Rattle.vd_replay.specs.declared.disk.Source.{Source}
use Rattle.vd_replay.specs.declared.disk.Source.TheVariants.{Local, Background, Zeros}
use Rattle.vd_replay.specs.declared.disk.DiskFault.{DiskFault}
use Rattle.vd_replay.specs.declared.disk.DiskFault.TheVariants as fault
use Rattle.vd_format.specs.Background.{background, background_of, base_at, zero_sector}

-- the sector's block is not local
abbrev pub IsNotLocal : State → (sector : ℕ) → Type 0
IsNotLocal s n = (slice_get s.fresh.bits (n / s.header.block) ≡ Some false) ⊎ (slice_get s.table.chunks (n / s.header.block / s.header.chunk) ≡ Some None)

-- whether such blocks of its chunk read as zeros
abbrev pub ReadsZeros : State → (sector : ℕ) → Bool → Type 0
ReadsZeros s n zeros = (e : Entry) × (slice_get s.map (n / s.header.block / s.header.chunk) ≡ Some e) × (e.zeros ≡ zeros)

-- the sector comes from there
abbrev pub IsSource : State → (sector : ℕ) → Source → Type 0
IsSource s n (Local at) = (slice_get s.fresh.bits (n / s.header.block) ≡ Some true)
    × ((p : ℕ) × Has s.table (n / s.header.block / s.header.chunk) p × (p < s.header.storage) × (at ≡ (layout_of s.header).place p n))
IsSource s n Background = IsNotLocal s n × ReadsZeros s n false
IsSource s n Zeros = IsNotLocal s n × ReadsZeros s n true

-- the source of the sector so many places on, if it comes from one device at neighbouring places
abbrev pub source_further_on : Source → ℕ → Source
source_further_on (Local at) i = Local (at + i)
source_further_on Background i = Background
source_further_on Zeros i = Zeros

abbrev pub IsNear : Source → Type 0
IsNear (Local at) = at < 2 ^ 32
IsNear Background = Unit {0}
IsNear Zeros = Unit {0}

-- so many sectors from there on are read by one ticket at the most, with a store of so many
abbrev pub FitsInTicket : Source → (count sectors : ℕ) → Type 0
FitsInTicket (Local at) count sectors = IsRange sectors at count
FitsInTicket Background count sectors = count ≤ 2048
FitsInTicket Zeros count sectors = Unit {0}

-- the storage of an image with this header begins at this sector
pub record IsStorageAt (h : Header) (at : ℕ) : Type 0 where
  pub start : at ≡ storage_start h
  pub near : store_need h < 2 ^ 32

-- this is what the sector is, by its source
abbrev pub IsFrom : (held content : List Sector) (tracked : ℕ) → Source → (sector : ℕ) → Sector → Type 0
IsFrom held content tracked (Local at) n v = slice_get held at ≡ Some v
IsFrom held content tracked Background n v = v ≡ background_of content tracked n
IsFrom held content tracked Zeros n v = v ≡ zero_sector

-- the sectors from `first` on are these, one after another from one source
pub record ReadRun (held content : List Sector) (tracked : ℕ) (source : Source) (first : ℕ) (out : List Sector) : Type 0 where
  pub each : (i : ℕ) (v : Sector) → slice_get out i ≡ Some v → IsFrom held content tracked (source_further_on source i) (first + i) v

-- the first n of these are the sectors from `first` on
pub record AreShown (held content : List Sector) (s : State) (first n : ℕ) (out : List Sector) : Type 0 where
  pub each : (i : ℕ) (v : Sector) → i < n → slice_get out i ≡ Some v → (source : Source) × IsSource s (first + i) source × IsFrom held content s.header.tracked source (first + i) v

-- These are the sectors of the guest's disk from `first` on: in version 2 those of the image's disk, in version 1, where nothing is local, the background.
pub record AreDiskSectors (held content : List Sector) (s : State) (first : ℕ) (out : List Sector) : Type 0 where
  pub current : s.header.version ≡ this_version → (i : ℕ) (v : Sector) → slice_get out i ≡ Some v → DiskHas (format_of s.header) (layout_of s.header) (base_at zero_sector content) zero_sector (image_of held) (first + i) v
  pub old : s.header.version ≡ 1 → (i : ℕ) (v : Sector) → slice_get out i ≡ Some v → v ≡ background (base_at zero_sector content) zero_sector s.header.tracked (first + i)

-- the ticket is the store's, and then P holds of it, or the base's, and then Q does
abbrev pub ForDevice : (P Q : ℕ → Type 0) → DiskFault → Type 0
ForDevice P Q (fault.Store ticket) = P ticket
ForDevice P Q (fault.Base ticket) = Q ticket

-- the same, of the one device from which this source reads
abbrev pub ForSource : Source → (P Q : ℕ → Type 0) → DiskFault → Type 0
ForSource (Local at) P Q (fault.Store ticket) = P ticket
ForSource Background P Q (fault.Base ticket) = Q ticket
ForSource source P Q e = ⊥

-- A device from which a run doesn't read is as it was: of the store P says so, of the base Q. So many sectors of it are the base's.
abbrev pub Spares : Source → (many : ℕ) → (P Q : Type 0) → Type 0
Spares (Local at) many P Q = Q
Spares Background many P Q = P × (many ≡ 0 → Q)
Spares Zeros many P Q = P × Q

-- a base failed only where some sectors were the base's
abbrev pub NeedsBase : (many : ℕ) → DiskFault → Type 0
NeedsBase many (fault.Store ticket) = Unit {0}
NeedsBase many (fault.Base ticket) = 0 < many

-- some sector of so many from `first` on is a local block's
pub record HasLocal (s : State) (first count : ℕ) : Type 0 where
  pub place : ℕ
  pub at : ℕ
  pub within : place < count
  pub source : IsSource s (first + place) (Local at)

-- some sector of so many from `first` on is that of a base of so many sectors
pub record HasOfBase (s : State) (sectors first count : ℕ) : Type 0 where
  pub place : ℕ
  pub within : place < count
  pub source : IsSource s (first + place) Background
  pub tracked : first + place < s.header.tracked
  pub inside : first + place < sectors

-- the device that failed has some sector of the range: the store has one, or the base
abbrev pub HasSectorOfRange : (local of_base : Type 0) → DiskFault → Type 0
HasSectorOfRange local of_base (fault.Store ticket) = local
HasSectorOfRange local of_base (fault.Base ticket) = of_base

module _ {S B : Type 0} where
  -- A device is asked only where it has some sector of the range: else it is as it was, and no fault of it is answered.
  pub record AsksOwn (local of_base : Type 0) (result : Result ⊤ DiskFault) (s s' : S) (b b' : B) : Type 0 where
    pub failed : IfErr result (HasSectorOfRange local of_base)
    pub store : (local → ⊥) → s' ≡ s
    pub base : (of_base → ⊥) → b' ≡ b
