-- What the report of a run says of the image that the run has left, by what the devices hold in the end.
use Rattle.std.specs.Prelude.{ℕ, ◌≡◌, ◌+◌, ◌↔◌, Bool, true, List, length, Some, slice_get}
use Rattle.std.specs.Int.{div_ceil}
use Rattle.std.specs.List.{Contains}
use Rattle.vd_law.specs.declared.entry.Sector.{Sector}
use Rattle.vd_law.specs.Entries.{Entry}
use Rattle.vd_law.specs.Contents.{could, may}
use Rattle.vd_device.specs.declared.store.Store as store
use Rattle.vd_device.specs.declared.base.Base as base
use Rattle.vd_device.specs.Quiet.{OnlyReads, OnlyReadsBase, IsStoreFault, IsFault}
use Rattle.vd_format.specs.declared.header.Header.{Header}
use Rattle.vd_bits.specs.Marks.{count_true}
use Rattle.vd_image.specs.Image.{geometry_of, IsLocal}
use Rattle.vd_image.specs.Layouts.{layout_of}
use Rattle.vd_image.specs.Decoders.{format_of}
use Rattle.vd_image.specs.Openings.{Opens}
use Rattle.vd_replay.specs.Images.{image_of}
use Rattle.vd_replay.specs.Refusals.{RefusedAgain}
use Rattle.vd_replay.specs.declared.error.OpenError.{OpenError}
use Rattle.vd_trace.specs.Traces.{Showing}
use Rattle.vd_report.specs.declared.line.Line.TheVariants as lines
use Rattle.vd_device.specs.Devices.{Devices, AreTold}
use Rattle.vd_report.specs.Outcomes.{ShownLine, Sectors, Failed, Reopened, Refused, Opened}
use Rattle.vd_show.specs.Showing.{show_line, IsJudged, ShowsDisk}

-- the block is local in the image with this header
abbrev pub IsLocalIn : (held : List Sector) → Header → (block : ℕ) → Type 0
IsLocalIn held h block = (storage : ℕ) × IsLocal (format_of h) (layout_of h) (image_of held) h.generation block storage

-- Each sector that a line shows is one that the history allows and, behind a closing that succeeded, one that could stand there.
abbrev pub IsAllowedLine : (start : List Sector) → List Entry → (closed : Type 0) → ShownLine → Type 0
IsAllowedLine start entries closed (Sectors first sectors) = (i : ℕ) (v : Sector) → slice_get sectors i ≡ Some v
    → Contains (may start entries (first + i)) v × (closed → Contains (could start entries (first + i)) v)
IsAllowedLine start entries closed (Failed first line) = Unit {0}

-- The image that a run has left is refused for nothing that it holds, only where the store failed, and what is shown of it is what
-- the history of the run allows.
pub data IsAllowed (start : List Sector) (entries : List Entry) (closed : Type 0) : Reopened → Type 0 where
  Device_failed : (ticket : ℕ) → IsAllowed start entries closed (Refused (lines.StoreFault ticket))
  Shows_allowed : (shown : List ShownLine) (local of : ℕ)
      → ((i : ℕ) (line : ShownLine) → slice_get shown i ≡ Some line → IsAllowedLine start entries closed line)
      → IsAllowed start entries closed (Opened shown local of)

module _ {S : Type 0} (g : store.Ghosts S) where
  -- so many blocks begin in the tracked part of the disk, and so many of these are local in what the store holds
  pub record AreLocal (h : Header) (s : S) (local of : ℕ) : Type 0 where
    pub of_is : of ≡ div_ceil h.tracked h.block
    -- whether each of them is
    pub are : List Bool
    pub many : length are ≡ of
    pub local_is : local ≡ count_true are
    pub each : g.tells s → (b : ℕ) (is : Bool) → slice_get are b ≡ Some is → (is ≡ true) ↔ IsLocalIn (g.disk s).held h b

-- Among calls that only read, the one of this ticket failed, which was then the last that the store had given, and was given since the
-- first of them: it is above the last one before, or the greatest u64.
pub record FailsInStore {S : Type 0} (g : store.Ghosts S) (s s' : S) (ticket : ℕ) : Type 0 where
  pub moment : S
  pub reads : OnlyReads g s moment
  pub fault : IsStoreFault g s moment ticket
  pub more : OnlyReads g moment s'

-- the same of a base
pub record FailsInBase {B : Type 0} (h : base.Ghosts B) (b b' : B) (ticket : ℕ) : Type 0 where
  pub moment : B
  pub reads : OnlyReadsBase h b moment
  pub fault : IsFault h b moment ticket
  pub more : OnlyReadsBase h moment b'

module _ {S B : Type 0} (g : store.Ghosts S) (h : base.Ghosts B) where
  -- What a line of the trace shows of the image with this header that the devices hold in the end: the sectors of its range, or the
  -- ticket of the call that failed, since the devices were as at first.
  pub data IsShownBy (header : Header) (d d' : Devices S B) (line : Showing) : ShownLine → Type 0 where
    Is_read : (sectors : List Sector) → length sectors ≡ line.count
        → (AreTold g h d' → ShowsDisk (g.disk d'.store).held (h.content d'.base) header line.first sectors)
        → IsShownBy header d d' line (Sectors line.first sectors)
    Store_failed : (ticket : ℕ) → FailsInStore g d.store d'.store ticket → IsShownBy header d d' line (Failed line.first (lines.StoreFault ticket))
    Base_failed : (ticket : ℕ) → FailsInBase h d.base d'.base ticket → IsShownBy header d d' line (Failed line.first (lines.BaseFault ticket))

  -- each of these lines, in order, shows this
  pub record AreShownBy (header : Header) (d d' : Devices S B) (trace_lines : List Showing) (shown : List ShownLine) : Type 0 where
    pub many : length shown ≡ length trace_lines
    pub each : (i : ℕ) (line : Showing) (shows : ShownLine) → slice_get trace_lines i ≡ Some line → slice_get shown i ≡ Some shows
        → IsShownBy header d d' line shows

  -- How the image opens again that had the header `kept`: the store failed; or it is refused by what the store holds; or it opens by
  -- the header that it has now, and what is shown and counted is what the store holds. Each failed ticket that is named is one of a
  -- call since the devices were as at first.
  pub data Reopens (kept : Header) (trace_lines : List Showing) (d d' : Devices S B) : Reopened → Type 0 where
    Reopening_failed : (ticket : ℕ) → IsStoreFault g d.store d'.store ticket → Reopens kept trace_lines d d' (Refused (lines.StoreFault ticket))
    Is_refused_again : (e : OpenError) → IsJudged e → (g.tells d'.store → RefusedAgain kept (g.disk d'.store).held e)
        → Reopens kept trace_lines d d' (Refused (show_line e))
    Opens_again : (header : Header) (shown : List ShownLine) (local of : ℕ) → geometry_of header ≡ geometry_of kept
        → (g.tells d'.store → Opens (length (g.disk d'.store).held) (image_of (g.disk d'.store).held) header)
        → AreShownBy header d d' trace_lines shown → AreLocal g header d'.store local of → Reopens kept trace_lines d d' (Opened shown local of)
