-- What `run` answers: one line that says why no guest was served, or the report of a history.
use Rattle.std.specs.Prelude.{ℕ, ◌≡◌, ◌<◌, List, length, Option, None, Some, slice_get}
use Rattle.std.specs.Option.{option_or}
use Rattle.std.specs.List.{All}
use Rattle.std.specs.Str.Lines.{lines}
use Rattle.vd_law.specs.declared.entry.Sector.{Sector}
use Rattle.vd_law.specs.declared.entry.Answer.{Answer}
use Rattle.vd_law.specs.declared.entry.Answer.TheVariants as answers
use Rattle.vd_law.specs.Entries.{Entry, call_of}
use Rattle.vd_law.specs.Histories.{HistoryState}
use Rattle.vd_law.specs.Rules.{IsRegular, IsLegal}
use Rattle.vd_device.specs.declared.store.Store as store
use Rattle.vd_device.specs.declared.base.Base as base
use Rattle.vd_device.specs.Disks.{Disk, IsClean}
use Rattle.vd_device.specs.Quiet.{AddsFlush, IsStoreFault}
use Rattle.vd_format.specs.declared.header.Header.{Header}
use Rattle.vd_format.specs.declared.map.Entry.{Entry as MapEntry}
use Rattle.vd_format.specs.Headers.{IsValid}
use Rattle.vd_format.specs.Layouts.{chunks_of}
use Rattle.vd_image.specs.Image.{HasNoLater, DiskHas}
use Rattle.vd_image.specs.Layouts.{layout_of}
use Rattle.vd_image.specs.Decoders.{format_of}
use Rattle.vd_image.specs.Openings.{Opens}
use Rattle.vd_crash.specs.facts.CrashSafe.{IsCrashSafe}
use Rattle.vd_safety.specs.Held.{IsOpenAgain}
use Rattle.vd_replay.specs.Images.{image_of}
use Rattle.vd_replay.specs.declared.state.State.{State}
use Rattle.vd_replay.specs.States.{IsEntryOf, IsOpenedState, StateSays}
use Rattle.vd_replay.specs.Refusals.{Refused}
use Rattle.vd_replay.specs.declared.error.OpenError as refusal
use Rattle.vd_trace.specs.declared.line.Line.{Line as Said}
use Rattle.vd_trace.specs.declared.error.TraceError.{TraceError}
use Rattle.vd_trace.specs.declared.error.TraceError.TheVariants as trace_errors
use Rattle.vd_trace.specs.Traces.{Script, script, script_of, SpellsTrace, IsFirstBad, IsFirstTooMuch}
use Rattle.vd_trace.specs.Scripts.{asks_past, shows_past}
use Rattle.vd_io.specs.declared.source.Source as source
use Rattle.vd_passes.specs.Causes.{OfStore, OfBase, AreCaused}
use Rattle.vd_passes.specs.Tracing.{AreTraced}
use Rattle.vd_core.specs.Opening.{disk_shape, AreReplied, IsNumberedIn}
use Rattle.vd_causes.specs.Storing.{AreFullsCaused}
use Rattle.vd_causes.specs.Wearing.{AreWornsCaused}
use Rattle.vd_core.specs.Showing.{ShowsCould}
use Rattle.vd_run.specs.Serving.{requests_in, Closes}
use Rattle.vd_report.specs.declared.line.Line.{Line}
use Rattle.vd_report.specs.declared.line.Line.TheVariants as lines_of
use Rattle.vd_show.specs.Showing.{show_line, IsJudged}
use Rattle.vd_run.specs.declared.ending.End.{End}
use Rattle.vd_device.specs.Devices.{Devices, devices, AreTold, AreReadOnly, Leaves}
use Rattle.vd_run.specs.Orders.{OpensQuietly}
use Rattle.vd_report.specs.Outcomes.{Reopened, Outcome, Says, Reported}
use Rattle.vd_run.specs.Reopening.{Reopens, IsAllowed}
use Rattle.vd_format.specs.Background.{zero_sector, base_at}
use Rattle.vd_law.specs.Counts.{Rose}

abbrev pub trace_line : TraceError → Line
trace_line (trace_errors.Bad line) = lines_of.BadLine line
trace_line (trace_errors.TooMuch line) = lines_of.TooMuch line
trace_line trace_errors.Source = lines_of.SourceFault
trace_line trace_errors.NoMemory = lines_of.NoMemory

module _ {I : Type 0} (i : source.Ghosts I) where
  -- the bytes are a trace of one guest, which says this
  pub record ReadsScript (source source' : I) (trace : Script) : Type 0 where
    pub guests : trace.guests ≡ 1
    pub read : i.tells source' → (says : List Said) × SpellsTrace 1 (i.rest source) says × (trace ≡ script_of 1 says)

  -- why there is no such trace: the source failed, there is no memory, which is free, or a line is refused
  pub data IsReadLine (source source' : I) : Line → Type 0 where
    Source_failed : Rose (i.faults source) (i.faults source') → IsReadLine source source' lines_of.SourceFault
    Read_without_memory : IsReadLine source source' lines_of.NoMemory
    Is_bad : (number : ℕ) → (i.tells source' → IsFirstBad 1 (lines (i.rest source)) number) → IsReadLine source source' (lines_of.BadLine number)
    Is_too_much : (number : ℕ) → (i.tells source' → IsFirstTooMuch 1 (lines (i.rest source)) number)
        → IsReadLine source source' (lines_of.TooMuch number)

-- the number of the first line whose range lies past a disk of this many sectors
abbrev pub first_past : (size : ℕ) → Script → Option ℕ
first_past size trace = option_or (asks_past size trace.asks) (shows_past size trace.shows)

module _ {S : Type 0} (g : store.Ghosts S) where
  -- the image that the store held, of version 2, is opened by this header, and all ranges lie in its disk
  pub record OpensFor (trace : Script) (kept : Header) (s s' : S) : Type 0 where
    pub valid : IsValid kept
    pub version : kept.version ≡ 2
    pub inside : first_past kept.size trace ≡ None
    pub opens : g.tells s' → Opens (length (g.disk s).held) (image_of (g.disk s).held) kept

  -- why not: there is no memory, which is free, or the store failed, or the image is refused, or a range lies past the disk
  pub data IsOpenLine (trace : Script) (s s' : S) : Line → Type 0 where
    Opened_without_memory : IsOpenLine trace s s' lines_of.NoMemory
    Open_failed : (ticket : ℕ) → IsStoreFault g s s' ticket → IsOpenLine trace s s' (lines_of.StoreFault ticket)
    Is_refused : (e : refusal.OpenError) → IsJudged e → (g.tells s' → Refused 2 (g.disk s).held e) → IsOpenLine trace s s' (show_line e)
    Is_past : (kept : Header) (number : ℕ) → (g.tells s' → Opens (length (g.disk s).held) (image_of (g.disk s).held) kept)
        → first_past kept.size trace ≡ Some number → IsOpenLine trace s s' (lines_of.LinePastTheDisk number)

  -- The image of a store that was flushed was opened as this state, and all ranges lie in its disk.
  pub record IsOpenedFor (trace : Script) (state : State) (s : S) : Type 0 where
    pub opens : OpensFor trace state.header s s
    pub opened : IsOpenedState (g.sectors s) state
    pub flushed : g.tells s → (old : Disk) × AddsFlush old (g.disk s)
    pub says : g.tells s → StateSays (g.disk s).held state

-- what the report says of the closing, by the answer of its flush. No flush is answered Full or NoRoom.
abbrev pub closing_line : Answer → Line
closing_line answers.Ok = lines_of.Ok
closing_line (answers.Full needed free) = lines_of.Ok
closing_line (answers.StoreFault ticket done) = lines_of.StoreFault ticket
closing_line (answers.BaseFault ticket done) = lines_of.BaseFault ticket
closing_line (answers.NoRoom events sectors) = lines_of.Ok
closing_line (answers.Worn generation) = lines_of.Worn generation

-- these are the sectors of the disk that the held image with this header stands for, over this base
pub record IsDisk (h : Header) (held base start : List Sector) : Type 0 where
  pub size : length start ≡ h.size
  pub sectors : (s : ℕ) (v : Sector) → slice_get start s ≡ Some v
      → DiskHas (format_of h) (layout_of h) (base_at zero_sector base) zero_sector (image_of held) s v

module _ {S B : Type 0} (g : store.Ghosts S) (h : base.Ghosts B) where
  -- The store told what it held as it was handed in, and was clean, and these were the sectors of the disk of its image.
  pub record HadDisk (kept : Header) (start : List Sector) (d : Devices S B) : Type 0 where
    pub told : g.tells d.store
    pub clean : IsClean (g.disk d.store)
    pub disk : IsDisk kept (g.disk d.store).held (h.content d.base) start

  -- the same, and no slot had a record of a later generation
  pub record WasGood (kept : Header) (start : List Sector) (d : Devices S B) : Type 0 where
    pub had : HadDisk kept start d
    pub no_later : HasNoLater (format_of kept) (layout_of kept) (image_of (g.disk d.store).held) kept.generation

  -- The history of a run on an image with this header, on devices that were handed in as d and are d' now. Guest 1 asked the trace's
  -- requests, each once and in order; then pass 0 asked one flush, of whose reply the report's line of the closing tells; nobody
  -- else asked, and each call has its reply. It keeps the rules that hold whatever the devices tell, and where they tell it is a legal
  -- history of the disk that the image stood for. Each fault names a ticket of its own that failed, each Full what was lacking and what
  -- was free, and each Worn the last generation, which the generation at opening and the flushes that other calls had asked before reach.
  pub record IsRun (trace : Script) (kept : Header) (d d' : Devices S B) (history : HistoryState) (closing : Line) : Type 0 where
    -- the entries before the closing
    pub served : List Entry
    pub asked : requests_in served 1 ≡ script trace 1
    pub alone : All (λ e. (call_of e).pass ≡ 1) served
    pub answer : Answer
    pub closed : Closes answer served history.log.entries
    pub closing_is : closing ≡ closing_line answer
    pub replied : AreReplied history.log.entries
    pub regular : IsRegular kept.size history.log.entries
    pub legal : AreTold g h d' → (start : List Sector) → HadDisk kept start d → IsLegal start history.log.entries
    -- nothing was written before the history was opened
    pub opening : g.records d'.store → OpensQuietly (g.disk d.store) (g.disk d'.store) history.opened
    -- at every moment since then each image that a crash may leave opens with contents that are allowed, also where the store has stopped
    pub safe : g.records d'.store → h.tells d'.base → (start : List Sector) → WasGood kept start d
        → IsCrashSafe (format_of kept) (layout_of kept) (base_at zero_sector (h.content d.base)) zero_sector
        (g.disk d'.store).start (g.disk d'.store).log start history
    pub store_caused : AreCaused OfStore history.log.entries (g.faults d.store) (g.faults d'.store)
    pub base_caused : AreCaused OfBase history.log.entries (h.faults d.base) (h.faults d'.base)
    pub traced : g.tells d'.store → AreTraced (g.disk d'.store).log history.log.entries history.numbers
    -- the entries of all chunks at opening
    pub had : List MapEntry
    pub had_is : g.tells d'.store → (chunk : ℕ) → chunk < chunks_of kept → IsEntryOf kept (image_of (g.disk d.store).held) had chunk
    pub full : AreFullsCaused (disk_shape kept (h.sectors d.base)) had (chunks_of kept) kept.storage history.log.entries
    pub worn : AreWornsCaused kept.generation history.log.entries

  -- The devices as the serving had ended and the closing was answered. Since then they were only read: each store fault of the
  -- history is traced in the log that the store had then, and no entry of it is numbered above that log's length.
  pub record IsClosed (history : HistoryState) (d d' : Devices S B) : Type 0 where
    pub reads : AreReadOnly g h d d'
    pub numbered : g.tells d.store → IsNumberedIn (g.disk d.store).log history
    pub traced : g.tells d.store → AreTraced (g.disk d.store).log history.log.entries history.numbers

  -- What the store holds in the end opens again; and behind a closing that succeeded its disk has what could stand there by the history.
  abbrev pub IsReopenable : (kept : Header) → (d d' : Devices S B) → HistoryState → (closing : Line) → Type 0
  IsReopenable kept d d' history closing = AreTold g h d' → (start : List Sector) → WasGood kept start d
      → IsOpenAgain kept (h.content d.base) start history.log.entries (g.disk d'.store).held
      × (closing ≡ lines_of.Ok → ShowsCould kept (h.content d.base) start history.log.entries (g.disk d'.store).held)

  -- A trace was served and closed: this is a run, after which the store's log has all numbers of the history, and its image opens again.
  pub record RunsTrace (trace : Script) (kept : Header) (d d' : Devices S B) (history : HistoryState) (closing : Line) : Type 0 where
    pub run : IsRun trace kept d d' history closing
    pub numbered : g.tells d'.store → IsNumberedIn (g.disk d'.store).log history
    pub again : IsReopenable kept d d' history closing

  -- The image that the run leaves is refused for nothing, and what is shown of it is allowed.
  abbrev pub IsAllowedAgain : (kept : Header) → (d d' : Devices S B) → HistoryState → (closing : Line) → Reopened → Type 0
  IsAllowedAgain kept d d' history closing reopened =
      AreTold g h d' → (start : List Sector) → WasGood kept start d → IsAllowed start history.log.entries (closing ≡ lines_of.Ok) reopened

module _ {S B I : Type 0} (g : store.Ghosts S) (h : base.Ghosts B) (i : source.Ghosts I) where
  -- What becomes of a run, with its history where a guest was served. Each ticket that the reopening or a line that shows sectors
  -- names was given behind the serving, and failed. Where it is the store's, and the store tells, it ended in its log by a Reply that
  -- isn't Ok, at an event numbered above the last number of the history.
  pub data RunEnds (d : Devices S B) (end : End S B) (source source' : I) : Outcome → Type 0 where
    Is_unread : (line : Line) → end.history ≡ None → IsReadLine i source source' line → RunEnds d end source source' (Says line)
    Is_unopened : (trace : Script) (line : Line) → end.history ≡ None → ReadsScript i source source' trace → IsOpenLine g trace d.store end.store line
        → RunEnds d end source source' (Says line)
    Ran_without_memory : end.history ≡ None → RunEnds d end source source' (Says lines_of.NoMemory)
    Has_run : (trace : Script) (kept : Header) (history : HistoryState) (closing : Line) (reopened : Reopened) (closed : Devices S B)
        → end.history ≡ Some history
        → ReadsScript i source source' trace
        → OpensFor g trace kept d.store end.store
        → IsRun g h trace kept d (devices end.store end.base) history closing
        → Leaves g h d closed
        → IsClosed g h history closed (devices end.store end.base)
        → Reopens g h kept trace.shows closed (devices end.store end.base) reopened
        → IsAllowedAgain g h kept d (devices end.store end.base) history closing reopened
        → RunEnds d end source source' (Reported 1 history.log.entries closing reopened)
