-- A core as the laws of crash safety see it.
use Rattle.std.specs.Prelude.{ℕ, ◌≡◌, ◌*◌, ◌/◌, ◌<◌, ◌≤◌, ◌⊎◌, ◌||◌, Bool, true, false, List, length, take, Option, Some, None, slice_get, slice_index_or}
use Rattle.std.specs.List.{Contains}
use Rattle.vd_law.specs.declared.entry.Sector.{Sector}
use Rattle.vd_law.specs.declared.entry.CallId.{CallId}
use Rattle.vd_law.specs.Entries.{Entry}
use Rattle.vd_law.specs.Histories.{HistoryState}
use Rattle.vd_device.specs.declared.ticket.Ticket.{Ticket}
use Rattle.vd_device.specs.Tickets.{ticket_id}
use Rattle.vd_format.specs.declared.header.Header.{Header}
use Rattle.vd_format.specs.declared.map.Entry.{Entry as MapEntry}
use Rattle.vd_bits.specs.Marks.{NoneFrom}
use Rattle.vd_table.specs.Tables.{TableState}
use Rattle.vd_image.specs.Image.{geometry_of}
use Rattle.vd_image.specs.Layouts.{layout_of}
use Rattle.vd_image.specs.Decoders.{format_of}
use Rattle.vd_image.specs.CrashImages.{sectors_or}
use Rattle.vd_crash.specs.facts.Safe.{Opening, numbered}
use Rattle.vd_crash.specs.flushes.Flushing.{Snapshot}
use Rattle.vd_crash.specs.flushes.Stage.{Flight, Idle as NoFlight, Writing, Answering, FlushProgress}
use Rattle.vd_crash.specs.primitives.Core.{Stage, Resting, Sending, Working, Putting, Syncing, Puts_next, Has_next, Syncs_next, Is_next}
use Rattle.vd_crash.specs.primitives.Primitives.{State}
use Rattle.vd_crash.specs.primitives.Keeping.{KeepsCrashSafety}
use Rattle.vd_keeper.specs.declared.stage.Stage as stages
use Rattle.vd_keeper.specs.declared.stage.Stage.TheVariants as stage
use Rattle.vd_keeper.specs.declared.stage.Way.TheVariants as ways
use Rattle.vd_keeper.specs.Keeping.{KeeperState}
use Rattle.vd_keeper.specs.Entries.{chunks_with}
use Rattle.vd_keeper.specs.Flushes.{is_recycle}
use Rattle.vd_keeper.specs.Moves.{next_header}
use Rattle.vd_passes.specs.declared.pass.Pass.{Pass}
use Rattle.vd_passes.specs.declared.pass.Phase.{Phase}
use Rattle.vd_passes.specs.declared.pass.Phase.TheVariants.{Idle, Asked, Held, Fetching, Filled, Issuing, Looking, Flushing, Ready}
use Rattle.vd_passes.specs.declared.pass.Fault.{Fault}
use Rattle.vd_passes.specs.Passes.{call_id}
use Rattle.vd_format.specs.Background.{zero_sector, base_at}
use Rattle.vd_machine.specs.Opened.{is_in}
use Rattle.vd_crash.specs.facts.Memory.{Discards}
use Rattle.vd_crash.specs.facts.Metadata.{RecordNames}

abbrev pub bit_of : List Bool → ℕ → Bool
bit_of bits b = slice_index_or bits b false

abbrev pub storage_given : Option (Option ℕ) → Option ℕ
storage_given (Some (Some p)) = Some p
storage_given _ = None

-- the storage chunk of a chunk
abbrev pub storage_of : TableState → ℕ → Option ℕ
storage_of table c = storage_given (slice_get table.chunks c)

-- What the laws speak of, for an image with this header, whose chunks had these entries: what the store had at its start and held when
-- it was opened, after so many events, and the base and the guest's disk then.
abbrev pub opening_for : (h : Header) (entries : List MapEntry) (before : List Sector) (held : ℕ → Sector) (base disk : List Sector) (opened : ℕ) → Opening
opening_for h entries before held base disk opened = record {
  format = format_of h;
  layout = layout_of h;
  base = base_at zero_sector base;
  zeros = zero_sector;
  before = sectors_or zero_sector before;
  held = held;
  disk = sectors_or zero_sector disk;
  was_local = λ b. is_in (slice_get entries (b / h.chunk)) (b / h.chunk * h.chunk) b;
  opened = opened;
}

-- What a pass has in flight on the store, or owes: the write of its piece, or the good answer of a flush that is over.
abbrev pub IsFlightOf : Phase → (fault : Option Fault) → (i : ℕ) → Pass → Flight → Type 0
IsFlightOf Issuing fault i p f = (t : Ticket) × (j : ℕ) × (n : ℕ) × (p.ticket ≡ Some t) × (f ≡ Writing p.block j n (call_id i p) (ticket_id t))
IsFlightOf Ready None i p f = ((p.flush ≡ true) × ((a : ℕ) × (n : ℕ) × (f ≡ Answering (call_id i p) a n))) ⊎ ((p.flush ≡ false) × (f ≡ NoFlight))
IsFlightOf Ready (Some why) i p f = f ≡ NoFlight
IsFlightOf Idle fault i p f = f ≡ NoFlight
IsFlightOf Asked fault i p f = f ≡ NoFlight
IsFlightOf Held fault i p f = f ≡ NoFlight
IsFlightOf Fetching fault i p f = f ≡ NoFlight
IsFlightOf Filled fault i p f = f ≡ NoFlight
IsFlightOf Looking fault i p f = f ≡ NoFlight
IsFlightOf Flushing fault i p f = f ≡ NoFlight

-- what each pass has, and nobody beyond the passes
pub record AreFlightsOf (passes : List Pass) (flights : ℕ → Flight) : Type 0 where
  pub each : (i : ℕ) (p : Pass) → slice_get passes i ≡ Some p → IsFlightOf p.phase p.fault i p (flights i)
  pub beyond : (i : ℕ) → slice_get passes i ≡ None → flights i ≡ NoFlight

-- a block that is being written whole is the block of a pass that issues it
abbrev pub IsPendingOf : (fresh : List Bool) (passes : List Pass) (b : ℕ) → Option ℕ → Type 0
IsPendingOf fresh passes b pending = (pending ≡ None)
    ⊎ ((i : ℕ) × (p : Pass) × (slice_get passes i ≡ Some p) × (p.phase ≡ Issuing) × (p.block ≡ b) × (bit_of fresh b ≡ false))

-- No chunk is discarded, and none was when the image was opened.
pub record IsUndiscarded (d : Discards) : Type 0 where
  pub drops : (j : ℕ) → d.drops j ≡ None
  pub zeros : (c : ℕ) → d.zeros c ≡ false
  pub lost : (c : ℕ) → d.lost c ≡ false

-- what a flush took when it began: these blocks, with the stale ones
pub record IsSnapshotOf (snapshot stale : List Bool) (p : Snapshot) : Type 0 where
  pub blocks : (b : ℕ) → p.blocks b ≡ bit_of snapshot b
  pub wanted : (b : ℕ) → p.wanted b ≡ (bit_of stale b || bit_of snapshot b)
  pub zeros : (c : ℕ) → p.zeros c ≡ false
  pub lost : (c : ℕ) → p.lost c ≡ false

-- How far the flush under way is, by the keeper: each chunk that it has logged stands in a record that is done, or in the one in flight;
-- and each chunk's sector of the map is right already, or was put, or is in flight, or is still to be put.
pub record IsProgressOf (k : KeeperState) (pr : FlushProgress) (InRecord InPage : ℕ → Type 0) : Type 0 where
  pub snapshot : IsSnapshotOf k.snapshot k.stale pr.snapshot
  pub recorded : k.way ≡ ways.Records → (b : ℕ) → bit_of k.snapshot b ≡ true → Contains (take k.logged (chunks_with k.header k.snapshot)) (b / k.header.chunk) → (pr.recorded b ≡ true) ⊎ InRecord b
  pub paged : is_recycle k.way ≡ true → (c : ℕ) → c < (layout_of k.header).chunks
      → (pr.paged c ≡ true) ⊎ ((pr.written c ≡ true) × (bit_of k.put (c / 32) ≡ true)) ⊎ InPage c ⊎ (bit_of k.marked (c / 32) ≡ true)
  pub written_unmarked : (c : ℕ) → pr.written c ≡ true → bit_of k.marked (c / 32) ≡ false
  -- the sector in flight is one that was put
  pub in_page : (c : ℕ) → c < (layout_of k.header).chunks → InPage c → (bit_of k.put (c / 32) ≡ true) × (bit_of k.marked (c / 32) ≡ false)
  -- where none is marked any more, a put isn't flushed only while one is in flight
  pub caught_up : k.stage ≡ stage.Puts → is_recycle k.way ≡ true → NoneFrom k.marked 0 → ((page : ℕ) → bit_of k.put page ≡ false) ⊎ ((c : ℕ) × (c < (layout_of k.header).chunks) × InPage c)

abbrev pub Nowhere : ℕ → Type 0
Nowhere b = ⊥

-- the record in flight, in the last slot that was used, names the block's chunk
abbrev pub InRecordOf : (o : Opening) (k : KeeperState) (first sector : ℕ) (v : Sector) → ℕ → Type 0
InRecordOf o k first sector v b = (slot : ℕ) × (sector ≡ o.layout.slot_at slot) × (first ≤ slot) × (slot < k.next) × (slot < o.layout.slots) × RecordNames o k.header.generation (o.layout.chunk_of b) v

-- the sector of the map in flight has the chunk
abbrev pub InPageOf : (o : Opening) (sector : ℕ) → ℕ → Type 0
InPageOf o sector c = sector ≡ o.layout.map_at c

-- The stage of the flush of this call, by the keeper's stage and by what the pass has in flight.
abbrev pub IsStageBy : stages.Stage → (head : Bool) → Option Ticket → (o : Opening) → (k : KeeperState) → CallId → Stage → Type 0
IsStageBy stage.DataFlush head (Some t) o k call s = (a : ℕ) × (n : ℕ) × (q : ℕ) × (snapshot : Snapshot) × IsSnapshotOf k.snapshot k.stale snapshot × (s ≡ Sending call a n q snapshot (ticket_id t))
IsStageBy stage.Puts head None o k call s = (a : ℕ) × (n : ℕ) × (q : ℕ) × (pr : FlushProgress) × IsProgressOf k pr Nowhere Nowhere × (s ≡ Working call a n q pr)
IsStageBy stage.Puts false (Some t) o k call s = (a : ℕ) × (n : ℕ) × (q : ℕ) × (pr : FlushProgress) × (sector : ℕ) × (at : ℕ) × (v : Sector)
    × IsProgressOf k pr (InRecordOf o k pr.first sector v) (InPageOf o sector) × (s ≡ Putting call a n q pr sector at v (ticket_id t))
IsStageBy stage.Puts true (Some t) o k call s = (a : ℕ) × (n : ℕ) × (q : ℕ) × (pr : FlushProgress) × (at : ℕ) × (v : Sector) × IsProgressOf k pr Nowhere Nowhere × (s ≡ Puts_next call a n q pr at v (next_header k.way k.header) (ticket_id t))
IsStageBy stage.Syncs false None o k call s = (a : ℕ) × (n : ℕ) × (q : ℕ) × (pr : FlushProgress) × IsProgressOf k pr Nowhere Nowhere × (s ≡ Working call a n q pr)
IsStageBy stage.Syncs false (Some t) o k call s = (a : ℕ) × (n : ℕ) × (q : ℕ) × (r : ℕ) × (pr : FlushProgress) × IsProgressOf k pr Nowhere Nowhere × (s ≡ Syncing call a n q pr r (ticket_id t))
IsStageBy stage.Syncs true None o k call s = (a : ℕ) × (n : ℕ) × (q : ℕ) × (by : ℕ) × (pr : FlushProgress) × (v : Sector) × IsProgressOf k pr Nowhere Nowhere × (s ≡ Has_next call a n q pr by v (next_header k.way k.header))
IsStageBy stage.Syncs true (Some t) o k call s = (a : ℕ) × (n : ℕ) × (q : ℕ) × (by : ℕ) × (r : ℕ) × (pr : FlushProgress) × (v : Sector) × IsProgressOf k pr Nowhere Nowhere × (s ≡ Syncs_next call a n q pr by v (next_header k.way k.header) r (ticket_id t))
IsStageBy stage.Seals false ticket o k call s = (a : ℕ) × (n : ℕ) × (q : ℕ) × (pr : FlushProgress) × IsProgressOf k pr Nowhere Nowhere × ((b : ℕ) → bit_of k.snapshot b ≡ true → pr.slotted b ≡ true) × (s ≡ Working call a n q pr)
IsStageBy stage.Seals true ticket o k call s = (a : ℕ) × (n : ℕ) × (q : ℕ) × (by : ℕ) × (r : ℕ) × (pr : FlushProgress) × (v : Sector) × IsProgressOf k pr Nowhere Nowhere × (s ≡ Is_next call a n q pr by v (next_header k.way k.header) r)
IsStageBy _ head ticket o k call s = ⊥

-- What a flush under way was begun with: one that isn't a recycle needs a sure header, and leaves the map behind. And what each stage
-- has behind it.
pub record IsBegunOf (k : KeeperState) : Type 0 where
  pub surely : is_recycle k.way ≡ false → k.sure ≡ true
  pub behind : (is_recycle k.way ≡ false) ⊎ (k.stage ≡ stage.DataFlush) → (b : ℕ) → bit_of k.snapshot b ≡ true → bit_of k.marked (b / k.header.chunk / 32) ≡ true
  pub nothing : k.way ≡ ways.Nothing → (b : ℕ) → bit_of k.snapshot b ≡ false
  pub headless : is_recycle k.way ≡ false → k.head ≡ false
  -- no sector of the map is put before the first put, in a flush that isn't a recycle, or unflushed once the header is put
  pub unput : (k.stage ≡ stage.DataFlush) ⊎ (is_recycle k.way ≡ false) ⊎ (k.head ≡ true) → (page : ℕ) → bit_of k.put page ≡ false
  pub unlogged : k.stage ≡ stage.DataFlush → k.logged ≡ 0
  pub all_logged : k.stage ≡ stage.Syncs → k.way ≡ ways.Records → length (chunks_with k.header k.snapshot) ≤ k.logged
  pub recycled : k.stage ≡ stage.Seals → k.head ≡ false → is_recycle k.way ≡ false

abbrev pub IsStageOf : (flusher : Option ℕ) → (o : Opening) → (k : KeeperState) → List Pass → Stage → Type 0
IsStageOf None o k passes s = s ≡ Resting
IsStageOf (Some i) o k passes s = IsBegunOf k × ((p : Pass) × (slice_get passes i ≡ Some p) × IsStageBy k.stage k.head p.ticket o k (call_id i p) s)

-- The core as these laws see it.
pub record CoreState : Type 0 where
  -- the storage chunk of each chunk
  pub table : TableState
  -- the blocks that are local now
  pub fresh : List Bool
  -- what every image says, and what a flush is to write
  pub keeping : KeeperState
  -- the pass whose flush is under way
  pub flusher : Option ℕ
  pub passes : List Pass
  pub history : HistoryState

abbrev pub core_state : TableState → (fresh : List Bool) → KeeperState → (flusher : Option ℕ) → List Pass → HistoryState → CoreState
core_state table fresh k flusher passes history = record { table = table; fresh = fresh; keeping = k; flusher = flusher; passes = passes; history = history }

-- The state that the laws speak of is that of this core, by the store's log.
pub record Mirrors (o : Opening) (c : CoreState) (log : List Entry) (s : State) : Type 0 where
  pub log_is : s.log ≡ log
  pub history_is : s.history ≡ numbered c.history.log.entries c.history.numbers
  pub many : length c.history.numbers ≡ length c.history.log.entries
  pub generation : s.memory.index.generation ≡ c.keeping.header.generation
  pub tracked : s.memory.index.tracked ≡ c.keeping.header.tracked
  pub sure : s.memory.index.sure ≡ c.keeping.sure
  pub storage : (chunk : ℕ) → s.memory.index.table chunk ≡ storage_of c.table chunk
  pub stale : (b : ℕ) → s.memory.index.stale b ≡ bit_of c.keeping.stale b
  pub off_base : (b : ℕ) → s.memory.index.off_base b ≡ bit_of c.keeping.stale b
  pub undiscarded : IsUndiscarded s.memory.discards
  -- no header lowers the tracked part
  pub tried : (b : ℕ) → s.memory.index.tried b ≡ false
  pub same_tracked : (t : ℕ) → c.keeping.way ≡ ways.Recycle t → t ≡ c.keeping.header.tracked
  pub cursor : s.memory.index.cursor ≡ c.keeping.next
  pub fresh_is : (b : ℕ) → s.memory.fresh b ≡ bit_of c.fresh b
  pub owed : (b : ℕ) → s.memory.owed b ≡ bit_of c.keeping.owed b
  pub pending : (b : ℕ) → IsPendingOf c.fresh c.passes b (s.memory.pending b)
  -- a sector of the map is marked while a put of it isn't flushed too
  pub marked : (chunk : ℕ) → chunk < o.layout.chunks → s.marked (o.layout.map_at chunk) ≡ (bit_of c.keeping.marked (chunk / 32) || bit_of c.keeping.put (chunk / 32))
  pub flights : AreFlightsOf c.passes s.flights
  pub stage : IsStageOf c.flusher o c.keeping c.passes s.stage

-- What a core keeps so that every image that a crash may leave is safe, from this opening on.
pub record HasSafeMirror (o : Opening) (c : CoreState) (log : List Entry) : Type 0 where
  pub state : State
  pub keeps : KeepsCrashSafety o state
  pub mirrors : Mirrors o c log state

-- What the laws are told of the disk's numbers: they are those of one header, but for its generation.
pub record IsOfHeader (h : Header) (o : Opening) (k : KeeperState) : Type 0 where
  pub format : o.format ≡ format_of h
  pub layout : o.layout ≡ layout_of h
  pub zeros : o.zeros ≡ zero_sector
  pub same : geometry_of k.header ≡ geometry_of h
