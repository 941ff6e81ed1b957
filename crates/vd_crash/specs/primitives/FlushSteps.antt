-- The primitives of a flush: what each asks of the core, and the core after it.
use Rattle.std.specs.Prelude.{ℕ, ◌≡◌, ◌+◌, ◌<◌, ◌≤◌, ◌⊎◌, ◌++◌, [], ◌∷◌, Bool, true, false, Some, Ok, length}
use Rattle.vd_image.specs.Log.{Sector, CallId, Entry, Flush, Fine, Ask, Done, Reply, Covers, IsIssueOf}
use Rattle.vd_image.specs.Image.{Header, Record, geometry_of}
use Rattle.vd_crash.specs.facts.Safe.{Opening}
use Rattle.vd_crash.specs.facts.Facts.{HasEntry}
use Rattle.vd_crash.specs.facts.Words.{WritesNothing, IsUpdated, WritesOnly, with_index, Sealing}
use Rattle.vd_crash.specs.facts.Memory.{Memory}
use Rattle.vd_crash.specs.flushes.Flushing.{Snapshot, snapshot_of, IsOffAfter, IsWantedRecord, IsWantedPage, IsLogged}
use Rattle.vd_crash.specs.flushes.Moves.{sealed, recycled}
use Rattle.vd_crash.specs.flushes.Stage.{Flight, Idle, Answering, HasTicket, FlushProgress, IsLoggedBy}
use Rattle.vd_crash.specs.primitives.Core.{Stage, Resting, Sending, Working, Putting, Syncing, Puts_next, Has_next, Syncs_next, Is_next}
use Rattle.vd_crash.specs.primitives.States.{State, state, staged, EndsNone, nothing_put, HasCleanPage, IsNextHeader}

-- the flush of this call that waits for its data flush
pub record IsSending (s : State) : Type 0 where
  pub call : CallId
  pub entry : ℕ
  pub number : ℕ
  pub data_at : ℕ
  pub snapshot : Snapshot
  pub ticket : CallId
  pub stage : s.stage ≡ Sending call entry number data_at snapshot ticket

-- the flush that has had its data flush and has nothing in flight
pub record IsWorking (s : State) : Type 0 where
  pub call : CallId
  pub entry : ℕ
  pub number : ℕ
  pub data_at : ℕ
  pub progress : FlushProgress
  pub stage : s.stage ≡ Working call entry number data_at progress

-- the stage once it has put v into sector a by the event that is next
abbrev pub put_stage : (s : State) → IsWorking s → (a : ℕ) → Sector → CallId → Stage
put_stage s w a v ticket = Putting w.call w.entry w.number w.data_at w.progress a (length s.log) v ticket

abbrev pub with_cursor : Memory → ℕ → Memory
with_cursor m cursor = with_index m m.index.sure m.index.tried cursor

-- v is put into sector a by this event, under a ticket that no pass has
pub record PutsSector (s : State) (event : Entry) (ticket : CallId) (a : ℕ) (v : Sector) : Type 0 where
  pub ticket_new : (k : ℕ) → HasTicket (s.flights k) ticket → ⊥
  pub issues : IsIssueOf event ticket
  pub only : WritesOnly event a v
  pub covers : Covers event a v

-- a record is put into the slot at the cursor
pub record RecordPut (o : Opening) (s : State) : Type 0 where
  pub flush : IsWorking s
  pub event : Entry
  pub ticket : CallId
  pub value : Sector
  pub item : Record
  pub room : s.memory.index.cursor < o.layout.slots
  pub put : PutsSector s event ticket (o.layout.slot_at s.memory.index.cursor) value
  pub reads : o.format.record_of value ≡ Some item
  pub wanted : IsWantedRecord o s.memory flush.progress.snapshot item

-- a page of the map is put that wasn't put in this flush
pub record PagePut (o : Opening) (s : State) : Type 0 where
  pub flush : IsWorking s
  pub event : Entry
  pub ticket : CallId
  pub value : Sector
  pub page : ℕ
  pub within : page < o.layout.chunks
  pub put : PutsSector s event ticket (o.layout.map_at page) value
  pub wanted : (c : ℕ) → c < o.layout.chunks → o.layout.map_at c ≡ o.layout.map_at page → IsWantedPage o s.memory flush.progress.snapshot c value
  pub once : (c : ℕ) → flush.progress.written c ≡ true → o.layout.map_at c ≡ o.layout.map_at page → ⊥

-- the flush under this put in flight: what it puts, where, and by which event
pub record SectorInFlight (s : State) : Type 0 where
  pub call : CallId
  pub entry : ℕ
  pub number : ℕ
  pub data_at : ℕ
  pub progress : FlushProgress
  pub sector : ℕ
  pub event : ℕ
  pub value : Sector
  pub ticket : CallId
  pub stage : s.stage ≡ Putting call entry number data_at progress sector event value ticket

-- the put is done: a record that names the chunks of more blocks, or a page of the map of more chunks
abbrev pub progress_put : (s : State) → SectorInFlight s → (recorded written : ℕ → Bool) → FlushProgress
progress_put s h recorded written = record {
  snapshot = h.progress.snapshot;
  first = h.progress.first;
  by = length s.log + 1;
  recorded = recorded;
  written = written;
  slotted = h.progress.slotted;
  paged = h.progress.paged;
}

-- the flush that waits for its sync, asked at this event
pub record IsSyncing (s : State) : Type 0 where
  pub call : CallId
  pub entry : ℕ
  pub number : ℕ
  pub data_at : ℕ
  pub progress : FlushProgress
  pub asked : ℕ
  pub ticket : CallId
  pub stage : s.stage ≡ Syncing call entry number data_at progress asked ticket

abbrev pub sync_stage : (s : State) → IsSyncing s → FlushProgress → Stage
sync_stage s h p = Working h.call h.entry h.number h.data_at p

-- The sync is answered well: what was put before is in every image, and a page of the map that isn't marked any more is caught up.
pub record AnswersSync (o : Opening) (s : State) : Type 0 where
  pub flush : IsSyncing s
  pub slotted : ℕ → Bool
  pub paged : ℕ → Bool
  pub marked : ℕ → Bool
  pub slots : (b : ℕ) → slotted b ≡ true → (flush.progress.slotted b ≡ true) ⊎ (flush.progress.recorded b ≡ true)
  pub pages : (c : ℕ) → paged c ≡ true → (flush.progress.paged c ≡ true) ⊎ (flush.progress.written c ≡ true)
  pub cleared : (c : ℕ) → c < o.layout.chunks → marked (o.layout.map_at c) ≡ false → (s.marked (o.layout.map_at c) ≡ false) ⊎ (paged c ≡ true)

abbrev pub progress_synced : FlushProgress → (slotted paged : ℕ → Bool) → FlushProgress
progress_synced p slotted paged = record { snapshot = p.snapshot; first = p.first; by = p.by; recorded = p.recorded; written = p.written; slotted = slotted; paged = paged }

-- the header of the next generation is put
pub record HeaderPut (o : Opening) (s : State) : Type 0 where
  pub flush : IsWorking s
  pub event : Entry
  pub ticket : CallId
  pub value : Sector
  pub next : Header
  pub tried : ℕ → Bool
  pub put : PutsSector s event ticket o.layout.header_at value
  pub header : IsNextHeader o s.memory flush.progress value next tried

-- a recycle that puts, or has put, this header
pub record HeaderWork : Type 0 where
  pub call : CallId
  pub entry : ℕ
  pub number : ℕ
  pub data_at : ℕ
  pub progress : FlushProgress
  pub value : Sector
  pub next : Header

abbrev pub header_work : (s : State) → IsWorking s → Sector → Header → HeaderWork
header_work s w v next = record { call = w.call; entry = w.entry; number = w.number; data_at = w.data_at; progress = w.progress; value = v; next = next }

abbrev pub puts_header : HeaderWork → ℕ → CallId → Stage
puts_header h event ticket = Puts_next h.call h.entry h.number h.data_at h.progress event h.value h.next ticket

abbrev pub has_header : HeaderWork → ℕ → Stage
has_header h by = Has_next h.call h.entry h.number h.data_at h.progress by h.value h.next

abbrev pub syncs_header : HeaderWork → (by asked : ℕ) → CallId → Stage
syncs_header h by asked ticket = Syncs_next h.call h.entry h.number h.data_at h.progress by h.value h.next asked ticket

abbrev pub synced_header : HeaderWork → (by asked : ℕ) → Stage
synced_header h by asked = Is_next h.call h.entry h.number h.data_at h.progress by h.value h.next asked

-- a pass that had nothing in flight owes the good answer of this flush
pub record OwesAnswer (s : State) (call : CallId) (entry number : ℕ) : Type 0 where
  pub pass : ℕ
  pub flights : ℕ → Flight
  pub idle : s.flights pass ≡ Idle
  pub put : IsUpdated s.flights flights pass (Answering call entry number)

-- A flush by records, or with nothing to log, is over: its pass owes the answer, all that it logs is in slots, and the pages that have it are
-- marked or caught up.
pub record RecordsSeal (o : Opening) (s : State) : Type 0 where
  pub flush : IsWorking s
  pub owes : OwesAnswer s flush.call flush.entry flush.number
  pub sealing : Sealing
  pub logged : IsLogged o s.history s.memory flush.progress.snapshot sealing
  pub sure : s.memory.index.sure ≡ true
  pub slotted : (b : ℕ) → flush.progress.snapshot.blocks b ≡ true → flush.progress.slotted b ≡ true
  pub lost_slotted : (b : ℕ) → flush.progress.snapshot.lost (o.layout.chunk_of b) ≡ true → flush.progress.slotted b ≡ true
  pub pages : (b : ℕ) → flush.progress.snapshot.blocks b ≡ true → (s.marked (o.layout.map_at (o.layout.chunk_of b)) ≡ true) ⊎ (flush.progress.paged (o.layout.chunk_of b) ≡ true)
  pub lost_pages : (c : ℕ) → flush.progress.snapshot.lost c ≡ true → (s.marked (o.layout.map_at c) ≡ true) ⊎ (flush.progress.paged c ≡ true)

-- a recycle is over: its pass owes the answer, and any marks will do
pub record RecycleSeal (o : Opening) (s : State) : Type 0 where
  pub flush : HeaderWork
  pub by : ℕ
  pub asked : ℕ
  pub owes : OwesAnswer s flush.call flush.entry flush.number
  pub sealing : Sealing
  pub marked : ℕ → Bool
  pub tried : ℕ → Bool
  pub stage : s.stage ≡ synced_header flush by asked
  pub logged : IsLogged o s.history s.memory flush.progress.snapshot sealing
  pub none_tried : (b : ℕ) → tried b ≡ false

-- v is a header of the next generation with the image's numbers, and every page of the map is caught up
pub record IsRecycleHeader (o : Opening) (m : Memory) (p : FlushProgress) (v : Sector) (next : Header) : Type 0 where
  pub reads : o.format.header_of v ≡ Ok next
  pub geometry : geometry_of next ≡ o.layout.geometry
  pub generation : next.generation ≡ m.index.generation + 1
  pub paged : (c : ℕ) → c < o.layout.chunks → p.paged c ≡ true

-- `tracked` may be lowered to the header's: each sector between is zero in the base or won't be taken from it after the flush; and what the
-- header is tried for is what was tried before and the snapshot, and nothing that will be taken from the base.
pub record MayLowerTracked (o : Opening) (m : Memory) (p : Snapshot) (next : Header) (tried : ℕ → Bool) : Type 0 where
  pub lower : next.tracked ≤ m.index.tracked
  pub zero : (s : ℕ) → s < o.layout.size → next.tracked ≤ s → s < m.index.tracked → (o.base s ≡ o.zeros) ⊎ IsOffAfter o m p (o.layout.block_of s)
  pub wider : (b : ℕ) → m.index.tried b ≡ true → tried b ≡ true
  pub all : (b : ℕ) → (p.blocks b ≡ true) ⊎ (p.lost (o.layout.chunk_of b) ≡ true) → tried b ≡ true
  pub wanted : (b : ℕ) → tried b ≡ true → IsOffAfter o m p b

-- a flush begins, has its data flush, syncs, fails, or is over
pub data IsFlushPrimitive (o : Opening) (s : State) : State → Type 0 where
  Begins : (call ticket : CallId) (a n : ℕ) → s.stage ≡ Resting → HasEntry s.history a n (Ask call Flush)
      → IsFlushPrimitive o s (staged s (s.log ++ Ask ticket Flush ∷ []) s.memory (Sending call a n (length s.log) (snapshot_of s.memory s.history) ticket))
  Data_flushed : (h : IsSending s) (paged : ℕ → Bool) → ((c : ℕ) → paged c ≡ true → HasCleanPage o s.history s.memory.discards.drops s.marked h.snapshot c)
      → IsFlushPrimitive o s (staged s (s.log ++ Reply h.ticket Fine ∷ []) s.memory (Working h.call h.entry h.number h.data_at (nothing_put h.snapshot s.memory.index.cursor paged)))
  Flush_fails : (e : Entry) → WritesNothing e → EndsNone s.flights e → IsFlushPrimitive o s (staged s (s.log ++ e ∷ []) s.memory Resting)
  Syncs : (h : IsWorking s) (ticket : CallId)
      → IsFlushPrimitive o s (staged s (s.log ++ Ask ticket Flush ∷ []) s.memory (Syncing h.call h.entry h.number h.data_at h.progress (length s.log) ticket))
  Synced : (h : AnswersSync o s) → IsFlushPrimitive o s (state (s.log ++ Reply h.flush.ticket Fine ∷ []) s.history s.memory h.marked s.flights (sync_stage s h.flush (progress_synced h.flush.progress h.slotted h.paged)))
  Seals : (h : RecordsSeal o s) → IsFlushPrimitive o s (state s.log s.history (sealed s.memory h.sealing) s.marked h.owes.flights Resting)
  Seals_recycle : (h : RecycleSeal o s) → IsFlushPrimitive o s (state s.log s.history (recycled s.memory h.flush.next h.tried h.sealing) h.marked h.owes.flights Resting)

-- a flush puts a record, a page of the map or the next header, or such a put is done; and the sync of the next header
pub data IsPutPrimitive (o : Opening) (s : State) : State → Type 0 where
  Puts_record : (h : RecordPut o s)
      → IsPutPrimitive o s (staged s (s.log ++ h.event ∷ []) (with_cursor s.memory (s.memory.index.cursor + 1)) (put_stage s h.flush (o.layout.slot_at s.memory.index.cursor) h.value h.ticket))
  Puts_page : (h : PagePut o s) → IsPutPrimitive o s (staged s (s.log ++ h.event ∷ []) (with_cursor s.memory s.memory.index.cursor) (put_stage s h.flush (o.layout.map_at h.page) h.value h.ticket))
  Put_done : (h : SectorInFlight s) (recorded written : ℕ → Bool) → IsLoggedBy o s.memory h.sector h.value recorded written h.progress
      → IsPutPrimitive o s (staged s (s.log ++ Done h.ticket ∷ []) s.memory (Working h.call h.entry h.number h.data_at (progress_put s h recorded written)))
  Puts_header : (h : HeaderPut o s)
      → IsPutPrimitive o s (staged s (s.log ++ h.event ∷ []) (with_index s.memory false h.tried s.memory.index.cursor) (puts_header (header_work s h.flush h.value h.next) (length s.log) h.ticket))
  Header_done : (h : HeaderWork) (i : ℕ) (ticket : CallId) → s.stage ≡ puts_header h i ticket → IsPutPrimitive o s (staged s (s.log ++ Done ticket ∷ []) s.memory (has_header h (length s.log + 1)))
  Syncs_header : (h : HeaderWork) (by : ℕ) (ticket : CallId) → s.stage ≡ has_header h by → IsPutPrimitive o s (staged s (s.log ++ Ask ticket Flush ∷ []) s.memory (syncs_header h by (length s.log) ticket))
  Header_synced : (h : HeaderWork) (by r : ℕ) (ticket : CallId) → s.stage ≡ syncs_header h by r ticket → IsPutPrimitive o s (staged s (s.log ++ Reply ticket Fine ∷ []) s.memory (synced_header h by r))
