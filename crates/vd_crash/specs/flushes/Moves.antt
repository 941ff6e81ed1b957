-- What a core may do to its store's log, its guest's history and its memory.
use Rattle.std.specs.Prelude.{ℕ, ◌≡◌, ◌+◌, ◌<◌, ◌⊎◌, ◌++◌, [], ◌∷◌, Bool, true, false, List, Option, Some, None, length, Ok}
use Rattle.vd_image.specs.Log.{Sector, CallId, Entry, Issue, Done, Ends, Flushes, May, IsOpen, IsWriteInFlight}
use Rattle.vd_image.specs.Image.{Header, Record}
use Rattle.vd_crash.specs.facts.Safe.{NumberedEntry, Opening, events, IsSafe}
use Rattle.vd_crash.specs.facts.Facts.{OwnWrites, IsClaimSettled, Holds}
use Rattle.vd_crash.specs.flushes.Flushing.{Snapshot, FlushAsk, IsOffAfter, IsFlushUnderWay, IsWantedRecord, IsWantedPage, IsCaughtUp, IsLogged}
use Rattle.vd_crash.specs.flushes.Stage.{FlushProgress, IsSoFar}
use Rattle.vd_crash.specs.flushes.Blocks.{PieceWrite, issue_of, WritesLocal, WritesWhole, BecomesLocal, Owes, OwesMore, ChunkDrop, with_owed, with_pending, dropped_memory}
use Rattle.vd_crash.specs.facts.Words.{AnswersWell, Grows, WritesNothing, with_blocks, with_table, IsUpdated, WritesOnly, with_index, Sealing, sealed_memory, no_write}
use Rattle.vd_crash.specs.facts.Memory.{Memory, IsTable}
use Rattle.vd_crash.specs.facts.Metadata.{IsHeaderLeft}
use Rattle.vd_format.specs.Background.{background}

pub record World : Type 0 where
  pub log : List Entry
  pub history : List NumberedEntry
  pub memory : Memory

abbrev pub world : List Entry → List NumberedEntry → Memory → World
world log history memory = record { log = log; history = history; memory = memory }

-- what each step keeps
pub record Keeps (o : Opening) (w : World) : Type 0 where
  pub safe : IsSafe o w.log w.history
  pub holds : Holds o w.log w.history w.memory

-- an entry numbered at the last moment
abbrev pub entry_now : List Entry → Entry → NumberedEntry
entry_now log event = record { event = event; number = length log }

-- one more store event, and what memory is then
abbrev pub stored : World → Entry → Memory → World
stored w e m = world (w.log ++ e ∷ []) w.history m

-- one more entry, and what memory is then
abbrev pub noted : World → Entry → Memory → World
noted w event m = world w.log (w.history ++ entry_now w.log event ∷ []) m

-- one more entry and its store event
abbrev pub issued : World → Entry → Entry → Memory → World
issued w event e m = world (w.log ++ e ∷ []) (w.history ++ entry_now w.log event ∷ []) m

-- an issue that is done at once, and no store event
abbrev pub done_at_once : World → CallId → Entry → Memory → World
done_at_once w call event m = world w.log ((w.history ++ entry_now w.log event ∷ []) ++ entry_now w.log (Done call) ∷ []) m

-- an entry that is no issue and no Done: an ask, a read, a failure, a reply. A flush is answered well where it is due
pub record NotesEntry (o : Opening) (w : World) (event : Entry) : Type 0 where
  pub writes_nothing : WritesNothing event
  pub no_done : (id : CallId) → event ≡ Done id → ⊥
  pub answers : AnswersWell o w.log w.history w.memory (entry_now w.log event)

-- a write of a whole block is given up, which no guest write waits for
pub record GivesUp (o : Opening) (w : World) (pending : ℕ → Option ℕ) (b : ℕ) : Type 0 where
  pub put : IsUpdated w.memory.pending pending b None
  pub closed : (j n s : ℕ) (v : Sector) → o.layout.block_of s ≡ b → OwnWrites w.memory.discards.drops w.history j n s v → IsOpen (events w.history) j → ⊥

-- a call's writes that are open are to this local block, and done in the store
pub record EndsGuestWrite (o : Opening) (w : World) (call : CallId) (b : ℕ) : Type 0 where
  pub local : w.memory.fresh b ≡ true
  pub mine : (j n s : ℕ) (v : Sector) → OwnWrites w.memory.discards.drops w.history j n s v
      → (is_open : IsOpen (events w.history) j) → is_open.id ≡ call → (o.layout.block_of s ≡ b) × ((d : ℕ) × Ends w.log n d)

-- a chunk with no write in flight is discarded by a call with none
pub record DropsChunk (o : Opening) (w : World) : Type 0 where
  pub drop : ChunkDrop o w.history w.memory
  pub closed : (j n s : ℕ) (v : Sector) → OwnWrites w.memory.discards.drops w.history j n s v → o.layout.chunk_of (o.layout.block_of s) ≡ drop.chunk → IsOpen (events w.history) j → ⊥
  pub no_write : (j n s : ℕ) (v : Sector) → OwnWrites w.memory.discards.drops w.history j n s v → IsWriteInFlight (events w.history) j drop.call → ⊥

-- a flush that is under way
pub record FlushGoesOn (o : Opening) (w : World) : Type 0 where
  pub ask : FlushAsk
  pub data_at : ℕ
  pub snapshot : Snapshot
  pub way : IsFlushUnderWay o w.log w.history w.memory snapshot ask data_at

-- every page of the map is caught up
abbrev pub AreCaughtUp : (o : Opening) → World → Snapshot → Type 0
AreCaughtUp o w p = (c : ℕ) → c < o.layout.chunks → IsCaughtUp o (May o.before w.log) (IsClaimSettled o w.log w.history w.memory p.begun) w.memory p c

-- a record is put into the slot at the cursor, once the data flush is answered well
pub record PutsRecord (o : Opening) (w : World) : Type 0 where
  pub flush : FlushGoesOn o w
  pub event : Entry
  pub value : Sector
  pub item : Record
  pub flushes : Flushes w.log flush.data_at
  pub room : w.memory.index.cursor < o.layout.slots
  pub only : WritesOnly event (o.layout.slot_at w.memory.index.cursor) value
  pub reads : o.format.record_of value ≡ Some item
  pub wanted : IsWantedRecord o w.memory flush.snapshot item

-- a page of the map is put, once the data flush is answered well
pub record PutsPage (o : Opening) (w : World) : Type 0 where
  pub flush : FlushGoesOn o w
  pub event : Entry
  pub value : Sector
  pub page : ℕ
  pub flushes : Flushes w.log flush.data_at
  pub within : page < o.layout.chunks
  pub only : WritesOnly event (o.layout.map_at page) value
  pub wanted : (c : ℕ) → c < o.layout.chunks → o.layout.map_at c ≡ o.layout.map_at page → IsWantedPage o w.memory flush.snapshot c value

-- a header of the next generation is put, once every page of the map is caught up
pub record PutsHeader (o : Opening) (w : World) : Type 0 where
  pub flush : FlushGoesOn o w
  pub event : Entry
  pub value : Sector
  pub tried : ℕ → Bool
  pub only : WritesOnly event o.layout.header_at value
  pub wider : (b : ℕ) → w.memory.index.tried b ≡ true → tried b ≡ true
  pub wanted : (b : ℕ) → tried b ≡ true → IsOffAfter o w.memory flush.snapshot b
  pub caught_up : AreCaughtUp o w flush.snapshot
  pub header : IsHeaderLeft o (May o.before w.log) (with_index w.memory false tried w.memory.index.cursor).index value

-- a flush by records, or with nothing new, is over
pub record SealsRecords (o : Opening) (w : World) : Type 0 where
  pub ask : FlushAsk
  pub data_at : ℕ
  pub progress : FlushProgress
  pub sealing : Sealing
  pub so_far : IsSoFar o w.log w.history w.memory ask data_at progress
  pub logged : IsLogged o w.history w.memory progress.snapshot sealing
  pub sure : w.memory.index.sure ≡ true
  pub slotted : (b : ℕ) → progress.snapshot.blocks b ≡ true → progress.slotted b ≡ true
  pub lost_slotted : (b : ℕ) → progress.snapshot.lost (o.layout.chunk_of b) ≡ true → progress.slotted b ≡ true

-- the header is of the next generation, and by it the background is the start's but for blocks that one was tried for
pub record IsNewHeader (o : Opening) (m : Memory) (v : Sector) (next : Header) : Type 0 where
  pub reads : o.format.header_of v ≡ Ok next
  pub generation : next.generation ≡ m.index.generation + 1
  pub background : (s : ℕ) → s < o.layout.size → m.index.off_base (o.layout.block_of s) ≡ false
      → (background o.base o.zeros next.tracked s ≡ o.disk s) ⊎ (m.index.tried (o.layout.block_of s) ≡ true)

-- a recycle is over: the new header alone may be left, and every page of the map is caught up
pub record SealsRecycle (o : Opening) (w : World) : Type 0 where
  pub flush : FlushGoesOn o w
  pub sealing : Sealing
  pub value : Sector
  pub next : Header
  pub tried : ℕ → Bool
  pub flushes : Flushes w.log flush.data_at
  pub logged : IsLogged o w.history w.memory flush.snapshot sealing
  pub only : (u : Sector) → May o.before w.log o.layout.header_at u → value ≡ u
  pub new_header : IsNewHeader o w.memory value next
  pub caught_up : AreCaughtUp o w flush.snapshot
  pub none_tried : (b : ℕ) → tried b ≡ false

-- memory once a flush is sealed by records, or with nothing new
abbrev pub sealed : Memory → Sealing → Memory
sealed m z = sealed_memory m m.index.generation m.index.tracked m.index.sure m.index.tried m.index.cursor z

-- memory once a recycle to this header is sealed
abbrev pub recycled : Memory → Header → (ℕ → Bool) → Sealing → Memory
recycled m next tried z = sealed_memory m (m.index.generation + 1) next.tracked true tried 0 z

-- nothing is written: a store event that writes nothing, an entry, storage for chunks, more local blocks that are owed
pub data IsQuietStep (o : Opening) (w : World) : World → Type 0 where
  Tells : (e : Entry) → WritesNothing e → IsQuietStep o w (stored w e w.memory)
  Notes : (event : Entry) → NotesEntry o w event → IsQuietStep o w (noted w event w.memory)
  Takes : (table : ℕ → Option ℕ) → Grows w.memory.index.table table → IsTable o.layout.storage table
      → IsQuietStep o w (world w.log w.history (with_table w.memory table))
  Adopts : (owed : ℕ → Bool) → OwesMore w.memory owed → IsQuietStep o w (world w.log w.history (with_owed w.memory owed))

-- a guest's write to a local block, or of a whole one; a copy; the end of such a write; a discard
pub data IsBlockStep (o : Opening) (w : World) : World → Type 0 where
  Writes_local : (g : PieceWrite) → WritesLocal o w.memory g → IsBlockStep o w (issued w (issue_of g) g.event w.memory)
  Writes_whole : (g : PieceWrite) → (h : WritesWhole o w.log w.memory (issue_of g) g.event g.block g.storage)
      → IsBlockStep o w (issued w (issue_of g) g.event (with_pending w.memory h.pending))
  Copies : (e : Entry) (b p : ℕ) → (h : WritesWhole o w.log w.memory no_write e b p) → IsBlockStep o w (stored w e (with_pending w.memory h.pending))
  Becomes_local : (b i d : ℕ) → w.memory.pending b ≡ Some i → Ends w.log i d → (h : BecomesLocal w.memory (length w.log) b)
      → IsBlockStep o w (world w.log w.history (with_blocks w.memory h.fresh h.born w.memory.owed h.pending))
  Gives_up : (pending : ℕ → Option ℕ) (b : ℕ) → GivesUp o w pending b → IsBlockStep o w (world w.log w.history (with_pending w.memory pending))
  Ends_write : (call : CallId) (b : ℕ) (owed : ℕ → Bool) → EndsGuestWrite o w call b → Owes w.memory owed b → IsBlockStep o w (noted w (Done call) (with_owed w.memory owed))
  Drops : (h : DropsChunk o w) → IsBlockStep o w (done_at_once w h.drop.call (Issue h.drop.call h.drop.first h.drop.content) (dropped_memory h.drop))

-- a put of a flush, or its end
pub data IsFlushStep (o : Opening) (w : World) : World → Type 0 where
  Puts_record : (h : PutsRecord o w) → IsFlushStep o w (stored w h.event (with_index w.memory w.memory.index.sure w.memory.index.tried (w.memory.index.cursor + 1)))
  Puts_page : (h : PutsPage o w) → IsFlushStep o w (stored w h.event (with_index w.memory w.memory.index.sure w.memory.index.tried w.memory.index.cursor))
  Puts_header : (h : PutsHeader o w) → IsFlushStep o w (stored w h.event (with_index w.memory false h.tried w.memory.index.cursor))
  Seals_records : (h : SealsRecords o w) → IsFlushStep o w (world w.log w.history (sealed w.memory h.sealing))
  Seals_recycle : (h : SealsRecycle o w) → IsFlushStep o w (world w.log w.history (recycled w.memory h.next h.tried h.sealing))

-- one step leads from a world to another
pub data IsStep (o : Opening) (u v : World) : Type 0 where
  Keeps_contents : IsQuietStep o u v → IsStep o u v
  Moves_block : IsBlockStep o u v → IsStep o u v
  Flushes_on : IsFlushStep o u v → IsStep o u v

-- a run of steps
pub data Runs (o : Opening) : World → World → Type 0 where
  Stays : (w : World) → Runs o w w
  Goes_on : (u v w : World) → Runs o u v → IsStep o v w → Runs o u w
