-- What the core keeps of all its passes and of the stage of the flush under way.
use Rattle.std.specs.Prelude.{ℕ, ◌≡◌, ◌<◌, ◌≤◌, ◌⊎◌, Bool, true, List, Some, length}
use Rattle.vd_image.specs.Log.{Sector, CallId, Entry, Done, Broke, At, IsIssueOf, Flushes, May, IsWriteInFlight}
use Rattle.vd_crash.specs.facts.Safe.{events, NumberedEntry, Opening}
use Rattle.vd_image.specs.Image.{Fact, Record, IsCurrent}
use Rattle.vd_crash.specs.facts.Facts.{IsClaimSettled}
use Rattle.vd_crash.specs.flushes.Flushing.{Snapshot, FlushAsk, IsWanted, IsRecorded, HasPage, IsFlushUnderWay, IsWrittenPage, IsCaughtUp, IsSealed, flush_ask}
use Rattle.vd_crash.specs.flushes.Passes.{IsPieceInFlight}
use Rattle.vd_crash.specs.facts.Memory.{Memory}
use Rattle.vd_crash.specs.facts.Metadata.{Claim, IsRight, RecordNames, IsNamed, Need, SlotsHave}

-- what a pass has in flight or owes: nothing; the store write of a call's piece, in this block, of the j-th entry at event n; the copy of a block, at event i; or the good answer of a flush that is over
pub data Flight : Type 0 where
  Idle : Flight
  Writing : (b j n : ℕ) → (call ticket : CallId) → Flight
  Copying : (b i : ℕ) → (ticket : CallId) → Flight
  Answering : (call : CallId) → (a n : ℕ) → Flight

abbrev pub FlightHolds : Opening → List Entry → List NumberedEntry → Memory → Flight → Type 0
FlightHolds o log history m Idle = Unit {0}
FlightHolds o log history m (Writing b j n call ticket) = IsPieceInFlight o log history b call ticket j n × ((m.fresh b ≡ true) ⊎ (m.pending b ≡ Some n))
FlightHolds o log history m (Copying b i ticket) = IsWriteInFlight log i ticket × (m.pending b ≡ Some i)
FlightHolds o log history m (Answering call a n) = IsSealed o log history m.discards.drops m.index.stale m.index.off_base m.discards.reach (flush_ask call a n)

abbrev pub HasTicket : Flight → CallId → Type 0
HasTicket Idle t = ⊥
HasTicket (Writing b j n call ticket) t = ticket ≡ t
HasTicket (Copying b i ticket) t = ticket ≡ t
HasTicket (Answering call a n) t = ⊥

abbrev pub HasBlock : Flight → ℕ → Type 0
HasBlock Idle c = ⊥
HasBlock (Writing b j n call ticket) c = b ≡ c
HasBlock (Copying b i ticket) c = b ≡ c
HasBlock (Answering call a n) c = ⊥

abbrev pub HasCall : Flight → CallId → Type 0
HasCall Idle c = ⊥
HasCall (Writing b j n call ticket) c = call ≡ c
HasCall (Copying b i ticket) c = ⊥
HasCall (Answering call a n) c = ⊥

-- the pass's write is that of the j-th entry
abbrev pub HasWrite : Flight → ℕ → Type 0
HasWrite Idle j = ⊥
HasWrite (Writing b i n call ticket) j = i ≡ j
HasWrite (Copying b i ticket) j = ⊥
HasWrite (Answering call a n) j = ⊥

-- no two passes have one ticket, one block or one call
pub record AreDistinct (flights : ℕ → Flight) : Type 0 where
  pub tickets : (k l : ℕ) (t : CallId) → HasTicket (flights k) t → HasTicket (flights l) t → k ≡ l
  pub blocks : (k l b : ℕ) → HasBlock (flights k) b → HasBlock (flights l) b → k ≡ l
  pub calls : (k l : ℕ) (c : CallId) → HasCall (flights k) c → HasCall (flights l) c → k ≡ l

pub record AreFlights (o : Opening) (log : List Entry) (history : List NumberedEntry) (m : Memory) (flights : ℕ → Flight) : Type 0 where
  pub each : (k : ℕ) → FlightHolds o log history m (flights k)
  pub distinct : AreDistinct flights
  -- each open guest write is some pass's
  pub owned : (j : ℕ) (c : CallId) → IsWriteInFlight (events history) j c → (k : ℕ) × HasWrite (flights k) j

-- How far a flush is: its snapshot; the cursor at which it began; the blocks that were put in a record and the
-- chunks whose page of the map was put, done before event number `by`; and those that a sync has made so in every image.
pub record FlushProgress : Type 0 where
  pub snapshot : Snapshot
  pub first : ℕ
  pub by : ℕ
  pub recorded : ℕ → Bool
  pub written : ℕ → Bool
  pub slotted : ℕ → Bool
  pub paged : ℕ → Bool

-- What the flush under way has put so far, done before event number `by`: the blocks whose chunk a record names, in a slot
-- from `first` on, and the chunks whose page of the map was put.
pub record HasPut (o : Opening) (log : List Entry) (history : List NumberedEntry) (m : Memory) (p : FlushProgress) : Type 0 where
  pub records : (b : ℕ) → p.recorded b ≡ true → IsRecorded o log m p.first p.by b
  pub pages : (c : ℕ) → p.written c ≡ true → HasPage o log history m p.snapshot p.by c

-- the guest's flush, whose data flush at q was answered well, is so far
pub record IsSoFar (o : Opening) (log : List Entry) (history : List NumberedEntry) (m : Memory) (f : FlushAsk) (q : ℕ) (p : FlushProgress) : Type 0 where
  pub way : IsFlushUnderWay o log history m p.snapshot f q
  pub flushes : Flushes log q
  pub within : p.by ≤ length log
  pub first : p.first ≤ m.index.cursor
  -- each fact that was put since it began has what is wanted of its chunk
  pub since : (t : Need) → IsWanted o p.snapshot t → SlotsHave o (May o.before log) m.index.generation p.first t
  -- it is right even where each discard of before the snapshot counts, and it has nothing else
  pub since_right : (k : ℕ) (v : Sector) (item : Record) (place : ℕ) (fact : Fact) → p.first ≤ k → k < o.layout.slots → May o.before log (o.layout.slot_at k) v → o.format.record_of v ≡ Some item → IsCurrent item m.index.generation → At item.facts place fact
      → IsRight o (IsClaimSettled o log history m p.snapshot.begun) m.index.table fact.chunk fact.mapping × ((b : ℕ) → fact.mapping.has b ≡ true → p.snapshot.wanted b ≡ true)
  pub in_range : (c : ℕ) → (p.written c ≡ true) ⊎ (p.paged c ≡ true) → c < o.layout.chunks
  pub puts_done : HasPut o log history m p
  -- a slot since it began names the block's chunk, whatever is left of it
  pub slotted : (b : ℕ) → p.slotted b ≡ true → IsNamed o (May o.before log) m.index.generation m.index.cursor p.first (o.layout.chunk_of b)
  pub paged : (c : ℕ) → p.paged c ≡ true → IsCaughtUp o (May o.before log) (IsClaimSettled o log history m p.snapshot.begun) m p.snapshot c

-- what the put of v into sector a adds: blocks whose chunk its record names, or chunks of its page of the map
pub record IsLoggedBy (o : Opening) (m : Memory) (a : ℕ) (v : Sector) (recorded written : ℕ → Bool) (p : FlushProgress) : Type 0 where
  pub records : (b : ℕ) → recorded b ≡ true → (p.recorded b ≡ true) ⊎ ((k : ℕ) × (a ≡ o.layout.slot_at k) × (p.first ≤ k) × (k < m.index.cursor) × (k < o.layout.slots) × RecordNames o m.index.generation (o.layout.chunk_of b) v)
  pub pages : (c : ℕ) → written c ≡ true → (p.written c ≡ true) ⊎ ((a ≡ o.layout.map_at c) × (c < o.layout.chunks))

-- where sector a is a page of the map, v is right at each of its chunks and has their wanted blocks
abbrev pub IsPageToPut : Opening → (Claim → Type 0) → Memory → Snapshot → ℕ → Sector → Type 0
IsPageToPut o settled m snapshot a v = (c : ℕ) → c < o.layout.chunks → o.layout.map_at c ≡ a → IsWrittenPage o settled m snapshot c v

-- the entry is of another call than this
abbrev pub IsOtherCall : NumberedEntry → CallId → Type 0
IsOtherCall x c = (Done c ≡ x.event) ⊎ (Broke c ≡ x.event) ⊎ IsIssueOf x.event c → ⊥
