-- What the core keeps of the flush that is under way.
use Rattle.std.specs.Prelude.{ℕ, ◌≡◌, ◌<◌, ◌≤◌, ◌⊎◌, ◌↔◌, ◌||◌, Bool, true, false, List, Option, Some, None, length}
use Rattle.vd_image.specs.Log.{Sector, CallId, Entry, Flush, Ask, At, Writes, Ends, Flushes}
use Rattle.vd_crash.specs.facts.Safe.{NumberedEntry, Opening}
use Rattle.vd_image.specs.Image.{Mapping, Fact, Record, IsCurrent}
use Rattle.vd_crash.specs.facts.Facts.{HasEntry, IsDrop, IsDroppedAfter, NoDropFrom, IsWrittenBefore, IsBehind, IsKept, IsClaimSettled}
use Rattle.vd_crash.specs.facts.Words.{Sealing}
use Rattle.vd_crash.specs.facts.Memory.{Index, Memory}
use Rattle.vd_crash.specs.facts.Metadata.{Claim, Left, IsRightPage, RecordNames, Need, Local, Off_base, chunk_in, PageHas, IsInPage, IsDue}

-- v is the last content written to sector s, done before event number `by`
pub record IsLast (log : List Entry) (s : ℕ) (v : Sector) (by : ℕ) : Type 0 where
  pub at : ℕ
  pub done : ℕ
  pub writes : Writes log at s v
  pub ends : Ends log at done
  pub before : done < by
  pub last : (j : ℕ) (u : Sector) → at < j → Writes log j s u → ⊥

-- What a flush takes to be logged when it begins, by the memory and the history of that moment, whatever is discarded since: the owed
-- blocks; all blocks that it writes of their chunks, which are the stale ones too; the chunks of kind zeros; the chunks whose
-- discard it logs; and how many entries the history had.
pub record Snapshot : Type 0 where
  pub blocks : ℕ → Bool
  pub wanted : ℕ → Bool
  pub zeros : ℕ → Bool
  pub lost : ℕ → Bool
  pub begun : ℕ

-- what it writes of the block's chunk has it
abbrev pub IsWanted : Opening → Snapshot → Need → Type 0
IsWanted o p (Local b) = p.wanted b ≡ true
IsWanted o p (Off_base b) = (p.wanted b ≡ true) ⊎ (p.zeros (o.layout.chunk_of b) ≡ true)

-- no image will take the block from the base once the flush is over
abbrev pub IsOffAfter : Opening → Memory → Snapshot → ℕ → Type 0
IsOffAfter o m p b = (m.index.off_base b ≡ true) ⊎ (p.blocks b ≡ true) ⊎ (p.lost (o.layout.chunk_of b) ≡ true)

-- the chunk was discarded since the snapshot
abbrev pub IsDroppedFrom : (ℕ → Option ℕ) → List NumberedEntry → (from c : ℕ) → Type 0
IsDroppedFrom drops history from c = (k : ℕ) × (n : ℕ) × IsDrop drops history k n c × (from ≤ k)

-- The chunk's storage is released: each image has it as zeros without storage, and no block of it is local or being written.
pub record IsReleased (o : Opening) (m : Memory) (p : Snapshot) (table : ℕ → Option ℕ) (c : ℕ) : Type 0 where
  pub none : table c ≡ None
  pub lost : p.lost c ≡ true
  pub unwanted : (b : ℕ) → o.layout.chunk_of b ≡ c → p.wanted b ≡ true → ⊥
  pub not_local : (b : ℕ) → o.layout.chunk_of b ≡ c → m.fresh b ≡ true → ⊥
  pub calm : (b : ℕ) → o.layout.chunk_of b ≡ c → m.pending b ≡ None

-- What the end of a flush leaves. Blocks of chunks that were discarded since the snapshot neither become stale nor stop being owed,
-- such chunks stay to be logged, and those whose discard was in the snapshot may lose their storage.
pub record IsLogged (o : Opening) (history : List NumberedEntry) (m : Memory) (p : Snapshot) (z : Sealing) : Type 0 where
  pub stale_was : (b : ℕ) → z.stale b ≡ true → (m.index.stale b ≡ true) ⊎ ((p.blocks b ≡ true) × NoDropFrom m.discards.drops history p.begun (o.layout.chunk_of b))
  pub stale_still : (b : ℕ) → m.index.stale b ≡ true → z.stale b ≡ true
  pub snapped : (b : ℕ) → p.blocks b ≡ true → (z.stale b ≡ true) ⊎ IsDroppedFrom m.discards.drops history p.begun (o.layout.chunk_of b)
  pub off_is : (b : ℕ) → (z.off_base b ≡ true) ↔ IsOffAfter o m p b
  pub owed_was : (b : ℕ) → z.owed b ≡ true → m.owed b ≡ true
  pub owed_still : (b : ℕ) → m.owed b ≡ true → (z.owed b ≡ true) ⊎ (z.stale b ≡ true)
  pub lost_was : (c : ℕ) → z.lost c ≡ true → m.discards.lost c ≡ true
  pub lost_still : (j n c : ℕ) → p.begun ≤ j → IsDrop m.discards.drops history j n c → z.lost c ≡ true
  pub reach : z.reach ≡ p.begun
  pub table : (c : ℕ) → (z.table c ≡ m.index.table c) ⊎ IsReleased o m p z.table c

-- a guest's flush: the call that asks for it, the entry that is its ask, and that entry's number
pub record FlushAsk : Type 0 where
  pub call : CallId
  pub entry : ℕ
  pub number : ℕ

abbrev pub flush_ask : CallId → ℕ → ℕ → FlushAsk
flush_ask call entry number = record { call = call; entry = entry; number = number }

-- the guest asked for it
abbrev pub AsksFlush : List NumberedEntry → FlushAsk → Type 0
AsksFlush history f = HasEntry history f.entry f.number (Ask f.call Flush)

-- The guest's flush is under way: its snapshot, and its data flush at q.
pub record IsFlushUnderWay (o : Opening) (log : List Entry) (history : List NumberedEntry) (m : Memory) (p : Snapshot) (f : FlushAsk) (q : ℕ) : Type 0 where
  pub asked : AsksFlush history f
  pub order : f.number ≤ q
  pub after : f.entry ≤ p.begun
  pub begun : p.begun ≤ length history
  pub reach : m.discards.reach ≤ p.begun
  -- what it writes is kept, once the data flush is answered well
  pub kept : (b : ℕ) → p.wanted b ≡ true → IsKept o log history m.discards.drops m.index.table b p.begun q
  pub zeros : (c : ℕ) → p.zeros c ≡ true → m.discards.zeros c ≡ true
  pub dropped : (j k c : ℕ) → IsDrop m.discards.drops history j k c → j < p.begun → (j < m.discards.reach) ⊎ (p.lost c ≡ true)
  pub lost_zeros : (c : ℕ) → p.lost c ≡ true → (c < o.layout.chunks) × (p.zeros c ≡ true)
  pub still_lost : (c : ℕ) → p.lost c ≡ true → m.discards.lost c ≡ true
  -- it writes the stale blocks, and its own
  pub stale_wanted : (b : ℕ) → m.index.stale b ≡ true → p.wanted b ≡ true
  pub wanted_was : (b : ℕ) → p.wanted b ≡ true → ((m.index.stale b ≡ true) ⊎ (p.blocks b ≡ true)) ⊎ IsDroppedFrom m.discards.drops history p.begun (o.layout.chunk_of b)
  pub zeros_off : (b : ℕ) → p.zeros (o.layout.chunk_of b) ≡ true → (m.index.off_base b ≡ true) ⊎ (p.lost (o.layout.chunk_of b) ≡ true)
  pub lost_since : (c : ℕ) → m.discards.lost c ≡ true → (p.lost c ≡ true) ⊎ IsDroppedFrom m.discards.drops history p.begun c
  pub blocks_wanted : (b : ℕ) → p.blocks b ≡ true → p.wanted b ≡ true
  pub off_wanted : (b : ℕ) → m.index.off_base b ≡ true → IsWanted o p (Off_base b)
  -- its own are still owed since the same moment, unless their chunk was discarded
  pub owed : (b : ℕ) → p.blocks b ≡ true → ((m.owed b ≡ true) × (m.born b ≤ q)) ⊎ IsDroppedFrom m.discards.drops history p.begun (o.layout.chunk_of b)
  -- so are all blocks with a write before it was asked
  pub covered : (b j : ℕ) → IsWrittenBefore o m.discards.drops history f.entry b j → ((m.index.stale b ≡ true) ⊎ (p.blocks b ≡ true)) ⊎ IsDroppedAfter m.discards.drops history j (o.layout.chunk_of b)
  pub covered_off : (b j : ℕ) → IsWrittenBefore o m.discards.drops history f.entry b j → IsOffAfter o m p b
  pub tried : (b : ℕ) → m.index.tried b ≡ true → IsOffAfter o m p b

-- The mapping that the flush writes of a chunk: the kind and the wanted blocks of its snapshot, with the storage where there are any.
pub record IsWantedMapping (o : Opening) (m : Memory) (p : Snapshot) (chunk : ℕ) (w : Mapping) : Type 0 where
  pub kind : w.zeros ≡ p.zeros chunk
  pub in_grammar : o.layout.discards ≡ false → w.zeros ≡ false
  pub blocks : (b : ℕ) → (w.has b ≡ true) ↔ ((o.layout.chunk_of b ≡ chunk) × (p.wanted b ≡ true))
  pub storage : (s : ℕ) → (w.storage ≡ Some s) ↔ ((m.index.table chunk ≡ Some s) × ((b : ℕ) × (w.has b ≡ true)))

-- a record that the flush writes
pub record IsWantedRecord (o : Opening) (m : Memory) (p : Snapshot) (r : Record) : Type 0 where
  pub current : IsCurrent r m.index.generation
  pub well_formed : r.well_formed ≡ true
  pub rising : (i j : ℕ) (f g : Fact) → i < j → At r.facts i f → At r.facts j g → f.chunk < g.chunk
  pub facts : (place : ℕ) (fact : Fact) → At r.facts place fact → (fact.chunk < o.layout.chunks) × IsWantedMapping o m p fact.chunk fact.mapping

-- a page of the map that the flush writes, at this chunk
pub record IsWantedPage (o : Opening) (m : Memory) (p : Snapshot) (chunk : ℕ) (v : Sector) : Type 0 where
  pub mapping : Mapping
  pub reads : o.format.mapping_of v chunk ≡ Some mapping
  pub wanted : IsWantedMapping o m p chunk mapping

-- a record that names the block's chunk was put into a slot from this one on, and is done before `by`
pub record IsRecorded (o : Opening) (log : List Entry) (m : Memory) (first by b : ℕ) : Type 0 where
  pub slot : ℕ
  pub value : Sector
  pub since : first ≤ slot
  pub below : slot < m.index.cursor
  pub within : slot < o.layout.slots
  pub last : IsLast log (o.layout.slot_at slot) value by
  pub names : RecordNames o m.index.generation (o.layout.chunk_of b) value

-- The page of the map is right at this chunk and has what is wanted of it; where the chunk's discard is logged it has nothing else.
pub record IsWrittenPage (o : Opening) (settled : Claim → Type 0) (m : Memory) (p : Snapshot) (chunk : ℕ) (v : Sector) : Type 0 where
  pub right : IsRightPage o settled m.index.table chunk v
  pub has : (t : Need) → chunk_in o t ≡ chunk → IsWanted o p t → PageHas o t v
  pub only : p.lost chunk ≡ true → (b : ℕ) → right.mapping.has b ≡ true → p.wanted b ≡ true

-- such a page was put and is done before `by`
pub record HasPage (o : Opening) (log : List Entry) (history : List NumberedEntry) (m : Memory) (p : Snapshot) (by chunk : ℕ) : Type 0 where
  pub value : Sector
  pub last : IsLast log (o.layout.map_at chunk) value by
  pub written : IsWrittenPage o (IsClaimSettled o log history m p.begun) m p chunk value

-- every content that may be left of the chunk's page of the map is such a page
abbrev pub IsCaughtUp : Opening → Left → (Claim → Type 0) → Memory → Snapshot → ℕ → Type 0
IsCaughtUp o left settled m p chunk = (v : Sector) → left (o.layout.map_at chunk) v → IsWrittenPage o settled m p chunk v

-- the guest's flush is over: it had a store flush of its own, its blocks are stale, and its discards show in every image
pub record IsSealed (o : Opening) (log : List Entry) (history : List NumberedEntry) (drops : ℕ → Option ℕ) (stale off_base : ℕ → Bool) (reach : ℕ) (f : FlushAsk) : Type 0 where
  pub asked : AsksFlush history f
  pub flushed : (q : ℕ) × Flushes log q × (f.number ≤ q)
  pub logged : (b j : ℕ) → IsWrittenBefore o drops history f.entry b j → IsBehind o drops history stale off_base b j
  pub reached : f.entry ≤ reach

-- what a flush takes when it begins
abbrev pub snapshot_of : Memory → List NumberedEntry → Snapshot
snapshot_of m history = record { blocks = m.owed; wanted = λ b. m.index.stale b || m.owed b; zeros = m.discards.zeros; lost = m.discards.lost; begun = length history }

-- the snapshot of a flush with nothing new
abbrev pub nothing_new : Memory → Snapshot
nothing_new m = record { blocks = λ b. false; wanted = m.index.stale; zeros = m.discards.zeros; lost = λ c. false; begun = 0 }

-- At opening: a page of the map that isn't marked is held as a flush with nothing new would write it.
abbrev pub AreOpeningMarks : Opening → Memory → (ℕ → Bool) → Type 0
AreOpeningMarks o m marked = (c : ℕ) → c < o.layout.chunks → marked (o.layout.map_at c) ≡ false → IsWantedPage o m (nothing_new m) c (o.held (o.layout.map_at c))

-- What the marks of pages say: a page of the map that isn't marked is right and has what every image must have of its blocks,
-- whatever is left of it.
pub record AreMarks (o : Opening) (left : Left) (settled : Claim → Type 0) (x : Index) (marked : ℕ → Bool) : Type 0 where
  pub right : (c : ℕ) (v : Sector) → c < o.layout.chunks → marked (o.layout.map_at c) ≡ false → left (o.layout.map_at c) v → IsRightPage o settled x.table c v
  pub due : (t : Need) → IsDue x t → marked (o.layout.map_at (chunk_in o t)) ≡ false → IsInPage o left t
