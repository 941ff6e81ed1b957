-- What the core keeps of its logs and its memory, of which safety at the last moment follows.
use Rattle.std.specs.Prelude.{ℕ, ◌≡◌, ◌+◌, ◌<◌, ◌≤◌, ◌⊎◌, Bool, true, false, List, Option, Some, None, length}
use Rattle.vd_image.specs.Log.{Sector, Entry, At, Covers, Writes, Ends, IsOpen, IsSure, Flushes, NoneSureFrom, Untouched, May}
use Rattle.vd_image.specs.Image.{IsApart}
use Rattle.vd_crash.specs.facts.Safe.{NumberedEntry, events, Opening}
use Rattle.vd_crash.specs.facts.Memory.{Discards, Memory, IsTable}
use Rattle.vd_crash.specs.facts.Metadata.{Claim, Stored, Zero, IsMetadata}
use Rattle.vd_format.specs.Background.{background}

-- the j-th entry has this event and this number
abbrev pub HasEntry : List NumberedEntry → ℕ → ℕ → Entry → Type 0
HasEntry history j n event = At history j (record { event = event; number = n })

-- the j-th entry issues a write of v to guest sector s, and has this number
pub record GuestWrites (history : List NumberedEntry) (j n s : ℕ) (v : Sector) : Type 0 where
  pub event : Entry
  pub stands : HasEntry history j n event
  pub covers : Covers event s v

-- the write of the j-th entry is done at the e-th, which has this number
pub record GuestEnds (history : List NumberedEntry) (j e n : ℕ) : Type 0 where
  pub event : Entry
  pub ends : Ends (events history) j e
  pub numbered : HasEntry history e n event

-- the flush that the a-th entry asks for, with this number, is answered well
pub record GuestFlushes (history : List NumberedEntry) (a n : ℕ) : Type 0 where
  pub event : Entry
  pub flushes : Flushes (events history) a
  pub numbered : HasEntry history a n event

-- the j-th entry, with this number, issues the discard of the chunk
pub record IsDrop (drops : ℕ → Option ℕ) (history : List NumberedEntry) (j n c : ℕ) : Type 0 where
  pub event : Entry
  pub stands : HasEntry history j n event
  pub is : drops j ≡ Some c

-- the j-th entry issues an ordinary write of v to guest sector s: one that is no discard
abbrev pub OwnWrites : (ℕ → Option ℕ) → List NumberedEntry → (j n s : ℕ) → Sector → Type 0
OwnWrites drops history j n s v = GuestWrites history j n s v × (drops j ≡ None)

-- the chunk was discarded after the j-th entry
abbrev pub IsDroppedAfter : (ℕ → Option ℕ) → List NumberedEntry → (j c : ℕ) → Type 0
IsDroppedAfter drops history j c = (k : ℕ) × (n : ℕ) × IsDrop drops history k n c × (j < k)

-- so it was, and before store event `since`
abbrev pub IsDroppedBefore : (ℕ → Option ℕ) → List NumberedEntry → (j c since : ℕ) → Type 0
IsDroppedBefore drops history j c since = (k : ℕ) × (n : ℕ) × IsDrop drops history k n c × (j < k) × (n < since)

-- the chunk wasn't discarded from the j-th entry on
abbrev pub NoDropFrom : (ℕ → Option ℕ) → List NumberedEntry → (j c : ℕ) → Type 0
NoDropFrom drops history j c = (k n : ℕ) → j ≤ k → IsDrop drops history k n c → ⊥

-- what the entries that are discards do: each writes zeros to its chunk's sectors, and to nothing else
pub record AreDrops (o : Opening) (drops : ℕ → Option ℕ) (history : List NumberedEntry) : Type 0 where
  pub within : (j c : ℕ) → drops j ≡ Some c → (j < length history) × (c < o.layout.chunks)
  pub covers : (j n m c s : ℕ) (v : Sector) → IsDrop drops history j n c → GuestWrites history j m s v → (o.layout.chunk_of (o.layout.block_of s) ≡ c) × (v ≡ o.zeros)
  pub whole : (j n c s : ℕ) → IsDrop drops history j n c → s < o.layout.size → o.layout.chunk_of (o.layout.block_of s) ≡ c → GuestWrites history j n s o.zeros

-- The numbers never fall, rise from an ordinary issue to the next, and are none of before opening.
pub record AreNumbers (opened : ℕ) (log : List Entry) (drops : ℕ → Option ℕ) (history : List NumberedEntry) : Type 0 where
  pub never_fall : (i j m n : ℕ) (e f : Entry) → i < j → HasEntry history i m e → HasEntry history j n f → m ≤ n
  pub issues_rise : (i j m n s t : ℕ) (u v : Sector) → i < j → OwnWrites drops history i m s u → GuestWrites history j n t v → m < n
  pub since_opening : (j n : ℕ) (e : Entry) → HasEntry history j n e → opened ≤ n
  pub none_above : (j n : ℕ) (e : Entry) → HasEntry history j n e → n ≤ length log

-- what a crash may leave in a sector was held at opening, or was written since
pub record IsOpened (o : Opening) (log : List Entry) : Type 0 where
  pub within : o.opened ≤ length log
  pub untouched : (s : ℕ) (v : Sector) → Untouched o.before log s v → v ≡ o.held s
  pub early : (i s : ℕ) (v : Sector) → i < o.opened → Writes log i s v → NoneSureFrom log (i + 1) s → v ≡ o.held s

-- a guest's write that is done has its store write at its number, which was done before
pub record IsMirrored (o : Opening) (log : List Entry) (n d p s : ℕ) (v : Sector) : Type 0 where
  pub writes : Writes log n (o.layout.place p s) v
  pub done : ℕ
  pub ends : Ends log n done
  pub before : done < d

-- the write of the j-th entry is done, or may still end
abbrev pub IsLive : List NumberedEntry → ℕ → Type 0
IsLive history j = ((e : ℕ) × (n : ℕ) × GuestEnds history j e n) ⊎ IsOpen (events history) j

-- What stands at the i-th store event in a sector whose block isn't local: zeros since the chunk's last discard, or what stood
-- there at opening. The guest's ordinary writes since then are later, and so is each further discard.
pub record IsFill (o : Opening) (drops : ℕ → Option ℕ) (history : List NumberedEntry) (i s : ℕ) (v : Sector) : Type 0 where
  pub from : ℕ
  pub value : ((from ≡ 0) × (v ≡ o.disk s)) ⊎ ((j : ℕ) × (n : ℕ) × IsDrop drops history j n (o.layout.chunk_of (o.layout.block_of s)) × (from ≡ j + 1) × (v ≡ o.zeros))
  pub writes : (k n : ℕ) (u : Sector) → from ≤ k → OwnWrites drops history k n s u → IsLive history k → i < n
  pub later : (k n : ℕ) → from ≤ k → IsDrop drops history k n (o.layout.chunk_of (o.layout.block_of s)) → i < n

-- What the i-th store event puts into a sector's place: the content of the guest's write at that number, or, where it covers
-- the sector not, what stands in a block that isn't local.
abbrev pub IsContent : Opening → (ℕ → Option ℕ) → List NumberedEntry → ℕ → ℕ → Sector → Type 0
IsContent o drops history i s v = ((j : ℕ) × OwnWrites drops history j i s v) ⊎ IsFill o drops history i s v

-- The block stands in this storage: from some moment on only its own contents were submitted to its place.
pub record Stands (o : Opening) (log : List Entry) (history : List NumberedEntry) (drops : ℕ → Option ℕ) (b p since : ℕ) : Type 0 where
  pub later : (i s : ℕ) (v : Sector) → o.layout.block_of s ≡ b → since ≤ i → Writes log i (o.layout.place p s) v → IsContent o drops history i s v
  -- each ordinary guest write that is done is mirrored and none is earlier, but for those of before a discard
  pub mirrored : (j e n d s : ℕ) (v : Sector) → o.layout.block_of s ≡ b → OwnWrites drops history j n s v → GuestEnds history j e d
      → ((since ≤ n + 1) × IsMirrored o log n d p s v) ⊎ IsDroppedBefore drops history j (o.layout.chunk_of b) since
  -- no ordinary guest write that is open is earlier
  pub running : (j n s : ℕ) (v : Sector) → o.layout.block_of s ≡ b → OwnWrites drops history j n s v → IsOpen (events history) j → since ≤ n + 1

-- the block was local at opening
pub record Began (o : Opening) (b p : ℕ) : Type 0 where
  pub was : o.was_local b ≡ true
  pub same : (s : ℕ) → o.layout.block_of s ≡ b → o.held (o.layout.place p s) ≡ o.disk s

-- the w-th store event writes the whole block
abbrev pub IsWhole : Opening → List Entry → List NumberedEntry → (ℕ → Option ℕ) → ℕ → ℕ → ℕ → Type 0
IsWhole o log history drops b p w = (s : ℕ) → o.layout.block_of s ≡ b → (v : Sector) × Writes log w (o.layout.place p s) v × IsContent o drops history w s v

-- where the block comes from: it was local at opening, or one write wrote it whole
abbrev pub Origin : Opening → List Entry → List NumberedEntry → (ℕ → Option ℕ) → ℕ → ℕ → ℕ → (ℕ → Type 0) → Type 0
Origin o log history drops b p since Good =
    (Began o b p × (since ≡ o.opened)) ⊎ ((w : ℕ) × (since ≡ w + 1) × IsWhole o log history drops b p w × Good w)

-- a write that is done before event number `by`
abbrev pub IsDoneBefore : List Entry → ℕ → ℕ → Type 0
IsDoneBefore log by w = (d : ℕ) × Ends log w d × (d < by)

-- a write that a crash can't lose, or that a flush asked at `by` makes so
abbrev pub IsSureBy : List Entry → ℕ → ℕ → Type 0
IsSureBy log by w = IsSure log w ⊎ IsDoneBefore log by w

-- The block's contents stand in its chunk's storage since opening, or since a write of the whole block that is done before
-- `by`; and no discard among the first `reach` entries came later.
pub record IsKept (o : Opening) (log : List Entry) (history : List NumberedEntry) (drops : ℕ → Option ℕ) (table : ℕ → Option ℕ) (b reach by : ℕ) : Type 0 where
  pub storage : ℕ
  pub since : ℕ
  pub given : table (o.layout.chunk_of b) ≡ Some storage
  pub in_range : b < o.layout.blocks
  pub stands : Stands o log history drops b storage since
  pub origin : Origin o log history drops b storage since (IsSureBy log by)
  pub newest : (j n : ℕ) → IsDrop drops history j n (o.layout.chunk_of b) → j < reach → n < since

-- the block is local in memory, since so many store events: no discard at all came later
abbrev pub IsFresh : Opening → List Entry → List NumberedEntry → (ℕ → Option ℕ) → (ℕ → Option ℕ) → ℕ → ℕ → Type 0
IsFresh o log history drops table b born = (reach : ℕ) → IsKept o log history drops table b reach born

-- the block is local in memory, or its chunk was discarded
abbrev pub IsKnown : Opening → List NumberedEntry → (ℕ → Option ℕ) → (ℕ → Bool) → ℕ → Type 0
IsKnown o history drops fresh b = (fresh b ≡ true) ⊎ ((k : ℕ) × (n : ℕ) × IsDrop drops history k n (o.layout.chunk_of b))

-- a crash can't lose what the claim rests on, but for discards that aren't among the first `reach` entries
abbrev pub IsClaimSettled : Opening → List Entry → List NumberedEntry → Memory → ℕ → Claim → Type 0
IsClaimSettled o log history m reach (Stored b) = IsKept o log history m.discards.drops m.index.table b reach 0 × IsKnown o history m.discards.drops m.fresh b
IsClaimSettled o log history m reach (Zero c) = m.discards.zeros c ≡ true

-- a flush that was asked since then was answered well
abbrev pub IsFlushedSince : List Entry → ℕ → Type 0
IsFlushedSince log born = (q : ℕ) × Flushes log q × (born ≤ q)

-- the block is local in memory, and a crash can't lose the write that made it so
abbrev pub IsSettled : List Entry → Memory → ℕ → Type 0
IsSettled log m b = (m.fresh b ≡ true) × IsFlushedSince log (m.born b)

-- the j-th entry's ordinary write to the block is done before the a-th entry
pub record IsWrittenBefore (o : Opening) (drops : ℕ → Option ℕ) (history : List NumberedEntry) (a b j : ℕ) : Type 0 where
  pub end : ℕ
  pub number : ℕ
  pub end_number : ℕ
  pub sector : ℕ
  pub value : Sector
  pub block : o.layout.block_of sector ≡ b
  pub writes : OwnWrites drops history j number sector value
  pub ends : GuestEnds history j end end_number
  pub before : end < a

-- no image takes the block from the base, and each has it as local unless its chunk was discarded after the j-th entry
abbrev pub IsBehind : (o : Opening) → (ℕ → Option ℕ) → List NumberedEntry → (stale off_base : ℕ → Bool) → (b j : ℕ) → Type 0
IsBehind o drops history stale off_base b j = (off_base b ≡ true) × ((stale b ≡ true) ⊎ IsDroppedAfter drops history j (o.layout.chunk_of b))

-- each flush that was answered well had a store flush of its own, its blocks are stale, and its discards show in every image
pub record AreAnswered (o : Opening) (log : List Entry) (drops : ℕ → Option ℕ) (history : List NumberedEntry) (stale off_base : ℕ → Bool) (reach : ℕ) : Type 0 where
  pub flushed : (a n : ℕ) → GuestFlushes history a n → (q : ℕ) × Flushes log q × (n ≤ q)
  pub logged : (a n b j : ℕ) → GuestFlushes history a n → IsWrittenBefore o drops history a b j → IsBehind o drops history stale off_base b j
  pub reached : (a n : ℕ) → GuestFlushes history a n → a ≤ reach

-- the chunk's last discard
pub record IsLastDrop (drops : ℕ → Option ℕ) (history : List NumberedEntry) (c : ℕ) : Type 0 where
  pub at : ℕ
  pub number : ℕ
  pub is : IsDrop drops history at number c
  pub last : NoDropFrom drops history (at + 1) c

-- what is known of the chunks of kind zeros: they were discarded, or their blocks that aren't local were zeros at opening
pub record AreZeros (o : Opening) (history : List NumberedEntry) (stale off_base : ℕ → Bool) (d : Discards) : Type 0 where
  pub from : (c : ℕ) → d.zeros c ≡ true → IsLastDrop d.drops history c ⊎ (NoDropFrom d.drops history 0 c × ((s : ℕ) → o.layout.chunk_of (o.layout.block_of s) ≡ c → stale (o.layout.block_of s) ≡ false → o.disk s ≡ o.zeros))
  -- no image takes a block from the base that was discarded among the first `reach` entries
  pub sealed_off : (j n b : ℕ) → IsDrop d.drops history j n (o.layout.chunk_of b) → j < d.reach → off_base b ≡ true

-- what safety at the last moment follows from
pub record CrashFacts (o : Opening) (log : List Entry) (history : List NumberedEntry) (m : Memory) : Type 0 where
  pub numbers : AreNumbers o.opened log m.discards.drops history
  pub opening : IsOpened o log
  pub discards : AreDrops o m.discards.drops history
  pub answered : AreAnswered o log m.discards.drops history m.index.stale m.index.off_base m.discards.reach
  pub zeros : AreZeros o history m.index.stale m.index.off_base m.discards
  -- no two chunks have or keep one storage
  pub storage_one_to_one : IsTable o.layout.storage m.index.table
  -- what may be left of a local block is allowed, once it is settled
  pub contents_allowed : (b : ℕ) → m.fresh b ≡ true → IsFresh o log history m.discards.drops m.index.table b (m.born b)
  pub metadata : IsMetadata o (May o.before log) (IsClaimSettled o log history m m.discards.reach) m.index

-- a store write of the whole block is under way, and the block isn't fresh
pub record IsPending (o : Opening) (log : List Entry) (history : List NumberedEntry) (drops : ℕ → Option ℕ) (table : ℕ → Option ℕ) (b i : ℕ) : Type 0 where
  pub storage : ℕ
  pub given : table (o.layout.chunk_of b) ≡ Some storage
  pub in_range : b < o.layout.blocks
  pub within : i < length log
  pub opened : o.opened ≤ i
  pub whole : IsWhole o log history drops b storage i
  -- nothing was written to its place since
  pub quiet : (k s : ℕ) (v : Sector) → o.layout.block_of s ≡ b → i < k → Writes log k (o.layout.place storage s) v → ⊥
  -- an open guest write to it is this one
  pub running : (j n s : ℕ) (v : Sector) → o.layout.block_of s ≡ b → OwnWrites drops history j n s v → IsOpen (events history) j → i ≤ n
  -- its chunk wasn't discarded since
  pub newest : (j n : ℕ) → IsDrop drops history j n (o.layout.chunk_of b) → n ≤ i

-- a guest's write with this number has its store write there; while it is open, its chunk has that storage
pub record IsIssued (o : Opening) (log : List Entry) (history : List NumberedEntry) (table : ℕ → Option ℕ) (j n s : ℕ) (v : Sector) : Type 0 where
  pub storage : ℕ
  pub given : IsOpen (events history) j → table (o.layout.chunk_of (o.layout.block_of s)) ≡ Some storage
  pub writes : Writes log n (o.layout.place storage s) v

-- what the core keeps of the blocks in memory
pub record AreBlocks (o : Opening) (log : List Entry) (history : List NumberedEntry) (m : Memory) : Type 0 where
  pub born : (b : ℕ) → m.fresh b ≡ true → m.born b ≤ length log
  -- a crash can't lose the write that made a stale block local
  pub stale_settled : (b : ℕ) → m.index.stale b ≡ true → IsSettled log m b
  pub stale_off : (b : ℕ) → m.index.stale b ≡ true → m.index.off_base b ≡ true
  pub owed_local : (b : ℕ) → m.owed b ≡ true → m.fresh b ≡ true
  -- what no image takes from the base is stale, or its chunk is zeros
  pub off_base_known : (b : ℕ) → m.index.off_base b ≡ true → (o.layout.chunk_of b < o.layout.chunks) × ((m.index.stale b ≡ true) ⊎ (m.discards.zeros (o.layout.chunk_of b) ≡ true))
  -- by the kept header too the background is the start's
  pub background_same : (s : ℕ) → s < o.layout.size → m.index.off_base (o.layout.block_of s) ≡ false → background o.base o.zeros m.index.tracked s ≡ o.disk s
  -- the blocks on which a tried header depends are logged, or the next flush logs them
  pub tried : (b : ℕ) → m.index.tried b ≡ true → (m.index.off_base b ≡ true) ⊎ (m.owed b ≡ true) ⊎ (m.discards.lost (o.layout.chunk_of b) ≡ true)
  -- so is each block with an ordinary write that is done, unless its chunk was discarded after it: no other has one since opening
  pub unlogged_untouched : (b j : ℕ) → IsWrittenBefore o m.discards.drops history (length history) b j → ((m.index.stale b ≡ true) ⊎ (m.owed b ≡ true)) ⊎ IsDroppedAfter m.discards.drops history j (o.layout.chunk_of b)
  -- each ordinary write of the history has its store write at its number
  pub issues_stored : (j n s : ℕ) (v : Sector) → OwnWrites m.discards.drops history j n s v → (n < length log) × IsIssued o log history m.index.table j n s v
  pub pending : (b i : ℕ) → m.pending b ≡ Some i → (m.fresh b ≡ false) × IsPending o log history m.discards.drops m.index.table b i
  -- a block that is neither local nor being written whole has no open guest write
  pub idle : (b j n s : ℕ) (v : Sector) → m.fresh b ≡ false → m.pending b ≡ None → o.layout.block_of s ≡ b → OwnWrites m.discards.drops history j n s v → IsOpen (events history) j → ⊥
  -- a discarded chunk is of kind zeros, and the next flush logs it unless each image has it so
  pub dropped : (j n c : ℕ) → IsDrop m.discards.drops history j n c → (m.discards.zeros c ≡ true) × ((j < m.discards.reach) ⊎ (m.discards.lost c ≡ true))
  pub zeros_off : (b : ℕ) → m.discards.zeros (o.layout.chunk_of b) ≡ true → (m.index.off_base b ≡ true) ⊎ (m.discards.lost (o.layout.chunk_of b) ≡ true)
  pub lost_zeros : (c : ℕ) → m.discards.lost c ≡ true → (c < o.layout.chunks) × (m.discards.zeros c ≡ true)
  pub reach : m.discards.reach ≤ length history

-- all that the core keeps
pub record Holds (o : Opening) (log : List Entry) (history : List NumberedEntry) (m : Memory) : Type 0 where
  pub apart : IsApart o.layout
  pub facts : CrashFacts o log history m
  pub blocks : AreBlocks o log history m
