-- What is asked of a step that writes a block, makes it local, owes it, or discards its chunk.
use Rattle.std.specs.Prelude.{ℕ, ◌≡◌, ◌<◌, ◌⊎◌, Bool, true, false, List, Option, Some, None, length}
use Rattle.vd_image.specs.Log.{Sector, CallId, Entry, Issue}
use Rattle.vd_crash.specs.facts.Safe.{NumberedEntry, Opening}
use Rattle.vd_crash.specs.facts.Words.{with_blocks, IsSameWrite, IsUpdated, IsWholeWrite, IsDropWrite, IsDiscarded, discarded_memory}
use Rattle.vd_crash.specs.facts.Memory.{Discards, Memory}

abbrev pub with_pending : Memory → (ℕ → Option ℕ) → Memory
with_pending m pending = with_blocks m m.fresh m.born m.owed pending

abbrev pub with_owed : Memory → (ℕ → Bool) → Memory
with_owed m owed = with_blocks m m.fresh m.born owed m.pending

-- a piece of a guest's write: what the call writes and from which sector on, the store's event of it, the block, and its chunk's storage
pub record PieceWrite : Type 0 where
  pub call : CallId
  pub first : ℕ
  pub content : List Sector
  pub event : Entry
  pub block : ℕ
  pub storage : ℕ

abbrev pub issue_of : PieceWrite → Entry
issue_of g = Issue g.call g.first g.content

-- the block is local, and the store's event writes to its storage what the guest writes
pub record WritesLocal (o : Opening) (m : Memory) (g : PieceWrite) : Type 0 where
  pub local : m.fresh g.block ≡ true
  pub given : m.index.table (o.layout.chunk_of g.block) ≡ Some g.storage
  pub same : IsSameWrite o (issue_of g) g.event g.block g.storage

-- the block isn't local, nobody writes it, and the store's event writes it whole
pub record WritesWhole (o : Opening) (log : List Entry) (m : Memory) (guest store : Entry) (b p : ℕ) : Type 0 where
  pub pending : ℕ → Option ℕ
  pub not_local : m.fresh b ≡ false
  pub none : m.pending b ≡ None
  pub in_range : b < o.layout.blocks
  pub given : m.index.table (o.layout.chunk_of b) ≡ Some p
  pub put : IsUpdated m.pending pending b (Some (length log))
  pub whole : IsWholeWrite o m.discards guest store b p

-- the block is local from this event on, and nothing is pending for it
pub record BecomesLocal (m : Memory) (since b : ℕ) : Type 0 where
  pub fresh : ℕ → Bool
  pub born : ℕ → ℕ
  pub pending : ℕ → Option ℕ
  pub put_fresh : IsUpdated m.fresh fresh b true
  pub put_born : IsUpdated m.born born b since
  pub put_pending : IsUpdated m.pending pending b None

-- the block may be owed beside those that were, and is if it isn't stale
pub record Owes (m : Memory) (owed : ℕ → Bool) (b : ℕ) : Type 0 where
  pub still : (c : ℕ) → m.owed c ≡ true → owed c ≡ true
  pub only : (c : ℕ) → owed c ≡ true → (m.owed c ≡ true) ⊎ (c ≡ b)
  pub logged : (m.index.stale b ≡ true) ⊎ (owed b ≡ true)

-- more local blocks are owed
pub record OwesMore (m : Memory) (owed : ℕ → Bool) : Type 0 where
  pub still : (c : ℕ) → m.owed c ≡ true → owed c ≡ true
  pub local : (c : ℕ) → owed c ≡ true → m.fresh c ≡ true

-- A chunk is discarded: the call's write of zeros to it, and what memory is then. Nothing is pending for a block of it.
pub record ChunkDrop (o : Opening) (history : List NumberedEntry) (m : Memory) : Type 0 where
  pub call : CallId
  pub first : ℕ
  pub content : List Sector
  pub chunk : ℕ
  pub fresh : ℕ → Bool
  pub stale : ℕ → Bool
  pub owed : ℕ → Bool
  pub discards : Discards
  pub within : chunk < o.layout.chunks
  pub writes : IsDropWrite o chunk (Issue call first content)
  pub discarded : IsDiscarded o m (length history) chunk fresh stale owed discards
  pub none_pending : (b : ℕ) → o.layout.chunk_of b ≡ chunk → m.pending b ≡ None

abbrev pub dropped_memory : {o : Opening} {history : List NumberedEntry} {m : Memory} → ChunkDrop o history m → Memory
dropped_memory {m} d = discarded_memory m d.fresh d.stale d.owed d.discards
