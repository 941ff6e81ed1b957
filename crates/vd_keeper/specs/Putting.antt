-- What the entries of a flush are made from.
use Rattle.std.specs.Prelude.{ℕ, ◌≡◌, ◌<◌, ◌≤◌, Bool, true, List, length, map, take}
use Rattle.vd_format.specs.declared.header.Header.{Header}
use Rattle.vd_format.specs.declared.journal.Fact2.{Fact2}
use Rattle.vd_format.specs.Layouts.{blocks_of, chunks_of}
use Rattle.vd_bits.specs.Blocks.{Blocks}
use Rattle.vd_table.specs.Tables.{TableState, Has}
use Rattle.vd_keeper.specs.Entries.{union_of, has_block, fact_of}
use Rattle.vd_keeper.specs.Sets.{chunks_from}

-- the sizes fit
pub record HasFittingSizes (h : Header) (stale snapshot : Blocks) (table : TableState) : Type 0 where
  pub stale_chunk : stale.chunk ≡ h.chunk
  pub stale_size : length stale.bits ≡ blocks_of h
  pub snapshot_chunk : snapshot.chunk ≡ h.chunk
  pub snapshot_size : length snapshot.bits ≡ blocks_of h
  pub table_size : length table.chunks ≡ chunks_of h
  pub storage : table.storage ≡ h.storage
  pub some : 0 < h.chunk
  pub most : h.chunk ≤ 64

-- each chunk with a block has storage
abbrev pub HasEach : Header → List Bool → List Bool → TableState → Type 0
HasEach h stale snapshot table = (chunk : ℕ) → has_block h (union_of stale snapshot) chunk ≡ true → (p : ℕ) × (p < h.storage) × Has table chunk p

-- the facts of a record of the chunks from this one on, as many as it holds
abbrev pub facts_of_record : Header → TableState → (stale snapshot : Blocks) → (from : ℕ) → List Fact2
facts_of_record h table stale snapshot from = map (fact_of h table (union_of stale.bits snapshot.bits)) (take 24 (chunks_from snapshot from))

-- The table has storage for each chunk of an image.
pub record IsFull (h : Header) (table : TableState) : Type 0 where
  pub size : length table.chunks ≡ chunks_of h
  pub storage : table.storage ≡ h.storage
  pub each : (chunk : ℕ) → chunk < chunks_of h → (p : ℕ) × (p < h.storage) × Has table chunk p

-- the headers of one image
pub record IsSameImage (old new : Header) : Type 0 where
  pub blocks : blocks_of new ≡ blocks_of old
  pub chunks : chunks_of new ≡ chunks_of old
  pub storage : new.storage ≡ old.storage
