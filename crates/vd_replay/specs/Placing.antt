-- What the entries of all chunks say of storage, of blocks, and of the map's sectors.
use Rattle.std.specs.Prelude.{ℕ, ◌≡◌, ◌≢◌, ◌+◌, ◌-◌, ◌*◌, ◌/◌, ◌%◌, ◌==◌, ◌<◌, ◌≤◌, ◌↔◌, Bool, true, if◌then◌else◌, List, length, Some, Result, Ok, Err, ⊤, slice_get}
use Rattle.std.specs.Int.{bit_at}
use Rattle.vd_format.specs.declared.map.Entry.{Entry}
use Rattle.vd_format.specs.declared.map.Shape2.{Shape2}
use Rattle.vd_bits.specs.Blocks.{Blocks, with_mask}
use Rattle.vd_table.specs.Tables.{TableState, Has, with_storage}
use Rattle.vd_replay.specs.declared.placing.Twins.{Twins as Pair}

-- the chunk's entry has storage chunk p
abbrev pub EntryHasStorage : List Entry → (chunk p : ℕ) → Type 0
EntryHasStorage entries chunk p = (e : Entry) × (slice_get entries chunk ≡ Some e) × (e.storage ≡ p + 1)

-- the numbers of a disk's chunks: each has a block
pub record EachChunkHasBlocks (shape : Shape2) : Type 0 where
  pub some : 0 < shape.chunk
  pub most : shape.chunk ≤ 64
  pub first_block : (c : ℕ) → c < shape.chunks → c * shape.chunk < shape.blocks
  pub last_block : (b : ℕ) → b < shape.blocks → b / shape.chunk < shape.chunks

-- a table and blocks of a disk's sizes
pub record AreSized (shape : Shape2) (table : TableState) (fresh : Blocks) : Type 0 where
  pub chunks : length table.chunks ≡ shape.chunks
  pub storage : table.storage ≡ shape.storage
  pub chunk : fresh.chunk ≡ shape.chunk
  pub blocks : length fresh.bits ≡ shape.blocks

-- The chunk got the storage of this entry, which no chunk had before, and its blocks.
pub record Places (e : Entry) (chunk : ℕ) (table : TableState) (fresh : Blocks) (table' : TableState) (fresh' : Blocks) : Type 0 where
  pub alone : (by p : ℕ) → e.storage ≡ p + 1 → Has table by p → ⊥
  pub storage : table' ≡ (if e.storage == 0 then table else with_storage table chunk (e.storage - 1))
  pub mask : fresh' ≡ with_mask fresh chunk e.mask

-- another chunk has the storage of this entry
abbrev pub IsTwin : Entry → (chunk : ℕ) → TableState → (by : ℕ) → Type 0
IsTwin e chunk table by = (p : ℕ) × (e.storage ≡ p + 1) × Has table by p

-- the table has the storage of the first n chunks alone
pub record IsPlaced (entries : List Entry) (n : ℕ) (table : TableState) : Type 0 where
  pub given : (chunk p : ℕ) → Has table chunk p → (chunk < n) × EntryHasStorage entries chunk p
  pub has : (chunk p : ℕ) → chunk < n → EntryHasStorage entries chunk p → Has table chunk p
  pub apart : (a b p : ℕ) → Has table a p → Has table b p → a ≡ b

-- the second of these chunks is the lowest that has the storage of one before it, which is the first
pub record AreTwins (entries : List Entry) (first second : ℕ) : Type 0 where
  pub within : second < length entries
  pub before : first < second
  pub storage : ℕ
  pub first_has : EntryHasStorage entries first storage
  pub second_has : EntryHasStorage entries second storage
  pub lowest : (a b p : ℕ) → a < b → b < second → EntryHasStorage entries a p → EntryHasStorage entries b p → ⊥

-- the bit of each block of the first n chunks is that of its chunk's mask
pub record IsSpread (entries : List Entry) (n : ℕ) (fresh : Blocks) : Type 0 where
  pub bit : (b : ℕ) (e : Entry) → b < length fresh.bits → b / fresh.chunk < n → slice_get entries (b / fresh.chunk) ≡ Some e
      → slice_get fresh.bits b ≡ Some (bit_at e.mask (b % fresh.chunk) == 1)

-- storage and blocks of all chunks are these, or two chunks have one storage
abbrev pub Placed : List Entry → TableState → Blocks → Result ⊤ Pair → Type 0
Placed entries table fresh (Ok all) = IsPlaced entries (length entries) table × IsSpread entries (length entries) fresh
Placed entries table fresh (Err twins) = AreTwins entries twins.first twins.second

-- a chunk of this sector of the map has another entry than the sector
pub record Differs (entries pages : List Entry) (page : ℕ) : Type 0 where
  pub chunk : ℕ
  pub on_page : chunk / 32 ≡ page
  pub entry : Entry
  pub said : Entry
  pub is : slice_get entries chunk ≡ Some entry
  pub was : slice_get pages chunk ≡ Some said
  pub other : entry ≢ said

-- of the first n sectors of the map, those are marked that differ
pub record AreMarked (entries pages : List Entry) (n : ℕ) (more : List Bool) : Type 0 where
  pub marks : (page : ℕ) (mark : Bool) → page < n → slice_get more page ≡ Some mark → (mark ≡ true) ↔ Differs entries pages page
