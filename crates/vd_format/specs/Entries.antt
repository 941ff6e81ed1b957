-- An entry of the map says of one chunk which storage it has, what a block is that isn't local, and which blocks are local. It has 16 bytes:
--     0 to 3     storage   0 for none, and p + 1 for storage chunk p
--     4 to 7     kind      0 where a block that isn't local reads from the base, 1 where it reads as zeros
--     8 to 15    mask      bit i is set where the chunk's block i is local
-- A sector of the map has the entries of 32 chunks. Its bytes past the last chunk are written as zeros and not read.
use Rattle.std.specs.Prelude.{ℕ, ◌≡◌, ◌≤◌, ◌<◌, ◌+◌, ◌-◌, ◌*◌, ◌^◌, ◌↔◌, ◌==◌, ◌&&◌, Bool, false, not, List, ◌++◌, length, take, drop, min, replicate, nat_lt, nat_le, if◌then◌else◌, Result, Ok, Err}
use Rattle.std.specs.Int.{bit_at}
use Rattle.std.specs.List.{flat_map}
use Rattle.vd_law.specs.declared.entry.Sector.{Sector}
use Rattle.vd_format.specs.declared.map.Entry.{Entry}
use Rattle.vd_format.specs.declared.map.Shape2.{Shape2}
use Rattle.vd_format.specs.Numbers.{u32_bytes, u64_bytes, u32_at, u64_at}

-- the numbers have room in their bytes
pub record Fits (e : Entry) : Type 0 where
  pub storage : e.storage < 2 ^ 32
  pub mask : e.mask < 2 ^ 64

-- the grammar of the entry of a chunk
pub record IsEntry (shape : Shape2) (chunk : ℕ) (e : Entry) : Type 0 where
  pub storage : e.storage ≤ shape.storage
  -- a chunk of zeros is outside the grammar
  pub kind : e.zeros ≡ false
  -- a bit of the mask is of a block of this chunk that exists
  pub mask : e.mask < 2 ^ 64
  pub blocks : (i : ℕ) → bit_at e.mask i ≡ 1 → (i < shape.chunk) × (chunk * shape.chunk + i < shape.blocks)
  pub empty : (e.mask ≡ 0) ↔ (e.storage ≡ 0)

-- no storage, and no block local
abbrev pub empty_entry : Entry
empty_entry = record { storage = 0; zeros = false; mask = 0 }

abbrev pub kind_of : Entry → ℕ
kind_of e = if e.zeros then 1 else 0

-- the 16 bytes of an entry
unfoldable pub entry_bytes : Entry → List ℕ
entry_bytes e = u32_bytes e.storage ++ u32_bytes (kind_of e) ++ u64_bytes e.mask

-- a sector of the map with these entries, at most 32
unfoldable pub page_bytes : List Entry → List ℕ
page_bytes es = flat_map entry_bytes es ++ replicate (512 - 16 * length es) 0

-- ---- reading

-- the entry that stands from this byte on, whatever it is: any kind but 0 counts as zeros
unfoldable pub entry_from : List ℕ → ℕ → Entry
entry_from bytes at = record { storage = u32_at bytes at; zeros = not (u32_at bytes (at + 4) == 0); mask = u64_at bytes (at + 8) }

-- its kind is 0 or 1
unfoldable pub has_kind : List ℕ → ℕ → Bool
has_kind bytes at = nat_le (u32_at bytes (at + 4)) 1

-- the blocks of the chunk that exist, of which a mask has at most 64
abbrev pub blocks_in : Shape2 → ℕ → ℕ
blocks_in shape chunk = min 64 (min shape.chunk (shape.blocks - chunk * shape.chunk))

-- the entry is in the grammar
unfoldable pub is_entry : Shape2 → ℕ → Entry → Bool
is_entry shape chunk e =
    nat_le e.storage shape.storage && not e.zeros && nat_lt e.mask (2 ^ blocks_in shape chunk)
    && (if e.mask == 0 then e.storage == 0 else not (e.storage == 0))

-- the entry at a place of a sector of the map, which has 32
abbrev pub entry_at : Sector → ℕ → Entry
entry_at sector place = entry_from sector.bytes (16 * place)

-- the sector has an entry of the grammar there, for this chunk
abbrev pub has_entry : Shape2 → ℕ → Sector → ℕ → Bool
has_entry shape chunk sector place = is_entry shape chunk (entry_at sector place) && has_kind sector.bytes (16 * place)

-- the entry of a chunk that stands at this place, or its storage field where it is outside the grammar
unfoldable pub entry_or_storage : Shape2 → ℕ → Sector → ℕ → Result Entry ℕ
entry_or_storage shape chunk sector place = if has_entry shape chunk sector place then Ok (entry_at sector place) else Err (entry_at sector place).storage

-- ---- what a sector of the map has

-- the bytes of the entry at a place
abbrev pub bytes_at : Sector → ℕ → List ℕ
bytes_at sector place = take 16 (drop (16 * place) sector.bytes)

-- the sector spells there an entry of the grammar of this chunk
pub record SpellsEntry (shape : Shape2) (chunk : ℕ) (sector : Sector) (place : ℕ) (e : Entry) : Type 0 where
  pub grammar : IsEntry shape chunk e
  pub bytes : bytes_at sector place ≡ entry_bytes e

-- the sector spells there no entry of the grammar of this chunk, and this is the storage field
pub record IsBadEntry (shape : Shape2) (chunk : ℕ) (sector : Sector) (place storage : ℕ) : Type 0 where
  pub says : u32_at sector.bytes (16 * place) ≡ storage
  pub unspelled : (e : Entry) → SpellsEntry shape chunk sector place e → ⊥
