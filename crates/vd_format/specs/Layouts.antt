-- Where the areas of a store stand, in sectors of 512 bytes: the header, the table, the bitmap, the map, the slots of the journal, the storage.
use Rattle.std.specs.Prelude.{ℕ, ◌+◌, ◌-◌, ◌*◌, ◌/◌, ◌%◌}
use Rattle.vd_format.specs.declared.header.Header.{Header}

abbrev pub blocks_of : Header → ℕ
blocks_of h = h.size / h.block

-- the last chunk may have fewer blocks
abbrev pub chunks_of : Header → ℕ
chunks_of h = (blocks_of h + h.chunk - 1) / h.chunk

-- the sectors that so many bytes take
abbrev pub sectors_for_bytes : ℕ → ℕ
sectors_for_bytes bytes = (bytes + 511) / 512

abbrev pub table_start : ℕ
table_start = 1

-- the table has four bytes for each chunk
abbrev pub bits_start : Header → ℕ
bits_start h = table_start + sectors_for_bytes (4 * chunks_of h)

-- the bitmap has eight
abbrev pub map_start : Header → ℕ
map_start h = bits_start h + sectors_for_bytes (8 * chunks_of h)

-- the map has sixteen
abbrev pub slots_start : Header → ℕ
slots_start h = map_start h + sectors_for_bytes (16 * chunks_of h)

-- a slot is one sector
abbrev pub storage_start : Header → ℕ
storage_start h = slots_start h + h.slots

-- a storage chunk is as long as a chunk of the disk: the sectors that a store needs
abbrev pub store_need : Header → ℕ
store_need h = storage_start h + h.storage * h.chunk * h.block

-- ---- the storage, which begins at sector `start`

-- the first sector of block b, where its chunk has storage chunk p
abbrev pub place_of_block : (start chunk block p b : ℕ) → ℕ
place_of_block start chunk block p b = start + (p * chunk + b % chunk) * block

-- guest sector s, which stands in the place of its block
abbrev pub place_of_sector : (start chunk block p s : ℕ) → ℕ
place_of_sector start chunk block p s = place_of_block start chunk block p (s / block) + s % block
