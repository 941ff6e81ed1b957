-- Sets of blocks, and the chunks that they are in.
use Rattle.std.specs.Prelude.{ℕ, ◌≡◌, ◌+◌, ◌-◌, ◌*◌, ◌/◌, ◌<◌, ◌≤◌, ◌⊎◌, ◌==◌, ◌||◌, ◌&&◌, not, Bool, false, List, ◌∷◌, map, filter, length, replicate, slice_index_or}
use Rattle.std.specs.Int.{bit_at}
use Rattle.std.specs.List.{list_any, range_with_len}
use Rattle.vd_bits.specs.Blocks.{Blocks, bits_in}

-- the number of chunks, of which the last may have fewer blocks
abbrev pub chunk_count : Blocks → ℕ
chunk_count b = (length b.bits + b.chunk - 1) / b.chunk

-- the chunk has a block of the set
abbrev pub has_any : Blocks → (chunk : ℕ) → Bool
has_any b chunk = list_any (λ b. b) (bits_in b chunk)

-- for each chunk, whether it has
abbrev pub marks_of : Blocks → List Bool
marks_of b = map (has_any b) (range_with_len 0 (chunk_count b))

-- the chunks from this one on that have, in rising order
abbrev pub chunks_from : Blocks → (from : ℕ) → List ℕ
chunks_from b from = filter (has_any b) (range_with_len from (chunk_count b - from))

abbrev pub empty_of : Blocks → Blocks
empty_of b = record b { bits = replicate (length b.bits) false }

-- it is the first of them
pub record IsNextChunk (b : Blocks) (from chunk : ℕ) : Type 0 where
  pub from_on : from ≤ chunk
  pub inside : chunk * b.chunk < length b.bits
  pub below : chunk < chunk_count b
  pub rest : chunks_from b from ≡ chunk ∷ chunks_from b (chunk + 1)

-- the place isn't of this chunk
abbrev pub IsOutsideChunk : Blocks → (chunk place : ℕ) → Type 0
IsOutsideChunk b chunk i = (i < chunk * b.chunk) ⊎ (chunk * b.chunk + length (bits_in b chunk) ≤ i)

-- the mask's blocks of a chunk were added
pub record HasMore (old new : Blocks) (chunk mask : ℕ) : Type 0 where
  pub chunk_is : new.chunk ≡ old.chunk
  pub size : length new.bits ≡ length old.bits
  pub added : (j : ℕ) → j < length (bits_in old chunk)
      → slice_index_or new.bits (chunk * old.chunk + j) false ≡ (slice_index_or old.bits (chunk * old.chunk + j) false || (bit_at mask j == 1))
  pub others : (i : ℕ) → IsOutsideChunk old chunk i → slice_index_or new.bits i false ≡ slice_index_or old.bits i false

-- the blocks of a chunk were taken away
pub record LacksChunk (old new : Blocks) (chunk : ℕ) : Type 0 where
  pub chunk_is : new.chunk ≡ old.chunk
  pub size : length new.bits ≡ length old.bits
  pub gone : (j : ℕ) → j < length (bits_in old chunk) → slice_index_or new.bits (chunk * old.chunk + j) false ≡ false
  pub others : (i : ℕ) → IsOutsideChunk old chunk i → slice_index_or new.bits i false ≡ slice_index_or old.bits i false

-- the fresh blocks of a chunk that aren't stale were added
pub record Adopted (old new : Blocks) (fresh stale : List Bool) (chunk : ℕ) : Type 0 where
  pub chunk_is : new.chunk ≡ old.chunk
  pub size : length new.bits ≡ length old.bits
  pub added : (j : ℕ) → j < length (bits_in old chunk)
      → slice_index_or new.bits (chunk * old.chunk + j) false
      ≡ (slice_index_or old.bits (chunk * old.chunk + j) false || (slice_index_or fresh (chunk * old.chunk + j) false && not (slice_index_or stale (chunk * old.chunk + j) false)))
  pub others : (i : ℕ) → IsOutsideChunk old chunk i → slice_index_or new.bits i false ≡ slice_index_or old.bits i false
