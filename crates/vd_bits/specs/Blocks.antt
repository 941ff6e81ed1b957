-- What a bitmap shows of a disk's blocks.
use Rattle.std.specs.Prelude.{ℕ, ◌+◌, ◌*◌, Bool, List, ◌++◌, length, take, drop}
use Rattle.vd_bits.specs.Masks.{bits_of}

-- a truth value for each block, and how many blocks a chunk has
pub record Blocks : Type 0 where
  pub chunk : ℕ
  pub bits : List Bool

-- those of a chunk's blocks that exist
abbrev pub bits_in : Blocks → (chunk_number : ℕ) → List Bool
bits_in b n = take b.chunk (drop (n * b.chunk) b.bits)

-- the bits of a chunk's blocks become those of a mask, and all others stay
abbrev pub with_mask : Blocks → (chunk_number mask : ℕ) → Blocks
with_mask b n mask = record b { bits = take (n * b.chunk) b.bits ++ bits_of (length (bits_in b n)) mask ++ drop (n * b.chunk + b.chunk) b.bits }
