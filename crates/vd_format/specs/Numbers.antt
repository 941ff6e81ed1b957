-- Numbers in bytes, the lowest byte first.
use Rattle.std.specs.Prelude.{ℕ, ◌+◌, ◌<◌, ◌==◌, Bool, List, ◌++◌, length, take, drop, slice_index, nat_eq}
use Rattle.std.specs.List.{list_all, starts_with}
use Rattle.byteorder.specs.Endian.{little_number, little_bytes}

-- a number as four bytes
abbrev pub u32_bytes : ℕ → List ℕ
u32_bytes n = little_bytes 4 n

-- a number as eight bytes
abbrev pub u64_bytes : ℕ → List ℕ
u64_bytes n = little_bytes 8 n

-- the number in the four bytes from this place on
unfoldable pub u32_at : List ℕ → ℕ → ℕ
u32_at bytes at = little_number 4 (drop at bytes)

-- the number in the eight bytes from this place on
unfoldable pub u64_at : List ℕ → ℕ → ℕ
u64_at bytes at = little_number 8 (drop at bytes)

-- the bytes with these in the place of as many from this place on
unfoldable pub put_at : List ℕ → ℕ → List ℕ → List ℕ
put_at bytes at new = take at bytes ++ new ++ drop (at + length new) bytes

unfoldable pub are_zeros : List ℕ → Bool
are_zeros bytes = list_all (λ b. b == 0) bytes

-- the bytes begin with this magic
unfoldable pub has_magic : List ℕ → List ℕ → Bool
has_magic magic bytes = starts_with nat_eq bytes magic

-- a byte is below 256
abbrev pub IsBytes : List ℕ → Type 0
IsBytes bytes = (i : ℕ) → slice_index bytes i < 256
