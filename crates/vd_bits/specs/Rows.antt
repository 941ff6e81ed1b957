-- What the words of a row of flags stand for.
use Rattle.std.specs.Prelude.{◌≡◌, ℕ, ◌+◌, ◌*◌, ◌/◌, ◌%◌, ◌<◌, ◌≤◌, Bool, false, List, length, map, slice_index, ◌==◌}
use Rattle.std.specs.List.{range_with_len}
use Rattle.std.specs.Int.{bit_at}

-- the flag at place i
abbrev pub flag_at : (words : List ℕ) (i : ℕ) → Bool
flag_at words i = bit_at (slice_index words (i / 64)) (i % 64) == 1

abbrev pub row : (words : List ℕ) (len : ℕ) → List Bool
row words len = map (flag_at words) (range_with_len 0 len)

-- there are as many words as the flags need, and past the last flag all bits are 0
pub record IsRow (words : List ℕ) (len : ℕ) : Type 0 where
  pub enough : len ≤ 64 * length words
  pub needed : 64 * length words < len + 64
  pub clear : (i : ℕ) → len ≤ i → flag_at words i ≡ false
