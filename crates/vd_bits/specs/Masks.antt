-- Truth values as the bits of a number.
use Rattle.std.specs.Prelude.{ℕ, Bool, List, map, ◌==◌}
use Rattle.std.specs.List.{range_with_len}
use Rattle.std.specs.Int.{bit_at}
use lib.Lanes.{mask_l}

-- the number whose bit i is the i-th of these, and which has no other bit
abbrev pub mask_of : List Bool → ℕ
mask_of bits = mask_l bits

-- so many bits of a number, from bit 0 on
abbrev pub bits_of : (count mask : ℕ) → List Bool
bits_of count mask = map (λ i. bit_at mask i == 1) (range_with_len 0 count)
