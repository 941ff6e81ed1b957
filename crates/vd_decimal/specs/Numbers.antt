-- Numbers in texts are decimal, below 2^64, with no sign and with no leading zero but for `0` itself.
use Rattle.std.specs.Prelude.{ℕ, ◌≡◌, ◌≤◌, ◌<◌, ◌^◌, ◌&&◌, List, length, Option, Some, None, slice_index, EachIndex, nat_lt, nat_le, if◌then◌else◌}
use Rattle.std.specs.Char.{IsAsciiDigit}
use Rattle.std.specs.Fmt.{decimal}
use Rattle.std.specs.Str.{bytes_eq}
use Rattle.std.specs.Str.Parse.{digits_value}

-- the bytes are what is printed for n, in at most so many digits
pub record SpellsNumber (most : ℕ) (bytes : List ℕ) (n : ℕ) : Type 0 where
  pub printed : bytes ≡ decimal n
  pub digits : length bytes ≤ most
  pub fits : n < 2 ^ 64

-- the number that the bytes spell, if they spell one
unfoldable pub number_in : (most : ℕ) → List ℕ → Option ℕ
number_in most bytes =
    let n = digits_value 10 bytes in
    if bytes_eq bytes (decimal n) && nat_le (length bytes) most && nat_lt n (2 ^ 64) then Some n else None

abbrev pub AreDigits : List ℕ → Type 0
AreDigits bytes = EachIndex bytes (λ i. IsAsciiDigit (slice_index bytes i))

-- digits alone, at most so many, with no leading zero but for `0` itself; perhaps none at all
pub record ArePlain (most : ℕ) (bytes : List ℕ) : Type 0 where
  pub few : length bytes ≤ most
  pub digits : AreDigits bytes
  pub no_zero : 1 < length bytes → slice_index bytes 0 ≡ 48 → ⊥
