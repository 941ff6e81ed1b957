-- A number by the bits that it has.
use Rattle.std.proofs.Common.{◌≡◌, ℕ, ◌-◌, ◌%◌, ◌^◌, ◌<◌, sym, ap, ◌∙◌, arith, inl, inr}
use Rattle.std.specs.Prelude.{min}
use Rattle.std.specs.Int.{bit_at}
use Rattle.std.proofs.lemmas.Bool.{cases_lt, cases_eq}
use Rattle.std.proofs.lemmas.Nat.{and_mask, pow_pos}
use Rattle.std.proofs.lemmas.Nat.Bits.{bit_at-lt, bit_at_and, bit_at_ones, bit_at_ones_above, bit_at_above, same_from_bits}
use Rattle.std.proofs.Math.Nat.{mod-lt}

-- the bits of the low part of a number
bit_at-mod : (n k i : ℕ) → bit_at (n % 2 ^ k) i ≡ min (bit_at n i) (bit_at (2 ^ k - 1) i)
bit_at-mod n k i = ap (λ (m : ℕ). bit_at m i) (sym (and_mask n k)) ∙ bit_at_and n (2 ^ k - 1) i

-- a number whose bits are all below k is below 2 ^ k
pub below_from_bits : (n k : ℕ) → ((i : ℕ) → bit_at n i ≡ 1 → i < k) → n < 2 ^ k
below_from_bits n k low =
    let same : (i : ℕ) → bit_at (n % 2 ^ k) i ≡ bit_at n i = λ i.
    elim (cases_lt i k) [
      | inl below ↦ (let ones = bit_at_ones k i below in let small = bit_at-lt n i in let part = bit_at-mod n k i in omega (arith, ones, small, part))
      | inr above ↦ (let none = bit_at_ones_above k i above in let small = bit_at-lt n i in let part = bit_at-mod n k i in
          elim (cases_eq (bit_at n i) 1) [
            | inl set ↦ absurd (let below = low i set in omega (arith, below, above))
            | inr clear ↦ omega (arith, none, small, part, clear)
          ])
    ] in
    let whole : n % 2 ^ k ≡ n = same_from_bits (n % 2 ^ k) n same in
    let less = mod-lt n (pow_pos k) in
    omega (arith, whole, less)

-- and its bits are below k
pub bits_below : (n k i : ℕ) → n < 2 ^ k → bit_at n i ≡ 1 → i < k
bits_below n k i below set =
    elim (cases_lt i k) [
      | inl less ↦ less
      | inr above ↦ absurd (let none = bit_at_above n k i below above in omega (arith, none, set))
    ]
