-- Bits of numbers that were shifted, cut and laid over one another.
use Rattle.std.proofs.Common.{add-zero, ◌≡◌, ℕ, min, max, ◌+◌, ◌-◌, ◌*◌, ◌/◌, ◌%◌, ◌^◌, ◌<◌, ◌≤◌, sym, refl, ap, ◌∙◌, arith}
use Rattle.std.specs.Int.{bit_at, w64}
use Rattle.std.specs.Int.RustNames.{bit_or}
use lib.Bits.{bit_and}
use Rattle.std.proofs.lemmas.Nat.{shr-shr, shl-shr, shr_split, shl_whole, pow_pos, mod_below}
use Rattle.std.proofs.lemmas.Nat.Bits.{bit_at_cat_low, bit_at-zero, bit_at_above, bit_at_and, bit_at_or, bit_at_not, bit_at_ones, bit_at-lt, ones_shr}

-- a shift to the right moves the bits down
pub bit_shr : (n s i : ℕ) → bit_at (n / 2 ^ s) i ≡ bit_at n (s + i)
bit_shr n s i = ap (λ m. m % 2) (shr-shr n s i)

-- and one to the left moves them up
pub bit_shl : (n s i : ℕ) → bit_at (n * 2 ^ s) (s + i) ≡ bit_at n i
bit_shl n s i = sym (bit_shr (n * 2 ^ s) s i) ∙ ap (λ m. bit_at m i) (shl-shr n s)

pub bit_shl_below : (n s i : ℕ) → i < s → bit_at (n * 2 ^ s) i ≡ 0
bit_shl_below n s i h = rw add-zero at (bit_at_cat_low n s 0 i h ∙ bit_at-zero i)

-- the lowest c bits of a number
pub bit_mod_below : (n c i : ℕ) → i < c → bit_at (n % 2 ^ c) i ≡ bit_at n i
bit_mod_below n c i h = sym (bit_at_cat_low (n / 2 ^ c) c (n % 2 ^ c) i h) ∙ ap (λ m. bit_at m i) (shr_split n c)

pub bit_mod_above : (n c i : ℕ) → c ≤ i → bit_at (n % 2 ^ c) i ≡ 0
bit_mod_above n c i h = bit_at_above (n % 2 ^ c) c i (mod_below n (2 ^ c) (pow_pos c)) h

-- MAX shifted down to its lowest c bits
pub kept_ones : (c : ℕ) → c ≤ 64 → 18446744073709551615 / 2 ^ (64 - c) + 1 ≡ 2 ^ c
kept_ones c h =
    let e : 64 - (64 - c) ≡ c = omega arith in
    let o = ones_shr 64 (64 - c) (omega arith) in
    let p = pow_pos c in
    omega (arith, rw e at o, p)

-- A mask m of c bits is laid into the word w at place s, where o is the word of c ones.
abbrev pub laid : (w o m s : ℕ) → ℕ
laid w o m s = bit_or (bit_and w (18446744073709551615 - o * 2 ^ s % 18446744073709551616)) (m * 2 ^ s % 18446744073709551616)

module _ (w o m s c : ℕ) (ones : o + 1 ≡ 2 ^ c) (mask : m < 2 ^ c) (fits : s + c ≤ 64) where
  bit_laid : (j : ℕ) → j < 64 → bit_at (laid w o m s) j ≡ max (min (bit_at w j) (1 - bit_at (o * 2 ^ s) j)) (bit_at (m * 2 ^ s) j)
  bit_laid j h =
      let hole : o * 2 ^ s % 2 ^ 64 ≡ o * 2 ^ s = shl_whole o c s 64 (omega arith) (omega arith) in
      let laid_mask : m * 2 ^ s % 2 ^ 64 ≡ m * 2 ^ s = shl_whole m c s 64 mask (omega arith) in
      let small : o * 2 ^ s < 2 ^ 64 = rw (sym hole) (mod_below (o * 2 ^ s) (2 ^ 64) (omega arith)) in
      rw (bit_at_or, bit_at_and, hole, laid_mask, bit_at_not w64 (o * 2 ^ s) j small h) refl

  pub laid_below : (j : ℕ) → j < s → bit_at (laid w o m s) j ≡ bit_at w j
  laid_below j h =
      rw (bit_laid j (omega arith)) (omega (arith, bit_shl_below o s j h, bit_shl_below m s j h, bit_at-lt w j))

  pub laid_inside : (i : ℕ) → i < c → bit_at (laid w o m s) (s + i) ≡ bit_at m i
  laid_inside i h =
      let one : bit_at o i ≡ 1 = rw (let e : o ≡ 2 ^ c - 1 = omega arith in e) (bit_at_ones c i h) in
      rw (bit_laid (s + i) (omega arith)) (omega (arith, bit_shl o s i, bit_shl m s i, one))

  pub laid_above : (j : ℕ) → s + c ≤ j → j < 64 → bit_at (laid w o m s) j ≡ bit_at w j
  laid_above j h k =
      let e : s + (j - s) ≡ j = omega arith in
      let zero_o = rw e at (bit_shl o s (j - s) ∙ bit_at_above o c (j - s) (omega arith) (omega arith)) in
      let zero_m = rw e at (bit_shl m s (j - s) ∙ bit_at_above m c (j - s) mask (omega arith)) in
      rw (bit_laid j k) (omega (arith, zero_o, zero_m, bit_at-lt w j))
