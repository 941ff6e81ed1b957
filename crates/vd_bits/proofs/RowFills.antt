-- Rows whose flags are all down, or all up.
use Rattle.std.proofs.Common.{◌≡◌, ℕ, ◌+◌, ◌-◌, ◌*◌, ◌/◌, ◌%◌, ◌^◌, ◌<◌, ◌≤◌, ◌≢◌, true, false, eqb, List, length, set, replicate, sym, refl, ap, ◌∙◌, arith, ⊎_elim, length-set, get_or-set_same, get_or-set_other}
use Rattle.std.specs.Int.{bit_at}
use Rattle.std.proofs.lemmas.Bool.{cases_lt, cases_eq}
use Rattle.std.proofs.lemmas.List.{get_or_past, get_or-replicate, length-replicate}
use Rattle.std.proofs.lemmas.Nat.Bits.{bit_at-zero, bit_at_ones, bit_at_ones_above}
use Rattle.vd_bits.specs.Rows.{flag_at, row, IsRow}
use Rattle.vd_bits.proofs.RowLaws.{row_is}

-- as many words as n flags need
pub record AreEnough (count n : ℕ) : Type 0 where
  pub enough : n ≤ 64 * count
  pub needed : 64 * count < n + 64

flag_past : (words : List ℕ) (i : ℕ) → length words ≤ i / 64 → flag_at words i ≡ false
flag_past words i h = ap (λ w. eqb (bit_at w (i % 64)) 1) (get_or_past words (i / 64) 0 h) ∙ ap (λ b. eqb b 1) (bit_at-zero (i % 64))

zero_flag : (count i : ℕ) → flag_at (replicate count 0) i ≡ false
zero_flag count i =
    ⊎_elim
    (λ (h : i / 64 < count). ap (λ w. eqb (bit_at w (i % 64)) 1) (get_or-replicate count (i / 64) 0 0 h) ∙ ap (λ b. eqb b 1) (bit_at-zero (i % 64)))
    (λ (h : count ≤ i / 64). flag_past (replicate count 0) i (omega (arith, length-replicate {A = ℕ} count 0)))
    (cases_lt (i / 64) count)

pub all_down : (count n : ℕ) → AreEnough count n → IsRow (replicate count 0) n × (row (replicate count 0) n ≡ replicate n false)
all_down count n k = (
  record { enough = rw length-replicate k.enough; needed = rw length-replicate k.needed; clear = λ i h. zero_flag count i },
  row_is (replicate count 0) n (replicate n false) (length-replicate n false) (λ i d h. zero_flag count i ∙ sym (get_or-replicate n i false d h)),
)

full_flag : (count i : ℕ) → i / 64 < count → flag_at (replicate count 18446744073709551615) i ≡ true
full_flag count i h =
    ap (λ w. eqb (bit_at w (i % 64)) 1) (get_or-replicate count (i / 64) 18446744073709551615 0 h) ∙ ap (λ b. eqb b 1) (bit_at_ones 64 (i % 64) (omega arith))

-- where the flags fill all their words
pub all_up : (count n : ℕ) → AreEnough count n → n % 64 ≡ 0 → IsRow (replicate count 18446744073709551615) n × (row (replicate count 18446744073709551615) n ≡ replicate n true)
all_up count n k whole = (
  record {
    enough = rw length-replicate k.enough;
    needed = rw length-replicate k.needed;
    clear = λ i h. flag_past (replicate count 18446744073709551615) i (omega (arith, length-replicate {A = ℕ} count 18446744073709551615, k.needed));
  },
  row_is (replicate count 18446744073709551615) n (replicate n true) (length-replicate n true)
      (λ i d h. full_flag count i (omega (arith, k.enough)) ∙ sym (get_or-replicate n i true d h)),
)

-- where the last word has other bits, it has the ones of the flags alone
module _ (count n o : ℕ) (k : AreEnough count n) (some : 0 < n % 64) (ones : o + 1 ≡ 2 ^ (n % 64)) where
  last_flag : (i : ℕ) → i / 64 ≡ count - 1 → flag_at (set (replicate count 18446744073709551615) (count - 1) o) i ≡ eqb (bit_at (2 ^ (n % 64) - 1) (i % 64)) 1
  last_flag i e =
      let word : o ≡ 2 ^ (n % 64) - 1 = omega arith in
      rw (e, get_or-set_same (replicate count 18446744073709551615) (count - 1) o 0 (omega (arith, k.enough, length-replicate {A = ℕ} count 18446744073709551615)), word) refl

  other_flag : (i : ℕ) → i / 64 ≢ count - 1 → flag_at (set (replicate count 18446744073709551615) (count - 1) o) i ≡ flag_at (replicate count 18446744073709551615) i
  other_flag i e = ap (λ w. eqb (bit_at w (i % 64)) 1) (get_or-set_other (replicate count 18446744073709551615) (count - 1) (i / 64) o 0 e)

  pub last_up : IsRow (set (replicate count 18446744073709551615) (count - 1) o) n × (row (set (replicate count 18446744073709551615) (count - 1) o) n ≡ replicate n true)
  last_up = (
    record {
      enough = rw (length-set, length-replicate) k.enough;
      needed = rw (length-set, length-replicate) k.needed;
      clear = λ i h. ⊎_elim
          (λ (e : i / 64 ≡ count - 1). last_flag i e ∙ ap (λ b. eqb b 1) (bit_at_ones_above (n % 64) (i % 64) (omega (arith, k.enough, k.needed))))
          (λ (e : i / 64 ≢ count - 1). other_flag i e ∙ flag_past (replicate count 18446744073709551615) i (omega (arith, length-replicate {A = ℕ} count 18446744073709551615, k.enough, k.needed)))
          (cases_eq (i / 64) (count - 1));
    },
    row_is (set (replicate count 18446744073709551615) (count - 1) o) n (replicate n true) (length-replicate n true)
        (λ i d h. ⊎_elim
        (λ (e : i / 64 ≡ count - 1). last_flag i e ∙ ap (λ b. eqb b 1) (bit_at_ones (n % 64) (i % 64) (omega (arith, k.enough, k.needed))) ∙ sym (get_or-replicate n i true d h))
        (λ (e : i / 64 ≢ count - 1). other_flag i e ∙ full_flag count i (omega (arith, k.enough, k.needed)) ∙ sym (get_or-replicate n i true d h))
        (cases_eq (i / 64) (count - 1))),
  )

pub enough : (words : List ℕ) (n : ℕ) → IsRow words n → AreEnough (length words) n
enough words n r = record { enough = r.enough; needed = r.needed }

-- the words were all filled, and then the last one, of `size` words, got the ones of the flags alone
pub trimmed : (words filled : List ℕ) (n size o : ℕ) → IsRow words n → filled ≡ replicate (length words) 18446744073709551615 → size ≡ length filled → 0 < n % 64 → o + 1 ≡ 2 ^ (n % 64)
    → IsRow (set filled (size - 1) o) n × (row (set filled (size - 1) o) n ≡ replicate n true)
trimmed words filled n size o r is of_size some ones =
    let same : size ≡ length words = of_size ∙ (ap length is ∙ length-replicate {A = ℕ} (length words) 18446744073709551615) in
    let e : set filled (size - 1) o ≡ set (replicate (length words) 18446744073709551615) (length words - 1) o = rw (is, same) refl in
    rw e (last_up (length words) n o (enough words n r) some ones)
