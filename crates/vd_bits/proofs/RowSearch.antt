-- The lowest flag that is up, from a place on and in its word.
use Rattle.std.proofs.Common.{◌≡◌, ℕ, ◌+◌, ◌-◌, ◌/◌, ◌%◌, ◌^◌, ◌<◌, ◌≤◌, true, false, eqb, ⊎_elim, List, length, get_or, Some, sym, ap, ◌∙◌, arith}
use Rattle.std.specs.List.{slice_get}
use Rattle.std.specs.Int.{bit_at, w64, trailing_zeros}
use Rattle.std.proofs.lemmas.Bool.{cases_lt, false≢true}
use Rattle.std.proofs.lemmas.Nat.{shr_le}
use Rattle.std.proofs.lemmas.Nat.Bits.{bit_at-zero, bit_at_above, bit_at-trailing_zeros}
use Rattle.std.proofs.lemmas.Option.{slice_get-get_or}
use Rattle.vd_bits.specs.Marks.{IsLowest}
use Rattle.vd_bits.specs.Rows.{flag_at, row, IsRow}
use Rattle.vd_bits.proofs.BitLaws.{bit_shr}
use Rattle.vd_bits.proofs.RowLaws.{flag_in_row, length-row, flag_after}

pub get_flag : (words : List ℕ) (n i : ℕ) → i < n → slice_get (row words n) i ≡ Some (flag_at words i)
get_flag words n i h = slice_get-get_or (row words n) i false (omega (arith, length-row words n)) ∙ ap (λ b. Some b) (flag_in_row words n i false h)

-- a flag that is up is one of the row
pub up_inside : (words : List ℕ) (n i : ℕ) → IsRow words n → flag_at words i ≡ true → i < n
up_inside words n i r up =
    ⊎_elim (λ (h : i < n). h) (λ (h : n ≤ i). absurd (false≢true (sym (r.clear i h) ∙ up))) (cases_lt i n)

-- past the words there are no flags
pub no_word : (words : List ℕ) (n from i : ℕ) → IsRow words n → length words ≤ from / 64 → i / 64 ≡ from / 64 → i < n → ⊥
no_word words n from i r past same h = omega (arith, r.enough)

-- the word w of `from`
module _ (words : List ℕ) (n from w : ℕ) (r : IsRow words n) (is : w ≡ get_or words (from / 64) 0) (fits : w < 2 ^ 64) where
  flag_by_rest : (i : ℕ) → from % 64 + i < 64 → flag_at words (from + i) ≡ eqb (bit_at (w / 2 ^ (from % 64)) i) 1
  flag_by_rest i h = flag_after words from i h ∙ (rw (← is) (ap (λ b. eqb b 1) (sym (bit_shr w (from % 64) i))))

  pub none_up : w / 2 ^ (from % 64) ≡ 0 → (i : ℕ) → from ≤ i → i / 64 ≡ from / 64 → i < n → slice_get (row words n) i ≡ Some false
  none_up zero i h same inside =
      let e : from + (i - from) ≡ i = omega arith in
      let none : eqb (bit_at (w / 2 ^ (from % 64)) (i - from)) 1 ≡ false = rw zero (ap (λ b. eqb b 1) (bit_at-zero (i - from))) in
      get_flag words n i inside ∙ ap (λ b. Some b) (rw e at (flag_by_rest (i - from) (omega arith) ∙ none))

  module _ (some : 0 < w / 2 ^ (from % 64)) where
    lowest_bit : (trailing_zeros w64 (w / 2 ^ (from % 64)) < 64) × (bit_at (w / 2 ^ (from % 64)) (trailing_zeros w64 (w / 2 ^ (from % 64))) ≡ 1) × ((i : ℕ) → i < trailing_zeros w64 (w / 2 ^ (from % 64)) → bit_at (w / 2 ^ (from % 64)) i ≡ 0)
    lowest_bit = bit_at-trailing_zeros w64 (w / 2 ^ (from % 64)) some (omega (arith, shr_le w (from % 64)))

    pub stays_in_word : from % 64 + trailing_zeros w64 (w / 2 ^ (from % 64)) < 64
    stays_in_word =
        ⊎_elim
        (λ (h : from % 64 + trailing_zeros w64 (w / 2 ^ (from % 64)) < 64). h)
        (λ (h : 64 ≤ from % 64 + trailing_zeros w64 (w / 2 ^ (from % 64))).
        absurd (omega (arith, bit_at_above w 64 (from % 64 + trailing_zeros w64 (w / 2 ^ (from % 64))) fits h, bit_shr w (from % 64) (trailing_zeros w64 (w / 2 ^ (from % 64))), lowest_bit.1)))
        (cases_lt (from % 64 + trailing_zeros w64 (w / 2 ^ (from % 64))) 64)

    is_up : flag_at words (from + trailing_zeros w64 (w / 2 ^ (from % 64))) ≡ true
    is_up = flag_by_rest (trailing_zeros w64 (w / 2 ^ (from % 64))) stays_in_word ∙ ap (λ b. eqb b 1) lowest_bit.1

    is_down : (i : ℕ) → i < trailing_zeros w64 (w / 2 ^ (from % 64)) → flag_at words (from + i) ≡ false
    is_down i h = flag_by_rest i (omega (arith, stays_in_word)) ∙ ap (λ b. eqb b 1) (lowest_bit.2 i h)

    pub lowest_up : IsLowest (row words n) from (from + trailing_zeros w64 (w / 2 ^ (from % 64)))
    lowest_up =
        let inside = up_inside words n (from + trailing_zeros w64 (w / 2 ^ (from % 64))) r is_up in
        record {
          is_marked = get_flag words n (from + trailing_zeros w64 (w / 2 ^ (from % 64))) inside ∙ ap (λ b. Some b) is_up;
          reached = omega arith;
          below = λ i h k.
              let e : from + (i - from) ≡ i = omega arith in
              get_flag words n i (omega arith) ∙ ap (λ b. Some b) (rw e at (is_down (i - from) (omega arith)));
        }
