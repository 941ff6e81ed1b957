-- Rows of flags, and what a change of one word makes of them.
use Rattle.std.proofs.Common.{◌≡◌, ◌≢◌, ℕ, zero, suc, ◌+◌, ◌-◌, ◌/◌, ◌%◌, ◌^◌, ◌<◌, ◌≤◌, ⊎_elim, Bool, false, cond, eqb, List, ◌++◌, length, get_or, set, take, drop, sym, refl, ap, ◌∙◌, arith, zero-add, length-set, length-append, length-take, length-drop, get_or-set_same, get_or-set_other, get_or-take, get_or-drop}
use Rattle.std.specs.Int.{bit_at}
use lib.Bits.{bit_and}
use Rattle.std.proofs.lemmas.Bool.{cases_eq, cases_lt}
use Rattle.std.proofs.lemmas.Nat.{and_mask, div_below}
use Rattle.std.proofs.lemmas.Nat.Bits.{bit_at-lt, same_from_bits}
use Rattle.std.proofs.lemmas.List.{same_lists, get_or_past, get_or_append_left, get_or-append_right}
use Rattle.std.proofs.lemmas.List.FromFn.{get_or-map-range_with_len, length-map-range_with_len}
use Rattle.std.proofs.lemmas.Simd.{bit_mask_l}
use Rattle.vd_bits.specs.Masks.{mask_of, bits_of}
use Rattle.vd_bits.specs.Rows.{flag_at, row, IsRow}
use Rattle.vd_bits.proofs.BitLaws.{bit_shr, bit_mod_below, bit_mod_above, laid, laid_below, laid_inside, laid_above}

pub flag_in_row : (words : List ℕ) (n i : ℕ) (d : Bool) → i < n → get_or (row words n) i d ≡ flag_at words i
flag_in_row words n i d h = get_or-map-range_with_len (flag_at words) 0 n i i d h (zero-add i)

pub length-row : (words : List ℕ) (n : ℕ) → length (row words n) ≡ n
length-row words n = length-map-range_with_len (flag_at words) 0 n

pub length_of_row : (words : List ℕ) (n : ℕ) (s : List Bool) → row words n ≡ s → length s ≡ n
length_of_row words n s e = sym (ap length e) ∙ length-row words n

-- a row is the list that has each of its flags
pub row_is : (words : List ℕ) (n : ℕ) (s : List Bool) → length s ≡ n → ((i : ℕ) (d : Bool) → i < n → flag_at words i ≡ get_or s i d) → row words n ≡ s
row_is words n s l f =
    same_lists (row words n) s (length-row words n ∙ sym l) (λ i d h. let k : i < n = omega (arith, length-row words n) in flag_in_row words n i d k ∙ f i d k)

-- each flag has its word
pub has_word : (words : List ℕ) (n i : ℕ) → IsRow words n → i < n → i / 64 < length words
has_word words n i r h = div_below i 64 (length words) (omega arith) (omega (arith, r.enough))

-- the places of one word
pub word_of : (at i : ℕ) → at % 64 + i < 64 → ((at + i) / 64 ≡ at / 64) × ((at + i) % 64 ≡ at % 64 + i)
word_of at i h = (omega arith, omega arith)

pub bit_of_flag : (b : ℕ) → b < 2 → cond (eqb b 1) 1 0 ≡ b
bit_of_flag zero h = refl
bit_of_flag (suc zero) h = refl
bit_of_flag (suc (suc b)) h = absurd (omega arith)

-- the flag i places after `at`, in the same word
pub flag_after : (words : List ℕ) (at i : ℕ) → at % 64 + i < 64 → flag_at words (at + i) ≡ eqb (bit_at (get_or words (at / 64) 0) (at % 64 + i)) 1
flag_after words at i h = let p = word_of at i h in rw (p.0, p.1) refl

-- the flags from `at` on that stand in its word, as a mask
module _ (words : List ℕ) (n at count o : ℕ) (one_word : at % 64 + count ≤ 64) (inside : at + count ≤ n) (ones : o + 1 ≡ 2 ^ count) where
  flag_of_part : (i : ℕ) → i < count → get_or (take count (drop at (row words n))) i false ≡ eqb (bit_at (get_or words (at / 64) 0) (at % 64 + i)) 1
  flag_of_part i h =
      get_or-take count (drop at (row words n)) i false h ∙ (get_or-drop at (row words n) i false ∙ (flag_in_row words n (at + i) false (omega arith) ∙ flag_after words at i (omega arith)))

  bit_of_part : (i : ℕ) → bit_at ((get_or words (at / 64) 0 / 2 ^ (at % 64)) % 2 ^ count) i ≡ bit_at (mask_of (take count (drop at (row words n)))) i
  bit_of_part i =
      ⊎_elim
      (λ (h : i < count).
      bit_mod_below (get_or words (at / 64) 0 / 2 ^ (at % 64)) count i h ∙ (bit_shr (get_or words (at / 64) 0) (at % 64) i
      ∙ sym (bit_mask_l (take count (drop at (row words n))) i ∙ (ap (λ b. cond b 1 0) (flag_of_part i h) ∙ bit_of_flag (bit_at (get_or words (at / 64) 0) (at % 64 + i)) (bit_at-lt (get_or words (at / 64) 0) (at % 64 + i))))))
      (λ (h : count ≤ i).
      bit_mod_above (get_or words (at / 64) 0 / 2 ^ (at % 64)) count i h
      ∙ sym (bit_mask_l (take count (drop at (row words n))) i ∙ ap (λ b. cond b 1 0) (get_or_past (take count (drop at (row words n))) i false (omega (arith, length-take count (drop at (row words n)))))))
      (cases_lt i count)

  pub part_is : bit_and (get_or words (at / 64) 0 / 2 ^ (at % 64)) o ≡ mask_of (take count (drop at (row words n)))
  part_is =
      let e : o ≡ 2 ^ count - 1 = omega arith in
      rw e (and_mask (get_or words (at / 64) 0 / 2 ^ (at % 64)) count) ∙ same_from_bits ((get_or words (at / 64) 0 / 2 ^ (at % 64)) % 2 ^ count) (mask_of (take count (drop at (row words n)))) bit_of_part

-- a part of a list in which other elements stand
module _ {X : Type 0} (s ys : List X) (at count : ℕ) (of_count : length ys ≡ count) (inside : at + count ≤ length s) (d : X) where
  pub length-spliced : length (take at s ++ ys ++ drop (at + count) s) ≡ length s
  length-spliced = omega (arith, length-append (take at s ++ ys) (drop (at + count) s), length-append (take at s) ys, length-take at s, length-drop (at + count) s)

  pub spliced_below : (i : ℕ) → i < at → get_or (take at s ++ ys ++ drop (at + count) s) i d ≡ get_or s i d
  spliced_below i h =
      get_or_append_left (take at s ++ ys) (drop (at + count) s) d i (omega (arith, length-append (take at s) ys, length-take at s))
      ∙ (get_or_append_left (take at s) ys d i (omega (arith, length-take at s)) ∙ get_or-take at s i d h)

  pub spliced_inside : (i : ℕ) → i < count → get_or (take at s ++ ys ++ drop (at + count) s) (at + i) d ≡ get_or ys i d
  spliced_inside i h =
      let e : at + i - at ≡ i = omega arith in
      get_or_append_left (take at s ++ ys) (drop (at + count) s) d (at + i) (omega (arith, length-append (take at s) ys, length-take at s))
      ∙ (get_or-append_right (take at s) ys at (at + i) d (omega (arith, length-take at s)) (omega arith) ∙ ap (λ k. get_or ys k d) e)

  pub spliced_above : (i : ℕ) → at + count ≤ i → get_or (take at s ++ ys ++ drop (at + count) s) i d ≡ get_or s i d
  spliced_above i h =
      let e : at + count + (i - (at + count)) ≡ i = omega arith in
      get_or-append_right (take at s ++ ys) (drop (at + count) s) (at + count) i d (omega (arith, length-append (take at s) ys, length-take at s)) h
      ∙ (get_or-drop (at + count) s (i - (at + count)) d ∙ ap (λ k. get_or s k d) e)

-- a mask is laid into the word of `at`
module _ (words : List ℕ) (n at count w o m : ℕ) (r : IsRow words n) (is : w ≡ get_or words (at / 64) 0) (one_word : at % 64 + count ≤ 64) (some : 0 < count) (inside : at + count ≤ n) (ones : o + 1 ≡ 2 ^ count) (fits : m < 2 ^ count) where
  flag_elsewhere : (i : ℕ) → i / 64 ≢ at / 64 → flag_at (set words (at / 64) (laid w o m (at % 64))) i ≡ flag_at words i
  flag_elsewhere i h = ap (λ x. eqb (bit_at x (i % 64)) 1) (get_or-set_other words (at / 64) (i / 64) (laid w o m (at % 64)) 0 h)

  flag_there : (i : ℕ) → i / 64 ≡ at / 64 → flag_at (set words (at / 64) (laid w o m (at % 64))) i ≡ eqb (bit_at (laid w o m (at % 64)) (i % 64)) 1
  flag_there i e =
      rw e (ap (λ x. eqb (bit_at x (i % 64)) 1) (get_or-set_same words (at / 64) (laid w o m (at % 64)) 0 (has_word words n at r (omega arith))))

  flag_was : (i : ℕ) → i / 64 ≡ at / 64 → eqb (bit_at w (i % 64)) 1 ≡ flag_at words i
  flag_was i e = rw (is, e) refl

  pub flag_laid_below : (i : ℕ) → i < at → flag_at (set words (at / 64) (laid w o m (at % 64))) i ≡ flag_at words i
  flag_laid_below i h =
      ⊎_elim
      (λ (e : i / 64 ≡ at / 64). flag_there i e ∙ (ap (λ b. eqb b 1) (laid_below w o m (at % 64) count ones fits one_word (i % 64) (omega arith)) ∙ flag_was i e))
      (flag_elsewhere i)
      (cases_eq (i / 64) (at / 64))

  pub flag_laid_above : (i : ℕ) → at + count ≤ i → flag_at (set words (at / 64) (laid w o m (at % 64))) i ≡ flag_at words i
  flag_laid_above i h =
      ⊎_elim
      (λ (e : i / 64 ≡ at / 64). flag_there i e ∙ (ap (λ b. eqb b 1) (laid_above w o m (at % 64) count ones fits one_word (i % 64) (omega arith) (omega arith)) ∙ flag_was i e))
      (flag_elsewhere i)
      (cases_eq (i / 64) (at / 64))

  pub flag_laid_inside : (i : ℕ) → i < count → flag_at (set words (at / 64) (laid w o m (at % 64))) (at + i) ≡ eqb (bit_at m i) 1
  flag_laid_inside i h =
      let p = word_of at i (omega arith) in
      flag_there (at + i) p.0 ∙ rw p.1 (ap (λ b. eqb b 1) (laid_inside w o m (at % 64) count ones fits one_word i h))

  pub laid_row : IsRow (set words (at / 64) (laid w o m (at % 64))) n
  laid_row = record {
    enough = rw length-set r.enough;
    needed = rw length-set r.needed;
    clear = λ i h. flag_laid_above i (omega arith) ∙ r.clear i h;
  }

  bit_in_bits : (i : ℕ) (d : Bool) → i < count → get_or (bits_of count m) i d ≡ eqb (bit_at m i) 1
  bit_in_bits i d h = get_or-map-range_with_len (λ k. eqb (bit_at m k) 1) 0 count i i d h (zero-add i)

  length-bits : length (bits_of count m) ≡ count
  length-bits = length-map-range_with_len (λ k. eqb (bit_at m k) 1) 0 count

  pub laid_is : row (set words (at / 64) (laid w o m (at % 64))) n ≡ take at (row words n) ++ bits_of count m ++ drop (at + count) (row words n)
  laid_is =
      let within : at + count ≤ length (row words n) = omega (arith, length-row words n) in
      row_is (set words (at / 64) (laid w o m (at % 64))) n (take at (row words n) ++ bits_of count m ++ drop (at + count) (row words n))
      (length-spliced (row words n) (bits_of count m) at count length-bits within false ∙ length-row words n)
      (λ i d h. ⊎_elim
      (λ (below : i < at). flag_laid_below i below ∙ sym (spliced_below (row words n) (bits_of count m) at count length-bits within d i below ∙ flag_in_row words n i d h))
      (λ (k : at ≤ i). ⊎_elim
      (λ (in_part : i < at + count).
      let e : at + (i - at) ≡ i = omega arith in
      let j : i - at < count = omega arith in
      rw e at (flag_laid_inside (i - at) j ∙ sym (spliced_inside (row words n) (bits_of count m) at count length-bits within d (i - at) j ∙ bit_in_bits (i - at) d j)))
      (λ (above : at + count ≤ i). flag_laid_above i above ∙ sym (spliced_above (row words n) (bits_of count m) at count length-bits within d i above ∙ flag_in_row words n i d h))
      (cases_lt i (at + count)))
      (cases_lt i at))
