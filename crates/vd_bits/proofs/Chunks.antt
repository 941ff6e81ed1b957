-- The blocks of a chunk stand in one word, and their mask is counted.
use Rattle.std.proofs.Common.{◌≡◌, ℕ, ◌+◌, ◌-◌, ◌*◌, ◌/◌, ◌%◌, ◌^◌, ◌<◌, ◌≤◌, ⊎_elim, nat_eq, Bool, false, cond, List, ◌++◌, length, take, drop, sym, ap, ◌∙◌, arith, zero-add}
use Rattle.std.specs.Int.{bit_at}
use Rattle.std.specs.Int.RustNames.{count_ones}
use Rattle.std.proofs.Math.Nat.{mul-sub, mul-le-mul_left, lt_of_mul-lt-mul_left, mul_assoc, div-add-mod}
use Rattle.std.proofs.lemmas.Bool.{cases_lt}
use Rattle.std.proofs.lemmas.List.{take-append-drop, drop-drop, get_or_past}
use Rattle.std.proofs.lemmas.List.FromFn.{get_or-map-range_with_len, length-map-range_with_len}
use Rattle.std.proofs.lemmas.Nat.Bits.{bit_at-lt, bit_at_above, same_from_bits}
use Rattle.std.proofs.lemmas.Simd.{bit_mask_l}
use Rattle.vd_bits.specs.declared.bits.Bits.TheInside.{Inside}
use Rattle.vd_bits.specs.BitFields.{IsTallied}
use Rattle.vd_bits.specs.Marks.{count_true}
use Rattle.vd_bits.specs.Masks.{mask_of, bits_of}
use Rattle.vd_bits.proofs.RowLaws.{bit_of_flag, length-spliced}
use Rattle.vd_bits.proofs.SetLaws.{count-append, count-le-length, ones-mask_of}

-- A word has whole chunks of c blocks, so the n-th begins at least c places before the end of its word.
pub chunk_in_word : (n c : ℕ) → 0 < c → 64 % c ≡ 0 → n * c % 64 + c ≤ 64
chunk_in_word n c some whole =
    let q : c * (64 / c) ≡ 64 = omega (arith, div-add-mod 64 c) in
    let d : 64 * (n * c / 64) + n * c % 64 ≡ n * c = div-add-mod (n * c) 64 in
    let e : c * (64 / c * (n * c / 64)) ≡ 64 * (n * c / 64) = sym (mul_assoc c (64 / c) (n * c / 64)) ∙ ap (λ x. x * (n * c / 64)) q in
    let m : c * (n - 64 / c * (n * c / 64)) ≡ n * c % 64 = omega (arith, mul-sub c n (64 / c * (n * c / 64)), d, e) in
    let l : n - 64 / c * (n * c / 64) < 64 / c = lt_of_mul-lt-mul_left c (omega (arith, m, q)) in
    let k : n - 64 / c * (n * c / 64) + 1 ≤ 64 / c = omega (arith, l) in
    omega (arith, mul-le-mul_left c k, m, q)

-- the mask of a number's bits is that number
module _ (c m : ℕ) (fits : m < 2 ^ c) where
  pub length-bits_of : length (bits_of c m) ≡ c
  length-bits_of = length-map-range_with_len (λ i. nat_eq (bit_at m i) 1) 0 c

  bit_of_bits : (i : ℕ) → bit_at (mask_of (bits_of c m)) i ≡ bit_at m i
  bit_of_bits i =
      ⊎_elim
      (λ (h : i < c).
      bit_mask_l (bits_of c m) i ∙ (ap (λ b. cond b 1 0) (get_or-map-range_with_len (λ k. nat_eq (bit_at m k) 1) 0 c i i false h (zero-add i)) ∙ bit_of_flag (bit_at m i) (bit_at-lt m i)))
      (λ (h : c ≤ i).
      bit_mask_l (bits_of c m) i ∙ (ap (λ b. cond b 1 0) (get_or_past (bits_of c m) i false (omega (arith, length-bits_of))) ∙ sym (bit_at_above m c i fits h)))
      (cases_lt i c)

  pub mask_of-bits_of : mask_of (bits_of c m) ≡ m
  mask_of-bits_of = same_from_bits (mask_of (bits_of c m)) m bit_of_bits

  pub count-bits_of : count_true (bits_of c m) ≡ count_ones m
  count-bits_of = sym (ones-mask_of (bits_of c m)) ∙ ap count_ones mask_of-bits_of

-- a list by three parts
pub count_parts : (s : List Bool) (at count : ℕ) → count_true s ≡ count_true (take at s) + count_true (take count (drop at s)) + count_true (drop (at + count) s)
count_parts s at count =
    let a : count_true s ≡ count_true (take at s) + count_true (drop at s) = ap count_true (sym (take-append-drop at s)) ∙ count-append (take at s) (drop at s) in
    let b : count_true (drop at s) ≡ count_true (take count (drop at s)) + count_true (drop count (drop at s)) = ap count_true (sym (take-append-drop count (drop at s))) ∙ count-append (take count (drop at s)) (drop count (drop at s)) in
    omega (arith, a, b, ap count_true (drop-drop count at s))

-- the part's mask was m, and is n
module _ (s : List Bool) (at count m n : ℕ) (was : m ≡ mask_of (take count (drop at s))) (fits : n < 2 ^ count) where
  pub part_counted : count_ones m ≤ count_true s
  part_counted = omega (arith, ap count_ones was ∙ ones-mask_of (take count (drop at s)), count_parts s at count)

  pub part_replaced : count_true (take at s ++ bits_of count n ++ drop (at + count) s) ≡ count_true s - count_ones m + count_ones n
  part_replaced =
      omega (
        arith,
        ap count_ones was ∙ ones-mask_of (take count (drop at s)),
        count_parts s at count,
        count-bits_of count n fits,
        count-append (take at s ++ bits_of count n) (drop (at + count) s),
        count-append (take at s) (bits_of count n),
      )

pub tallied : (b : Inside) (new : List Bool) (n : ℕ) → IsTallied b → length new ≡ length b.flags → n ≡ count_true new → IsTallied (record { flags = new; chunk = b.chunk; count = n })
tallied b new n t same counted = record { count = counted; some = t.some; even = t.even; few = rw same t.few }

-- a chunk's mask is put into a bitmap
module _ (b : Inside) (t : IsTallied b) (at count m n : ℕ) (was : m ≡ mask_of (take count (drop at b.flags))) (fits : n < 2 ^ count) (inside : at + count ≤ length b.flags) where
  length-put : length (take at b.flags ++ bits_of count n ++ drop (at + count) b.flags) ≡ length b.flags
  length-put = length-spliced b.flags (bits_of count n) at count (length-bits_of count n fits) inside false

  pub count_fits : b.count - count_ones m + count_ones n < 2 ^ 32
  count_fits =
      omega (
        arith,
        part_replaced b.flags at count m n was fits,
        t.count,
        t.few,
        length-put,
        count-le-length (take at b.flags ++ bits_of count n ++ drop (at + count) b.flags),
      )

  pub put_tallied : (new : List Bool) → new ≡ take at b.flags ++ bits_of count n ++ drop (at + count) b.flags → IsTallied (record { flags = new; chunk = b.chunk; count = b.count - count_ones m + count_ones n })
  put_tallied new is = rw is (tallied b (take at b.flags ++ bits_of count n ++ drop (at + count) b.flags) (b.count - count_ones m + count_ones n) t length-put (omega (arith, part_replaced b.flags at count m n was fits, t.count)))
