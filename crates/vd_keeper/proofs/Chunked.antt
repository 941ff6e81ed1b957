-- The blocks of a chunk, and what changes them.
use Rattle.std.proofs.Common.{◌≡◌, inl, inr, ℕ, ◌+◌, ◌-◌, ◌*◌, ◌^◌, ◌<◌, nat_eq, Bool, true, false, not, cond, List, length, map, get_or, take, drop, sym, refl, ap, ◌∙◌, arith, length-take, length-drop, get_or-take, get_or-drop, bit_and, bit_or}
use Rattle.std.specs.Prelude.{◌||◌, ◌&&◌, min, max}
use Rattle.std.specs.Int.{bit_at, w64}
use Rattle.std.specs.List.{range_with_len}
use Rattle.std.proofs.lemmas.Bool.{cases_lt}
use Rattle.std.proofs.lemmas.List.FromFn.{get_or-map-range_with_len}
use Rattle.std.proofs.lemmas.Nat.{or_lt}
use Rattle.std.proofs.lemmas.Nat.Bits.{bit_at_or, bit_at_and, bit_at_not, bit_at-lt, bit_at-zero}
use Rattle.std.proofs.lemmas.Simd.{bit_mask_l, mask_l-lt}
use Rattle.vd_bits.specs.Blocks.{Blocks, bits_in, with_mask}
use Rattle.vd_bits.specs.Masks.{mask_of, bits_of}
use Rattle.vd_bits.proofs.Chunks.{length-bits_of}
use Rattle.vd_keeper.specs.Sets.{HasMore, LacksChunk, IsOutsideChunk}
use Rattle.vd_keeper.proofs.Rows.{length-spliced, spliced-inside, spliced-outside}

pub length-bits_in : (b : Blocks) (n : ℕ) → length (bits_in b n) ≡ min b.chunk (length b.bits - n * b.chunk)
length-bits_in b n = omega (arith, length-take b.chunk (drop (n * b.chunk) b.bits), length-drop (n * b.chunk) b.bits)

pub get_or-bits_in : (b : Blocks) (n j : ℕ) → j < b.chunk → get_or (bits_in b n) j false ≡ get_or b.bits (n * b.chunk + j) false
get_or-bits_in b n j h = get_or-take b.chunk (drop (n * b.chunk) b.bits) j false h ∙ get_or-drop (n * b.chunk) b.bits j false

-- what holds of 0 and 1 holds of a bit
two : (P : ℕ → Type 0) → P 0 → P 1 → (n : ℕ) → n < 2 → P n
two P zero_holds one_holds n h = elim (cases_lt n 1) [
  | inl none ↦ (let e : n ≡ 0 = omega arith in rw e zero_holds)
  | inr some ↦ (let e : n ≡ 1 = omega arith in rw e one_holds)
]

told : (b : Bool) → nat_eq (cond b 1 0) 1 ≡ b
told true = refl
told false = refl

-- bit j of a mask, as a truth value
pub bit_of : (xs : List Bool) (j : ℕ) → nat_eq (bit_at (mask_of xs) j) 1 ≡ get_or xs j false
bit_of xs j = ap (λ n. nat_eq n 1) (bit_mask_l xs j) ∙ told (get_or xs j false)

larger : (x : ℕ) → x < 2 → (y : ℕ) → y < 2 → nat_eq (max x y) 1 ≡ (nat_eq x 1 || nat_eq y 1)
larger x hx y hy =
    two (λ n. nat_eq (max n y) 1 ≡ (nat_eq n 1 || nat_eq y 1))
    (two (λ n. nat_eq (max 0 n) 1 ≡ (nat_eq 0 1 || nat_eq n 1)) refl refl y hy)
    (two (λ n. nat_eq (max 1 n) 1 ≡ (nat_eq 1 1 || nat_eq n 1)) refl refl y hy)
    x hx

pub bit_or_of : (a b j : ℕ) → nat_eq (bit_at (bit_or a b) j) 1 ≡ (nat_eq (bit_at a j) 1 || nat_eq (bit_at b j) 1)
bit_or_of a b j = ap (λ n. nat_eq n 1) (bit_at_or a b j) ∙ larger (bit_at a j) (bit_at-lt a j) (bit_at b j) (bit_at-lt b j)

less : (x : ℕ) → x < 2 → (y : ℕ) → y < 2 → nat_eq (min x (1 - y)) 1 ≡ (nat_eq x 1 && not (nat_eq y 1))
less x hx y hy =
    two (λ n. nat_eq (min n (1 - y)) 1 ≡ (nat_eq n 1 && not (nat_eq y 1)))
    (two (λ n. nat_eq (min 0 (1 - n)) 1 ≡ (nat_eq 0 1 && not (nat_eq n 1))) refl refl y hy)
    (two (λ n. nat_eq (min 1 (1 - n)) 1 ≡ (nat_eq 1 1 && not (nat_eq n 1))) refl refl y hy)
    x hx

pub bit_without : (a b j : ℕ) → b < 2 ^ 64 → j < 64 → nat_eq (bit_at (bit_and a (18446744073709551615 - b)) j) 1 ≡ (nat_eq (bit_at a j) 1 && not (nat_eq (bit_at b j) 1))
bit_without a b j fits h =
    ap (λ n. nat_eq n 1) (bit_at_and a (18446744073709551615 - b) j ∙ ap (λ n. min (bit_at a j) n) (bit_at_not w64 b j fits h))
    ∙ less (bit_at a j) (bit_at-lt a j) (bit_at b j) (bit_at-lt b j)

-- a chunk's mask is put into a bitmap
module _ (b : Blocks) (n m : ℕ) (inside : n * b.chunk < length b.bits) (fits : m < 2 ^ length (bits_in b n)) where
  size : length (bits_of (length (bits_in b n)) m) ≡ min b.chunk (length b.bits - n * b.chunk)
  size = length-bits_of (length (bits_in b n)) m fits ∙ length-bits_in b n

  pub length-masked : length (with_mask b n m).bits ≡ length b.bits
  length-masked = length-spliced b.bits (bits_of (length (bits_in b n)) m) (n * b.chunk) b.chunk (omega arith) size

  pub masked-inside : (j : ℕ) → j < length (bits_in b n) → get_or (with_mask b n m).bits (n * b.chunk + j) false ≡ nat_eq (bit_at m j) 1
  masked-inside j h =
      spliced-inside b.bits (bits_of (length (bits_in b n)) m) (n * b.chunk) b.chunk (omega arith) size j (omega (arith, length-bits_of (length (bits_in b n)) m fits))
      ∙ get_or-map-range_with_len (λ i. nat_eq (bit_at m i) 1) 0 (length (bits_in b n)) j j false h (omega arith)

  pub masked-outside : (i : ℕ) → IsOutsideChunk b n i → get_or (with_mask b n m).bits i false ≡ get_or b.bits i false
  masked-outside i h =
      spliced-outside b.bits (bits_of (length (bits_in b n)) m) (n * b.chunk) b.chunk (omega arith) size i
      (elim h [ inl below ↦ inl below | inr above ↦ inr (omega (arith, length-bits_of (length (bits_in b n)) m fits, above)) ])

-- more blocks of a chunk, whose mask is the old one and m
pub has-more : (b : Blocks) (n m more : ℕ) → n * b.chunk < length b.bits → m < 2 ^ length (bits_in b n) → more ≡ bit_or (mask_of (bits_in b n)) m → HasMore b (with_mask b n more) n m
has-more b n m more inside fits e =
    let all : bit_or (mask_of (bits_in b n)) m < 2 ^ length (bits_in b n) = or_lt (length (bits_in b n)) (mask_of (bits_in b n)) m (mask_l-lt (bits_in b n)) fits in
    let small : more < 2 ^ length (bits_in b n) = rw e all in
    record {
      chunk_is = refl;
      size = length-masked b n more inside small;
      added = λ j h.
          masked-inside b n more inside small j h
          ∙ ap (λ (x : ℕ). nat_eq (bit_at x j) 1) e
          ∙ bit_or_of (mask_of (bits_in b n)) m j
          ∙ ap (λ (x : Bool). x || nat_eq (bit_at m j) 1) (bit_of (bits_in b n) j ∙ get_or-bits_in b n j (omega (arith, length-bits_in b n)));
      others = λ i h. masked-outside b n more inside small i h;
    }

pub has-none : (b : Blocks) (n : ℕ) → n * b.chunk < length b.bits → 0 < 2 ^ length (bits_in b n) → LacksChunk b (with_mask b n 0) n
has-none b n inside fits = record {
  chunk_is = refl;
  size = length-masked b n 0 inside fits;
  gone = λ j h. masked-inside b n 0 inside fits j h ∙ ap (λ (x : ℕ). nat_eq x 1) (bit_at-zero j);
  others = λ i h. masked-outside b n 0 inside fits i h;
}

-- two bitmaps of the same sizes
pub same-chunk : (a b : Blocks) (n : ℕ) → a.chunk ≡ b.chunk → length a.bits ≡ length b.bits → length (bits_in a n) ≡ length (bits_in b n)
same-chunk a b n chunk size = length-bits_in a n ∙ rw (chunk, size) (sym (length-bits_in b n))

pub mask-fits : (a b : Blocks) (n : ℕ) → a.chunk ≡ b.chunk → length a.bits ≡ length b.bits → mask_of (bits_in a n) < 2 ^ length (bits_in b n)
mask-fits a b n chunk size = rw (sym (same-chunk a b n chunk size)) (mask_l-lt (bits_in a n))

pub both-fit : (a b : Blocks) (n : ℕ) → b.chunk ≡ a.chunk → length b.bits ≡ length a.bits → bit_or (mask_of (bits_in a n)) (mask_of (bits_in b n)) < 2 ^ length (bits_in a n)
both-fit a b n chunk size = or_lt (length (bits_in a n)) (mask_of (bits_in a n)) (mask_of (bits_in b n)) (mask_l-lt (bits_in a n)) (mask-fits b a n chunk size)
