-- Hexadecimal digits, read two by two.
use Rattle.std.proofs.Common.{◌≡◌, ℕ, zero, suc, ◌+◌, ◌*◌, ◌/◌, ◌%◌, ◌<◌, ◌≤◌, true, ◌⊎◌, inl, inr, List, [], ◌∷◌, length, take, drop, get_or, slice_index, slice_set, Option, Some, None, unwrap_or, Ok, Err, bit_and, bit_or, nat_lt, eqb, refl, ap, ◌∙◌, arith}
use Rattle.std.proofs.lemmas.Bool.{cases_lt, eqb-true, lt-ltb, le-ltb, agree_below_at}
use Rattle.std.proofs.lemmas.Grind.{or_after_shift}
use Rattle.std.proofs.lemmas.Nat.{and_mask, or_lt, le_or_l, le_or_r}
use Rattle.std.specs.Prelude.{IsErr, if◌then◌else◌}
use Rattle.std.specs.Simd.{first_chunks}
use Rattle.hex.specs.declared.error.FromHexError.{FromHexError}
use Rattle.hex.specs.declared.error.FromHexError.TheVariants.{InvalidHexCharacter}
use Rattle.hex.specs.Hex.{hex_digit_value, pair_value, decode_pairs, decode_of}
use Rattle.hex.proofs.Pairs.{prepend, decode_step, decode_err, decode_done, decode_start}
use Rattle.hex.proofs.HexLemmas.{decode_of-even}

-- what a byte is worth as a digit
abbrev pub worth : ℕ → ℕ
worth digit = unwrap_or (hex_digit_value digit) 255

-- the same, found by two tests
abbrev tested : ℕ → ℕ
tested digit =
    if nat_lt ((digit + 208) % 256) 10 then (digit + 208) % 256
    else if nat_lt ((bit_or digit 32 + 159) % 256) 6 then (bit_or digit 32 + 159) % 256 + 10 else 255

tested-worth : (digit : ℕ) → digit < 256 → tested digit ≡ worth digit
tested-worth digit byte = eqb-true (tested digit) (worth digit) (agree_below_at (λ d. eqb (tested d) (worth d)) (λ d. true) 256 digit refl byte)

pub letter-worth : (digit : ℕ) → digit < 256 → 10 ≤ (digit + 208) % 256 → (bit_or digit 32 + 159) % 256 < 6 → (bit_or digit 32 + 159) % 256 + 10 ≡ worth digit
letter-worth digit byte number letter = rw (le-ltb _ _ number, lt-ltb _ _ letter) at (tested-worth digit byte)

pub other-worth : (digit : ℕ) → digit < 256 → 10 ≤ (digit + 208) % 256 → 6 ≤ (bit_or digit 32 + 159) % 256 → 255 ≡ worth digit
other-worth digit byte number letter = rw (le-ltb _ _ number, le-ltb _ _ letter) at (tested-worth digit byte)

-- the digits of a pair
pub pair-at : (xs : List ℕ) (count i : ℕ) (d : List ℕ) → i < count → length xs ≡ 2 * count → get_or (first_chunks 2 count xs) i d ≡ slice_index xs (2 * i) ∷ slice_index xs (2 * i + 1) ∷ []
pair-at xs zero i d within many = absurd (omega arith)
pair-at (a ∷ b ∷ xs) (suc count) zero d within many = refl
pair-at (a ∷ b ∷ xs) (suc count) (suc i) d within many =
    let two : 2 * suc i ≡ suc (suc (2 * i)) = omega arith in
    let three : suc (suc (2 * i)) + 1 ≡ suc (suc (2 * i + 1)) = omega arith in
    rw (two, three) (pair-at xs count i d (omega arith) (omega arith))
pair-at _ _ _ d within many = absurd (omega arith)

good-digit : (o : Option ℕ) → unwrap_or o 255 < 16 → o ≡ Some (unwrap_or o 255)
good-digit (Some v) small = refl
good-digit None small = absurd (omega arith)

bad-digit : (digit : ℕ) → 16 ≤ worth digit → hex_digit_value digit ≡ None
bad-digit digit large = grind arith

good-pair : (a b i : ℕ) → worth a < 16 → worth b < 16 → pair_value a b i ≡ Ok (worth a * 16 + worth b)
good-pair a b i high low = rw (good-digit (hex_digit_value a) high, good-digit (hex_digit_value b) low) refl

bad-pair : (a b i : ℕ) → (16 ≤ worth a) ⊎ (16 ≤ worth b) → (e : FromHexError) × (pair_value a b i ≡ Err e)
bad-pair a b i bad =
    elim bad [
      | inl high ↦ (InvalidHexCharacter a i, rw (bad-digit a high) refl)
      | inr low ↦ by (hex_digit_value a) refl low
    ]
  where
    by : (o : Option ℕ) → hex_digit_value a ≡ o → 16 ≤ worth b → (e : FromHexError) × (pair_value a b i ≡ Err e)
    by (Some v) is low = (InvalidHexCharacter b (i + 1), rw (is, bad-digit b low) refl)
    by None is low = (InvalidHexCharacter a i, rw is refl)

-- the first pairs were read: the digits spell these bytes and what the others spell, or one is no digit
pub record Reads (digits bytes : List ℕ) (i all : ℕ) : Type 0 where
  pub spelled : all < 16 → decode_pairs 0 digits ≡ prepend (take i bytes) (decode_pairs (2 * i) (drop (2 * i) digits))
  pub refused : 16 ≤ all → IsErr (decode_pairs 0 digits)

pub reads-none : (digits bytes : List ℕ) → Reads digits bytes 0 0
reads-none digits bytes = record { spelled = λ small. decode_start digits bytes; refused = λ large. absurd (omega arith) }

-- what is below 16 has no bit that is not
or_below : (a b : ℕ) → bit_or a b < 16 → (a < 16) × (b < 16)
or_below a b small = (omega (arith, le_or_l a b), omega (arith, le_or_r a b))

or_above : (a b : ℕ) → 16 ≤ bit_or a b → (16 ≤ a) ⊎ (16 ≤ b)
or_above a b large =
    elim (cases_lt a 16) [
      | inl low ↦
          elim (cases_lt b 16) [
            | inl lower ↦ absurd (omega (arith, or_lt 4 a b low lower))
            | inr high ↦ inr high
          ]
      | inr high ↦ inl high
    ]

reads-more : (digits bytes : List ℕ) (i all : ℕ) → 2 * i + 1 < length digits → i < length bytes → Reads digits bytes i all →
    let high : ℕ = worth (slice_index digits (2 * i)) in let low : ℕ = worth (slice_index digits (2 * i + 1)) in
    Reads digits (slice_set bytes i (bit_or (high * 16 % 256) low)) (i + 1) (bit_or all (bit_or high low))
reads-more digits bytes i all more room before = record { spelled = spelled; refused = refused } where
  a : ℕ
  a = slice_index digits (2 * i)

  b : ℕ
  b = slice_index digits (2 * i + 1)

  spelled : bit_or all (bit_or (worth a) (worth b)) < 16 →
      decode_pairs 0 digits ≡ prepend (take (i + 1) (slice_set bytes i (bit_or (worth a * 16 % 256) (worth b)))) (decode_pairs (2 * (i + 1)) (drop (2 * (i + 1)) digits))
  spelled small =
      let first = or_below all (bit_or (worth a) (worth b)) small in
      let both = or_below (worth a) (worth b) first.1 in
      rw (or_after_shift (worth a) 16 256 (worth b) refl both.1 (omega (arith, both.0)))
      (decode_step digits bytes i (worth a * 16 + worth b) more room (good-pair a b (2 * i) both.0 both.1) (before.spelled first.0))

  refused : 16 ≤ bit_or all (bit_or (worth a) (worth b)) → IsErr (decode_pairs 0 digits)
  refused large =
      elim (cases_lt all 16) [
        | inl small ↦
            elim (or_above all (bit_or (worth a) (worth b)) large) [
              | inl above ↦ absurd (omega arith)
              | inr some ↦
                  let bad = bad-pair a b (2 * i) (or_above (worth a) (worth b) some) in
                  rw (decode_err digits bytes i bad.0 more bad.1 (before.spelled small)) refl
            ]
        | inr high ↦ before.refused high
      ]

-- the pair is loaded as one number
pub reads-pair : (digits bytes : List ℕ) (pairs : List (List ℕ)) (d : List ℕ) (i all pair high low : ℕ) → ((k : ℕ) → slice_index digits k < 256) → length digits ≡ 2 * length bytes → i < length bytes →
    pairs ≡ first_chunks 2 (length digits / 2) digits → pair ≡ slice_index (get_or pairs i d) 0 + slice_index (get_or pairs i d) 1 * 256 → high ≡ worth (bit_and pair 255) → low ≡ worth (pair / 256) →
    Reads digits bytes i all → Reads digits (slice_set bytes i (bit_or (high * 16 % 256) low)) (i + 1) (bit_or all (bit_or high low))
reads-pair digits bytes pairs d i all pair high low small many room are is high-is low-is before =
    let two : get_or pairs i d ≡ a ∷ b ∷ [] = ap (λ (ps : List (List ℕ)). get_or ps i d) are ∙ pair-at digits (length digits / 2) i d (omega arith) (omega arith) in
    let both : pair ≡ a + b * 256 = rw two at is in
    let byte : a < 256 = small (2 * i) in
    let first : bit_and pair 255 ≡ a = and_mask pair 8 ∙ omega arith in
    let second : pair / 256 ≡ b = omega arith in
    rw (high-is, low-is, first, second) (reads-more digits bytes i all (omega arith) room before)
  where
    a : ℕ
    a = slice_index digits (2 * i)

    b : ℕ
    b = slice_index digits (2 * i + 1)

pub reads-all : (digits bytes : List ℕ) (i all : ℕ) → length digits ≡ 2 * length bytes → length bytes ≤ i → Reads digits bytes i all → all < 16 → decode_of digits ≡ Ok bytes
reads-all digits bytes i all many end reads small =
    decode_of-even digits (omega arith) ∙ decode_done digits bytes i end (omega arith) (reads.spelled small)

pub reads-bad : (digits bytes : List ℕ) (i all : ℕ) → length digits % 2 ≡ 0 → Reads digits bytes i all → 16 ≤ all → IsErr (decode_of digits)
reads-bad digits bytes i all even reads large = rw (decode_of-even digits even) (reads.refused large)
