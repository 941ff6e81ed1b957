-- Numbers as bytes, both ways, and bytes that are written one part after the other.
use Rattle.std.proofs.Common.{◌≡◌, ℕ, zero, suc, ◌+◌, ◌-◌, ◌^◌, ◌<◌, ◌≤◌, true, List, [], ◌∷◌, ◌++◌, length, take, drop, replicate, refl, sym, ap, ◌∙◌, append_assoc, arith, inl, inr}
use Rattle.std.specs.Prelude.{◌==◌}
use Rattle.std.specs.Int.{w32, w64, from_le_bytes}
use Rattle.std.proofs.lemmas.Bool.{cases_lt, eqb-true, and_parts}
use Rattle.std.proofs.lemmas.Bool.Decides.{Decides-eqb}
use Rattle.std.proofs.lemmas.Slice.Eq.{starts_is}
use Rattle.std.proofs.lemmas.List.{take_at, take-append-drop, drop_at, length-take, length-drop, get_or-drop, get_or-take, get_or_past, length-append, drop-drop, drop-replicate, take_all, replicate-append-replicate}
use Rattle.std.proofs.lemmas.Nat.{le_bytes_4, le_bytes_8}
use Rattle.byteorder.specs.Endian.{little_number}
use Rattle.byteorder.specs.Numbers.{little_from-take, little_number-reads_back}
use Rattle.vd_format.specs.Numbers.{IsBytes, u32_at, u64_at, u32_bytes, u64_bytes, put_at, are_zeros, has_magic}

pub IsBytes-drop : (n : ℕ) (bytes : List ℕ) → IsBytes bytes → IsBytes (drop n bytes)
IsBytes-drop n bytes fits i = rw get_or-drop (fits (n + i))

pub IsBytes-take : (n : ℕ) (bytes : List ℕ) → IsBytes bytes → IsBytes (take n bytes)
IsBytes-take n bytes fits i =
    elim (cases_lt i n) [
      | inl lt ↦ rw (get_or-take n bytes i 0 lt) (fits i)
      | inr le ↦ rw (get_or_past (take n bytes) i 0 (omega (arith, length-take n bytes))) (omega arith)
    ]

-- the bytes from which a number was read are the number's
pub take-u32_at : (bytes : List ℕ) (at : ℕ) → IsBytes bytes → at + 4 ≤ length bytes → take 4 (drop at bytes) ≡ u32_bytes (u32_at bytes at)
unfolding u32_at
take-u32_at bytes at fits inside =
    let front : List ℕ = take 4 (drop at bytes) in
    let len : length front ≡ 4 = omega (arith, length-take 4 (drop at bytes), length-drop at bytes) in
    let read : little_number 4 front ≡ u32_at bytes at = little_from-take 0 4 4 (drop at bytes) (omega arith) in
    let same : from_le_bytes w32 front ≡ little_number 4 front = omega arith in
    sym (le_bytes_4 front (u32_at bytes at) len (IsBytes-take 4 (drop at bytes) (IsBytes-drop at bytes fits)) (sym read ∙ sym same))

pub take-u64_at : (bytes : List ℕ) (at : ℕ) → IsBytes bytes → at + 8 ≤ length bytes → take 8 (drop at bytes) ≡ u64_bytes (u64_at bytes at)
unfolding u64_at
take-u64_at bytes at fits inside =
    let front : List ℕ = take 8 (drop at bytes) in
    let len : length front ≡ 8 = omega (arith, length-take 8 (drop at bytes), length-drop at bytes) in
    let read : little_number 8 front ≡ u64_at bytes at = little_from-take 0 8 8 (drop at bytes) (omega arith) in
    let same : from_le_bytes w64 front ≡ little_number 8 front = omega arith in
    sym (le_bytes_8 front (u64_at bytes at) len (IsBytes-take 8 (drop at bytes) (IsBytes-drop at bytes fits)) (sym read ∙ sym same))

-- a number that was written is read again
pub u32_at-append : (front rest : List ℕ) (at n : ℕ) → length front ≡ at → n < 2 ^ 32 → u32_at (front ++ (u32_bytes n ++ rest)) at ≡ n
unfolding u32_at
u32_at-append front rest at n len fits =
    ap (little_number 4) (drop_at front (u32_bytes n ++ rest) at len) ∙ little_number-reads_back 4 n rest fits

pub u64_at-append : (front rest : List ℕ) (at n : ℕ) → length front ≡ at → n < 2 ^ 64 → u64_at (front ++ (u64_bytes n ++ rest)) at ≡ n
unfolding u64_at
u64_at-append front rest at n len fits =
    ap (little_number 8) (drop_at front (u64_bytes n ++ rest) at len) ∙ little_number-reads_back 8 n rest fits

pub zeros-are : (bytes : List ℕ) → are_zeros bytes ≡ true → bytes ≡ replicate (length bytes) 0
unfolding are_zeros
zeros-are [] told = refl
zeros-are (b ∷ bytes) told =
    let parts = and_parts (b == 0) (are_zeros bytes) told in
    let first : b ≡ 0 = eqb-true b 0 parts.0 in
    rw first (ap (λ (rest : List ℕ). 0 ∷ rest) (zeros-are bytes parts.1))

pub are_zeros-replicate : (n : ℕ) → are_zeros (replicate n 0) ≡ true
unfolding are_zeros
are_zeros-replicate zero = refl
are_zeros-replicate (suc n) = are_zeros-replicate n

-- the magic is the front of what begins with it
pub take-magic : (magic bytes : List ℕ) → has_magic magic bytes ≡ true → take (length magic) bytes ≡ magic
unfolding has_magic
take-magic magic bytes told =
    let whole : bytes ≡ magic ++ drop (length magic) bytes = (starts_is Decides-eqb bytes magic (has_magic magic bytes) refl).0 told in
    ap (take (length magic)) whole ∙ take_at magic (drop (length magic) bytes) (length magic) refl

pub magic-take : (magic bytes : List ℕ) → take (length magic) bytes ≡ magic → has_magic magic bytes ≡ true
unfolding has_magic
magic-take magic bytes front =
    let whole : bytes ≡ magic ++ drop (length magic) bytes = sym (take-append-drop (length magic) bytes) ∙ ap (λ (first : List ℕ). first ++ drop (length magic) bytes) front in
    (starts_is Decides-eqb bytes magic (has_magic magic bytes) refl).1 (drop (length magic) bytes) whole

pub has_magic-append : (magic rest : List ℕ) → has_magic magic (magic ++ rest) ≡ true
unfolding has_magic
has_magic-append magic rest = (starts_is Decides-eqb (magic ++ rest) magic (has_magic magic (magic ++ rest)) refl).1 rest refl

-- one part more of the bytes
pub take-add : (bytes : List ℕ) (at n : ℕ) → take (at + n) bytes ≡ take at bytes ++ take n (drop at bytes)
take-add bytes zero n = let none : 0 + n ≡ n = omega arith in rw none refl
take-add [] (suc at) n = take_all (suc at + n) [] (omega arith) ∙ sym (take_all n [] (omega arith))
take-add (b ∷ bytes) (suc at) n = let next : suc at + n ≡ suc (at + n) = omega arith in rw next (ap (λ (rest : List ℕ). b ∷ rest) (take-add bytes at n))

pub take-then : (bytes front part : List ℕ) (at n : ℕ) → take at bytes ≡ front → take n (drop at bytes) ≡ part → take (at + n) bytes ≡ front ++ part
take-then bytes front part at n before here = rw (← before, ← here) (take-add bytes at n)

-- one part more is written where zeros stood
pub put_at-zeros : (front new : List ℕ) (at m n : ℕ) → length front ≡ at → m ≡ length new + n → put_at (front ++ replicate m 0) at new ≡ (front ++ new) ++ replicate n 0
unfolding put_at
put_at-zeros front new at m n len all =
    let zeros : List ℕ = replicate m 0 in
    let left : m - length new ≡ n = omega arith in
    let behind : drop (at + length new) (front ++ zeros) ≡ replicate n 0 =
    sym (drop-drop (length new) at (front ++ zeros)) ∙ ap (drop (length new)) (drop_at front zeros at len) ∙ drop-replicate (length new) m 0 ∙ ap (λ (k : ℕ). replicate k 0) left in
    rw (take_at front zeros at len, behind) refl

-- these bytes are written, and so many zeros stand behind them
pub record IsWritten (bytes front : List ℕ) (left : ℕ) : Type 0 where
  pub are : bytes ≡ front ++ replicate left 0

pub written-part : {bytes front : List ℕ} {left : ℕ} (new part : List ℕ) (at n : ℕ) → IsWritten bytes front left → new ≡ put_at bytes at part → length front ≡ at → left ≡ length part + n → IsWritten new (front ++ part) n
written-part {bytes} {front} {left} new part at n before put len all =
    record { are = put ∙ ap (λ (old : List ℕ). put_at old at part) before.are ∙ put_at-zeros front part at left n len all }

-- zeros that are to stay count as written
pub written-zeros : {bytes front : List ℕ} {left : ℕ} (k n : ℕ) → IsWritten bytes front left → left ≡ k + n → IsWritten bytes (front ++ replicate k 0) n
written-zeros {bytes} {front} {left} k n before all =
    let split : replicate left 0 ≡ replicate k 0 ++ replicate n 0 = ap (λ (m : ℕ). replicate m 0) all ∙ sym (replicate-append-replicate k n 0) in
    record { are = before.are ∙ ap (λ (zeros : List ℕ). front ++ zeros) split ∙ sym (append_assoc front (replicate k 0) (replicate n 0)) }

-- what is written in two parts, one behind the other, is written as one
pub put_at-then : (bytes x y : List ℕ) (at : ℕ) → at + length x ≤ length bytes → put_at (put_at bytes at x) (at + length x) y ≡ put_at bytes at (x ++ y)
unfolding put_at
put_at-then bytes x y at inside =
    let front : List ℕ = take at bytes ++ x in
    let rest : List ℕ = drop (at + length x) bytes in
    let len : length front ≡ at + length x = omega (arith, length-append (take at bytes) x, length-take at bytes) in
    let behind : drop (at + length x + length y) (front ++ rest) ≡ drop (at + length (x ++ y)) bytes =
    sym (drop-drop (length y) (at + length x) (front ++ rest)) ∙ ap (drop (length y)) (drop_at front rest (at + length x) len) ∙ drop-drop (length y) (at + length x) bytes
    ∙ ap (λ (k : ℕ). drop k bytes) (let both = length-append x y in let same : at + length x + length y ≡ at + length (x ++ y) = omega (arith, both) in same) in
    rw (take_at front rest (at + length x) len, behind) (ap (λ (first : List ℕ). first ++ drop (at + length (x ++ y)) bytes) (append_assoc (take at bytes) x y))
