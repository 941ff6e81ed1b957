-- A list that is cut at a byte.
use Rattle.std.proofs.Common.{◌≡◌, ℕ, ◌+◌, ◌<◌, ◌≤◌, true, false, List, [], ◌∷◌, ◌++◌, length, take, drop, get_or, Some, None, eqb, sym, ◌∙◌, ap, arith, length-take, drop-cons, add-one}
use Rattle.std.proofs.lemmas.Bool.{false_from_ne_true}
use Rattle.std.proofs.lemmas.List.{get_or-take, take-append-drop, get_or_default, take_all}
use Rattle.std.proofs.lemmas.List.Splits.{slice_split_at, slice_split_none}
use Rattle.std.specs.List.{All, slice_split}
use Rattle.memchr.specs.Find.{IsFirstByte, is_byte}

-- no byte before place n is c
pub unmet : (c : ℕ) (xs : List ℕ) (n : ℕ) → n ≤ length xs → ((k : ℕ) → k < n → ¬ (eqb (get_or xs k 0) c ≡ true)) → All (λ x. eqb x c ≡ false) (take n xs)
unmet c xs n within before = λ k d inside.
    let below : k < n = omega (arith, length-take n xs) in
    ap (λ (x : ℕ). eqb x c) (get_or-take n xs k d below ∙ get_or_default xs k d 0 (omega arith)) ∙ false_from_ne_true (eqb (get_or xs k 0) c) (before k below)

-- a list, cut at place i
pub parted : (xs : List ℕ) (i : ℕ) → i < length xs → xs ≡ take i xs ++ get_or xs i 0 ∷ drop (i + 1) xs
parted xs i inside = sym (take-append-drop i xs) ∙ ap (λ (rest : List ℕ). take i xs ++ rest) (drop-cons xs i 0 inside ∙ ap (λ (n : ℕ). get_or xs i 0 ∷ drop n xs) (sym (add-one i)))

pub cut-some : (c : ℕ) (xs : List ℕ) (i : ℕ) → IsFirstByte (is_byte c) xs (Some i) → slice_split (λ b. eqb b c) xs ≡ take i xs ∷ slice_split (λ b. eqb b c) (drop (i + 1) xs)
cut-some c xs i first =
    ap (slice_split (λ b. eqb b c)) (parted xs i first.0.high)
    ∙ slice_split_at (λ b. eqb b c) (take i xs) (get_or xs i 0) (drop (i + 1) xs) (unmet c xs i (omega (arith, first.0.high)) (λ k below. first.0.before k (omega arith) below)) first.1

pub cut-none : (c : ℕ) (xs : List ℕ) → IsFirstByte (is_byte c) xs None → slice_split (λ b. eqb b c) xs ≡ xs ∷ []
cut-none c xs none =
    let all : take (length xs) xs ≡ xs = take_all (length xs) xs (omega arith) in
    slice_split_none (λ b. eqb b c) xs (rw all at (unmet c xs (length xs) (omega arith) (λ k below. none k (omega arith) below)))
