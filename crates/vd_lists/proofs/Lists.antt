-- Whole lists: when two are the same, and lengths of parts.
use Rattle.std.proofs.Common.{ℕ, zero, suc, ◌≡◌, ◌+◌, ◌-◌, ◌≤◌, List, [], ◌∷◌, ◌++◌, length, take, drop, replicate, Some, None, refl, ap, ◌∙◌, arith, add-one, All}
use Rattle.std.specs.Prelude.{slice_get, slice_range}
use Rattle.std.proofs.lemmas.List.{length-take-le, length-append, length-drop}
use Rattle.std.proofs.lemmas.List.Elements.{All-head, All-tail}

-- two lists are the same where each of their places is
pub same_list : {X : Type 0} (xs ys : List X) → length xs ≡ length ys → ((i : ℕ) → slice_get xs i ≡ slice_get ys i) → xs ≡ ys
same_list [] [] many each = refl
same_list [] (y ∷ ys) many each = let h : None ≡ Some y = each zero in cc
same_list (x ∷ xs) [] many each = let h : Some x ≡ None = each zero in cc
same_list (x ∷ xs) (y ∷ ys) many each =
    let h : Some x ≡ Some y = each zero in let e : x ≡ y = cc in let t = same_list xs ys (omega arith) (λ i. each (suc i)) in cc

-- a list whose elements are all one is copies of it
pub all_copies : {X : Type 0} (x : X) (xs : List X) → All (λ y. y ≡ x) xs → xs ≡ replicate (length xs) x
all_copies x [] all = refl
all_copies {X} x (y ∷ ys) all = ap (λ (z : X). z ∷ ys) (All-head (λ (z : X). z ≡ x) y ys all) ∙ ap (λ (zs : List X). x ∷ zs) (all_copies x ys (All-tail (λ (z : X). z ≡ x) y ys all))

-- a list with one more in its middle is one longer
pub length_with : {X : Type 0} (xs ys : List X) (x : X) → length (xs ++ x ∷ ys) ≡ length (xs ++ ys) + 1
length_with xs ys x = omega (arith, length-append xs (x ∷ ys), length-append xs ys)

-- how long a list is with a first part of another in front
pub length_behind : {X : Type 0} (k : ℕ) (part whole : List X) → k ≤ length whole → length (take k whole ++ part) ≡ k + length part
length_behind k part whole fits =
    let front : length (take k whole) ≡ k = length-take-le k whole fits in
    let all : length (take k whole ++ part) ≡ length (take k whole) + length part = length-append (take k whole) part in
    omega arith

-- a part has the length that was asked of it, where there is so much
pub length_part : {X : Type 0} (xs : List X) (from count : ℕ) → from + count ≤ length xs → length (slice_range xs from (from + count)) ≡ count
length_part xs from count fits =
    let dropped : length (drop from xs) ≡ length xs - from = length-drop from xs in
    let taken : length (take (from + count - from) (drop from xs)) ≡ from + count - from = length-take-le (from + count - from) (drop from xs) (omega arith) in
    omega arith
