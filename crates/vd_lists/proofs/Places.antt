-- The places of a list by `slice_get`: of one list behind another, of a first part and a rest, of copies, and of a function's values.
use Rattle.std.proofs.Common.{ℕ, zero, suc, ◌≡◌, ◌+◌, ◌-◌, ◌<◌, ◌≤◌, ◌⊎◌, inl, inr, List, [], ◌∷◌, ◌++◌, length, get_or, take, drop, Some, refl, ap, sym, ◌∙◌, arith, map, replicate}
use Rattle.std.specs.Prelude.{slice_get}
use Rattle.std.specs.List.{range_with_len}
use Rattle.std.proofs.lemmas.Option.{same_Some, slice_get-get_or, slice_get_read, slice_get_within}
use Rattle.std.proofs.lemmas.List.FromFn.{get_or-map-range_with_len, length-map-range_with_len}

-- each place of a list has something
pub some_place : {X : Type 0} (xs : List X) (i : ℕ) → i < length xs → (x : X) × (slice_get xs i ≡ Some x)
some_place [] i h = absurd (omega (arith, h))
some_place (x ∷ xs) zero h = (x, refl)
some_place (x ∷ xs) (suc i) h = some_place xs i (omega arith)

-- a place has only one
pub same_member : {X : Type 0} (xs : List X) (i : ℕ) (x y : X) → slice_get xs i ≡ Some x → slice_get xs i ≡ Some y → x ≡ y
same_member xs i x y is also = same_Some x y (sym is ∙ also)

-- what is read of a list at a place is what stands there
pub read_place : {X : Type 0} (xs : List X) (i : ℕ) (x y : X) → slice_get xs i ≡ Some x → y ≡ get_or xs i y → slice_get xs i ≡ Some y
read_place xs i x y there is = slice_get_read xs (length xs) i y refl (slice_get_within xs i x there) is

-- the first of two lists
pub slice_get_front : {X : Type 0} (xs ys : List X) (i : ℕ) → i < length xs → slice_get (xs ++ ys) i ≡ slice_get xs i
slice_get_front [] ys i h = absurd (omega arith)
slice_get_front (x ∷ xs) ys zero h = refl
slice_get_front (x ∷ xs) ys (suc i) h = slice_get_front xs ys i (omega arith)

-- the second of two lists
pub slice_get_back : {X : Type 0} (xs ys : List X) (i : ℕ) → length xs ≤ i → slice_get (xs ++ ys) i ≡ slice_get ys (i - length xs)
slice_get_back [] ys i h = ap (slice_get ys) (omega arith)
slice_get_back (x ∷ xs) ys zero h = absurd (omega arith)
slice_get_back (x ∷ xs) ys (suc i) h = slice_get_back xs ys i (omega arith) ∙ ap (slice_get ys) (omega arith)

-- the same by the place in the second
pub slice_get_behind : {X : Type 0} (xs ys : List X) (n k : ℕ) → n ≡ length xs + k → slice_get (xs ++ ys) n ≡ slice_get ys k
slice_get_behind xs ys n k e = slice_get_back xs ys n (omega arith) ∙ ap (slice_get ys) (omega arith)

-- what stands in two lists stands in one of them
pub slice_get_either : {X : Type 0} (xs ys : List X) (i : ℕ) (x : X) → slice_get (xs ++ ys) i ≡ Some x → ((i < length xs) × (slice_get xs i ≡ Some x)) ⊎ ((length xs ≤ i) × (slice_get ys (i - length xs) ≡ Some x))
slice_get_either [] ys i x h = inr (omega arith, (let e : i - 0 ≡ i = omega arith in rw e h))
slice_get_either (y ∷ xs) ys zero x h = inl (omega arith, h)
slice_get_either (y ∷ xs) ys (suc i) x h = elim (slice_get_either xs ys i x h) [
  | inl a ↦ inl ((let b = a.0 in omega arith), a.1)
  | inr a ↦ inr ((let b = a.0 in omega arith), (let e : suc i - suc (length xs) ≡ i - length xs = omega arith in rw e a.1))
]

-- what stands in a list stands there when more is put behind it
pub slice_get_longer : {X : Type 0} (xs ys : List X) (i : ℕ) (x : X) → slice_get xs i ≡ Some x → slice_get (xs ++ ys) i ≡ Some x
slice_get_longer [] ys i x h = absurd cc
slice_get_longer (y ∷ xs) ys zero x h = h
slice_get_longer (y ∷ xs) ys (suc i) x h = slice_get_longer xs ys i x h

-- the one between two lists
pub slice_get_middle : {X : Type 0} (xs ys : List X) (x : X) → slice_get (xs ++ x ∷ ys) (length xs) ≡ Some x
slice_get_middle [] ys x = refl
slice_get_middle (y ∷ xs) ys x = slice_get_middle xs ys x

-- the one put behind a list
pub slice_get_last : {X : Type 0} (xs : List X) (x : X) → slice_get (xs ++ x ∷ []) (length xs) ≡ Some x
slice_get_last xs x = slice_get_middle xs [] x

-- the second of two put behind a list
pub slice_get_second_last : {X : Type 0} (xs : List X) (x y : X) → slice_get (xs ++ x ∷ y ∷ []) (suc (length xs)) ≡ Some y
slice_get_second_last [] x y = refl
slice_get_second_last (z ∷ xs) x y = slice_get_second_last xs x y

-- what stands in a list of one more is an old one or the last
pub slice_get_pushed : {X : Type 0} (xs : List X) (y x : X) (i : ℕ) → slice_get (xs ++ y ∷ []) i ≡ Some x → ((i < length xs) × (slice_get xs i ≡ Some x)) ⊎ ((i ≡ length xs) × (x ≡ y))
slice_get_pushed [] y x zero h = inr (refl, (let e : x ≡ y = cc in e))
slice_get_pushed [] y x (suc i) h = absurd cc
slice_get_pushed (z ∷ xs) y x zero h = inl (omega arith, h)
slice_get_pushed (z ∷ xs) y x (suc i) h = elim (slice_get_pushed xs y x i h) [
  | inl old ↦ inl (omega arith, old.1)
  | inr new ↦ inr (ap suc new.0, new.1)
]

-- a first part
pub slice_get_take : {X : Type 0} (n : ℕ) (xs : List X) (i : ℕ) → i < n → slice_get (take n xs) i ≡ slice_get xs i
slice_get_take zero xs i h = absurd (omega (arith, h))
slice_get_take (suc n) [] i h = refl
slice_get_take (suc n) (x ∷ xs) zero h = refl
slice_get_take (suc n) (x ∷ xs) (suc i) h = slice_get_take n xs i (omega arith)

-- what stands in a first part stands in the whole
pub slice_get_taken : {X : Type 0} (xs : List X) (n i : ℕ) (x : X) → slice_get (take n xs) i ≡ Some x → slice_get xs i ≡ Some x
slice_get_taken [] zero i x h = h
slice_get_taken [] (suc n) i x h = h
slice_get_taken (y ∷ xs) zero i x h = absurd cc
slice_get_taken (y ∷ xs) (suc n) zero x h = h
slice_get_taken (y ∷ xs) (suc n) (suc i) x h = slice_get_taken xs n i x h

-- a rest
pub slice_get_drop : {X : Type 0} (n : ℕ) (xs : List X) (i : ℕ) → slice_get (drop n xs) i ≡ slice_get xs (n + i)
slice_get_drop zero xs i = ap (slice_get xs) (omega arith)
slice_get_drop (suc n) [] i = refl
slice_get_drop (suc n) (x ∷ xs) i = slice_get_drop n xs i ∙ (let e : suc n + i ≡ suc (n + i) = omega arith in sym (ap (slice_get (x ∷ xs)) e))

-- what stands in a rest stands in the whole
pub slice_get_dropped : {X : Type 0} (xs : List X) (n i k : ℕ) (x : X) → k ≡ n + i → slice_get (drop n xs) i ≡ Some x → slice_get xs k ≡ Some x
slice_get_dropped xs n i k x e h = ap (slice_get xs) e ∙ sym (slice_get_drop n xs i) ∙ h

-- copies of one thing
pub slice_get_replicate : {X : Type 0} (n : ℕ) (x : X) (i : ℕ) → i < n → slice_get (replicate n x) i ≡ Some x
slice_get_replicate zero x i h = absurd (omega arith)
slice_get_replicate (suc n) x zero h = refl
slice_get_replicate (suc n) x (suc i) h = slice_get_replicate n x i (omega arith)

-- what stands in copies of one thing is this thing
pub slice_get_copied : {X : Type 0} (n : ℕ) (x y : X) (i : ℕ) → slice_get (replicate n x) i ≡ Some y → x ≡ y
slice_get_copied zero x y i h = absurd cc
slice_get_copied (suc n) x y zero h = cc
slice_get_copied (suc n) x y (suc i) h = slice_get_copied n x y i h

-- the values of a function
pub slice_get_run : {X : Type 0} (f : ℕ → X) (a n i : ℕ) → i < n → slice_get (map f (range_with_len a n)) i ≡ Some (f (a + i))
slice_get_run f a n i h =
    slice_get-get_or (map f (range_with_len a n)) i (f 0) (omega (arith, length-map-range_with_len f a n, h))
    ∙ ap Some (get_or-map-range_with_len f a n i (a + i) (f 0) h refl)
