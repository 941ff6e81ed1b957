-- Rows of truth values, place by place.
use Rattle.std.proofs.Common.{◌≡◌, ◌≢◌, ◌⊎◌, ⊎_elim, inl, inr, ℕ, zero, suc, ◌+◌, ◌-◌, ◌<◌, ◌≤◌, Bool, true, false, not, List, [], ◌∷◌, ◌++◌, length, get_or, set, take, drop, replicate, sym, refl, ap, ◌∙◌, arith, length-set, length-append, length-take, length-drop, get_or-set_same, get_or-set_other, get_or-take, get_or-drop}
use Rattle.std.specs.Prelude.{◌||◌, ◌&&◌, min}
use Rattle.std.specs.List.{list_any}
use Rattle.std.proofs.lemmas.Bool.{cases_lt, cases_eq, false≢true}
use Rattle.std.proofs.lemmas.List.{ext_get_or, length-replicate, get_or-replicate, get_or_past, get_or_append_left, get_or-append_right}
use Rattle.std.proofs.Math.Bool.{or-false, and-true, or-true}
use Rattle.vd_keeper.specs.Entries.{union_of}
use Rattle.vd_keeper.specs.Moves.{difference_of}

-- a true value stands inside
pub within : (xs : List Bool) (i : ℕ) → get_or xs i false ≡ true → i < length xs
within xs i e = ⊎_elim (λ (h : i < length xs). h) (λ (h : length xs ≤ i). absurd (false≢true (sym (get_or_past xs i false h) ∙ e))) (cases_lt i (length xs))

pub get_or-either : (xs ys : List Bool) (i : ℕ) → get_or (union_of xs ys) i false ≡ (get_or xs i false || get_or ys i false)
get_or-either [] ys i = refl
get_or-either (x ∷ xs) [] i = sym (or-false (get_or (x ∷ xs) i false))
get_or-either (x ∷ xs) (y ∷ ys) zero = refl
get_or-either (x ∷ xs) (y ∷ ys) (suc i) = get_or-either xs ys i

pub get_or-without : (xs ys : List Bool) (i : ℕ) → get_or (difference_of xs ys) i false ≡ (get_or xs i false && not (get_or ys i false))
get_or-without [] ys i = refl
get_or-without (x ∷ xs) [] i = sym (and-true (get_or (x ∷ xs) i false))
get_or-without (x ∷ xs) (y ∷ ys) zero = refl
get_or-without (x ∷ xs) (y ∷ ys) (suc i) = get_or-without xs ys i

pub length-either : (xs ys : List Bool) → length xs ≡ length ys → length (union_of xs ys) ≡ length xs
length-either [] [] e = refl
length-either [] (y ∷ ys) e = absurd (omega arith)
length-either (x ∷ xs) [] e = refl
length-either (x ∷ xs) (y ∷ ys) e =
    let r : length (union_of xs ys) ≡ length xs = length-either xs ys (omega arith) in
    omega (arith, r)

pub length-without : (xs ys : List Bool) → length (difference_of xs ys) ≡ length xs
length-without [] ys = refl
length-without (x ∷ xs) [] = refl
length-without (x ∷ xs) (y ∷ ys) =
    let r : length (difference_of xs ys) ≡ length xs = length-without xs ys in
    omega (arith, r)

-- two rows that agree everywhere are one
pub same_rows : (xs ys : List Bool) → length xs ≡ length ys → ((i : ℕ) → i < length xs → get_or xs i false ≡ get_or ys i false) → xs ≡ ys
same_rows xs ys size each = ext_get_or false xs ys size each

pub get_or-nothing : (n i : ℕ) → get_or (replicate n false) i false ≡ false
get_or-nothing n i = ⊎_elim (λ (h : i < n). get_or-replicate n i false false h) (λ (h : n ≤ i). get_or_past (replicate n false) i false (omega (arith, length-replicate n false))) (cases_lt i n)

-- a row without a true value
pub is-nothing : (xs : List Bool) (n : ℕ) → length xs ≡ n → ((i : ℕ) → i < n → get_or xs i false ≡ false) → xs ≡ replicate n false
is-nothing xs n size none = same_rows xs (replicate n false) (size ∙ sym (length-replicate n false)) (λ i h. none i (omega (arith, size)) ∙ sym (get_or-nothing n i))

pub either-nothing : (xs : List Bool) (n : ℕ) → length xs ≡ n → union_of xs (replicate n false) ≡ xs
either-nothing xs n size =
    same_rows (union_of xs (replicate n false)) xs (length-either xs (replicate n false) (size ∙ sym (length-replicate n false)))
    (λ i h. get_or-either xs (replicate n false) i ∙ ap (λ b. get_or xs i false || b) (get_or-nothing n i) ∙ or-false (get_or xs i false))

pub nothing-either : (xs : List Bool) (n : ℕ) → length xs ≡ n → union_of (replicate n false) xs ≡ xs
nothing-either xs n size =
    same_rows (union_of (replicate n false) xs) xs (length-either (replicate n false) xs (length-replicate n false ∙ sym size) ∙ length-replicate n false ∙ sym size)
    (λ i h. get_or-either (replicate n false) xs i ∙ ap (λ b. b || get_or xs i false) (get_or-nothing n i))

-- a member moves from one row to the other
pub moved : (xs ys : List Bool) (i : ℕ) → length xs ≡ length ys → get_or ys i false ≡ true → union_of (set xs i true) (set ys i false) ≡ union_of xs ys
moved xs ys i size there =
    let inside : i < length ys = within ys i there in
    let insidex : i < length xs = omega arith in
    same_rows (union_of (set xs i true) (set ys i false)) (union_of xs ys)
    (length-either (set xs i true) (set ys i false) (omega (arith, length-set xs i true, length-set ys i false)) ∙ length-set xs i true ∙ sym (length-either xs ys size))
    (λ j h.
    get_or-either (set xs i true) (set ys i false) j
    ∙ ⊎_elim
    (λ (e : j ≡ i). rw (e, get_or-set_same xs i true false insidex, get_or-either xs ys i, there) (sym (or-true (get_or xs i false))))
    (λ (ne : j ≡ i → ⊥). rw (get_or-set_other xs i j true false ne, get_or-set_other ys i j false false ne) (sym (get_or-either xs ys j)))
    (cases_eq j i))

cases_le : (a b : ℕ) → (a ≤ b) ⊎ (b ≤ a)
cases_le a b = ⊎_elim (λ (h : a < b). inl (omega arith)) (λ (h : b ≤ a). inr h) (cases_lt a b)

-- a row spliced into another
module _ (s ys : List Bool) (at k : ℕ) (inside : at ≤ length s) (size : length ys ≡ min k (length s - at)) where
  pub length-spliced : length (take at s ++ ys ++ drop (at + k) s) ≡ length s
  length-spliced = omega (arith, length-append (take at s ++ ys) (drop (at + k) s), length-append (take at s) ys, length-take at s, length-drop (at + k) s)

  pub spliced-inside : (j : ℕ) → j < length ys → get_or (take at s ++ ys ++ drop (at + k) s) (at + j) false ≡ get_or ys j false
  spliced-inside j h =
      let front : length (take at s) ≡ at = omega (arith, length-take at s) in
      let less : at + j < length (take at s ++ ys) = omega (arith, length-append (take at s) ys) in
      let e : at + j - at ≡ j = omega arith in
      get_or_append_left (take at s ++ ys) (drop (at + k) s) false (at + j) less ∙ get_or-append_right (take at s) ys at (at + j) false front (omega arith) ∙ ap (λ n. get_or ys n false) e

  pub spliced-outside : (i : ℕ) → (i < at) ⊎ (at + length ys ≤ i) → get_or (take at s ++ ys ++ drop (at + k) s) i false ≡ get_or s i false
  spliced-outside i h =
      let front : length (take at s) ≡ at = omega (arith, length-take at s) in
      elim h [
        | inl below ↦ (let less : i < length (take at s ++ ys) = omega (arith, length-append (take at s) ys) in
            get_or_append_left (take at s ++ ys) (drop (at + k) s) false i less
            ∙ get_or_append_left (take at s) ys false i (omega arith)
            ∙ get_or-take at s i false below)
        | inr above ↦ ⊎_elim
            (λ (more : at + k ≤ length s).
            (let fits : length (take at s ++ ys) ≡ at + k = omega (arith, length-append (take at s) ys) in
            let e : at + k + (i - (at + k)) ≡ i = omega arith in
            get_or-append_right (take at s ++ ys) (drop (at + k) s) (at + k) i false fits (omega arith) ∙ get_or-drop (at + k) s (i - (at + k)) false ∙ ap (λ n. get_or s n false) e))
            (λ (short : length s ≤ at + k).
            (let past : length s ≤ i = omega arith in
            get_or_past (take at s ++ ys ++ drop (at + k) s) i false (omega (arith, length-spliced)) ∙ sym (get_or_past s i false past)))
            (cases_le (at + k) (length s))
      ]

or-swap : (x y a b : Bool) → ((x || y) || (a || b)) ≡ ((x || a) || (y || b))
or-swap true y a b = refl
or-swap false true a b = sym (or-true a)
or-swap false false a b = refl

pub any-either : (xs ys : List Bool) → list_any (λ (x : Bool). x) (union_of xs ys) ≡ (list_any (λ (x : Bool). x) xs || list_any (λ (x : Bool). x) ys)
any-either [] ys = refl
any-either (x ∷ xs) [] = sym (or-false (list_any (λ (b : Bool). b) (x ∷ xs)))
any-either (x ∷ xs) (y ∷ ys) =
    ap (λ (b : Bool). (x || y) || b) (any-either xs ys) ∙ or-swap x y (list_any (λ (b : Bool). b) xs) (list_any (λ (b : Bool). b) ys)
