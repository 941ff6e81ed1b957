-- Lists with one member changed or one more, and functions with one value changed.
use Rattle.std.proofs.Common.{◌≡◌, ◌≢◌, ℕ, zero, suc, ◌+◌, ◌<◌, ◌⊎◌, Bool, false, List, [], ◌∷◌, ◌++◌, length, refl, sym, ◌∙◌, ap, inl, inr, arith, Some, None, slice_get, slice_set}
use Rattle.std.specs.Prelude.{◌==◌, if◌then◌else◌}
use Rattle.std.proofs.lemmas.Bool.{cases_eq, eq-eqb, ne_eqb}
use Rattle.std.proofs.lemmas.Option.{get_or_from_slice_get, slice_get-get_or}
use Rattle.std.proofs.lemmas.List.{get_or-set_other, get_or-set_same}
use Rattle.vd_law.specs.Entries.{Entry}
use Rattle.vd_crash.specs.facts.Safe.{NumberedEntry, numbered}
use Rattle.vd_crash.specs.facts.Words.{IsUpdated}
use Rattle.vd_safety.specs.Mirrors.{bit_of}

pub some-inj : {X : Type 0} {x y : X} → Some x ≡ Some y → x ≡ y
some-inj h = cc

pub get-set-same : {X : Type 0} (xs : List X) (i : ℕ) (x y : X) → slice_get xs i ≡ Some y → slice_get (slice_set xs i x) i ≡ Some x
get-set-same [] i x y h = cc
get-set-same (z ∷ xs) zero x y h = refl
get-set-same (z ∷ xs) (suc i) x y h = get-set-same xs i x y h

pub get-set-other : {X : Type 0} (xs : List X) (i j : ℕ) (x : X) → j ≢ i → slice_get (slice_set xs i x) j ≡ slice_get xs j
get-set-other [] i j x ne = refl
get-set-other (z ∷ xs) zero zero x ne = absurd (ne refl)
get-set-other (z ∷ xs) zero (suc j) x ne = refl
get-set-other (z ∷ xs) (suc i) zero x ne = refl
get-set-other (z ∷ xs) (suc i) (suc j) x ne = get-set-other xs i j x (λ e. ne (ap suc e))

-- a member of the changed list is the new one or an old one
pub at-set : {X : Type 0} (xs : List X) (i j : ℕ) (x old y : X) → slice_get xs i ≡ Some old → slice_get (slice_set xs i x) j ≡ Some y → ((j ≡ i) × (y ≡ x)) ⊎ ((j ≢ i) × (slice_get xs j ≡ Some y))
at-set xs i j x old y there h = elim (cases_eq j i) [
  | inl e ↦ inl (e, some-inj (sym h ∙ ap (slice_get (slice_set xs i x)) e ∙ get-set-same xs i x old there))
  | inr ne ↦ inr (ne, sym (get-set-other xs i j x ne) ∙ h)
]

-- and there is none where there was none
pub none-set : {X : Type 0} (xs : List X) (i j : ℕ) (x : X) → slice_get (slice_set xs i x) j ≡ None → slice_get xs j ≡ None
none-set [] i j x h = h
none-set (z ∷ xs) zero zero x h = absurd (cc)
none-set (z ∷ xs) zero (suc j) x h = h
none-set (z ∷ xs) (suc i) zero x h = h
none-set (z ∷ xs) (suc i) (suc j) x h = none-set xs i j x h

pub set-same : {X : Type 0} (xs : List X) (i : ℕ) (x : X) → slice_get xs i ≡ Some x → slice_set xs i x ≡ xs
set-same [] i x there = refl
set-same (y ∷ xs) zero x there = let e : y ≡ x = cc in ap (λ z. z ∷ xs) (sym e)
set-same (y ∷ xs) (suc i) x there = ap (λ ys. y ∷ ys) (set-same xs i x there)

-- Bits.
pub bit-is : (bits : List Bool) (b : ℕ) (v : Bool) → slice_get bits b ≡ Some v → bit_of bits b ≡ v
bit-is bits b v h = get_or_from_slice_get bits b v false h

pub bit-there : (bits : List Bool) (b : ℕ) (v : Bool) → b < length bits → bit_of bits b ≡ v → slice_get bits b ≡ Some v
bit-there bits b v within h = slice_get-get_or bits b false within ∙ ap Some h

pub bit-set-same : (bits : List Bool) (b : ℕ) (v : Bool) → b < length bits → bit_of (slice_set bits b v) b ≡ v
bit-set-same bits b v within = get_or-set_same bits b v false within

pub bit-set-other : (bits : List Bool) (b c : ℕ) (v : Bool) → c ≢ b → bit_of (slice_set bits b v) c ≡ bit_of bits c
bit-set-other bits b c v other = get_or-set_other bits b c v false other

-- a value is put at one place of a function
abbrev pub updated : {X : Type 0} → (ℕ → X) → ℕ → X → ℕ → X
updated old b y c = if c == b then y else old c

pub is-updated : {X : Type 0} (old : ℕ → X) (b : ℕ) (y : X) → IsUpdated old (updated old b y) b y
is-updated old b y = record {
  same = ap (λ (t : Bool). if t then y else old b) (eq-eqb b b refl);
  other = λ c ne. ap (λ (t : Bool). if t then y else old c) (ne_eqb c b ne);
}

-- one that has the value already is the same
pub updated-same : {X : Type 0} (old : ℕ → X) (b : ℕ) (y : X) → old b ≡ y → IsUpdated old old b y
updated-same old b y is = record { same = is; other = λ c ne. refl }

-- An entry more, with its number.
pub numbered-more : (es : List Entry) (ns : List ℕ) (e : Entry) (n : ℕ) → length ns ≡ length es → numbered (es ++ e ∷ []) (ns ++ n ∷ []) ≡ numbered es ns ++ record { event = e; number = n } ∷ []
numbered-more [] [] e n same = refl
numbered-more [] (m ∷ ns) e n same = absurd (omega arith)
numbered-more (d ∷ es) [] e n same = absurd (omega arith)
numbered-more (d ∷ es) (m ∷ ns) e n same = ap (λ (rest : List NumberedEntry). record { event = d; number = m } ∷ rest) (numbered-more es ns e n (omega arith))

pub length-more : {X : Type 0} (xs : List X) (x : X) → length (xs ++ x ∷ []) ≡ length xs + 1
length-more [] x = refl
length-more (y ∷ xs) x = let h = length-more xs x in omega arith

-- an entry of the numbered history is one of the history
pub numbered-at : (es : List Entry) (ns : List ℕ) (a n : ℕ) (e : Entry) → slice_get (numbered es ns) a ≡ Some (record { event = e; number = n }) → slice_get es a ≡ Some e
numbered-at [] ns a n e h = absurd (cc)
numbered-at (d ∷ es) [] a n e h = absurd (cc)
numbered-at (d ∷ es) (m ∷ ns) zero n e h = ap Some (ap (λ (x : NumberedEntry). x.event) (some-inj h))
numbered-at (d ∷ es) (m ∷ ns) (suc a) n e h = numbered-at es ns a n e h

pub append-nil : {X : Type 0} (xs : List X) → xs ++ [] ≡ xs
append-nil [] = refl
append-nil (x ∷ xs) = ap (λ ys. x ∷ ys) (append-nil xs)
