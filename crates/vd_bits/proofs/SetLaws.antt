-- A list of truth values of which one is changed.
use Rattle.std.proofs.Common.{◌≡◌, ℕ, suc, ◌+◌, ◌<◌, ◌≤◌, Bool, true, false, cond, List, [], ◌∷◌, ◌++◌, length, get_or, set, replicate, Some, sym, refl, ap, ◌∙◌, arith}
use Rattle.std.specs.List.{slice_get}
use Rattle.std.specs.Int.RustNames.{count_ones}
use Rattle.std.proofs.Math.Nat.{mul-one, mul-zero}
use Rattle.std.proofs.lemmas.List.{map-id}
use Rattle.std.proofs.lemmas.List.Folds.{sum_by-replicate}
use Rattle.std.proofs.lemmas.List.Sums.{sum_by-set, sum_by-append, sum_by-cons, count_by-le-length}
use Rattle.std.proofs.lemmas.Option.{same_Some, get_or_from_slice_get}
use Rattle.std.proofs.lemmas.Simd.{ones-mask_l}
use Rattle.vd_bits.specs.Marks.{count_true, NoneFrom}
use Rattle.vd_bits.specs.Masks.{mask_of}

-- a member more makes the count one larger, and one less makes it one smaller
module _ (s : List Bool) (i : ℕ) (h : i < length s) where
  pub count-set_true : slice_get s i ≡ Some false → count_true (set s i true) ≡ count_true s + 1
  count-set_true e =
      let was : cond {A = ℕ} (get_or s i false) 1 0 ≡ 0 = ap (λ (b : Bool). cond {A = ℕ} b 1 0) (get_or_from_slice_get s i false false e) in
      omega (arith, sum_by-set (λ (b : Bool). cond {A = ℕ} b 1 0) s i true false h)

  pub count-set_false : slice_get s i ≡ Some true → count_true (set s i false) + 1 ≡ count_true s
  count-set_false e =
      let was : cond {A = ℕ} (get_or s i false) 1 0 ≡ 1 = ap (λ (b : Bool). cond {A = ℕ} b 1 0) (get_or_from_slice_get s i true false e) in
      omega (arith, sum_by-set (λ (b : Bool). cond {A = ℕ} b 1 0) s i false false h)

pub count-le-length : (s : List Bool) → count_true s ≤ length s
count-le-length s = count_by-le-length (λ b. b) s

pub count-append : (s t : List Bool) → count_true (s ++ t) ≡ count_true s + count_true t
count-append s t = sum_by-append (λ b. cond b 1 0) s t

-- the ones of a mask are its true values
pub ones-mask_of : (s : List Bool) → count_ones (mask_of s) ≡ count_true s
ones-mask_of s = rw (sym (ap (λ t. count_ones (mask_of t)) (map-id s))) (ones-mask_l (λ b. b) s)

pub count-full : (n : ℕ) → count_true (replicate n true) ≡ n
count-full n = sum_by-replicate (λ (b : Bool). cond {A = ℕ} b 1 0) n true ∙ mul-one n

pub count-empty : (n : ℕ) → count_true (replicate n false) ≡ 0
count-empty n = sum_by-replicate (λ (b : Bool). cond {A = ℕ} b 1 0) n false ∙ mul-zero n

-- a set without members counts none
pub count-none : (s : List Bool) → NoneFrom s 0 → count_true s ≡ 0
count-none [] none = refl
count-none (b ∷ s) none =
    let first : b ≡ false = same_Some b false (none 0 (omega arith) (omega arith)) in
    let rest : count_true s ≡ 0 = count-none s (λ i h inside. none (suc i) (omega arith) (omega arith)) in
    rw first (sum_by-cons (λ (x : Bool). cond {A = ℕ} x 1 0) false s ∙ omega (arith, rest))
