-- The words of 64, of 64 words, and so on: the word of a number on each level.
use Rattle.std.proofs.Common.{◌≡◌, ℕ, zero, suc, ◌+◌, ◌-◌, ◌*◌, ◌/◌, ◌^◌, ◌<◌, ◌≤◌, sym, ap, ◌∙◌, arith, add-one}
use Rattle.std.proofs.Math.Nat.{pow-suc, div-div-eq-div-mul}
use Rattle.std.proofs.lemmas.Nat.{pow-add}

pub span_some : (k : ℕ) → 0 < 64 ^ k
span_some zero = omega arith
span_some (suc k) = omega (arith, pow-suc 64 k, span_some k)

pub next_span : (k : ℕ) → 64 ^ (k + 1) ≡ 64 ^ k * 64
next_span k = ap (λ (n : ℕ). 64 ^ n) (add-one k) ∙ pow-suc 64 k

-- the word of a word
pub next_word : (n k : ℕ) → n / 64 ^ k / 64 ≡ n / 64 ^ (k + 1)
next_word n k = div-div-eq-div-mul n (64 ^ k) 64 ∙ ap (λ (m : ℕ). n / m) (sym (next_span k))

higher : (n k d : ℕ) → n / 64 ^ (k + d) ≡ n / 64 ^ k / 64 ^ d
higher n k d = ap (λ (m : ℕ). n / m) (pow-add 64 k d) ∙ sym (div-div-eq-div-mul n (64 ^ k) (64 ^ d))

-- numbers of one word are of one word on each level above
pub same_above : (n m j k : ℕ) → j ≤ k → n / 64 ^ j ≡ m / 64 ^ j → n / 64 ^ k ≡ m / 64 ^ k
same_above n m j k le same =
    let d = k - j in
    let is : k ≡ j + d = omega (arith, le) in
    ap (λ (e : ℕ). n / 64 ^ e) is ∙ higher n j d ∙ ap (λ (w : ℕ). w / 64 ^ d) same ∙ sym (higher m j d) ∙ ap (λ (e : ℕ). m / 64 ^ e) (sym is)
