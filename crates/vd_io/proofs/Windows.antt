-- The bytes of a window, as some are taken off its front and others are read behind them.
use Rattle.std.proofs.Common.{◌≡◌, ℕ, ◌+◌, ◌-◌, ◌≤◌, List, ◌++◌, length, take, drop, ap, sym, ◌∙◌, arith, length-take, length-drop, append_assoc}
use Rattle.std.proofs.lemmas.List.{drop-take, drop-drop, length-take-le, take-append-le, take_all}
use Rattle.std.proofs.Math.Seq.{take-append-add}
use Rattle.std.specs.List.{slice_range, copy_within}
use borrow.Rule.Slice.PartMut.{put_mid}

pub skip-front : (bytes : List ℕ) (from to count : ℕ) → count ≤ length (slice_range bytes from to) → slice_range bytes (from + count) to ≡ drop count (slice_range bytes from to)
skip-front bytes from to count inside =
    let enough : count ≤ to - from = omega (arith, length-take (to - from) (drop from bytes)) in
    let rest : to - (from + count) ≡ to - from - count = omega arith in
    let whole : count + (to - from - count) ≡ to - from = omega arith in
    ap (λ (n : ℕ). take n (drop (from + count) bytes)) rest
    ∙ ap (take (to - from - count)) (sym (drop-drop count from bytes))
    ∙ sym (drop-take count (to - from - count) (drop from bytes))
    ∙ ap (λ (n : ℕ). drop count (take n (drop from bytes))) whole

-- what was moved to the front
moved : (bytes : List ℕ) (from to : ℕ) → from ≤ to → to ≤ length bytes → take (to - from) (copy_within bytes from to 0) ≡ slice_range bytes from to
moved bytes from to order inside =
    let size : length (take (to - from) (drop from bytes)) ≡ to - from = length-take-le (to - from) (drop from bytes) (omega (arith, length-drop from bytes)) in
    take-append-le (to - from) (take (to - from) (drop from bytes)) (drop (0 + (to - from)) bytes) (omega arith) ∙ take_all (to - from) (take (to - from) (drop from bytes)) (omega arith)

-- the first of a list, and the first of what stands behind it
front-and-more : (front ys zs : List ℕ) (a n : ℕ) → length front ≡ a → n ≤ length ys → take (a + n) (front ++ (ys ++ zs)) ≡ front ++ take n ys
front-and-more front ys zs a n size inside =
    ap (λ (k : ℕ). take (k + n) (front ++ (ys ++ zs))) (sym size) ∙ take-append-add front (ys ++ zs) n ∙ ap (λ (more : List ℕ). front ++ more) (take-append-le n ys zs inside)

-- what was moved to the front, and what was read behind it
pub filled : (bytes copied room : List ℕ) (from to n : ℕ) (front rest rest' : List ℕ) → from ≤ to → to ≤ length bytes → n ≤ length room →
    slice_range bytes from to ≡ front → copied ≡ copy_within bytes from to 0 → rest ≡ take n room ++ rest' →
    slice_range (put_mid (to - from) (8192 - (to - from)) copied room) 0 (to - from + n) ++ rest' ≡ front ++ rest
filled bytes copied room from to n front rest rest' order inside within is moved_is given =
    let there : take (to - from) copied ≡ front = ap (take (to - from)) moved_is ∙ moved bytes from to order inside ∙ is in
    let size : length (take (to - from) copied) ≡ to - from = ap length there ∙ sym (ap length is) ∙ length-take-le (to - from) (drop from bytes) (omega (arith, length-drop from bytes)) in
    let whole : to - from + n - 0 ≡ to - from + n = omega arith in
    ap (λ (k : ℕ). take k (put_mid (to - from) (8192 - (to - from)) copied room) ++ rest') whole
    ∙ ap (λ (t : List ℕ). t ++ rest') (front-and-more (take (to - from) copied) room _ (to - from) n size within ∙ ap (λ (t : List ℕ). t ++ take n room) there)
    ∙ append_assoc front (take n room) rest' ∙ ap (λ (t : List ℕ). front ++ t) (sym given)
