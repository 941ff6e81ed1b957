-- A part of a list, from one place to another, that grows by the element behind it.
use Rattle.std.proofs.Common.{◌≡◌, ℕ, zero, ◌+◌, ◌-◌, ◌<◌, ◌≤◌, List, [], ◌∷◌, ◌++◌, length, take, drop, get_or, ◌∙◌, ap, arith, length-drop}
use Rattle.std.proofs.lemmas.List.{drop-drop, take_more, get_or-drop}
use Rattle.std.proofs.Math.Seq.{take-add}
use Rattle.std.specs.List.{slice_range}

pub slice_range-split : {X : Type 0} (xs : List X) (from mid to : ℕ) → from ≤ mid → mid ≤ to → slice_range xs from to ≡ slice_range xs from mid ++ slice_range xs mid to
slice_range-split {X = X} xs from mid to before after =
    let sizes : to - from ≡ (mid - from) + (to - mid) = omega arith in
    let place : from + (mid - from) ≡ mid = omega arith in
    ap (λ (n : ℕ). take n (drop from xs)) sizes ∙ take-add (mid - from) (to - mid) (drop from xs)
    ∙ ap (λ (rest : List X). take (mid - from) (drop from xs) ++ take (to - mid) rest) (drop-drop (mid - from) from xs ∙ ap (λ (n : ℕ). drop n xs) place)

pub slice_range-more : {X : Type 0} (xs : List X) (from at : ℕ) (d : X) → from ≤ at → at < length xs → slice_range xs from (at + 1) ≡ slice_range xs from at ++ get_or xs at d ∷ []
slice_range-more {X = X} xs from at d before inside =
    let sizes : at + 1 - from ≡ (at - from) + 1 = omega arith in
    let place : from + (at - from) ≡ at = omega arith in
    let within : at - from < length (drop from xs) = omega (arith, length-drop from xs) in
    ap (λ (n : ℕ). take n (drop from xs)) sizes ∙ take_more (drop from xs) (at - from) d within
    ∙ ap (λ (x : X). take (at - from) (drop from xs) ++ x ∷ []) (get_or-drop from xs (at - from) d ∙ ap (λ (n : ℕ). get_or xs n d) place)

pub slice_range-none : {X : Type 0} (xs : List X) (at : ℕ) → slice_range xs at at ≡ []
slice_range-none {X = X} xs at = let none : at - at ≡ zero = omega arith in ap (λ (n : ℕ). take n (drop at xs)) none
