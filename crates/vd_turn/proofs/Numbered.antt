-- The passes by their numbers.
use Rattle.std.proofs.Common.{◌≡◌, ℕ, ◌+◌, ◌<◌, List, [], ◌∷◌, map, length, get_or, sym, refl, ap, ◌∙◌, arith}
use Rattle.std.specs.List.{All, Contains, range_with_len}
use Rattle.std.proofs.lemmas.List.{get_or-map, length-map}
use Rattle.std.proofs.lemmas.List.FromFn.{get_or-range_with_len, length-range_with_len}
use Rattle.std.proofs.lemmas.List.Elements.{All-nil, All-cons}
use Rattle.atomic_table.specs.Seated.{TableId}
use Rattle.vd_turn.specs.Values.{PassValue}
use Rattle.vd_turn.specs.Passes.{pass_number, resting}

module _ {V : Type 0} where
  pub numbers_of : (turn : TableId) (x : V) (numbers : List ℕ) → map pass_number (map (resting turn x) numbers) ≡ numbers
  numbers_of turn x [] = refl
  numbers_of turn x (n ∷ ns) = ap (λ l. n ∷ l) (numbers_of turn x ns)

  pub each_rests : (turn : TableId) (x : V) (numbers : List ℕ) (P : PassValue V → Type 0) → ((n : ℕ) → P (resting turn x n)) → All P (map (resting turn x) numbers)
  each_rests turn x [] P h = All-nil P
  each_rests turn x (n ∷ ns) P h = All-cons P (resting turn x n) (map (resting turn x) ns) (h n) (each_rests turn x ns P h)

  -- passes that were numbered by their place, and came back in their places, are all there
  pub all_there : (before after : List (PassValue V)) (count : ℕ) → map pass_number before ≡ range_with_len 0 count → length after ≡ length before
      → ((i : ℕ) (d : PassValue V) → i < length before → (get_or after i d).number ≡ (get_or before i d).number) → (n : ℕ) → n < count → Contains (map pass_number after) n
  all_there before after count numbered same kept n low = let counted : length before ≡ count = sym (length-map before pass_number) ∙ (ap length numbered ∙ length-range_with_len 0 count) in
      let there : n < length before = omega (arith, counted) in let there' : n < length (map pass_number after) = omega (arith, length-map after pass_number, counted) in
      (n, there', from after (omega (arith, counted)) refl)
    where
      from : (l : List (PassValue V)) → n < length l → l ≡ after → get_or (map pass_number after) n n ≡ n
      from [] h e = absurd (omega arith)
      from (d ∷ l) h e = let counted : length before ≡ count = sym (length-map before pass_number) ∙ (ap length numbered ∙ length-range_with_len 0 count) in
          let there : n < length before = omega (arith, counted) in let inside : n < length after = omega (arith, counted) in let z : 0 + n ≡ n = omega arith in
          get_or-map pass_number after n d n inside ∙ (kept n d there ∙ (sym (get_or-map pass_number before n d 0 there) ∙ (ap (λ l. get_or l n 0) numbered ∙ (get_or-range_with_len 0 count n 0 low ∙ z))))
