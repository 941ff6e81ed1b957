-- The places of the blocks, by the storage chunk of each chunk.
use Rattle.std.proofs.Common.{◌≡◌, ◌≢◌, ℕ, suc, ◌+◌, ◌*◌, ◌/◌, ◌%◌, ◌<◌, ◌≤◌, ◌⊎◌, List, refl, sym, ◌∙◌, ap, inl, inr, arith, Option, Some, None, slice_get}
use Rattle.std.proofs.Math.Nat.{mul-le-mul_left, mul-suc, mul_comm, div-add-mod, mod-lt}
use Rattle.std.proofs.lemmas.Bool.{cases_lt}
use Rattle.vd_table.specs.Tables.{TableState, with_storage, IsOneToOne}
use Rattle.vd_passes.specs.declared.shape.Shape.{Shape}
use Rattle.vd_passes.specs.Places.{place_in, place_of, ArePlaces, KeepsPlaces}
use Rattle.vd_passes.proofs.Lists.{some-inj, get-set-other}

-- the number of a block among those of the storage area
abbrev slot : Shape → (b p : ℕ) → ℕ
slot shape b p = p * shape.chunk + b % shape.chunk

-- A block has a place where its chunk has storage.
pub place-some : (shape : Shape) (chunks : List (Option ℕ)) (b p : ℕ) → slice_get chunks (b / shape.chunk) ≡ Some (Some p) → place_of shape chunks b ≡ Some (shape.storage_at + slot shape b p * shape.block)
unfolding place_of
place-some shape chunks b p has = ap (place_in shape b) has

pub has-place : (shape : Shape) (chunks : List (Option ℕ)) (b p : ℕ) → slice_get chunks (b / shape.chunk) ≡ Some (Some p) → (x : ℕ) × (place_of shape chunks b ≡ Some x)
has-place shape chunks b p has = (shape.storage_at + slot shape b p * shape.block, place-some shape chunks b p has)

place-in : (shape : Shape) (b x : ℕ) (o : Option (Option ℕ)) → place_in shape b o ≡ Some x → (p : ℕ) × (o ≡ Some (Some p)) × (x ≡ shape.storage_at + slot shape b p * shape.block)
place-in shape b x None is = cc
place-in shape b x (Some None) is = cc
place-in shape b x (Some (Some p)) is = (p, refl, sym (some-inj is))

-- and only there
pub place-from : (shape : Shape) (chunks : List (Option ℕ)) (b x : ℕ) → place_of shape chunks b ≡ Some x → (p : ℕ) × (slice_get chunks (b / shape.chunk) ≡ Some (Some p)) × (x ≡ shape.storage_at + slot shape b p * shape.block)
unfolding place_of
place-from shape chunks b x is = place-in shape b x (slice_get chunks (b / shape.chunk)) is

pub place-none : (shape : Shape) (chunks : List (Option ℕ)) (b : ℕ) → slice_get chunks (b / shape.chunk) ≡ Some None → place_of shape chunks b ≡ None
unfolding place_of
place-none shape chunks b none = ap (place_in shape b) none

-- Numbers with this many digits and one more, in order.
scaled : (k m n : ℕ) → m < n → m * k + k ≤ n * k
scaled k m n less = let h : k * suc m ≤ k * n = mul-le-mul_left k less in let e = mul-suc k m in let f = mul_comm k m in let g = mul_comm k n in omega arith

same-slot : (k p q r s : ℕ) → r < k → s < k → p * k + r ≡ q * k + s → (p ≡ q) × (r ≡ s)
same-slot k p q r s r_less s_less same = elim (cases_lt p q) [
  | inl less ↦ absurd (let h = scaled k p q less in omega arith)
  | inr more ↦ elim (cases_lt q p) [
    | inl less ↦ absurd (let h = scaled k q p less in omega arith)
    | inr less ↦ let e : p ≡ q = omega arith in (e, (let f = ap (λ (n : ℕ). n * k) e in omega arith))
  ]
]

same-number : (k a b : ℕ) → a / k ≡ b / k → a % k ≡ b % k → a ≡ b
same-number k a b quotient remainder = let e = div-add-mod a k in let f = div-add-mod b k in let g = ap (λ (n : ℕ). k * n) quotient in omega arith

module _ (shape : Shape) (table : TableState) (one_to_one : IsOneToOne table) (some : 0 < shape.chunk) where
  -- two blocks have one place only where they are one
  one-slot : (b c p q : ℕ) → slice_get table.chunks (b / shape.chunk) ≡ Some (Some p) → slice_get table.chunks (c / shape.chunk) ≡ Some (Some q) → slot shape b p ≡ slot shape c q → b ≡ c
  one-slot b c p q has_b has_c same =
      let parts = same-slot shape.chunk p q (b % shape.chunk) (c % shape.chunk) (mod-lt b some) (mod-lt c some) same in
      same-number shape.chunk b c (one_to_one.apart (b / shape.chunk) (c / shape.chunk) p has_b (has_c ∙ ap (λ (n : ℕ). Some (Some n)) (sym parts.0))) parts.1

  places-apart : (b c x y : ℕ) → place_of shape table.chunks b ≡ Some x → place_of shape table.chunks c ≡ Some y → b ≢ c → (x + shape.block ≤ y) ⊎ (y + shape.block ≤ x)
  places-apart b c x y at_b at_c ne =
      let from_b = place-from shape table.chunks b x at_b in
      let from_c = place-from shape table.chunks c y at_c in
      elim (cases_lt (slot shape b from_b.0) (slot shape c from_c.0)) [
        | inl less ↦ inl (let h = scaled shape.block (slot shape b from_b.0) (slot shape c from_c.0) less in omega (arith, from_b.2, from_c.2, h))
        | inr more ↦ elim (cases_lt (slot shape c from_c.0) (slot shape b from_b.0)) [
          | inl less ↦ inr (let h = scaled shape.block (slot shape c from_c.0) (slot shape b from_b.0) less in omega (arith, from_b.2, from_c.2, h))
          | inr less ↦ absurd (ne (one-slot b c from_b.0 from_c.0 from_b.1 from_c.1 (omega (arith, more, less))))
        ]
      ]

  places-inside : {sectors : ℕ} → shape.storage_at + table.storage * (shape.chunk * shape.block) ≤ sectors → (b x : ℕ) → place_of shape table.chunks b ≡ Some x → (shape.storage_at ≤ x) × (x + shape.block ≤ sectors)
  places-inside {sectors} room b x at =
      let from = place-from shape table.chunks b x at in
      let h : slot shape b from.0 < table.storage * shape.chunk = (let g = scaled shape.chunk from.0 table.storage (one_to_one.inside (b / shape.chunk) from.0 from.1) in let m = mod-lt b some in omega arith) in
      let g = scaled shape.block (slot shape b from.0) (table.storage * shape.chunk) h in
      (omega (arith, from.2), omega (arith, from.2, g, room))

  -- Where no two chunks have one storage chunk, no two blocks have a sector of the store in common.
  pub are-places : {sectors : ℕ} → shape.storage_at + table.storage * (shape.chunk * shape.block) ≤ sectors → ArePlaces shape.block shape.storage_at sectors (place_of shape table.chunks)
  are-places {sectors} room = record { apart = places-apart; inside = places-inside room }

-- The blocks of a chunk that gets storage get their places, and the others keep theirs.
pub extends-given : (shape : Shape) (table : TableState) (chunk p : ℕ) → slice_get table.chunks chunk ≡ Some None → KeepsPlaces (place_of shape table.chunks) (place_of shape (with_storage table chunk p).chunks)
extends-given shape table chunk p none b x at =
    let from = place-from shape table.chunks b x at in
    place-some shape (with_storage table chunk p).chunks b from.0 (get-set-other table.chunks chunk (b / shape.chunk) (Some p) (λ e. had from.0 (sym none ∙ ap (slice_get table.chunks) (sym e) ∙ from.1)) ∙ from.1)
    ∙ ap Some (sym from.2)
  where
    had : (q : ℕ) → ◌≡◌ {A = Option (Option ℕ)} (Some None) (Some (Some q)) → ⊥
    had q e = cc

pub extends-refl : (places : ℕ → Option ℕ) → KeepsPlaces places places
extends-refl places b x at = at

pub extends-then : (places places' places'' : ℕ → Option ℕ) → KeepsPlaces places places' → KeepsPlaces places' places'' → KeepsPlaces places places''
extends-then places places' places'' first second b x at = second b x (first b x at)
