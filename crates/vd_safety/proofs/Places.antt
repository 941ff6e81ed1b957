-- Where a guest's sector stands in a store, by the layout and by the shape.
use Rattle.std.proofs.Common.{◌≡◌, ℕ, suc, ◌+◌, ◌*◌, ◌/◌, ◌%◌, ◌<◌, ◌≤◌, List, refl, sym, ◌∙◌, ap, inl, inr, arith, Option, Some, None, slice_get}
use Rattle.std.proofs.Math.Nat.{mul-le-mul_left, mul-suc, div-add-mod, mod-lt}
use Rattle.std.proofs.lemmas.Bool.{cases_lt}
use Rattle.vd_format.specs.declared.header.Header.{Header}
use Rattle.vd_format.specs.Layouts.{blocks_of, storage_start, place_of_sector}
use Rattle.vd_format.proofs.Places.{in-place}
use Rattle.vd_image.specs.Image.{Layout}
use Rattle.vd_image.specs.Layouts.{layout_of}
use Rattle.vd_passes.specs.declared.shape.Shape.{Shape}
use Rattle.vd_passes.specs.Places.{IsIn, place_in, place_of}
use Rattle.vd_safety.proofs.Updates.{some-inj}

-- a sector lies in its block
pub in-own : (block s : ℕ) → 0 < block → IsIn block (s / block) s
in-own block s some = let e = div-add-mod s block in let m = mod-lt s some in (omega arith, omega arith)

block-after : (block b c : ℕ) → b < c → block * b + block ≤ block * c
block-after block b c less = let k : block * suc b ≤ block * c = mul-le-mul_left block less in let e = mul-suc block b in omega arith

pub same-block : (block b c s : ℕ) → IsIn block b s → IsIn block c s → b ≡ c
same-block block b c s in_b in_c = elim (cases_lt b c) [
  | inl less ↦ absurd (let h = block-after block b c less in omega (arith, h, in_b.1, in_c.0))
  | inr more ↦ elim (cases_lt c b) [
    | inl less ↦ absurd (let h = block-after block c b less in omega (arith, h, in_c.1, in_b.0))
    | inr less ↦ omega (arith, more, less)
  ]
]

module _ (h : Header) (l : Layout) (is : l ≡ layout_of h) where
  pub block-is : (s : ℕ) → l.block_of s ≡ s / h.block
  block-is s = ap (λ (m : Layout). m.block_of s) is

  pub chunk-is : (b : ℕ) → l.chunk_of b ≡ b / h.chunk
  chunk-is b = ap (λ (m : Layout). m.chunk_of b) is

  pub in-block : (b s : ℕ) → 0 < h.block → l.block_of s ≡ b → IsIn h.block b s
  in-block b s some at = let e : s / h.block ≡ b = sym (block-is s) ∙ at in let inside = in-own h.block s some in
      let k = ap (λ (n : ℕ). h.block * n) e in let from = inside.0 in let to = inside.1 in (omega arith, omega arith)

  pub of-block : (b s : ℕ) → 0 < h.block → IsIn h.block b s → l.block_of s ≡ b
  of-block b s some inside = block-is s ∙ same-block h.block (s / h.block) b s (in-own h.block s some) inside

  -- where a sector of block b stands in storage chunk p
  pub place-is : (p b s : ℕ) → 0 < h.chunk → IsIn h.block b s → l.place p s + h.block * b ≡ storage_start h + (p * h.chunk + b % h.chunk) * h.block + s
  place-is p b s some inside =
      let from = inside.0 in
      let to = inside.1 in
      let some_sector : 0 < h.block = omega arith in
      let at : s / h.block ≡ b = same-block h.block (s / h.block) b s (in-own h.block s some_sector) inside in
      let e : l.place p s ≡ place_of_sector (storage_start h) h.chunk h.block p s = ap (λ (m : Layout). m.place p s) is in
      let f = in-place (storage_start h) h.chunk h.block p b s at in
      omega arith

  -- a block of the disk has its sectors in the disk
  pub in-disk : (b s : ℕ) → b < blocks_of h → IsIn h.block b s → s < l.size
  in-disk b s below inside =
      let e : l.size ≡ h.size = ap (λ (m : Layout). m.size) is in
      let f = div-add-mod h.size h.block in
      let g = block-after h.block b (h.size / h.block) below in
      let to = inside.1 in
      omega arith

-- the storage chunk by which a block has its place
pub place-from : (shape : Shape) (chunks : List (Option ℕ)) (b x : ℕ) → place_of shape chunks b ≡ Some x
    → (p : ℕ) × (slice_get chunks (b / shape.chunk) ≡ Some (Some p)) × (x ≡ shape.storage_at + (p * shape.chunk + b % shape.chunk) * shape.block)
unfolding place_of
place-from shape chunks b x is = of (slice_get chunks (b / shape.chunk)) is
  where
    of : (o : Option (Option ℕ)) → place_in shape b o ≡ Some x → (p : ℕ) × (o ≡ Some (Some p)) × (x ≡ shape.storage_at + (p * shape.chunk + b % shape.chunk) * shape.block)
    of None has = cc
    of (Some None) has = cc
    of (Some (Some p)) has = (p, refl, sym (some-inj has))
