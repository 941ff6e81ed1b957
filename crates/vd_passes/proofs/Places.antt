-- Blocks, and the places of blocks in the store.
use Rattle.std.proofs.Common.{◌≡◌, ℕ, suc, ◌+◌, ◌*◌, ◌/◌, ◌<◌, ◌≤◌, inl, inr, arith, mod-lt, div-lt_iff_lt-mul, mul_comm, Option, Some}
use Rattle.std.proofs.Math.Nat.{mul-le-mul_left, mul-suc, div-add-mod}
use Rattle.std.proofs.lemmas.Bool.{cases_eq, cases_lt}
use Rattle.vd_passes.specs.declared.shape.Shape.{Shape}
use Rattle.vd_passes.specs.declared.pass.Pass.{Pass}
use Rattle.vd_passes.specs.Places.{IsIn, ArePlaces}
use Rattle.vd_passes.specs.Passes.{IsPiece}

pub block-after : (block b c : ℕ) → b < c → block * b + block ≤ block * c
block-after block b c less = let k : block * suc b ≤ block * c = mul-le-mul_left block less in let e = mul-suc block b in omega arith

pub same-block : (block b c s : ℕ) → IsIn block b s → IsIn block c s → b ≡ c
same-block block b c s in_b in_c = elim (cases_lt b c) [
  | inl less ↦ absurd (let h = block-after block b c less in omega (arith, h, in_b.1, in_c.0))
  | inr more ↦ elim (cases_lt c b) [
    | inl less ↦ absurd (let h = block-after block c b less in omega (arith, h, in_c.1, in_b.0))
    | inr less ↦ omega (arith, more, less)
  ]
]

-- each sector lies in a block
pub block-of : (block s : ℕ) → 0 < block → IsIn block (s / block) s
block-of block s some = let e = div-add-mod s block in let m = mod-lt s some in (omega arith, omega arith)

-- and one of a disk of so many blocks in one of these
pub block-below : (block blocks s : ℕ) → 0 < block → s < block * blocks → s / block < blocks
block-below block blocks s some inside = (div-lt_iff_lt-mul some).1 (rw (mul_comm blocks block) inside)

pub in-piece : (shape : Shape) (p : Pass) (s : ℕ) → IsPiece shape p → p.first + p.done ≤ s → s < p.first + p.done + p.piece → IsIn shape.block p.block s
in-piece shape p s piece from to = let a = piece.from in let b = piece.to in (omega arith, omega arith)

-- blocks whose places have a sector in common are one
pub same-place : {block low sectors : ℕ} {places : ℕ → Option ℕ} → ArePlaces block low sectors places → (b c x y a : ℕ) → places b ≡ Some x → places c ≡ Some y
    → x ≤ a → a < x + block → y ≤ a → a < y + block → b ≡ c
same-place {block} {low} {sectors} {places} are b c x y a at_b at_c x_from x_to y_from y_to = elim (cases_eq b c) [
  | inl e ↦ e
  | inr ne ↦ absurd (elim (are.apart b c x y at_b at_c ne) [ inl before ↦ omega (arith, before, x_to, y_from) | inr past ↦ omega (arith, past, y_to, x_from) ])
]
