-- Numbers cut into blocks and rows.
use Rattle.std.proofs.Common.{ℕ, suc, ◌+◌, ◌-◌, ◌*◌, ◌/◌, ◌<◌, ◌≤◌, inl, inr, arith}
use Rattle.std.proofs.Math.Nat.{mul-le-mul_left, mul-suc, mul_comm}
use Rattle.std.proofs.lemmas.Bool.{cases_lt}
use Rattle.std.proofs.lemmas.Nat.{div_below, mod_below, div-add-mod', mul-add-lt}

-- a block that begins below the end of so many blocks is one of them
pub block_below_end : (block b blocks s : ℕ) → block * b ≤ s → s < block * blocks → b < blocks
block_below_end block b blocks s from to = elim (cases_lt b blocks) [
  | inl less ↦ less
  | inr more ↦ absurd (let h : block * blocks ≤ block * b = mul-le-mul_left block more in omega arith)
]

-- a block ends where a later one begins, or before
pub block_before : (block b c : ℕ) → b < c → block * b + block ≤ block * c
block_before block b c less = let h : block * suc b ≤ block * c = mul-le-mul_left block less in let e = mul-suc block b in omega arith

-- a place of a row is one of all rows
pub row_below : (p n r w : ℕ) → p < n → r < w → p * w + r < n * w
row_below p n r w below less = let h = mul-add-lt p w r n below less in let e = mul_comm w n in omega arith

-- as many parts as hold so many
pub enough_parts : (n k : ℕ) → 0 < k → n ≤ (n + k - 1) / k * k
enough_parts n k some =
    let whole = div-add-mod' (n + k - 1) k in
    let rest = mod_below (n + k - 1) k some in
    omega arith

-- and each number below has its part
pub part_below : (n k b : ℕ) → 0 < k → b < n → b / k < (n + k - 1) / k
part_below n k b some below =
    let all = enough_parts n k some in
    let less : b < (n + k - 1) / k * k = omega arith in
    div_below b k ((n + k - 1) / k) some less
