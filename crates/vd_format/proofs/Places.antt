-- Where blocks and sectors stand in the storage.
use Rattle.std.proofs.Common.{◌≡◌, ℕ, zero, suc, ◌+◌, ◌-◌, ◌*◌, ◌/◌, ◌%◌, ◌<◌, ◌≤◌, ap, ◌∙◌, arith}
use Rattle.std.proofs.Math.Arith.{mod-mul}
use Rattle.std.proofs.Math.Nat.{mul-suc, mul_comm, mul_assoc, add-mul, div-add-mod}
use Rattle.vd_format.specs.Layouts.{place_of_block, place_of_sector}

-- to multiply by at least one doesn't lower
pub at-most-product : (n m : ℕ) → 0 < m → n ≤ n * m
at-most-product n zero some = absurd (omega arith)
at-most-product n (suc m) some = let e = mul-suc n m in omega arith

-- a sector of block b stands in the block's place
pub in-place : (start chunk block p b s : ℕ) → s / block ≡ b → place_of_block start chunk block p b + (s - block * b) ≡ place_of_sector start chunk block p s
in-place start chunk block p b s is =
    let same = ap (λ (n : ℕ). place_of_block start chunk block p n) is in
    let row = ap (λ (n : ℕ). block * n) is in
    let parts = div-add-mod s block in
    omega arith

-- and among the sectors of its storage chunk as the sector among those of its chunk
pub in-storage-chunk : (start chunk block p s : ℕ) → 0 < chunk → 0 < block → place_of_sector start chunk block p s ≡ start + (p * (block * chunk) + s % (block * chunk))
in-storage-chunk start chunk block p s some_chunk some_block =
    let digits : s % (block * chunk) ≡ s / block % chunk * block + s % block = ap (λ (n : ℕ). s % n) (mul_comm block chunk) ∙ mod-mul s some_chunk some_block in
    let spread = add-mul (p * chunk) (s / block % chunk) block in
    let row : p * chunk * block ≡ p * (block * chunk) = mul_assoc p chunk block ∙ ap (λ (n : ℕ). p * n) (mul_comm chunk block) in
    omega arith
