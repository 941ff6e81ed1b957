-- How many pieces a range has at most.
use Rattle.std.proofs.Common.{ℕ, zero, suc, mod-lt, ◌+◌, ◌-◌, ◌*◌, ◌%◌, ◌<◌, ◌≤◌, arith}
use Rattle.std.proofs.Math.Nat.{mul-suc, suc-mul}
use Rattle.std.proofs.lemmas.Nat.{div_below}
use Rattle.vd_law.specs.Needs.{pieces}

at-least : (a b : ℕ) → 0 < a → 0 < b → a + b ≤ a * b + 1
at-least (suc a) (suc b) some_a some_b = let e = suc-mul a (suc b) in let f = mul-suc a b in omega arith
at-least zero b some_a some_b = absurd (omega arith)
at-least (suc a) zero some_a some_b = absurd (omega arith)

-- each piece has a sector
pub pieces-most : (block first count : ℕ) → 0 < block → 0 < count → pieces block first count ≤ count
pieces-most block first count full some =
    let h = at-least count block some full in let m = mod-lt first full in let e = suc-mul count block in
    let less : first % block + count + (block - 1) < suc count * block = omega arith in
    let below = div_below (first % block + count + (block - 1)) block (suc count) full less in omega arith

-- and an empty range has one at most
pub pieces-few : (block first count : ℕ) → 0 < block → pieces block first count ≤ count + 1
pieces-few block first count full =
    let h = at-least (suc count) block (omega arith) full in let m = mod-lt first full in let e = suc-mul (suc count) block in
    let less : first % block + count + (block - 1) < suc (suc count) * block = omega arith in
    let below = div_below (first % block + count + (block - 1)) block (suc (suc count)) full less in omega arith
