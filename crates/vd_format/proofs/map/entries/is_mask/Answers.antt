-- No bit from a place on is set exactly where the number is below that power of two.
use Rattle.std.proofs.Common.{◌≡◌, ℕ, ◌/◌, ◌^◌, ◌<◌, ◌≤◌, sym, ◌∙◌, arith, inl, inr}
use Rattle.std.specs.Prelude.{nat_eq, nat_lt}
use Rattle.std.proofs.lemmas.Bool.{cases_lt, eq-eqb, ne_eqb, lt-ltb, le-ltb}
use Rattle.std.proofs.lemmas.Nat.{pow_pos}
use Rattle.std.proofs.Math.Nat.{div-eq_of_lt, le-div_iff_mul-le}
use Rattle.vd_format.proofs.map.entries.is_mask.Goals as goal

none_left : (m k : ℕ) → 0 < k → nat_eq (m / k) 0 ≡ nat_lt m k
none_left m k some =
    elim (cases_lt m k) [
      | inl below ↦ eq-eqb (m / k) 0 (div-eq_of_lt below) ∙ sym (lt-ltb m k below)
      | inr above ↦ (let one : 1 ≤ m / k = (le-div_iff_mul-le {k = k} {x = 1} {y = m} some).1 (omega arith) in ne_eqb (m / k) 0 (λ none. omega (arith, one, none)) ∙ sym (le-ltb m k above))
    ]

pub returns-else-blocks-eq64 : goal.returns-else-blocks-eq64
returns-else-blocks-eq64 c = none_left c.args.mask (2 ^ c.args.blocks) (pow_pos c.args.blocks)
