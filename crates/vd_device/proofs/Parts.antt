-- What was read is a part of what is held.
use Rattle.std.proofs.Common.{ℕ, zero, suc, ◌≡◌, ◌+◌, List, [], ◌∷◌, length, take, drop, Some, None, refl, ap, sym, ◌∙◌, arith}
use Rattle.std.specs.Prelude.{slice_get}
use Rattle.vd_law.specs.declared.entry.Sector.{Sector}
use Rattle.vd_law.proofs.Sectors.{sector_in-at}
use Rattle.vd_device.specs.Calls.{IsHeld}
use Rattle.vd_device.specs.Quiet.{sectors_from}

front_of : {X : Type 0} (out held : List X) → ((i : ℕ) (v : X) → slice_get out i ≡ Some v → slice_get held i ≡ Some v) → out ≡ take (length out) held
front_of [] held at = refl
front_of (x ∷ out) [] at = let h : None ≡ Some x = at 0 x refl in cc
front_of (x ∷ out) (y ∷ held) at =
    let h : Some y ≡ Some x = at 0 x refl in let e : y ≡ x = cc in
    let t : out ≡ take (length out) held = front_of out held (λ i v g. at (suc i) v g) in cc

-- where each of its places is one of the held list's, it is a part of that
pub part_of : {X : Type 0} (first : ℕ) (out held : List X) → ((i : ℕ) (v : X) → slice_get out i ≡ Some v → slice_get held (first + i) ≡ Some v) → out ≡ take (length out) (drop first held)
part_of zero out held at = front_of out held (λ i v g. ap (slice_get held) (omega arith) ∙ at i v g)
part_of (suc first) [] held at = refl
part_of (suc first) (x ∷ out) [] at = let h : None ≡ Some x = at 0 x refl in cc
part_of (suc first) (x ∷ out) (y ∷ held) at = part_of first (x ∷ out) held (λ i v g. (let e : suc first + i ≡ suc (first + i) = omega arith in ap (slice_get (y ∷ held)) (sym e) ∙ at i v g))

pub held_part : (first : ℕ) (out held : List Sector) → IsHeld first out held → out ≡ sectors_from held first (length out)
held_part first out held at = part_of first out held (λ i v g. at (first + i) v (sector_in-at first i out ∙ g))
