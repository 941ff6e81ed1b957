-- A set with one member.
use Rattle.std.proofs.Common.{◌≡◌, ℕ, zero, suc, ◌<◌, ◌↔◌, ⊎_elim, Bool, true, false, List, ◌∷◌, length-set, set, replicate, Option, Some, None, sym, refl, ap, ◌∙◌, arith}
use Rattle.std.specs.List.{slice_get}
use Rattle.std.specs.Option.{IfSome, IsNone}
use Rattle.std.proofs.lemmas.Bool.{cases_order, false≢true}
use Rattle.std.proofs.lemmas.List.{length-replicate}
use Rattle.std.proofs.lemmas.Option.{same_Some}
use Rattle.vd_bits.specs.Marks.{IsLowest, NoneFrom}

abbrev pub single : (pages page : ℕ) → List Bool
single pages page = set (replicate pages false) page true

here : (pages page : ℕ) → page < pages → slice_get (single pages page) page ≡ Some true
here zero page inside = absurd (omega arith)
here (suc pages) zero inside = refl
here (suc pages) (suc page) inside = here pages page (omega arith)

nowhere : (pages at : ℕ) → slice_get (replicate pages false) at ≡ Some true → ⊥
nowhere zero at e = cc
nowhere (suc pages) zero e = false≢true (same_Some false true e)
nowhere (suc pages) (suc at) e = nowhere pages at e

not_before : (pages page at : ℕ) → at < page → slice_get (single pages page) at ≡ Some true → ⊥
not_before zero page at before e = cc
not_before (suc pages) zero at before e = absurd (omega arith)
not_before (suc pages) (suc page) zero before e = false≢true (same_Some false true e)
not_before (suc pages) (suc page) (suc at) before e = not_before pages page at (omega arith) e

pub again : (pages page : ℕ) → set (single pages page) page false ≡ replicate pages false
again zero page = refl
again (suc pages) zero = refl
again (suc pages) (suc page) = ap (λ rest. false ∷ rest) (again pages page)

two : Some false ≡ Some true → ⊥
two e = false≢true (same_Some false true e)

lowest_single : (pages page at : ℕ) → page < pages → IsLowest (single pages page) 0 at → at ≡ page
lowest_single pages page at inside lowest =
    ⊎_elim (λ (same : at ≡ page). same) (λ other.
    ⊎_elim
    (λ (before : at < page). absurd (not_before pages page at before lowest.is_marked))
    (λ (after : page < at). absurd (two (sym (lowest.below page (omega arith) after) ∙ here pages page inside)))
    other)
    (cases_order at page)

not_none : (pages page : ℕ) → page < pages → NoneFrom (single pages page) 0 → ⊥
not_none pages page inside none = two (sym (none page (omega arith) (simp (length-set, length-replicate) inside)) ∙ here pages page inside)

-- what a search gives there
pub single_found : (pages page : ℕ) (found : Option ℕ) → page < pages → IfSome found (IsLowest (single pages page) 0) → (IsNone found ↔ NoneFrom (single pages page) 0) → found ≡ Some page
single_found pages page None inside lowest none = absurd (not_none pages page inside (none.0 refl))
single_found pages page (Some at) inside lowest none = ap (λ x. Some x) (lowest_single pages page at inside lowest)
