-- What keeps a storage chunk from a chunk, and the lowest that does.
use Rattle.std.proofs.Common.{◌≡◌, ℕ, min, ◌<◌, ◌≤◌, ⊎_elim, inl, inr, Bool, List, length, Option, None, Some, sym, ◌∙◌, refl, arith}
use Rattle.std.specs.List.{slice_get}
use Rattle.std.proofs.lemmas.Bool.{cases_lt}
use Rattle.vd_table.specs.Tables.{IsFirstStorageHindrance}
use Rattle.vd_table.specs.TableFields.{IsLinked}
use Rattle.vd_table.proofs.Links.{none_some, same_some}

module _ (storage owners : List (Option ℕ)) (free : List Bool) (l : IsLinked storage owners free) (chunk p : ℕ) where
  -- another chunk has p, and this one has none
  pub other_first : (owner : ℕ) → slice_get storage chunk ≡ Some None → slice_get owners p ≡ Some (Some owner) → IsFirstStorageHindrance (record { chunks = storage; storage = length owners }) chunk p owner
  other_first owner none by = record {
    hinders = inl ((λ e. none_some (sym none ∙ rw e at (l.owned owner p by))), l.owned owner p by);
    first = λ other less h. elim h [
      | inl k ↦ absurd (omega (arith, less, same_some (sym (l.owner other p k.1) ∙ by)))
      | inr k ↦ none_some (sym none ∙ k.1.2)
    ];
  }

  -- nobody has p, and this chunk has another
  pub self_first : (q : ℕ) → slice_get storage chunk ≡ Some (Some q) → slice_get owners p ≡ Some None → IsFirstStorageHindrance (record { chunks = storage; storage = length owners }) chunk p chunk
  self_first q some none = record {
    hinders = inr (refl, (q, (λ e. none_some (sym none ∙ l.owner chunk p (rw e at some))), some));
    first = λ other less h. elim h [
      | inl k ↦ none_some (sym none ∙ l.owner other p k.1)
      | inr k ↦ absurd (omega (arith, less, k.0))
    ];
  }

  -- another has p, and this chunk has another
  pub lower_first : (q owner : ℕ) → slice_get storage chunk ≡ Some (Some q) → slice_get owners p ≡ Some (Some owner) → (owner ≡ chunk → ⊥) → IsFirstStorageHindrance (record { chunks = storage; storage = length owners }) chunk p (min owner chunk)
  lower_first q owner some by apart = record {
    hinders = ⊎_elim
        (λ (less : owner < chunk). let e : min owner chunk ≡ owner = omega arith in rw e (inl (apart, l.owned owner p by)))
        (λ (more : chunk ≤ owner). let e : min owner chunk ≡ chunk = omega arith in rw e (inr (refl, (q, (λ same. apart (same_some (sym by ∙ l.owner chunk p (rw same at some)))), some))))
        (cases_lt owner chunk);
    first = λ other less h. elim h [
      | inl k ↦ absurd (omega (arith, less, same_some (sym (l.owner other p k.1) ∙ by)))
      | inr k ↦ absurd (omega (arith, less, k.0))
    ];
  }
