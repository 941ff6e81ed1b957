-- Tables whose fields are linked.
use Rattle.std.proofs.Common.{◌≡◌, ◌≢◌, ℕ, ◌+◌, ◌^◌, ◌<◌, ◌⊎◌, ⊎_elim, inl, inr, ◌↔◌, Bool, true, false, cond, List, length, get_or, set, replicate, Option, None, Some, is_some, sym, ap, ◌∙◌, refl, arith, length-set}
use Rattle.std.specs.List.{slice_get, count_by}
use Rattle.std.proofs.Math.Nat.{mul-zero}
use Rattle.std.proofs.lemmas.Bool.{cases_eq, false≢true}
use Rattle.std.proofs.lemmas.List.{length-replicate}
use Rattle.std.proofs.lemmas.List.Folds.{sum_by-replicate}
use Rattle.std.proofs.lemmas.List.Sums.{sum_by-set}
use Rattle.std.proofs.lemmas.Option.{same_Some, slice_get-get_or, slice_get_within, get_or_from_slice_get}
use Rattle.vd_lists.proofs.Changes.{slice_set_inside, slice_set_other}
use Rattle.vd_lists.proofs.Places.{slice_get_replicate}
use Rattle.vd_bits.specs.Marks.{IsLowest, NoneFrom}
use Rattle.vd_bits.proofs.MarkedLaws.{is_counted}
use Rattle.vd_bits.proofs.SetLaws.{count-set_false, count-full, count-none}
use Rattle.vd_table.specs.Tables.{IsOneToOne, IsLeastFree}
use Rattle.vd_table.specs.TableFields.{IsLinked}

pub none_some : {x : ℕ} → ◌≡◌ {A = Option (Option ℕ)} (Some None) (Some (Some x)) → ⊥
none_some e = cc

pub same_some : {x y : ℕ} → ◌≡◌ {A = Option (Option ℕ)} (Some (Some x)) (Some (Some y)) → x ≡ y
same_some e = cc

-- a place of a list of options is without one, or has one
pub cases_place : (xs : List (Option ℕ)) (i : ℕ) → i < length xs → (slice_get xs i ≡ Some None) ⊎ ((x : ℕ) × (slice_get xs i ≡ Some (Some x)))
cases_place xs i h = of_option (get_or xs i None) (slice_get-get_or xs i None h) where
  of_option : (o : Option ℕ) → slice_get xs i ≡ Some o → (slice_get xs i ≡ Some None) ⊎ ((x : ℕ) × (slice_get xs i ≡ Some (Some x)))
  of_option None e = inl e
  of_option (Some x) e = inr (x, e)

-- one more chunk has storage
pub count-set_some : (xs : List (Option ℕ)) (i p : ℕ) → slice_get xs i ≡ Some None → count_by is_some (set xs i (Some p)) ≡ count_by is_some xs + 1
count-set_some xs i p e =
    let was : cond {A = ℕ} (is_some (get_or xs i None)) 1 0 ≡ 0 = ap (λ (o : Option ℕ). cond {A = ℕ} (is_some o) 1 0) (get_or_from_slice_get xs i None None e) in
    omega (arith, sum_by-set (λ (o : Option ℕ). cond {A = ℕ} (is_some o) 1 0) xs i (Some p) None (slice_get_within xs i None e))

module _ (storage owners : List (Option ℕ)) (free : List Bool) (l : IsLinked storage owners free) where
  pub one_to_one : IsOneToOne (record { chunks = storage; storage = length owners })
  one_to_one = record {
    apart = λ a b p ha hb. same_some (sym (l.owner a p ha) ∙ l.owner b p hb);
    inside = λ chunk p h. slice_get_within owners p (Some chunk) (l.owner chunk p h);
  }

  -- all are used exactly where none is free
  pub all_used : NoneFrom free 0 → count_by is_some storage ≡ length owners
  all_used none = omega (arith, l.all, count-none free none)

  pub not_all_used : (p : ℕ) → slice_get free p ≡ Some true → count_by is_some storage ≡ length owners → ⊥
  not_all_used p h e = absurd (omega (arith, l.all, is_counted free p (slice_get_within free p true h) h))

  pub least_free : (p : ℕ) → IsLowest free 0 p → IsLeastFree (record { chunks = storage; storage = length owners }) p
  least_free p h = record {
    inside = omega (arith, slice_get_within free p true h.is_marked, l.each);
    free = λ chunk has. none_some (sym ((l.unowned p).0 h.is_marked) ∙ l.owner chunk p has);
    below = λ q less.
        ⊎_elim
        (λ (none : slice_get owners q ≡ Some None). absurd (false≢true (same_Some false true (sym (h.below q (omega arith) less) ∙ (l.unowned q).1 none))))
        (λ (some : (chunk : ℕ) × (slice_get owners q ≡ Some (Some chunk))). let has : (chunk : ℕ) × (slice_get storage chunk ≡ Some (Some q)) = (some.0, l.owned some.0 q some.1) in has)
        (cases_place owners q (omega (arith, slice_get_within free p true h.is_marked, l.each)));
  }

  module _ (chunk p : ℕ) (none : slice_get storage chunk ≡ Some None) (inside : p < length owners) (nobody : (other : ℕ) → slice_get storage other ≡ Some (Some p) → ⊥) where
    unowned : slice_get owners p ≡ Some None
    unowned = ⊎_elim (λ (e : slice_get owners p ≡ Some None). e) (λ (some : (other : ℕ) × (slice_get owners p ≡ Some (Some other))). absurd (nobody some.0 (l.owned some.0 p some.1))) (cases_place owners p inside)

    is_free : slice_get free p ≡ Some true
    is_free = (l.unowned p).1 unowned

    chunk_inside : chunk < length storage
    chunk_inside = slice_get_within storage chunk None none

    new_owner : (c q : ℕ) → slice_get (set storage chunk (Some p)) c ≡ Some (Some q) → slice_get (set owners p (Some chunk)) q ≡ Some (Some c)
    new_owner c q h =
        ⊎_elim
        (λ (e : c ≡ chunk). let same : p ≡ q = same_some (sym (slice_set_inside storage chunk (Some p) chunk_inside) ∙ rw e at h) in rw (← same, e) (slice_set_inside owners p (Some chunk) inside))
        (λ (ne : c ≢ chunk).
        let was : slice_get storage c ≡ Some (Some q) = sym (slice_set_other storage chunk c (Some p) ne) ∙ h in
        slice_set_other owners p q (Some chunk) (λ e. nobody c (rw e at was)) ∙ l.owner c q was)
        (cases_eq c chunk)

    new_owned : (c q : ℕ) → slice_get (set owners p (Some chunk)) q ≡ Some (Some c) → slice_get (set storage chunk (Some p)) c ≡ Some (Some q)
    new_owned c q h =
        ⊎_elim
        (λ (e : q ≡ p). let same : chunk ≡ c = same_some (sym (slice_set_inside owners p (Some chunk) inside) ∙ rw e at h) in rw (← same, e) (slice_set_inside storage chunk (Some p) chunk_inside))
        (λ (ne : q ≢ p).
        let was : slice_get owners q ≡ Some (Some c) = sym (slice_set_other owners p q (Some chunk) ne) ∙ h in
        let has = l.owned c q was in
        slice_set_other storage chunk c (Some p) (λ e. none_some (sym none ∙ rw e at has)) ∙ has)
        (cases_eq q p)

    new_unowned : (q : ℕ) → (slice_get (set free p false) q ≡ Some true) ↔ (slice_get (set owners p (Some chunk)) q ≡ Some None)
    new_unowned q =
        ⊎_elim
        (λ (e : q ≡ p). rw e (
          (λ h. absurd (false≢true (same_Some false true (sym (slice_set_inside free p false (omega (arith, l.each))) ∙ h)))),
          (λ h. absurd (none_some (sym h ∙ slice_set_inside owners p (Some chunk) inside))),
        ))
        (λ (ne : q ≢ p). rw (slice_set_other free p q false ne, slice_set_other owners p q (Some chunk) ne) (l.unowned q))
        (cases_eq q p)

    pub given-linked : IsLinked (set storage chunk (Some p)) (set owners p (Some chunk)) (set free p false)
    given-linked = record {
      owner = new_owner;
      owned = new_owned;
      each = rw (length-set, length-set) l.each;
      unowned = new_unowned;
      all = rw length-set (omega (arith, l.all, count-set_false free p (omega (arith, l.each)) is_free, count-set_some storage chunk p none));
      few = rw length-set l.few;
      short = rw length-set l.short;
    }

not_some : (n i x : ℕ) → slice_get (replicate {A = Option ℕ} n None) i ≡ Some (Some x) → ⊥
not_some n i x h = none_some (sym (slice_get_replicate n None i (omega (arith, slice_get_within (replicate n None) i (Some x) h, length-replicate {A = Option ℕ} n None))) ∙ h)

-- without any storage given
pub empty-linked : (chunks storage : ℕ) → chunks < 2 ^ 32 → storage < 2 ^ 32 → IsLinked (replicate chunks None) (replicate storage None) (replicate storage true)
empty-linked chunks storage short few = record {
  owner = λ chunk p h. absurd (not_some chunks chunk p h);
  owned = λ chunk p h. absurd (not_some storage p chunk h);
  each = rw (length-replicate, length-replicate) refl;
  unowned = λ p. (
    λ h. slice_get_replicate storage None p (omega (arith, slice_get_within (replicate storage true) p true h, length-replicate storage true)),
    λ h. slice_get_replicate storage true p (omega (arith, slice_get_within (replicate storage None) p None h, length-replicate {A = Option ℕ} storage None)),
  );
  all = omega (arith, count-full storage, sum_by-replicate (λ (o : Option ℕ). cond {A = ℕ} (is_some o) 1 0) chunks None, mul-zero chunks, length-replicate {A = Option ℕ} storage None);
  few = rw length-replicate few;
  short = rw length-replicate short;
}
