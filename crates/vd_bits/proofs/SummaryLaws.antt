-- A set, and the words that say which of its runs of `span` numbers have a member.
use Rattle.std.proofs.Common.{◌≡◌, ◌≢◌, ℕ, ◌+◌, ◌*◌, ◌/◌, ◌<◌, ◌≤◌, ⊎_elim, Bool, true, false, List, length, get_or, set, replicate, Some, sym, ap, ◌∙◌, arith, length-set, subst}
use Rattle.std.specs.List.{slice_get}
use Rattle.std.proofs.Math.Nat.{mul_comm, mul-div_cancel_left, mul-le-mul_left}
use Rattle.std.proofs.lemmas.Bool.{cases_eq, cases_Bool, false≢true}
use Rattle.std.proofs.lemmas.List.{length-replicate}
use Rattle.std.proofs.lemmas.Nat.{div_below}
use Rattle.std.proofs.lemmas.Option.{same_Some, slice_get-get_or, slice_get_within}
use Rattle.vd_lists.proofs.Changes.{slice_set_inside, slice_set_other, slice_set_unchanged}
use Rattle.vd_lists.proofs.Places.{slice_get_replicate}
use Rattle.vd_bits.specs.Summaries.{Summarizes}

-- what is not marked is not
pub unmarked : (s : List Bool) (i : ℕ) → i < length s → (slice_get s i ≡ Some true → ⊥) → slice_get s i ≡ Some false
unmarked s i h not_true =
    let e = slice_get-get_or s i false h in
    ⊎_elim (λ (t : get_or s i false ≡ true). absurd (not_true (e ∙ ap (λ b. Some b) t))) (λ (f : get_or s i false ≡ false). e ∙ ap (λ b. Some b) f) (cases_Bool (get_or s i false))

pub not_both : (s : List Bool) (i : ℕ) → slice_get s i ≡ Some false → slice_get s i ≡ Some true → ⊥
not_both s i f t = false≢true (same_Some false true (sym f ∙ t))

-- where there are enough words, each number has its word
pub word_inside : (span n m i : ℕ) → 0 < span → n ≤ span * m → i < n → i / span < m
word_inside span n m i some enough h = div_below i span m some (omega (arith, mul_comm span m, enough, h))

module _ (span : ℕ) (some : 0 < span) (low high : List Bool) (s : Summarizes span low high) where
  -- what stands in a word without members is not marked
  pub by_word : (i : ℕ) → i < length low → slice_get high (i / span) ≡ Some false → slice_get low i ≡ Some false
  by_word i inside f = unmarked low i inside (λ m. not_both high (i / span) f (s.up i m))

  pub has_word : (i : ℕ) → i < length low → i / span < length high
  has_word i inside = word_inside span (length low) (length high) i some s.enough inside

  module _ (i : ℕ) (h : i < length low) where
    -- a number is marked
    pub marked-summarizes : Summarizes span (set low i true) (set high (i / span) true)
    marked-summarizes = record {
      enough = rw (length-set, length-set) s.enough;
      needed = rw (length-set, length-set) s.needed;
      up = λ j m. ⊎_elim
          (λ (e : j / span ≡ i / span). rw e (slice_set_inside high (i / span) true (has_word i h)))
          (λ (ne : j / span ≢ i / span). slice_set_other high (i / span) (j / span) true ne ∙ s.up j (sym (slice_set_other low i j true (λ e. ne (ap (λ k. k / span) e))) ∙ m))
          (cases_eq (j / span) (i / span));
      down = λ word m. ⊎_elim
          (λ (e : word ≡ i / span). let there : (j : ℕ) × (j / span ≡ word) × (slice_get (set low i true) j ≡ Some true) = (i, sym e, slice_set_inside low i true h) in there)
          (λ (ne : word ≢ i / span).
          let w = s.down word (sym (slice_set_other high (i / span) word true ne) ∙ m) in
          let there : (j : ℕ) × (j / span ≡ word) × (slice_get (set low i true) j ≡ Some true) = (w.0, w.1, slice_set_other low i w.0 true (λ e. ne (sym w.1 ∙ ap (λ k. k / span) e)) ∙ w.2) in there)
          (cases_eq word (i / span));
    }

    -- whose word is already up
    pub shown-summarizes : slice_get high (i / span) ≡ Some true → Summarizes span (set low i true) high
    shown-summarizes shown = subst (λ (words : List Bool). Summarizes span (set low i true) words) (slice_set_unchanged high (i / span) true shown) marked-summarizes

    -- a number is no longer marked
    was_marked : (j : ℕ) → slice_get (set low i false) j ≡ Some true → (j ≢ i) × (slice_get low j ≡ Some true)
    was_marked j m =
        ⊎_elim
        (λ (e : j ≡ i). absurd (not_both (set low i false) i (slice_set_inside low i false h) (rw e at m)))
        (λ (ne : j ≢ i). let both : (j ≢ i) × (slice_get low j ≡ Some true) = (ne, sym (slice_set_other low i j false ne) ∙ m) in both)
        (cases_eq j i)

    -- and another one of its word is
    pub kept-summarizes : (k : ℕ) → slice_get (set low i false) k ≡ Some true → k / span ≡ i / span → Summarizes span (set low i false) high
    kept-summarizes k there same = record {
      enough = rw length-set s.enough;
      needed = rw length-set s.needed;
      up = λ j m. s.up j (was_marked j m).1;
      down = λ word m.
          let w = s.down word m in
          ⊎_elim
          (λ (e : w.0 ≡ i). let other : (j : ℕ) × (j / span ≡ word) × (slice_get (set low i false) j ≡ Some true) = (k, same ∙ (ap (λ n. n / span) (sym e) ∙ w.1), there) in other)
          (λ (ne : w.0 ≢ i). let it : (j : ℕ) × (j / span ≡ word) × (slice_get (set low i false) j ≡ Some true) = (w.0, w.1, slice_set_other low i w.0 false ne ∙ w.2) in it)
          (cases_eq w.0 i);
    }

    -- and none of its word is
    pub emptied-summarizes : ((k : ℕ) → k / span ≡ i / span → slice_get (set low i false) k ≡ Some true → ⊥) → Summarizes span (set low i false) (set high (i / span) false)
    emptied-summarizes none = record {
      enough = rw (length-set, length-set) s.enough;
      needed = rw (length-set, length-set) s.needed;
      up = λ j m. slice_set_other high (i / span) (j / span) false (λ e. none j e m) ∙ s.up j (was_marked j m).1;
      down = λ word m.
          ⊎_elim
          (λ (e : word ≡ i / span). absurd (not_both (set high (i / span) false) (i / span) (slice_set_inside high (i / span) false (has_word i h)) (rw e at m)))
          (λ (ne : word ≢ i / span).
          let w = s.down word (sym (slice_set_other high (i / span) word false ne) ∙ m) in
          let it : (j : ℕ) × (j / span ≡ word) × (slice_get (set low i false) j ≡ Some true) = (w.0, w.1, slice_set_other low i w.0 false (λ e. ne (sym w.1 ∙ ap (λ k. k / span) e)) ∙ w.2) in it)
          (cases_eq word (i / span));
    }

-- all numbers are marked, or none is
module _ (span n m : ℕ) (some : 0 < span) (enough : n ≤ span * m) (needed : span * m < n + span) where
  pub full-summarizes : Summarizes span (replicate n true) (replicate m true)
  full-summarizes = record {
    enough = rw (length-replicate, length-replicate) enough;
    needed = rw (length-replicate, length-replicate) needed;
    up = λ i h. slice_get_replicate m true (i / span) (word_inside span n m i some enough (omega (arith, slice_get_within (replicate n true) i true h, length-replicate n true)));
    down = λ word h.
        let inside : word + 1 ≤ m = omega (arith, slice_get_within (replicate m true) word true h, length-replicate m true) in
        let it : (i : ℕ) × (i / span ≡ word) × (slice_get (replicate n true) i ≡ Some true) =
        (span * word, mul-div_cancel_left word some, slice_get_replicate n true (span * word) (omega (arith, mul-le-mul_left span inside, needed))) in
        it;
  }

  pub empty-summarizes : Summarizes span (replicate n false) (replicate m false)
  empty-summarizes = record {
    enough = rw (length-replicate, length-replicate) enough;
    needed = rw (length-replicate, length-replicate) needed;
    up = λ i h. absurd (not_both (replicate n false) i (slice_get_replicate n false i (omega (arith, slice_get_within (replicate n false) i true h, length-replicate n false))) h);
    down = λ word h. absurd (not_both (replicate m false) word (slice_get_replicate m false word (omega (arith, slice_get_within (replicate m false) word true h, length-replicate m false))) h);
  }
