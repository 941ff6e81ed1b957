-- What giving storage to each chunk of a run keeps and changes.
use Rattle.std.proofs.Common.{◌≡◌, ◌≢◌, ◌⊎◌, ⊎_elim, inl, inr, ℕ, zero, suc, ◌+◌, ◌-◌, ◌<◌, ◌≤◌, cond, length, take, drop, set, Option, None, Some, is_none, refl, sym, ◌∙◌, add-one, arith, length-set}
use Rattle.std.specs.List.{slice_get}
use Rattle.std.proofs.Math.Seq.{drop-cons}
use Rattle.std.proofs.lemmas.Bool.{cases_eq, cases_lt}
use Rattle.std.proofs.lemmas.List.{drop-set-lt}
use Rattle.std.proofs.lemmas.List.Sums.{sum_by-cons}
use Rattle.std.proofs.lemmas.Option.{slice_get_within, get_or_from_slice_get}
use Rattle.vd_lists.proofs.Changes.{slice_set_inside, slice_set_other}
use Rattle.vd_table.specs.Tables.{TableState, Has, used_chunks, with_storage, IsOneToOne, IsLeastFree}
use Rattle.vd_table.specs.Runs.{lacking, TakesOne, TakesRun}
use Rattle.vd_table.proofs.Links.{none_some, same_some, count-set_some}

-- the first of the run, and the rest
lacking-first : (t : TableState) (chunk n : ℕ) (place : Option ℕ) → slice_get t.chunks chunk ≡ Some place → lacking t chunk (suc n) ≡ cond {A = ℕ} (is_none place) 1 0 + lacking t (chunk + 1) n
lacking-first t chunk n place e = rw (drop-cons t.chunks chunk None (slice_get_within t.chunks chunk place e), get_or_from_slice_get t.chunks chunk place None e, ← add-one chunk) (sum_by-cons (λ (o : Option ℕ). cond {A = ℕ} (is_none o) 1 0) place (take n (drop (chunk + 1) t.chunks)))

lacking-before : (t : TableState) (chunk p n : ℕ) → lacking (with_storage t chunk p) (chunk + 1) n ≡ lacking t (chunk + 1) n
lacking-before t chunk p n = rw (drop-set-lt (chunk + 1) t.chunks chunk (Some p) (omega arith)) refl

-- one chunk got a free storage chunk
module _ (t : TableState) (chunk p : ℕ) (none : slice_get t.chunks chunk ≡ Some None) where
  got : Has (with_storage t chunk p) chunk p
  got = slice_set_inside t.chunks chunk (Some p) (slice_get_within t.chunks chunk None none)

  others_stay : (other : ℕ) → other ≢ chunk → slice_get (set t.chunks chunk (Some p)) other ≡ slice_get t.chunks other
  others_stay other ne = slice_set_other t.chunks chunk other (Some p) ne

  not_it : (other q : ℕ) → Has t other q → other ≢ chunk
  not_it other q has e = none_some (sym none ∙ rw e at has)

  -- what a chunk has now is p, and else what it had
  had : (other q : ℕ) → Has (with_storage t chunk p) other q → ((other ≡ chunk) × (q ≡ p)) ⊎ Has t other q
  had other q has = ⊎_elim (λ (e : other ≡ chunk). inl (e, same_some (sym (rw e at has) ∙ got))) (λ (ne : other ≢ chunk). inr (sym (others_stay other ne) ∙ has)) (cases_eq other chunk)

  still_one_to_one : IsLeastFree t p → IsOneToOne t → IsOneToOne (with_storage t chunk p)
  still_one_to_one free o = record {
    apart = λ a b q ha hb. elim (had a q ha) [
      | inl x ↦ elim (had b q hb) [ inl y ↦ x.0 ∙ sym y.0 | inr y ↦ absurd (free.free b (rw x.1 at y)) ]
      | inr x ↦ elim (had b q hb) [ inl y ↦ absurd (free.free a (rw y.1 at x)) | inr y ↦ o.apart a b q x y ]
    ];
    inside = λ other q has. elim (had other q has) [ inl x ↦ rw x.1 free.inside | inr x ↦ o.inside other q x ];
  }

module _ (t t' : TableState) (chunk : ℕ) (h : TakesOne t chunk t') where
  pub same_number : length t'.chunks ≡ length t.chunks
  same_number = elim h [ inl k ↦ rw k.1 refl | inr k ↦ rw k.1.2 (length-set t.chunks chunk (Some k.1.0)) ]

  pub same_storage : t'.storage ≡ t.storage
  same_storage = elim h [ inl k ↦ rw k.1 refl | inr k ↦ rw k.1.2 refl ]

  pub has_one : (p : ℕ) × Has t' chunk p
  has_one = elim h [ inl k ↦ rw k.1 k.0 | inr k ↦ rw k.1.2 (k.1.0, got t chunk k.1.0 k.0) ]

  pub keeps_one : (other p : ℕ) → Has t other p → Has t' other p
  keeps_one other p has = elim h [ inl k ↦ rw k.1 has | inr k ↦ rw k.1.2 (others_stay t chunk k.1.0 k.0 other (not_it t chunk k.1.0 k.0 other p has) ∙ has) ]

  pub other_one : (other : ℕ) → other ≢ chunk → slice_get t'.chunks other ≡ slice_get t.chunks other
  other_one other ne = elim h [ inl k ↦ rw k.1 refl | inr k ↦ rw k.1.2 (others_stay t chunk k.1.0 k.0 other ne) ]

  pub one_to_one-one : IsOneToOne t → IsOneToOne t'
  one_to_one-one o = elim h [ inl k ↦ rw k.1 o | inr k ↦ rw k.1.2 (still_one_to_one t chunk k.1.0 k.0 k.1.1 o) ]

  -- what the rest lacks still fits
  pub enough-one : (n m : ℕ) → n ≡ suc m → used_chunks t + lacking t chunk n ≤ t.storage → used_chunks t' + lacking t' (chunk + 1) m ≤ t'.storage
  enough-one n m e enough =
      let all : used_chunks t + lacking t chunk (suc m) ≤ t.storage = rw e at enough in
      elim h [
        | inl k ↦ rw k.1 (omega (arith, lacking-first t chunk m (Some k.0.0) k.0.1))
        | inr k ↦ rw (k.1.2, lacking-before t chunk k.1.0 m) (omega (arith, lacking-first t chunk m None k.0, count-set_some t.chunks chunk k.1.0 k.0))
      ]

-- the first of a run fits
pub first-fits : (t : TableState) (chunk n m : ℕ) → n ≡ suc m → used_chunks t + lacking t chunk n ≤ t.storage → slice_get t.chunks chunk ≡ Some None → used_chunks t < t.storage
first-fits t chunk n m e enough none =
    let all : used_chunks t + lacking t chunk (suc m) ≤ t.storage = rw e at enough in
    omega (arith, lacking-first t chunk m None none)

-- a run has what each of its steps has
pub run-number : (t : TableState) (from count : ℕ) (t' : TableState) → TakesRun t from count t' → length t'.chunks ≡ length t.chunks
run-number t from zero t' h = rw h refl
run-number t from (suc count) t' h = same_number h.0 t' (from + count) h.2 ∙ run-number t from count h.0 h.1

pub run-storage : (t : TableState) (from count : ℕ) (t' : TableState) → TakesRun t from count t' → t'.storage ≡ t.storage
run-storage t from zero t' h = rw h refl
run-storage t from (suc count) t' h = same_storage h.0 t' (from + count) h.2 ∙ run-storage t from count h.0 h.1

pub run-keeps : (t : TableState) (from count : ℕ) (t' : TableState) → TakesRun t from count t' → (chunk p : ℕ) → Has t chunk p → Has t' chunk p
run-keeps t from zero t' h chunk p has = rw h has
run-keeps t from (suc count) t' h chunk p has = keeps_one h.0 t' (from + count) h.2 chunk p (run-keeps t from count h.0 h.1 chunk p has)

pub run-others : (t : TableState) (from count : ℕ) (t' : TableState) → TakesRun t from count t' → (chunk : ℕ) → (chunk < from) ⊎ (from + count ≤ chunk) → slice_get t'.chunks chunk ≡ slice_get t.chunks chunk
run-others t from zero t' h chunk outside = rw h refl
run-others t from (suc count) t' h chunk outside =
    let ne : chunk ≢ from + count = λ e. elim outside [ inl x ↦ omega arith | inr x ↦ omega arith ] in
    let less : (chunk < from) ⊎ (from + count ≤ chunk) = elim outside [ inl x ↦ inl x | inr x ↦ inr (omega arith) ] in
    other_one h.0 t' (from + count) h.2 chunk ne ∙ run-others t from count h.0 h.1 chunk less

pub run-all : (t : TableState) (from count : ℕ) (t' : TableState) → TakesRun t from count t' → (chunk : ℕ) → from ≤ chunk → chunk < from + count → (p : ℕ) × Has t' chunk p
run-all t from zero t' h chunk low high = absurd (omega arith)
run-all t from (suc count) t' h chunk low high =
    ⊎_elim
    (λ (less : chunk < from + count). let has : (p : ℕ) × Has h.0 chunk p = run-all t from count h.0 h.1 chunk low less in (has.0, keeps_one h.0 t' (from + count) h.2 chunk has.0 has.1))
    (λ (more : from + count ≤ chunk). let e : chunk ≡ from + count = omega arith in rw e (has_one h.0 t' (from + count) h.2))
    (cases_lt chunk (from + count))

pub run-one_to_one : (t : TableState) (from count : ℕ) (t' : TableState) → TakesRun t from count t' → IsOneToOne t → IsOneToOne t'
run-one_to_one t from zero t' h o = rw h o
run-one_to_one t from (suc count) t' h o = one_to_one-one h.0 t' (from + count) h.2 (run-one_to_one t from count h.0 h.1 o)

-- a chunk more
pub run-more : (t between t' : TableState) (from chunk : ℕ) → from ≤ chunk → TakesRun t from (chunk - from) between → TakesOne between chunk t' → TakesRun t from (chunk + 1 - from) t'
run-more t between t' from chunk low run one =
    let e : chunk + 1 - from ≡ suc (chunk - from) = omega arith in
    let f : from + (chunk - from) ≡ chunk = omega arith in
    rw (e, f) (between, run, one)

-- the whole run
pub run-whole : (t t' : TableState) (from count chunk : ℕ) → chunk ≡ from + count → TakesRun t from (chunk - from) t' → TakesRun t from count t'
run-whole t t' from count chunk e run =
    let f : chunk - from ≡ count = omega arith in
    rw f at run
