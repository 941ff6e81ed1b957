-- Marks that are copied one by one, from the lowest on.
use Rattle.std.proofs.Common.{◌≡◌, ◌≢◌, ℕ, ◌+◌, ◌<◌, ◌≤◌, Bool, true, false, List, length, replicate, sym, ◌∙◌, ap, inl, inr, arith, Some, slice_get, slice_set}
use Rattle.std.proofs.lemmas.Bool.{cases_lt, cases_eq}
use Rattle.std.proofs.lemmas.List.{length-replicate}
use Rattle.std.proofs.lemmas.Option.{slice_get_past}
use Rattle.vd_bits.specs.Marks.{IsLowest, NoneFrom}
use Rattle.vd_passes.proofs.Lists.{length-set', get-set-same, get-set-other}
use Rattle.vd_lists.proofs.Lists.{same_list}
use Rattle.vd_lists.proofs.Places.{slice_get_replicate}

-- below this number the copy has the same marks, and none from there on
pub record IsCopied (from : ℕ) (marks copy : List Bool) : Type 0 where
  pub long : length copy ≡ length marks
  pub below : (i : ℕ) → i < from → slice_get copy i ≡ slice_get marks i
  pub above : (i : ℕ) → from ≤ i → i < length marks → slice_get copy i ≡ Some false

pub copied-none : (marks : List Bool) (pages : ℕ) → pages ≡ length marks → IsCopied 0 marks (replicate pages false)
copied-none marks pages same = record {
  long = length-replicate pages false ∙ same;
  below = λ i less. absurd (omega arith);
  above = λ i from within. slice_get_replicate pages false i (omega arith);
}

pub copied-more : (from page : ℕ) (marks copy : List Bool) → IsCopied from marks copy → IsLowest marks from page → page < length marks → IsCopied (page + 1) marks (slice_set copy page true)
copied-more from page marks copy was lowest inside = record {
  long = length-set' copy page true ∙ was.long;
  below = λ i less. elim (cases_eq i page) [
    | inl here ↦ ap (slice_get (slice_set copy page true)) here ∙ get-set-same copy page true false there ∙ sym lowest.is_marked ∙ ap (slice_get marks) (sym here)
    | inr other ↦ get-set-other copy page i true other ∙ elim (cases_lt i from) [
      | inl before ↦ was.below i before
      | inr passed ↦ was.above i (omega arith) (omega arith) ∙ sym (lowest.below i (omega arith) (omega arith))
    ]
  ];
  above = λ i passed within. get-set-other copy page i true (let apart : i ≢ page = omega arith in apart) ∙ was.above i (let reached = lowest.reached in omega arith) within;
}
  where
    there : slice_get copy page ≡ Some false
    there = was.above page lowest.reached inside

pub copied-all : (from : ℕ) (marks copy : List Bool) → IsCopied from marks copy → NoneFrom marks from → copy ≡ marks
copied-all from marks copy was none = same_list copy marks was.long (λ i. elim (cases_lt i from) [
  | inl before ↦ was.below i before
  | inr passed ↦ elim (cases_lt i (length marks)) [
    | inl within ↦ was.above i (omega arith) within ∙ sym (none i (omega arith) within)
    | inr far ↦ slice_get_past copy i (let long = was.long in omega arith) ∙ sym (slice_get_past marks i (omega arith))
  ]
])
