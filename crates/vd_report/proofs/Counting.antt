-- The replies of one more entry.
use Rattle.std.proofs.Common.{◌≡◌, ℕ, ◌+◌, ◌<◌, inl, inr, Bool, List, take, length, get_or, Some, ap, sym, ◌∙◌, add-zero}
use Rattle.std.proofs.lemmas.Bool.{cases_Bool}
use Rattle.std.proofs.lemmas.List.Sums.{count_by_more_yes, count_by_more_no}
use Rattle.std.proofs.lemmas.Option.{get_or_from_slice_get, slice_get_within}
use Rattle.std.specs.Prelude.{slice_get}
use Rattle.vd_law.specs.declared.entry.Answer.{Answer}
use Rattle.vd_law.specs.Entries.{Entry}
use Rattle.vd_report.specs.declared.sum.Sum.{Sum}
use Rattle.vd_report.specs.Replies.{is_reply, replies}
use Rattle.vd_report.specs.Sums.{rise_if, SumsReplies, CountsMore}

replies-more : (test : Answer → Bool) (guests : ℕ) (es : List Entry) (at : ℕ) (e : Entry) → slice_get es at ≡ Some e →
    replies test guests (take (at + 1) es) ≡ replies test guests (take at es) + rise_if (is_reply test guests e)
replies-more test guests es at e there =
    let p : Entry → Bool = is_reply test guests in
    let inside : at < length es = slice_get_within es at e there in
    let same : p (get_or es at e) ≡ p e = ap p (get_or_from_slice_get es at e e there) in
    elim (cases_Bool (p e)) [
      | inl is ↦ (rw is (count_by_more_yes p es at e inside (same ∙ is)))
      | inr is_not ↦ (rw is_not (count_by_more_no p es at e inside (same ∙ is_not) ∙ sym (add-zero _)))
    ]

pub counts-more : (guests : ℕ) (es : List Entry) (at : ℕ) (e : Entry) (sum next : Sum) → slice_get es at ≡ Some e →
    SumsReplies guests (take at es) sum → CountsMore sum next (λ is_kind. is_reply is_kind guests e) → SumsReplies guests (take (at + 1) es) next
counts-more guests es at e sum next there counts more = record {
  ok = kind _ counts.ok more.ok;
  full = kind _ counts.full more.full;
  fault = kind _ counts.fault more.fault;
  worn = kind _ counts.worn more.worn;
} where
  kind : (test : Answer → Bool) {before after : ℕ} → before ≡ replies test guests (take at es) → after ≡ before + rise_if (is_reply test guests e) → after ≡ replies test guests (take (at + 1) es)
  kind test was is = is ∙ ap (λ (n : ℕ). n + rise_if (is_reply test guests e)) was ∙ sym (replies-more test guests es at e there)
