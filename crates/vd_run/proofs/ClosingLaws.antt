-- A closing that the report calls ok was a flush that succeeded.
use Rattle.std.proofs.Common.{ℕ, zero, suc, ◌≡◌, ◌≤◌, ◌⊎◌, inl, inr, List, [], ◌∷◌, ◌++◌, length, Option, Some, refl, ap, sym, ◌∙◌, subst, arith}
use Rattle.std.specs.Prelude.{slice_get}
use Rattle.std.proofs.lemmas.List.{append_assoc}
use Rattle.vd_lists.proofs.Places.{slice_get_second_last, slice_get_middle}
use Rattle.vd_law.specs.declared.entry.CallId.{CallId}
use Rattle.vd_law.specs.declared.entry.Answer.{Answer}
use Rattle.vd_law.specs.declared.entry.Answer.TheVariants as answers
use Rattle.vd_law.specs.Entries.{Asked, Flush, Entry, Ask, Done, Reply, ◌▸◌, past}
use Rattle.vd_law.specs.Calls.{Progress, progress}
use Rattle.vd_law.specs.Rules.{Each, IsRegular, IsAnswered, IsAnswerTo, ReplyFits}
use Rattle.vd_law.proofs.Appending.{past-push}
use Rattle.vd_law.proofs.OpenLaws.{progress-own}
use Rattle.vd_core.specs.Showing.{EndsFlushed}
use Rattle.vd_run.specs.Serving.{Closes}
use Rattle.vd_report.specs.declared.line.Line.TheVariants as lines
use Rattle.vd_run.specs.Running.{closing_line}

-- the last reply answers the flush that was asked just before it
last_answered : {size : ℕ} (served : List Entry) (id : CallId) (answer : Answer) → IsRegular size (served ++ Ask id Flush ∷ Reply id answer ∷ []) → (c : Progress) × IsAnswerTo Flush c answer
last_answered served id answer regular =
    let asked = served ++ Ask id Flush ∷ [] in
    let whole : past (served ++ Ask id Flush ∷ Reply id answer ∷ []) ≡ past served ▸ Ask id Flush ▸ Reply id answer =
    ap past (sym (append_assoc served (Ask id Flush ∷ []) (Reply id answer ∷ []))) ∙ past-push asked (Reply id answer) ∙ ap (λ p. p ▸ Reply id answer) (past-push served (Ask id Flush)) in
    let last = (subst (Each IsAnswered) whole regular.answered).1 in
    let now = progress (past served ▸ Ask id Flush) id in
    let flush : now.asked ≡ Some Flush = ap (λ (c : Progress). c.asked) (progress-own (past served) (Ask id Flush)) in
    let reply = subst (λ (request : Option Asked). ReplyFits request now answer) flush last in
    (now, reply.fits)

answered_ok : (answer : Answer) → (c : Progress) → IsAnswerTo Flush c answer → closing_line answer ≡ lines.Ok → answer ≡ answers.Ok
answered_ok answers.Ok c fits said = refl
answered_ok (answers.Full needed free) c fits said = absurd fits
answered_ok (answers.StoreFault ticket done) c fits said = absurd cc
answered_ok (answers.BaseFault ticket done) c fits said = absurd cc
answered_ok (answers.NoRoom events sectors) c fits said = absurd fits
answered_ok (answers.Worn generation) c fits said = absurd cc

pub closed_ok : {size : ℕ} {served history : List Entry} (answer : Answer) → IsRegular size history → Closes answer served history → closing_line answer ≡ lines.Ok → answer ≡ answers.Ok
closed_ok {size = size} {served = served} answer regular closed said =
    let last = last_answered served _ answer (subst (IsRegular size) closed.after regular) in answered_ok answer last.0 last.1 said

-- ---- each write that is done was done before it

last_two : (xs : List Entry) (a b e : Entry) (m : ℕ) → length xs ≤ m → slice_get (xs ++ a ∷ b ∷ []) m ≡ Some e → (a ≡ e) ⊎ (b ≡ e)
last_two [] a b e zero from at = inl cc
last_two [] a b e (suc zero) from at = inr cc
last_two [] a b e (suc (suc m)) from at = absurd cc
last_two (x ∷ xs) a b e zero from at = absurd (omega (arith, from))
last_two (x ∷ xs) a b e (suc m) from at = last_two xs a b e m (omega (arith, from)) at

pub ends_flushed : {served history : List Entry} (answer : Answer) → answer ≡ answers.Ok → Closes answer served history → EndsFlushed history
ends_flushed {served = served} {history = history} answer ok closed =
    let id : CallId = record { pass = 0; call = closed.call } in
    subst EndsFlushed (sym closed.after) (record {
      id = id;
      ask = length served;
      reply = suc (length served);
      asked = slice_get_middle served (Reply id answer ∷ []) (Ask id Flush);
      replied = slice_get_second_last served (Ask id Flush) (Reply id answer) ∙ ap (λ (x : Answer). Some (Reply id x)) ok;
      later = omega arith;
      none_done = λ m other from at. elim (last_two served (Ask id Flush) (Reply id answer) (Done other) m from at) [ inl same ↦ absurd cc | inr same ↦ absurd cc ];
    })
