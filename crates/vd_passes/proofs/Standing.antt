-- How a pass stands after one more entry, and which entry may follow.
use Rattle.std.proofs.Common.{◌≡◌, ℕ, ◌+◌, ◌<◌, ◌≤◌, Bool, true, false, List, [], ◌∷◌, ◌++◌, length, refl, sym, ◌∙◌, ap, subst, inl, inr, arith, Option, Some}
use Rattle.std.specs.Prelude.{slice_range, map, if◌then◌else◌, ◌==◌, ◌&&◌, IsSome}
use Rattle.std.specs.List.{All}
use Rattle.std.proofs.lemmas.Bool.{eqb-true, eq-eqb, cases_Bool}
use Rattle.std.proofs.lemmas.List.Elements.{All-nil}
use Rattle.vd_law.specs.declared.entry.Sector.{Sector}
use Rattle.vd_law.specs.declared.entry.CallId.{CallId}
use Rattle.vd_law.specs.declared.entry.Answer.{Answer}
use Rattle.vd_law.specs.Entries.{Asked, Read, Write, Entry, Ask, Issue, Done, Broke, Seen, Reply, call_of, same_call, Past, ◌▸◌, past, IsNoAsk}
use Rattle.vd_law.specs.Calls.{Progress, no_progress, progress, last_call, progress_after}
use Rattle.vd_law.specs.Contents.{Open, open_writes}
use Rattle.vd_law.specs.Rules.{Each, IsInTurn, IsUnderWay, IssueFits, SeenFits, ReplyFits, IsInside, IsReply, IsRegular, IsShown}
use Rattle.vd_law.proofs.Appending.{past-push}
use Rattle.vd_law.proofs.OpenLaws.{progress-own, progress-other}
use Rattle.vd_law.proofs.CallLaws.{fresh-call}
use Rattle.vd_law.proofs.RuleLaws.{regular-push}
use Rattle.vd_passes.specs.Tracks.{content_by, writes}
use Rattle.vd_passes.specs.Standings.{Standing, standing}

-- the next call of the pass, and its last
abbrev pub last_of : List Entry → ℕ → CallId
last_of log i = record { pass = i; call = (standing log i).call }

abbrev pub next_of : List Entry → ℕ → CallId
next_of log i = record { pass = i; call = (standing log i).call + 1 }

-- Where a pass stands after one more entry of a history.

abbrev stand : Past → ℕ → Standing
stand p i = record { call = last_call p i; progress = progress p (record { pass = i; call = last_call p i }) }

stand-is : (log : List Entry) (i : ℕ) → standing log i ≡ stand (past log) i
unfolding standing
stand-is log i = refl

stand-more : (log : List Entry) (e : Entry) (i : ℕ) → standing (log ++ e ∷ []) i ≡ stand (past log ▸ e) i
stand-more log e i = stand-is (log ++ e ∷ []) i ∙ ap (λ p. stand p i) (past-push log e)

differ : (a b : ℕ) → (a ≡ b → ⊥) → (a == b) ≡ false
differ a b ne = elim (cases_Bool (a == b)) [ inl h ↦ absurd (ne (eqb-true a b h)) | inr h ↦ h ]

last-other : (p : Past) (e : Entry) (j : ℕ) → ((call_of e).pass ≡ j → ⊥) → last_call (p ▸ e) j ≡ last_call p j
last-other p (Ask id request) j other = ap (λ (b : Bool). if b then id.call else last_call p j) (differ id.pass j other)
last-other p (Issue id first content) j other = refl
last-other p (Done id) j other = refl
last-other p (Broke id) j other = refl
last-other p (Seen id first content) j other = refl
last-other p (Reply id answer) j other = refl

apart : (a b : CallId) → (a.pass ≡ b.pass → ⊥) → same_call a b ≡ false
apart a b ne = ap (λ (x : Bool). x && (a.call == b.call)) (differ a.pass b.pass ne)

stand-other : (p : Past) (e : Entry) (j : ℕ) → ((call_of e).pass ≡ j → ⊥) → stand (p ▸ e) j ≡ stand p j
stand-other p e j other =
    let id : CallId = record { pass = j; call = last_call p j } in
    ap (λ (n : ℕ). record { call = n; progress = progress (p ▸ e) (record { pass = j; call = n }) }) (last-other p e j other)
    ∙ ap (λ (c : Progress). record { call = last_call p j; progress = c }) (progress-other p e id (apart (call_of e) id other))

last-own : (p : Past) (e : Entry) (i : ℕ) → IsNoAsk e → last_call (p ▸ e) i ≡ last_call p i
last-own p (Ask id request) i not_asked = absurd not_asked
last-own p (Issue id first content) i not_asked = refl
last-own p (Done id) i not_asked = refl
last-own p (Broke id) i not_asked = refl
last-own p (Seen id first content) i not_asked = refl
last-own p (Reply id answer) i not_asked = refl

stand-own : (p : Past) (e : Entry) (i : ℕ) → call_of e ≡ record { pass = i; call = last_call p i } → IsNoAsk e → stand (p ▸ e) i ≡ record (stand p i) { progress = progress_after (stand p i).progress e }
stand-own p e i mine not_asked =
    ap (λ (n : ℕ). record { call = n; progress = progress (p ▸ e) (record { pass = i; call = n }) }) (last-own p e i not_asked)
    ∙ ap (λ (c : Progress). record { call = last_call p i; progress = c })
    (subst (λ (id : CallId). progress (p ▸ e) id ≡ progress_after (progress p id) e) mine (progress-own p e))

stand-ask : (size : ℕ) (p : Past) (i : ℕ) (request : Asked) → Each (IsInTurn size) p → stand (p ▸ Ask (record { pass = i; call = last_call p i + 1 }) request) i ≡ record { call = last_call p i + 1; progress = record no_progress { asked = Some request } }
stand-ask size p i request each =
    let id : CallId = record { pass = i; call = last_call p i + 1 } in
    ap (λ (b : Bool). let n = if b then last_call p i + 1 else last_call p i in record { call = n; progress = progress (p ▸ Ask id request) (record { pass = i; call = n }) }) (eq-eqb i i refl)
    ∙ ap (λ (c : Progress). record { call = last_call p i + 1; progress = c })
    (progress-own p (Ask id request) ∙ ap (λ (c : Progress). progress_after c (Ask id request)) (fresh-call size p each id (omega arith)))

pub standing-other : (log : List Entry) (e : Entry) (j : ℕ) → ((call_of e).pass ≡ j → ⊥) → standing (log ++ e ∷ []) j ≡ standing log j
standing-other log e j other = stand-more log e j ∙ stand-other (past log) e j other ∙ sym (stand-is log j)

pub standing-own : (log : List Entry) (e : Entry) (i : ℕ) → call_of e ≡ last_of log i → IsNoAsk e → standing (log ++ e ∷ []) i ≡ record (standing log i) { progress = progress_after (standing log i).progress e }
unfolding standing
standing-own log e i mine not_asked = stand-more log e i ∙ stand-own (past log) e i mine not_asked

pub standing-ask : (size : ℕ) (log : List Entry) (i : ℕ) (request : Asked) → IsRegular size log → standing (log ++ Ask (next_of log i) request ∷ []) i ≡ record { call = (standing log i).call + 1; progress = record no_progress { asked = Some request } }
unfolding standing
standing-ask size log i request regular = stand-more log (Ask (next_of log i) request) i ∙ stand-ask size (past log) i request regular.in_turn

-- a history of no entries
pub standing-nothing : (i : ℕ) → standing [] i ≡ record { call = 0; progress = no_progress }
unfolding standing
standing-nothing i = refl

-- What may follow.
pub regular-ask : {size : ℕ} {log : List Entry} (i : ℕ) (request : Asked) → IsRegular size log → (0 < (standing log i).call → (standing log i).progress.answered ≡ true) → IsInside size request → IsRegular size (log ++ Ask (next_of log i) request ∷ [])
unfolding standing
regular-ask {size} {log} i request regular idle inside = regular-push size log (Ask (next_of log i) request) regular (record { number = refl; last_answered = idle }, inside) tt tt tt

-- the pass's call is under way with this request
pub record IsServing (log : List Entry) (i : ℕ) (request : Asked) : Type 0 where
  pub asked : (standing log i).progress.asked ≡ Some request
  pub unanswered : (standing log i).progress.answered ≡ false

under-way : {log : List Entry} {i : ℕ} {request : Asked} → IsServing log i request → IsUnderWay (standing log i).progress
under-way {log} {i} {request} serves = record { asked = subst (λ (o : Option Asked). IsSome o) (sym serves.asked) refl; unanswered = serves.unanswered }

none-mapped : (ws : List Open) → map content_by ws ≡ [] → ws ≡ []
none-mapped [] none = refl
none-mapped (w ∷ ws) none = cc

alone : (log : List Entry) (id : CallId) (s : ℕ) → writes log s ≡ [] → All (λ (w : Open). w.call ≡ id) (open_writes (past log) s)
unfolding writes
alone log id s none = subst (λ (ws : List Open). All (λ (w : Open). w.call ≡ id) ws) (sym (none-mapped (open_writes (past log) s) none)) (All-nil (λ (w : Open). w.call ≡ id))

pub regular-issue : {size : ℕ} {log : List Entry} (i first at : ℕ) (whole content : List Sector) → IsRegular size log → IsServing log i (Write first whole)
    → (standing log i).progress.pending ≡ 0 → (standing log i).progress.broken ≡ false → at ≡ first + (standing log i).progress.done → 0 < length content
    → (standing log i).progress.done + length content ≤ length whole → content ≡ slice_range whole (standing log i).progress.done ((standing log i).progress.done + length content)
    → ((s : ℕ) → at ≤ s → s < at + length content → writes log s ≡ []) → IsRegular size (log ++ Issue (last_of log i) at content ∷ [])
unfolding standing
regular-issue {size} {log} i first at whole content regular serves closed unbroken place some fits same quiet =
    let c : Progress = (standing log i).progress in
    let id : CallId = last_of log i in
    regular-push size log (Issue id at content) regular (under-way serves)
    (subst (λ (o : Option Asked). IssueFits o c at content) (sym serves.asked)
    (record { piece = record { begins = place; some = some; fits = fits }; same = same; none_open = closed; unbroken = unbroken }))
    (λ s from to. alone log id s (quiet s from to)) tt

pub regular-done : {size : ℕ} {log : List Entry} (i : ℕ) (request : Asked) → IsRegular size log → IsServing log i request → 0 < (standing log i).progress.pending → IsRegular size (log ++ Done (last_of log i) ∷ [])
unfolding standing
regular-done {size} {log} i request regular serves pending = regular-push size log (Done (last_of log i)) regular (under-way serves) pending tt tt

pub regular-broke : {size : ℕ} {log : List Entry} (i : ℕ) (request : Asked) → IsRegular size log → IsServing log i request → 0 < (standing log i).progress.pending → IsRegular size (log ++ Broke (last_of log i) ∷ [])
unfolding standing
regular-broke {size} {log} i request regular serves pending = regular-push size log (Broke (last_of log i)) regular (under-way serves) pending tt tt

pub regular-seen : {size : ℕ} {log : List Entry} (i first count at : ℕ) (content : List Sector) → IsRegular size log → IsServing log i (Read first count)
    → at ≡ first + (standing log i).progress.done → 0 < length content → (standing log i).progress.done + length content ≤ count
    → ((s : ℕ) → at ≤ s → s < at + length content → writes log s ≡ []) → IsRegular size (log ++ Seen (last_of log i) at content ∷ [])
unfolding standing
regular-seen {size} {log} i first count at content regular serves place some fits quiet =
    let c : Progress = (standing log i).progress in
    let id : CallId = last_of log i in
    regular-push size log (Seen id at content) regular (under-way serves)
    (subst (λ (o : Option Asked). SeenFits o c at content) (sym serves.asked) (record { begins = place; some = some; fits = fits }))
    (λ s from to. alone log id s (quiet s from to)) tt

pub regular-reply : {size : ℕ} {log : List Entry} (i : ℕ) (request : Asked) (answer : Answer) → IsRegular size log → IsServing log i request → IsReply request (standing log i).progress answer → IsRegular size (log ++ Reply (last_of log i) answer ∷ [])
unfolding standing
regular-reply {size} {log} i request answer regular serves is =
    regular-push size log (Reply (last_of log i) answer) regular (under-way serves) tt tt
    (subst (λ (o : Option Asked). ReplyFits o (standing log i).progress answer) (sym serves.asked) is)

pub shown-push : (start : List Sector) (log : List Entry) (e : Entry) → Each (IsShown start) (past log) → IsShown start (past log) e → Each (IsShown start) (past (log ++ e ∷ []))
shown-push start log e each last = subst (Each (IsShown start)) (sym (past-push log e)) (each, last)
