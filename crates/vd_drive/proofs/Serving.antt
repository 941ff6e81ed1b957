-- What a pass has asked stays what it has asked until it asks again. A driver cites this for the content that it issues.
use Rattle.std.proofs.Common.{◌≡◌, ℕ, Bool, true, false, List, [], ◌∷◌, ◌++◌, refl, ◌∙◌, ap, Option, Some}
use Rattle.std.specs.Prelude.{if◌then◌else◌}
use Rattle.std.proofs.lemmas.Bool.{eq-eqb}
use Rattle.vd_law.specs.declared.entry.Sector.{Sector}
use Rattle.vd_law.specs.declared.entry.CallId.{CallId}
use Rattle.vd_law.specs.Entries.{Asked, Write, Entry, Ask, Issue, Done, Broke, Seen, Reply, call_of, same_call, Past, ◌▸◌, past, IsNoAsk}
use Rattle.vd_law.specs.Calls.{Progress, progress, last_call, progress_after}
use Rattle.vd_law.proofs.Appending.{past-push}
use Rattle.vd_law.proofs.OpenLaws.{progress-own}
use Rattle.vd_passes.specs.Standings.{Standing, standing}
use Rattle.vd_passes.specs.Requests.{RequestState}
use Rattle.vd_passes.specs.Steps.{HasAskedWrite, Asks}
use Rattle.vd_passes.proofs.Standing.{standing-other}

-- the request of the pass's last call
abbrev pub asked_by : List Entry → ℕ → Option Asked
asked_by history i = (standing history i).progress.asked

abbrev asked_in : Past → ℕ → Option Asked
asked_in p i = (progress p (record { pass = i; call = last_call p i })).asked

asked-is : (history : List Entry) (e : Entry) (i : ℕ) → asked_by (history ++ e ∷ []) i ≡ asked_in (past history ▸ e) i
unfolding standing
asked-is history e i = ap (λ p. asked_in p i) (past-push history e)

own-ask : (p : Past) (i n : ℕ) (request : Asked) → asked_in (p ▸ Ask (record { pass = i; call = n }) request) i ≡ Some request
own-ask p i n request =
    let id : CallId = record { pass = i; call = n } in
    ap (λ (b : Bool). (progress (p ▸ Ask id request) (record { pass = i; call = if b then n else last_call p i })).asked) (eq-eqb i i refl)
    ∙ ap (λ (c : Progress). c.asked) (progress-own p (Ask id request))

same-asked : (mine : Bool) (c : Progress) (e : Entry) → IsNoAsk e → (if mine then progress_after c e else c).asked ≡ c.asked
same-asked false c e not_asked = refl
same-asked true c (Ask id request) not_asked = absurd not_asked
same-asked true c (Issue id first content) not_asked = refl
same-asked true c (Done id) not_asked = refl
same-asked true c (Broke id) not_asked = refl
same-asked true c (Seen id first content) not_asked = refl
same-asked true c (Reply id answer) not_asked = refl

same-last : (p : Past) (e : Entry) (i : ℕ) → IsNoAsk e → last_call (p ▸ e) i ≡ last_call p i
same-last p (Ask id request) i not_asked = absurd not_asked
same-last p (Issue id first content) i not_asked = refl
same-last p (Done id) i not_asked = refl
same-last p (Broke id) i not_asked = refl
same-last p (Seen id first content) i not_asked = refl
same-last p (Reply id answer) i not_asked = refl

-- a pass has asked what its last Ask says,
pub asked-ask : (history : List Entry) (i n : ℕ) (request : Asked) → asked_by (history ++ Ask (record { pass = i; call = n }) request ∷ []) i ≡ Some request
asked-ask history i n request = asked-is history (Ask (record { pass = i; call = n }) request) i ∙ own-ask (past history) i n request

-- entries that are no Ask leave that,
pub asked-stays : (history : List Entry) (e : Entry) (i : ℕ) → IsNoAsk e → asked_by (history ++ e ∷ []) i ≡ asked_by history i
unfolding standing
asked-stays history e i not_asked = asked-is history e i
    ∙ ap (λ (n : ℕ). (progress (past history ▸ e) (record { pass = i; call = n })).asked) (same-last (past history) e i not_asked)
    ∙ same-asked (same_call (call_of e) (record { pass = i; call = last_call (past history) i })) (progress (past history) (record { pass = i; call = last_call (past history) i })) e not_asked

-- and so do the entries of other passes
pub asked-other : (history : List Entry) (e : Entry) (i : ℕ) → ((call_of e).pass ≡ i → ⊥) → asked_by (history ++ e ∷ []) i ≡ asked_by history i
asked-other history e i other = ap (λ (t : Standing). t.progress.asked) (standing-other history e i other)

pub asks-asked : {request : Asked} {events sectors i : ℕ} {r r' : RequestState} → Asks request events sectors i r r' → asked_by r'.entries i ≡ Some request
asks-asked {request} {events} {sectors} {i} {r} {r'} step = ap (λ (x : RequestState). asked_by x.entries i) step.after ∙ asked-ask r.entries i _ request

-- The same of the content of a write.
pub asks-write : {first events sectors i : ℕ} {content : List Sector} {r r' : RequestState} → Asks (Write first content) events sectors i r r' → HasAskedWrite r'.entries i content
asks-write {first} step = (first, asks-asked step)

pub write-stays : (history : List Entry) (e : Entry) (i : ℕ) (content : List Sector) → IsNoAsk e → HasAskedWrite history i content → HasAskedWrite (history ++ e ∷ []) i content
write-stays history e i content not_asked asked = (asked.0, asked-stays history e i not_asked ∙ asked.1)

pub write-other : (history : List Entry) (e : Entry) (i : ℕ) (content : List Sector) → ((call_of e).pass ≡ i → ⊥) → HasAskedWrite history i content → HasAskedWrite (history ++ e ∷ []) i content
write-other history e i content other asked = (asked.0, asked-other history e i other ∙ asked.1)
