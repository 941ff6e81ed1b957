-- One more event, or one more entry, changes safety at no earlier moment.
use Rattle.std.proofs.Common.{ℕ, suc, ◌≡◌, ◌<◌, ◌≤◌, inl, inr, List, [], ◌∷◌, ◌++◌, length, take, Bool, true, cond, leb, arith, refl, ap, sym, subst, ◌∙◌}
use Rattle.std.proofs.lemmas.Bool.{cases_lt, le-leb}
use Rattle.std.proofs.lemmas.Bool.Decides.{leb_tells}
use Rattle.std.proofs.lemmas.List.{take-append-le, take_all, length-append}
use Rattle.vd_image.specs.Log.{Sector, CallId, Entry, Flush, Fine, Ask, Reply, Writes, IsSure, May}
use Rattle.vd_crash.specs.facts.Safe.{NumberedEntry, events, events_up_to, Opening, IsSafeImage, IsSafeNow, IsSafe}
use Rattle.vd_crash.specs.facts.Facts.{HasEntry, CrashFacts}
use Rattle.vd_image.proofs.Logs.{at_below, writes_push, writes_pushed, ends_pushed, flushes_pushed}
use Rattle.vd_crash.proofs.facts.Recovered.{safe_now}
use Rattle.vd_crash.specs.facts.Memory.{Memory}

-- an entry numbered above a moment isn't of the history at that moment
pub up_to-push : (history : List NumberedEntry) (x : NumberedEntry) (k : ℕ) → k < x.number → events_up_to (history ++ x ∷ []) k ≡ events_up_to history k
up_to-push [] x k h = elim (leb_tells x.number k) [
  | inl t ↦ absurd (omega (arith, t.1))
  | inr t ↦ ap (λ (b : Bool). cond b (x.event ∷ []) []) t.0
]
up_to-push (y ∷ history) x k h = ap (λ (rest : List Entry). cond (leb y.number k) (y.event ∷ rest) rest) (up_to-push history x k h)

-- where no number is above the moment, all entries are of it
pub up_to-all : (history : List NumberedEntry) (k : ℕ) → ((j n : ℕ) (e : Entry) → HasEntry history j n e → n ≤ k) → events_up_to history k ≡ events history
up_to-all [] k h = refl
up_to-all (y ∷ history) k h =
    let below : y.number ≤ k = h 0 y.number y.event refl in
    let yes : leb y.number k ≡ true = le-leb y.number k below in
    ap (λ (b : Bool). cond b (y.event ∷ events_up_to history k) (events_up_to history k)) yes
    ∙ ap (λ (rest : List Entry). y.event ∷ rest) (up_to-all history k (λ j n e stands. h (suc j) n e stands))

-- an event of the store's log changes no earlier moment
pub earlier_by_event : (o : Opening) (log : List Entry) (history : List NumberedEntry) (e : Entry) (k : ℕ) → k ≤ length log
    → IsSafeNow o (take k log) (events_up_to history k) → IsSafeNow o (take k (log ++ e ∷ [])) (events_up_to history k)
earlier_by_event o log history e k within safe = subst (λ (l : List Entry). IsSafeNow o l (events_up_to history k)) (sym (take-append-le k log (e ∷ []) within)) safe

-- an entry changes no moment before its number
pub earlier_by_entry : (o : Opening) (log : List Entry) (history : List NumberedEntry) (x : NumberedEntry) (k : ℕ) → k < x.number
    → IsSafeNow o (take k log) (events_up_to history k) → IsSafeNow o (take k log) (events_up_to (history ++ x ∷ []) k)
earlier_by_entry o log history x k before safe = subst (λ (h : List Entry). IsSafeNow o (take k log) h) (sym (up_to-push history x k before)) safe

-- the facts give safety at the last moment
pub last_safe : (o : Opening) (log : List Entry) (history : List NumberedEntry) (i : Memory) → CrashFacts o log history i → (k : ℕ) → k ≡ length log
    → IsSafeNow o (take k log) (events_up_to history k)
last_safe o log history i facts k last =
    let whole : take k log ≡ log = take_all k log (omega arith) in
    let all : events_up_to history k ≡ events history = up_to-all history k (λ j n e stands. let b = facts.numbers.none_above j n e stands in omega arith) in
    subst (λ (l : List Entry). IsSafeNow o l (events_up_to history k)) (sym whole)
    (subst (λ (h : List Entry). IsSafeNow o log h) (sym all) (safe_now o log history i facts))

-- after an event of the store's log
pub safe_event : (o : Opening) (log : List Entry) (history : List NumberedEntry) (i : Memory) (e : Entry)
    → IsSafe o log history → CrashFacts o (log ++ e ∷ []) history i → IsSafe o (log ++ e ∷ []) history
safe_event o log history i e safe facts = λ k opened within. elim (cases_lt (length log) k) [
  | inl more ↦ last_safe o (log ++ e ∷ []) history i facts k (omega (arith, within, length-append log (e ∷ [])))
  | inr less ↦ earlier_by_event o log history e k less (safe k opened less)
]

-- after an entry numbered at the last moment
pub safe_entry : (o : Opening) (log : List Entry) (history : List NumberedEntry) (i : Memory) (x : NumberedEntry)
    → IsSafe o log history → length log ≤ x.number → CrashFacts o log (history ++ x ∷ []) i → IsSafe o log (history ++ x ∷ [])
safe_entry o log history i x safe number facts = λ k opened within. elim (cases_lt k (length log)) [
  | inl less ↦ earlier_by_entry o log history x k (omega arith) (safe k opened within)
  | inr more ↦ last_safe o log (history ++ x ∷ []) i facts k (omega arith)
]

-- after an entry numbered above every moment, as only a stopped store leaves it
pub safe_late : (o : Opening) (log : List Entry) (history : List NumberedEntry) (x : NumberedEntry)
    → IsSafe o log history → length log < x.number → IsSafe o log (history ++ x ∷ [])
safe_late o log history x safe number = λ k opened within. earlier_by_entry o log history x k (omega arith) (safe k opened within)

-- an entry that answers no flush well takes nothing away
sure_before : (log : List Entry) (e : Entry) (i : ℕ) → ((id : CallId) → e ≡ Reply id Fine → ⊥) → IsSure (log ++ e ∷ []) i → IsSure log i
sure_before log e i no_answer h = elim (flushes_pushed log e h.asked h.flushes) [
  | inr answer ↦ absurd (no_answer answer.0 answer.2)
  | inl flushes ↦
      let below = at_below log h.asked (Ask flushes.id Flush) flushes.asked in
      elim (ends_pushed log e i h.done h.ends) [
        | inl ends ↦ record { done = h.done; asked = h.asked; ends = ends; before = h.before; flushes = flushes }
        | inr last ↦ absurd (let b = h.before in omega (arith, last.0, below))
      ]
]

may_stays : (start : ℕ → Sector) (log : List Entry) (e : Entry) (s : ℕ) (v : Sector) → ((id : CallId) → e ≡ Reply id Fine → ⊥) → May start log s v → May start (log ++ e ∷ []) s v
may_stays start log e s v no_answer (inl h) = inl (record { value = h.value; newest = λ j u from w sure. still j u w (sure_before log e j no_answer sure) (λ old. h.newest j u from old) })
  where
    still : (j : ℕ) (u : Sector) → Writes (log ++ e ∷ []) j s u → IsSure log j → (Writes log j s u → IsSure log j → ⊥) → ⊥
    still j u w sure none = elim (writes_pushed log e j s u w) [ inl old ↦ none old sure | inr new ↦ absurd (let b = at_below log j sure.ends.event sure.ends.stands in omega (arith, new.0)) ]
may_stays start log e s v no_answer (inr h) = inr (record {
  at = h.at;
  writes = writes_push log e h.at s v h.writes;
  newest = λ j u from w sure. still j u w (sure_before log e j no_answer sure) (λ old. h.newest j u from old);
})
  where
    still : (j : ℕ) (u : Sector) → Writes (log ++ e ∷ []) j s u → IsSure log j → (Writes log j s u → IsSure log j → ⊥) → ⊥
    still j u w sure none = elim (writes_pushed log e j s u w) [ inl old ↦ none old sure | inr new ↦ absurd (let b = at_below log j sure.ends.event sure.ends.stands in omega (arith, new.0)) ]

up_to-within : (history : List NumberedEntry) (x : NumberedEntry) (k : ℕ) → x.number ≤ k → events_up_to (history ++ x ∷ []) k ≡ events_up_to history k ++ x.event ∷ []
up_to-within [] x k h = ap (λ (b : Bool). cond b (x.event ∷ []) []) (le-leb x.number k h)
up_to-within (y ∷ history) x k h = elim (leb_tells y.number k) [
  | inl t ↦ ap (λ (b : Bool). cond b (y.event ∷ events_up_to (history ++ x ∷ []) k) (events_up_to (history ++ x ∷ []) k)) t.0 ∙ ap (λ (rest : List Entry). y.event ∷ rest) (up_to-within history x k h)
      ∙ sym (ap (λ (b : Bool). cond b (y.event ∷ events_up_to history k) (events_up_to history k) ++ x.event ∷ []) t.0)
  | inr t ↦ ap (λ (b : Bool). cond b (y.event ∷ events_up_to (history ++ x ∷ []) k) (events_up_to (history ++ x ∷ []) k)) t.0 ∙ up_to-within history x k h
      ∙ sym (ap (λ (b : Bool). cond b (y.event ∷ events_up_to history k) (events_up_to history k) ++ x.event ∷ []) t.0)
]

-- after an entry that answers no flush well, however it is numbered
pub safe_other : (o : Opening) (log : List Entry) (history : List NumberedEntry) (x : NumberedEntry)
    → IsSafe o log history → ((id : CallId) → x.event ≡ Reply id Fine → ⊥) → IsSafe o log (history ++ x ∷ [])
safe_other o log history x safe no_answer = λ k opened within. elim (cases_lt k x.number) [
  | inl before ↦ earlier_by_entry o log history x k before (safe k opened within)
  | inr after ↦ λ image left.
      let now = safe k opened within image left in
      subst (λ (h : List Entry). IsSafeImage o h image) (sym (up_to-within history x k after))
      (record { sound = now.sound; allowed = λ s v inside has. may_stays o.disk (events_up_to history k) x.event s v no_answer (now.allowed s v inside has) })
]
