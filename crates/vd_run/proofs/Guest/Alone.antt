-- Where one pass has asked all calls of a regular history, all entries are its.
use Rattle.std.proofs.Common.{◌≡◌, ℕ, inl, inr, true, false, List, [], ◌∷◌, sym, ◌∙◌, ap, subst}
use Rattle.std.specs.Prelude.{IsSome}
use Rattle.std.specs.List.{All, AllByRecursion, fold}
use Rattle.std.proofs.lemmas.List.Elements.{All-from_recursion}
use Rattle.std.proofs.lemmas.Bool.{cases_Bool}
use Rattle.vd_law.specs.declared.entry.CallId.{CallId}
use Rattle.vd_law.specs.Entries.{Entry, Ask, Issue, Done, Broke, Seen, Reply, call_of, same_call, Past, nothing, ◌▸◌}
use Rattle.vd_law.specs.Calls.{Progress, progress}
use Rattle.vd_law.specs.Rules.{Each, IsInTurn, IsRegular}
use Rattle.vd_law.proofs.Opening.{same_call-is}
use Rattle.vd_law.proofs.OpenLaws.{progress-other}
use Rattle.vd_run.specs.Driving.{IsAskOf}

each-front : (P : Past → Entry → Type 0) (p : Past) (log : List Entry) → Each P (fold ◌▸◌ p log) → Each P p
each-front P p [] each = each
each-front P p (e ∷ log) each = (each-front P (p ▸ e) log each).0

-- each call that was asked is one of the pass
abbrev AreOf : (pass : ℕ) → Past → Type 0
AreOf pass p = (id : CallId) → IsSome (progress p id).asked → id.pass ≡ pass

none-asked : (pass : ℕ) → AreOf pass nothing
none-asked pass id asked = let told : false ≡ true = asked in cc

-- an entry is of its pass: it asks, or its call was asked
own-entry : (size pass : ℕ) (p : Past) (e : Entry) → AreOf pass p → IsInTurn size p e → IsAskOf pass e → (call_of e).pass ≡ pass
own-entry size pass p (Ask id request) of turn ask = ask
own-entry size pass p (Issue id first content) of turn ask = of id turn.asked
own-entry size pass p (Done id) of turn ask = of id turn.asked
own-entry size pass p (Broke id) of turn ask = of id turn.asked
own-entry size pass p (Seen id first content) of turn ask = of id turn.asked
own-entry size pass p (Reply id answer) of turn ask = of id turn.asked

still-of : (pass : ℕ) (p : Past) (e : Entry) → AreOf pass p → (call_of e).pass ≡ pass → AreOf pass (p ▸ e)
still-of pass p e of own id asked = elim (cases_Bool (same_call (call_of e) id)) [
  | inl same ↦ ap (λ (c : CallId). c.pass) (sym (same_call-is (call_of e) id same)) ∙ own
  | inr other ↦ of id (subst (λ (c : Progress). IsSome c.asked) (progress-other p e id other) asked)
]

all-own : (size pass : ℕ) (p : Past) (log : List Entry) → AreOf pass p → Each (IsInTurn size) (fold ◌▸◌ p log) → AllByRecursion (IsAskOf pass) log → AllByRecursion (λ e. (call_of e).pass ≡ pass) log
all-own size pass p [] of each asks = tt
all-own size pass p (e ∷ log) of each asks =
    let own = own-entry size pass p e of (each-front (IsInTurn size) (p ▸ e) log each).1 asks.0 in
    (own, all-own size pass (p ▸ e) log (still-of pass p e of own) each asks.1)

pub regular-alone : (size pass : ℕ) (history : List Entry) → IsRegular size history → AllByRecursion (IsAskOf pass) history → All (λ e. (call_of e).pass ≡ pass) history
regular-alone size pass history regular asks = All-from_recursion (λ e. (call_of e).pass ≡ pass) history (all-own size pass nothing history (none-asked pass) regular.in_turn asks)
