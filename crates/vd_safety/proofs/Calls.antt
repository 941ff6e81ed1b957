-- Each call is asked once in a regular history.
use Rattle.std.proofs.Common.{◌≡◌, ℕ, zero, suc, ◌≤◌, Bool, List, [], ◌∷◌, refl, sym, ◌∙◌, ap, subst, inl, inr, arith, Some, slice_get}
use Rattle.std.specs.Prelude.{if◌then◌else◌, ◌==◌}
use Rattle.std.specs.List.{fold}
use Rattle.std.proofs.lemmas.Bool.{eqb-true, eq-eqb, cases_Bool}
use Rattle.vd_law.specs.declared.entry.CallId.{CallId}
use Rattle.vd_law.specs.Entries.{Asked, Entry, Ask, Issue, Done, Broke, Seen, Reply, same_call, Past, nothing, ◌▸◌, past}
use Rattle.vd_law.specs.Calls.{Progress, progress, progress_after, last_call}
use Rattle.vd_law.specs.Rules.{Each, IsInTurn}
use Rattle.vd_law.proofs.Opening.{same_call-is}
use Rattle.vd_law.proofs.OpenLaws.{progress-own, progress-other}
use Rattle.vd_law.proofs.Inside.{still_asked}

each-begins : (P : Past → Entry → Type 0) (more : List Entry) (p : Past) → Each P (fold ◌▸◌ p more) → Each P p
each-begins P [] p all = all
each-begins P (e ∷ more) p all = let front = each-begins P more (p ▸ e) all in front.0

first-at : {X : Type 0} (x y : X) (xs : List X) → slice_get (x ∷ xs) 0 ≡ Some y → x ≡ y
first-at x y xs h = cc

-- the number of a pass's last call never falls
rises : (size : ℕ) (p : Past) (e : Entry) (i n : ℕ) → IsInTurn size p e → n ≤ last_call p i → n ≤ last_call (p ▸ e) i
rises size p (Ask c request) i n turn low = elim (cases_Bool (c.pass == i)) [
  | inl same ↦
      let e : last_call p c.pass ≡ last_call p i = ap (last_call p) (eqb-true c.pass i same) in
      subst (λ (b : Bool). n ≤ (if b then c.call else last_call p i)) (sym same) (let next = turn.0.number in omega arith)
  | inr differ ↦ subst (λ (b : Bool). n ≤ (if b then c.call else last_call p i)) (sym differ) low
]
rises size p (Issue c first content) i n turn low = low
rises size p (Done c) i n turn low = low
rises size p (Broke c) i n turn low = low
rises size p (Seen c first content) i n turn low = low
rises size p (Reply c answer) i n turn low = low

own-call : (p : Past) (id : CallId) (request : Asked) → id.call ≤ last_call (p ▸ Ask id request) id.pass
own-call p id request = subst (λ (b : Bool). id.call ≤ (if b then id.call else last_call p id.pass)) (sym (eq-eqb id.pass id.pass refl)) (omega arith)

-- a call that was asked isn't asked again
not-again : (size : ℕ) (p : Past) (id : CallId) (request : Asked) → IsInTurn size p (Ask id request) → id.call ≤ last_call p id.pass → ⊥
not-again size p id request turn low = let next = turn.0.number in omega arith

once-more : (size : ℕ) (es : List Entry) (p : Past) (id : CallId) (a : ℕ) (request : Asked) → Each (IsInTurn size) (fold ◌▸◌ p es) → id.call ≤ last_call p id.pass → slice_get es a ≡ Some (Ask id request) → ⊥
once-more size [] p id a request each low at = cc
once-more size (e ∷ es) p id zero request each low at =
    let turn = (each-begins (IsInTurn size) es (p ▸ e) each).1 in
    not-again size p id request (subst (IsInTurn size p) (first-at e (Ask id request) es at) turn) low
once-more size (e ∷ es) p id (suc a) request each low at =
    let turn = (each-begins (IsInTurn size) es (p ▸ e) each).1 in
    once-more size es (p ▸ e) id a request each (rises size p e id.pass id.call turn low) at

one-from : (size : ℕ) (es : List Entry) (p : Past) (id : CallId) (a b : ℕ) (r q : Asked) → Each (IsInTurn size) (fold ◌▸◌ p es) → slice_get es a ≡ Some (Ask id r) → slice_get es b ≡ Some (Ask id q) → a ≡ b
one-from size [] p id a b r q each at_a at_b = absurd (cc)
one-from size (e ∷ es) p id zero zero r q each at_a at_b = refl
one-from size (e ∷ es) p id zero (suc b) r q each at_a at_b =
    absurd (once-more size es (p ▸ e) id b q each (subst (λ (d : Entry). id.call ≤ last_call (p ▸ d) id.pass) (sym (first-at e (Ask id r) es at_a)) (own-call p id r)) at_b)
one-from size (e ∷ es) p id (suc a) zero r q each at_a at_b =
    absurd (once-more size es (p ▸ e) id a r each (subst (λ (d : Entry). id.call ≤ last_call (p ▸ d) id.pass) (sym (first-at e (Ask id q) es at_b)) (own-call p id q)) at_a)
one-from size (e ∷ es) p id (suc a) (suc b) r q each at_a at_b = ap suc (one-from size es (p ▸ e) id a b r q each at_a at_b)

-- A call has one Ask,
pub one-ask : (size : ℕ) (es : List Entry) (id : CallId) (a b : ℕ) (r q : Asked) → Each (IsInTurn size) (past es) → slice_get es a ≡ Some (Ask id r) → slice_get es b ≡ Some (Ask id q) → a ≡ b
one-ask size es id a b r q each at_a at_b = one-from size es nothing id a b r q each at_a at_b

still : (size : ℕ) (p : Past) (e : Entry) (id : CallId) (r : Asked) → IsInTurn size p e → id.call ≤ last_call p id.pass → (progress p id).asked ≡ Some r → (progress (p ▸ e) id).asked ≡ Some r
still size p (Ask c request) id r turn low is = elim (cases_Bool (same_call c id)) [
  | inl same ↦ absurd (not-again size p id request (subst (λ (d : CallId). IsInTurn size p (Ask d request)) (same_call-is c id same) turn) low)
  | inr differ ↦ ap (λ (g : Progress). g.asked) (progress-other p (Ask c request) id differ) ∙ is
]
still size p (Issue c first content) id r turn low is = still_asked (same_call c id) (progress p id) (progress_after (progress p id) (Issue c first content)) refl ∙ is
still size p (Done c) id r turn low is = still_asked (same_call c id) (progress p id) (progress_after (progress p id) (Done c)) refl ∙ is
still size p (Broke c) id r turn low is = still_asked (same_call c id) (progress p id) (progress_after (progress p id) (Broke c)) refl ∙ is
still size p (Seen c first content) id r turn low is = still_asked (same_call c id) (progress p id) (progress_after (progress p id) (Seen c first content)) refl ∙ is
still size p (Reply c answer) id r turn low is = still_asked (same_call c id) (progress p id) (progress_after (progress p id) (Reply c answer)) refl ∙ is

stays-asked : (size : ℕ) (es : List Entry) (p : Past) (id : CallId) (r : Asked) → Each (IsInTurn size) (fold ◌▸◌ p es) → id.call ≤ last_call p id.pass → (progress p id).asked ≡ Some r → (progress (fold ◌▸◌ p es) id).asked ≡ Some r
stays-asked size [] p id r each low is = is
stays-asked size (e ∷ es) p id r each low is =
    let turn = (each-begins (IsInTurn size) es (p ▸ e) each).1 in
    stays-asked size es (p ▸ e) id r each (rises size p e id.pass id.call turn low) (still size p e id r turn low is)

asked-from : (size : ℕ) (es : List Entry) (p : Past) (id : CallId) (a : ℕ) (r : Asked) → Each (IsInTurn size) (fold ◌▸◌ p es) → slice_get es a ≡ Some (Ask id r) → (progress (fold ◌▸◌ p es) id).asked ≡ Some r
asked-from size [] p id a r each at = absurd (cc)
asked-from size (e ∷ es) p id zero r each at =
    stays-asked size es (p ▸ e) id r each (subst (λ (d : Entry). id.call ≤ last_call (p ▸ d) id.pass) (sym (first-at e (Ask id r) es at)) (own-call p id r))
    (subst (λ (d : Entry). (progress (p ▸ d) id).asked ≡ Some r) (sym (first-at e (Ask id r) es at)) (ap (λ (g : Progress). g.asked) (progress-own p (Ask id r))))
asked-from size (e ∷ es) p id (suc a) r each at = asked-from size es (p ▸ e) id a r each at

-- and that is of the request that it is said to have asked.
pub asked-at : (size : ℕ) (es : List Entry) (id : CallId) (a : ℕ) (r : Asked) → Each (IsInTurn size) (past es) → slice_get es a ≡ Some (Ask id r) → (progress (past es) id).asked ≡ Some r
asked-at size es id a r each at = asked-from size es nothing id a r each at
