-- What the law says stood before the ask of a call.
use Rattle.std.proofs.Common.{ℕ, ◌≡◌, ◌<◌, ◌⊎◌, inl, inr, [], ◌∷◌, ◌++◌, Some, Bool, true, false, arith, refl, ap, sym, subst, ◌∙◌}
use Rattle.std.specs.Prelude.{if◌then◌else◌}
use Rattle.std.proofs.lemmas.Bool.{cases_lt, cases_Bool}
use Rattle.std.proofs.lemmas.List.{length_push}
use Rattle.vd_law.specs.Entries.{call_of, same_call, Past, nothing, ◌▸◌}
use Rattle.vd_law.specs.Calls.{progress, progress_after, before_ask}
use Rattle.vd_law.proofs.Opening.{same_call-is, same_call-refl}
use Rattle.vd_image.specs.Log.{Sector, CallId, Asked, Entry, Ask, Issue, Done, Broke, Seen, Reply, At, Ends}
use Rattle.vd_image.proofs.Logs.{at_push, at_end, at_below, at_pushed, at_one, ends_push, ends_pushed}
use Rattle.vd_image.proofs.NthWrites.{list_of, size, IsNth}
use Rattle.vd_image.proofs.OpenWrites.{differs}

-- q is what stood before the a-th entry
abbrev pub IsBefore : Past → ℕ → Past → Type 0
IsBefore nothing a q = ⊥
IsBefore (p ▸ e) a q = IsBefore p a q ⊎ ((a ≡ size p) × (p ≡ q))

pub before_below : (p q : Past) (a : ℕ) → IsBefore p a q → a < size p
before_below nothing q a h = absurd h
before_below (p ▸ e) q a (inl h) = let b = before_below p q a h in let l = length_push (list_of p) e in omega arith
before_below (p ▸ e) q a (inr h) = let l = length_push (list_of p) e in omega (arith, h.0)

pub before_nth : (p q : Past) (a s n i : ℕ) (v : Sector) → IsBefore p a q → IsNth q s n i v → IsNth p s n i v
before_nth nothing q a s n i v h nth = absurd h
before_nth (p ▸ e) q a s n i v (inl h) nth = inl (before_nth p q a s n i v h nth)
before_nth (p ▸ e) q a s n i v (inr h) nth = inl (subst (λ (r : Past). IsNth r s n i v) (sym h.1) nth)

pub nth_before : (p q : Past) (a s n i : ℕ) (v : Sector) → IsBefore p a q → i < a → IsNth p s n i v → IsNth q s n i v
nth_before nothing q a s n i v h less nth = absurd h
nth_before (p ▸ e) q a s n i v (inl h) less (inl nth) = nth_before p q a s n i v h less nth
nth_before (p ▸ e) q a s n i v (inr h) less (inl nth) = subst (λ (r : Past). IsNth r s n i v) h.1 nth
nth_before (p ▸ e) q a s n i v (inl h) less (inr nth) = absurd (let b = before_below p q a h in omega (arith, nth.0))
nth_before (p ▸ e) q a s n i v (inr h) less (inr nth) = absurd (omega (arith, nth.0, h.0))

pub before_ends : (p q : Past) (a i d : ℕ) → IsBefore p a q → Ends (list_of q) i d → Ends (list_of p) i d × (d < a)
before_ends nothing q a i d h ends = absurd h
before_ends (p ▸ e) q a i d (inl h) ends = let k = before_ends p q a i d h ends in (ends_push (list_of p) e i d k.0, k.1)
before_ends (p ▸ e) q a i d (inr h) ends =
    let here : Ends (list_of p) i d = subst (λ (r : Past). Ends (list_of r) i d) (sym h.1) ends in
    let below = at_below (list_of p) d (Done here.id) here.done in
    (ends_push (list_of p) e i d here, omega (arith, h.0))

pub ends_before : (p q : Past) (a i d : ℕ) → IsBefore p a q → d < a → Ends (list_of p) i d → Ends (list_of q) i d
ends_before nothing q a i d h less ends = absurd h
ends_before (p ▸ e) q a i d (inl h) less ends = elim (ends_pushed (list_of p) e i d ends) [
  | inl old ↦ ends_before p q a i d h less old
  | inr new ↦ absurd (let b = before_below p q a h in omega (arith, new.0))
]
ends_before (p ▸ e) q a i d (inr h) less ends = elim (ends_pushed (list_of p) e i d ends) [
  | inl old ↦ subst (λ (r : Past). Ends (list_of r) i d) h.1 old
  | inr new ↦ absurd (omega (arith, new.0, h.0))
]

-- the a-th entry is the last ask of the call
abbrev pub IsLastAsk : Past → ℕ → CallId → Asked → Type 0
IsLastAsk p a id request = At (list_of p) a (Ask id request) × ((m : ℕ) (other : Asked) → a < m → At (list_of p) m (Ask id other) → ⊥)

pub ask_old : (p : Past) (e : Entry) (a : ℕ) (id : CallId) (request : Asked) → ((other : Asked) → e ≡ Ask id other → ⊥) → IsLastAsk p a id request → IsLastAsk (p ▸ e) a id request
ask_old p e a id request not h = (at_push (list_of p) e a (Ask id request) h.0, λ m other after at. elim (at_pushed (list_of p) e m (Ask id other) at) [ inl k ↦ h.1 m other after k | inr k ↦ not other k.1 ])

pub ask_shorter : (p : Past) (e : Entry) (a : ℕ) (id : CallId) (request : Asked) → a < size p → IsLastAsk (p ▸ e) a id request → IsLastAsk p a id request × ((other : Asked) → e ≡ Ask id other → ⊥)
ask_shorter p e a id request below h = (
  (
    elim (at_pushed (list_of p) e a (Ask id request) h.0) [ inl k ↦ k | inr k ↦ absurd (omega (arith, k.0)) ],
    λ m other after at. h.1 m other after (at_push (list_of p) e m (Ask id other) at),
  ),
  λ other same. h.1 (size p) other below (subst (λ (x : Entry). At (list_of p ++ e ∷ []) (size p) x) same (at_end (list_of p) e)),
)

-- what the law knows of the call's request, and of what stood before its ask
pub ask_known : (p : Past) (a : ℕ) (id : CallId) (request : Asked) → IsLastAsk p a id request → ((progress p id).asked ≡ Some request) × IsBefore p a (before_ask p id)
ask_known nothing a id request h = absurd (let at = h.0 in cc)
ask_known (p ▸ e) a id request h = elim (cases_lt a (size p)) [
  | inl below ↦ (let k = ask_shorter p e a id request below h in later e (ask_known p a id request k.0) k.1)
  | inr not_below ↦ (
      let bound = at_below (list_of p ++ e ∷ []) a (Ask id request) h.0 in
      let l = length_push (list_of p) e in
      let place : a ≡ size p = omega arith in
      let event : e ≡ Ask id request = at_one (list_of p ++ e ∷ []) (size p) e (Ask id request) (at_end (list_of p) e) (subst (λ (j : ℕ). At (list_of p ++ e ∷ []) j (Ask id request)) place h.0) in
      subst (λ (x : Entry). ((progress (p ▸ x) id).asked ≡ Some request) × IsBefore (p ▸ x) a (before_ask (p ▸ x) id)) (sym event) (
        ap (λ (b : Bool). (if b then progress_after (progress p id) (Ask id request) else progress p id).asked) (same_call-refl id),
        inr (place, sym (ap (λ (b : Bool). if b then p else before_ask p id) (same_call-refl id))),
      ))
]
  where
    same_asked : (e : Entry) (b : Bool) → (progress_after (progress p id) e).asked ≡ (progress p id).asked → (progress p id).asked ≡ Some request → (if b then progress_after (progress p id) e else progress p id).asked ≡ Some request
    same_asked e true same was = same ∙ was
    same_asked e false same was = was

    later : (e : Entry) → ((progress p id).asked ≡ Some request) × IsBefore p a (before_ask p id) → ((other : Asked) → e ≡ Ask id other → ⊥) → ((progress (p ▸ e) id).asked ≡ Some request) × IsBefore (p ▸ e) a (before_ask (p ▸ e) id)
    later (Ask c other) k not =
        let differ : same_call c id ≡ false = differs c id (λ same. not other (ap (λ (d : CallId). Ask d other) (sym same))) in (
          ap (λ (b : Bool). (if b then progress_after (progress p id) (Ask c other) else progress p id).asked) differ ∙ k.0,
          inl (subst (λ (q : Past). IsBefore p a q) (sym (ap (λ (b : Bool). if b then p else before_ask p id) differ)) k.1),
        )
    later (Issue c first content) k not = (same_asked (Issue c first content) (same_call c id) refl k.0, inl k.1)
    later (Done c) k not = (same_asked (Done c) (same_call c id) refl k.0, inl k.1)
    later (Broke c) k not = (same_asked (Broke c) (same_call c id) refl k.0, inl k.1)
    later (Seen c first content) k not = (same_asked (Seen c first content) (same_call c id) refl k.0, inl k.1)
    later (Reply c answer) k not = (same_asked (Reply c answer) (same_call c id) refl k.0, inl k.1)

pub known_ask : (p : Past) (id : CallId) (request : Asked) → (progress p id).asked ≡ Some request → (a : ℕ) × IsLastAsk p a id request
known_ask nothing id request is = absurd cc
known_ask (p ▸ e) id request is = by_entry (known_ask p id request) e is
  where
    old : ((progress p id).asked ≡ Some request → (a : ℕ) × IsLastAsk p a id request) → (e : Entry) → ((other : Asked) → e ≡ Ask id other → ⊥) → (progress p id).asked ≡ Some request → (a : ℕ) × IsLastAsk (p ▸ e) a id request
    old again e not was = let h = again was in (h.0, ask_old p e h.0 id request not h.1)

    same_asked : (e : Entry) (b : Bool) → (progress_after (progress p id) e).asked ≡ (progress p id).asked → (if b then progress_after (progress p id) e else progress p id).asked ≡ Some request → (progress p id).asked ≡ Some request
    same_asked e true same is_now = sym same ∙ is_now
    same_asked e false same is_now = is_now

    by_entry : ((progress p id).asked ≡ Some request → (a : ℕ) × IsLastAsk p a id request) → (e : Entry) → (progress (p ▸ e) id).asked ≡ Some request → (a : ℕ) × IsLastAsk (p ▸ e) a id request
    by_entry again (Ask c other) is_now = elim (cases_Bool (same_call c id)) [
      | inl same ↦
          let asked : Some other ≡ Some request = sym (ap (λ (b : Bool). (if b then progress_after (progress p id) (Ask c other) else progress p id).asked) same) ∙ is_now in
          let request_is : other ≡ request = cc in
          let event : Ask c other ≡ Ask id request = (let call = same_call-is c id same in cc) in (
            size p,
            (
              subst (λ (x : Entry). At (list_of p ++ Ask c other ∷ []) (size p) x) event (at_end (list_of p) (Ask c other)),
              λ m x after at. let b = at_below (list_of p ++ Ask c other ∷ []) m (Ask id x) at in let l = length_push (list_of p) (Ask c other) in omega arith,
            ),
          )
      | inr differ ↦ old again (Ask c other)
          (λ x same. let call : c ≡ id = ap call_of same in let told = ap (λ (d : CallId). same_call c d) call in let is_same = same_call-refl c in cc)
          (sym (ap (λ (b : Bool). (if b then progress_after (progress p id) (Ask c other) else progress p id).asked) differ) ∙ is_now)
    ]
    by_entry again (Issue c first content) is_now = old again (Issue c first content) (λ x same. absurd cc) (same_asked (Issue c first content) (same_call c id) refl is_now)
    by_entry again (Done c) is_now = old again (Done c) (λ x same. absurd cc) (same_asked (Done c) (same_call c id) refl is_now)
    by_entry again (Broke c) is_now = old again (Broke c) (λ x same. absurd cc) (same_asked (Broke c) (same_call c id) refl is_now)
    by_entry again (Seen c first content) is_now = old again (Seen c first content) (λ x same. absurd cc) (same_asked (Seen c first content) (same_call c id) refl is_now)
    by_entry again (Reply c answer) is_now = old again (Reply c answer) (λ x same. absurd cc) (same_asked (Reply c answer) (same_call c id) refl is_now)
