-- The origins of a tape stay what they say.
use Rattle.std.proofs.Common.{◌≡◌, ℕ, zero, suc, ◌≤◌, max, inl, inr, Bool, true, false, List, [], ◌∷◌, ◌++◌, Some, length, take, drop, refl, ap, sym, ◌∙◌, subst, arith, length-append}
use Rattle.std.specs.Prelude.{if◌then◌else◌, slice_get}
use Rattle.std.specs.List.{fold}
use Rattle.std.proofs.lemmas.Bool.{cases_lt, cond_both}
use Rattle.std.proofs.lemmas.List.{take-append-le, take-append-drop, take-take, take_at}
use Rattle.std.proofs.lemmas.Option.{slice_get_within}
use Rattle.std.proofs.Math.Nat.{max-le}
use Rattle.vd_lists.proofs.Places.{slice_get_front, slice_get_last}
use Rattle.vd_law.specs.Entries.{Entry, Ask, Issue, Done, Broke, Seen, Reply, Past, nothing, ◌▸◌, past}
use Rattle.vd_law.specs.Calls.{progress, before_ask}
use Rattle.vd_law.specs.Contents.{last_done, is_flushed, firm_after}
use Rattle.vd_law.specs.Rules.{is_ok}
use Rattle.vd_law.proofs.Appending.{past-push}
use Rattle.vd_law.proofs.RuleLaws.{past-append}
use Rattle.vd_device.specs.Calls.{next_number}
use Rattle.vd_faults.specs.Tapes.{TapeState, takes, lengthened, taped}
use Rattle.vd_faults.specs.Traced.{IsTracedAt, IsTracedTape}

-- What is done in a beginning of a log.

last_done-more : (p : Past) (e : Entry) (s : ℕ) → last_done p s ≤ last_done (p ▸ e) s
last_done-more p (Ask id request) s = omega arith
last_done-more p (Issue id first content) s = omega arith
last_done-more p (Done id) s = omega arith
last_done-more p (Broke id) s = omega arith
last_done-more p (Seen id first content) s = omega arith
last_done-more p (Reply id answer) s = omega arith

last_done-fold : (more : List Entry) (p : Past) (s : ℕ) → last_done p s ≤ last_done (fold ◌▸◌ p more) s
last_done-fold [] p s = omega arith
last_done-fold (e ∷ more) p s = omega (arith, last_done-more p e s, last_done-fold more (p ▸ e) s)

done-take : (log : List Entry) (a b s : ℕ) → a ≤ b → last_done (past (take a log)) s ≤ last_done (past (take b log)) s
done-take log a b s le =
    let front = take a (take b log) in let back = drop a (take b log) in
    let parts : past (take b log) ≡ fold ◌▸◌ (past front) back = ap past (sym (take-append-drop a (take b log))) ∙ past-append front back nothing in
    let same : last_done (past front) s ≡ last_done (past (take a log)) s = ap (λ (l : List Entry). last_done (past l) s) (take-take a b log le) in
    omega (arith, last_done-fold back (past front) s, ap (λ (p : Past). last_done p s) parts, same)

-- of two beginnings it is the longer one that counts
done-max : (log : List Entry) (a b s : ℕ) → max (last_done (past (take a log)) s) (last_done (past (take b log)) s) ≡ last_done (past (take (max a b) log)) s
done-max log a b s =
    elim (cases_lt a b) [
      | inl less ↦ let longer : max a b ≡ b = omega arith in
          omega (arith, done-take log a b s (omega arith), ap (λ (n : ℕ). last_done (past (take n log)) s) longer)
      | inr more ↦ let longer : max a b ≡ a = omega arith in
          omega (arith, done-take log b a s more, ap (λ (n : ℕ). last_done (past (take n log)) s) longer)
    ]

-- One more entry.

longer : (n : ℕ) (log : List Entry) (x : Entry) (p : Past) (e : Entry) (place : ℕ) → IsTracedAt n log p e place → IsTracedAt n (log ++ x ∷ []) p e place
longer n log x p (Ask id request) place at = tt
longer n log x p (Issue id first content) place at = at
longer n log x p (Done id) place at = record {
  first = at.first;
  content = at.content;
  issue = slice_get_front log (x ∷ []) place (slice_get_within log place _ at.issue) ∙ at.issue;
  ends = at.ends;
}
longer n log x p (Broke id) place at = tt
longer n log x p (Seen id first content) place at = tt
longer n log x p (Reply id answer) place at = tt

-- an Ok answers a flush, and its call began at the place
abbrev pub IsSealing : (log : List Entry) → Entry → (place : ℕ) → Type 0
IsSealing log (Ask id request) place = Unit {0}
IsSealing log (Issue id first content) place = Unit {0}
IsSealing log (Done id) place = Unit {0}
IsSealing log (Broke id) place = Unit {0}
IsSealing log (Seen id first content) place = Unit {0}
IsSealing log (Reply id answer) place =
    (is_flushed (progress (past log) id).asked answer ≡ is_ok answer) × (is_ok answer ≡ true → (place ≤ length log) × (before_ask (past log) id ≡ past (take place log)))

module _ (n : ℕ) (tape : TapeState) (place : ℕ) (before : IsTracedTape n tape) where
  abbrev log : List Entry
  log = tape.log.entries

  -- what was done among the sealed ones stays
  still : (e : Entry) (k s : ℕ) → k ≤ length log → last_done (past (take k log)) s ≡ last_done (past (take k (log ++ e ∷ []))) s
  still e k s within = ap (λ (l : List Entry). last_done (past l) s) (sym (take-append-le k log (e ∷ []) within))

  pushed : (e : Entry) (s : ℕ) → firm_after (past (log ++ e ∷ [])) s ≡ firm_after (past log ▸ e) s
  pushed e s = ap (λ (p : Past). firm_after p s) (past-push log e)

  kept : (e : Entry) (s : ℕ) → firm_after (past log ▸ e) s ≡ firm_after (past log) s → firm_after (past (log ++ e ∷ [])) s ≡ last_done (past (take tape.sealed (log ++ e ∷ []))) s
  kept e s same = pushed e s ∙ same ∙ before.firm s ∙ still e tape.sealed s before.sealed

  firm-more : (e : Entry) → IsSealing log e place → (s : ℕ) → firm_after (past (log ++ e ∷ [])) s ≡ last_done (past (take (lengthened e place tape).sealed (log ++ e ∷ []))) s
  firm-more (Ask id request) sealing s = kept (Ask id request) s refl
  firm-more (Issue id first content) sealing s = kept (Issue id first content) s refl
  firm-more (Done id) sealing s = kept (Done id) s refl
  firm-more (Broke id) sealing s = kept (Broke id) s refl
  firm-more (Seen id first content) sealing s = kept (Seen id first content) s refl
  firm-more (Reply id answer) sealing s =
      let e : Entry = Reply id answer in let old = firm_after (past log) s in let new = last_done (before_ask (past log) id) s in
      pushed e s ∙ ap (λ (b : Bool). if b then max old new else old) sealing.0
      ∙ by_answer (is_ok answer) sealing.1
    where
      by_answer : (ok : Bool) → (ok ≡ true → (place ≤ length log) × (before_ask (past log) id ≡ past (take place log)))
          → (if ok then max (firm_after (past log) s) (last_done (before_ask (past log) id) s) else firm_after (past log) s) ≡ last_done (past (take (if ok then max tape.sealed place else tape.sealed) (log ++ Reply id answer ∷ []))) s
      by_answer true ok = let at = ok refl in
          ap (λ (k : ℕ). max k (last_done (before_ask (past log) id) s)) (before.firm s)
          ∙ ap (λ (p : Past). max (last_done (past (take tape.sealed log)) s) (last_done p s)) at.1
          ∙ done-max log tape.sealed place s ∙ still (Reply id answer) (max tape.sealed place) s (max-le before.sealed at.0)
      by_answer false ok = before.firm s ∙ still (Reply id answer) tape.sealed s before.sealed

  sealed-more : (e : Entry) → IsSealing log e place → (lengthened e place tape).sealed ≤ length (log ++ e ∷ [])
  sealed-more (Ask id request) sealing = omega (arith, before.sealed, length-append log (Ask id request ∷ []))
  sealed-more (Issue id first content) sealing = omega (arith, before.sealed, length-append log (Issue id first content ∷ []))
  sealed-more (Done id) sealing = omega (arith, before.sealed, length-append log (Done id ∷ []))
  sealed-more (Broke id) sealing = omega (arith, before.sealed, length-append log (Broke id ∷ []))
  sealed-more (Seen id first content) sealing = omega (arith, before.sealed, length-append log (Seen id first content ∷ []))
  sealed-more (Reply id answer) sealing =
      cond_both (is_ok answer) (max tape.sealed place) tape.sealed (λ (k : ℕ). k ≤ length (log ++ Reply id answer ∷ []))
      (λ ok. omega (arith, before.sealed, (sealing.1 ok).0, length-append log (Reply id answer ∷ [])))
      (λ other. omega (arith, before.sealed, length-append log (Reply id answer ∷ [])))

  each-more : (e : Entry) → IsTracedAt n log (past log) e place → (i : ℕ) (x : Entry) (at : ℕ) → slice_get (log ++ e ∷ []) i ≡ Some x → slice_get (tape.origins ++ place ∷ []) i ≡ Some at → IsTracedAt n (log ++ e ∷ []) (past (take i (log ++ e ∷ []))) x at
  each-more e new i x at entry origin =
      elim (cases_lt i (length log)) [
        | inl old ↦
            subst (λ (l : List Entry). IsTracedAt n (log ++ e ∷ []) (past l) x at) (sym (take-append-le i log (e ∷ []) (omega arith)))
            (longer n log e (past (take i log)) x at (before.each i x at (sym (slice_get_front log (e ∷ []) i old) ∙ entry) (sym (slice_get_front tape.origins (place ∷ []) i (omega (arith, before.all))) ∙ origin)))
        | inr late ↦
            let within = slice_get_within (log ++ e ∷ []) i x entry in
            let last : i ≡ length log = omega (arith, within, length-append log (e ∷ [])) in
            let there : Some e ≡ Some x = sym (slice_get_last log e) ∙ ap (slice_get (log ++ e ∷ [])) (sym last) ∙ entry in
            let began : Some place ≡ Some at = sym (slice_get_last tape.origins place) ∙ ap (slice_get (tape.origins ++ place ∷ [])) (before.all ∙ sym last) ∙ origin in
            subst (λ (l : List Entry). IsTracedAt n (log ++ e ∷ []) (past l) x at) (sym (take_at log (e ∷ []) i (sym last)))
            (longer n log e (past log) x at (subst (λ (y : Entry). IsTracedAt n log (past log) y at) (same_entry e x there) (subst (λ (k : ℕ). IsTracedAt n log (past log) e k) (same_place place at began) new)))
      ]
    where
      same_entry : (a b : Entry) → Some a ≡ Some b → a ≡ b
      same_entry a b same = cc

      same_place : (a b : ℕ) → Some a ≡ Some b → a ≡ b
      same_place a b same = cc

  pub traced-push : (e : Entry) → IsTracedAt n log (past log) e place → IsSealing log e place → IsTracedTape n (lengthened e place tape)
  traced-push e new sealing = record {
    all = omega (arith, before.all, length-append tape.origins (place ∷ []), length-append log (e ∷ []));
    each = each-more e new;
    sealed = sealed-more e sealing;
    firm = firm-more e sealing;
  }

  -- the tape after a call
  pub traced-taped : (e : Entry) → (takes tape.log tape.fuse tape.over e ≡ true → IsTracedAt n log (past log) e place × IsSealing log e place) → IsTracedTape n (taped e place tape)
  traced-taped e new =
      cond_both (takes tape.log tape.fuse tape.over e) (lengthened e place tape) (record tape { over = next_number tape.over }) (IsTracedTape n)
      (λ can. let facts = new can in traced-push e facts.0 facts.1)
      (λ full. record { all = before.all; each = before.each; sealed = before.sealed; firm = before.firm })

pub traced-nothing : (n : ℕ) (tape : TapeState) → tape.log.entries ≡ [] → tape.origins ≡ [] → tape.sealed ≡ 0 → IsTracedTape n tape
traced-nothing n tape none no_origin unsealed = record {
  all = ap length no_origin ∙ sym (ap length none);
  each = λ i e place at origin. absurd (let within = slice_get_within tape.log.entries i e at in omega (arith, within, ap length none));
  sealed = omega (arith, unsealed);
  firm = λ s. ap (λ (l : List Entry). firm_after (past l) s) none ∙ ap (λ (l : List Entry). last_done (past l) s) (sym (ap (take tape.sealed) none ∙ nothing_of tape.sealed));
}
  where
    nothing_of : (k : ℕ) → take {A = Entry} k [] ≡ []
    nothing_of zero = refl
    nothing_of (suc k) = refl
