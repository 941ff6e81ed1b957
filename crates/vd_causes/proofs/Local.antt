-- The blocks that are local are those that were so and those in which a write is done.
use Rattle.std.proofs.Common.{◌≡◌, ◌≢◌, ◌⊎◌, ℕ, ◌+◌, ◌<◌, ◌≤◌, max, Bool, true, false, List, [], ◌∷◌, ◌++◌, length, map, refl, sym, ◌∙◌, ap, subst, inl, inr, arith, Option, Some, None, slice_get, slice_set}
use Rattle.std.specs.Prelude.{◌↔◌}
use Rattle.std.specs.List.{find, filter}
use Rattle.std.proofs.lemmas.Bool.{cases_eq, cases_Bool}
use Rattle.vd_lists.proofs.Places.{some_place}
use Rattle.vd_law.specs.declared.entry.Sector.{Sector}
use Rattle.vd_law.specs.declared.entry.CallId.{CallId}
use Rattle.vd_law.specs.Entries.{Entry, Ask, Issue, Done, Broke, Seen, Reply, same_call, Past, nothing, ◌▸◌, past}
use Rattle.vd_law.specs.Contents.{sector_in, issued_contents, Open, open_after_issue, is_of, is_of_another, open_writes, open_write, issue_number, last_done}
use Rattle.vd_law.proofs.Appending.{after-push}
use Rattle.vd_device.specs.declared.store.Store as store
use Rattle.vd_device.specs.declared.base.Base as base
use Rattle.vd_format.specs.declared.map.Entry.{Entry as MapEntry}
use Rattle.vd_passes.specs.declared.shape.Shape.{Shape}
use Rattle.vd_passes.specs.declared.pass.Pass.{Pass}
use Rattle.vd_passes.specs.declared.pass.Phase.TheVariants.{Issuing}
use Rattle.vd_passes.specs.Tracks.{content_by, writes}
use Rattle.vd_passes.specs.Places.{IsIn}
use Rattle.vd_passes.specs.Passes.{has_region, call_id, IsWriting}
use Rattle.vd_passes.specs.Requests.{requests}
use Rattle.vd_passes.specs.Coherent.{IsCoherent}
use Rattle.vd_passes.proofs.Lists.{some-inj, get-set-same, get-set-other}
use Rattle.vd_passes.proofs.Places.{same-block}
use Rattle.vd_passes.proofs.Tracks.{same-itself, same-false}
use Rattle.vd_passes.proofs.Regions.{region-of, issuing-write, writing-block, only-writer}
use Rattle.vd_machine.specs.Opened.{was_local}
use Rattle.vd_causes.specs.Local.{IsWrittenIn, AreLocalBy}

-- No entry but a Done changes them.

abbrev pub LeavesDone : Entry → Type 0
LeavesDone (Done id) = ⊥
LeavesDone e = Unit {0}

same-done : (history : List Entry) (e : Entry) (s : ℕ) → LeavesDone e → last_done (past (history ++ e ∷ [])) s ≡ last_done (past history) s
same-done history (Done id) s leaves = absurd leaves
same-done history e s leaves = after-push (λ (p : Past). last_done p s) history e

written-more : (shape : Shape) (history history' : List Entry) (b : ℕ) → ((s : ℕ) → last_done (past history) s ≤ last_done (past history') s) → IsWrittenIn shape history b → IsWrittenIn shape history' b
written-more shape history history' b more w = (w.0, w.1, (let m = more w.0 in let some = w.2 in omega (arith, m, some)))

module _ {shape : Shape} {had : List MapEntry} {fresh : List Bool} {history history' : List Entry} where
  done-same : ((s : ℕ) → last_done (past history') s ≡ last_done (past history) s) → AreLocalBy shape had fresh history → AreLocalBy shape had fresh history'
  done-same same local = record {
    each = λ b within.
        let h = local.each b within in (
          (λ is. elim (h.0 is) [ inl was ↦ inl was | inr w ↦ inr (written-more shape history history' b (λ s. let e = same s in omega (arith, e)) w) ]),
          (λ why. h.1 (elim why [ inl was ↦ inl was | inr w ↦ inr (written-more shape history' history b (λ s. let e = same s in omega (arith, e)) w) ])),
        );
  }

  pub entry-local : (e : Entry) → LeavesDone e → history' ≡ history ++ e ∷ [] → AreLocalBy shape had fresh history → AreLocalBy shape had fresh history'
  entry-local e leaves more = done-same (λ s. ap (λ (h : List Entry). last_done (past h) s) more ∙ same-done history e s leaves)

  pub same-local : history' ≡ history → AreLocalBy shape had fresh history → AreLocalBy shape had fresh history'
  same-local same = done-same (λ s. ap (λ (h : List Entry). last_done (past h) s) same)

-- The writes that are open are numbered from 1.

Counted : List Open → Type 0
Counted [] = Unit {0}
Counted (w ∷ ws) = (0 < w.number) × Counted ws

counted-filter : (t : Open → Bool) (ws : List Open) → Counted ws → Counted (filter t ws)
unfolding Counted
counted-filter t [] all = tt
counted-filter t (w ∷ ws) all = elim (cases_Bool (t w)) [
  | inl in_it ↦ rw in_it (all.0, counted-filter t ws all.1)
  | inr out ↦ rw out (counted-filter t ws all.1)
]

counted-opened : (id : CallId) (n : ℕ) (o : Option Sector) (ws : List Open) → Counted ws → Counted (open_after_issue id (n + 1) o ++ ws)
unfolding Counted
counted-opened id n None ws all = all
counted-opened id n (Some v) ws all = (omega arith, all)

counted : (p : Past) (s : ℕ) → Counted (open_writes p s)
unfolding Counted
counted nothing s = tt
counted (p ▸ Ask id request) s = counted p s
counted (p ▸ Issue id first content) s = counted-opened id (length (issued_contents p s)) (sector_in first content s) (open_writes p s) (counted p s)
counted (p ▸ Done id) s = counted-filter (is_of_another id) (open_writes p s) (counted p s)
counted (p ▸ Broke id) s = counted-filter (is_of_another id) (open_writes p s) (counted p s)
counted (p ▸ Seen id first content) s = counted p s
counted (p ▸ Reply id answer) s = counted p s

none-found : (id : CallId) (ws : List Open) → map content_by ws ≡ [] → issue_number (find (is_of id) ws) ≡ 0
none-found id [] none = refl
none-found id (w ∷ ws) none = absurd (cc)

other-found : (id other : CallId) (c : Sector) (ws : List Open) → map content_by ws ≡ (other, c) ∷ [] → same_call other id ≡ false → issue_number (find (is_of id) ws) ≡ 0
other-found id other c [] one ne = absurd (cc)
other-found id other c (w ∷ ws) one ne =
    let pair : content_by w ≡ (other, c) = cc in let rest : map content_by ws ≡ [] = cc in let call : w.call ≡ other = ap (λ (x : CallId × Sector). x.0) pair in
    let not : same_call w.call id ≡ false = ap (λ (x : CallId). same_call x id) call ∙ ne in
    rw not (none-found id ws rest)

own-found : (id : CallId) (c : Sector) (ws : List Open) → map content_by ws ≡ (id, c) ∷ [] → Counted ws → 0 < issue_number (find (is_of id) ws)
unfolding Counted
own-found id c [] one all = absurd (cc)
own-found id c (w ∷ ws) one all =
    let pair : content_by w ≡ (id, c) = cc in let call : w.call ≡ id = ap (λ (x : CallId × Sector). x.0) pair in
    let is : same_call w.call id ≡ true = ap (λ (x : CallId). same_call x id) call ∙ same-itself id in
    rw is all.0

open-none : (id : CallId) (history : List Entry) (s : ℕ) → writes history s ≡ [] → issue_number (open_write (past history) id s) ≡ 0
unfolding writes
open-none id history s none = none-found id (open_writes (past history) s) none

open-other : (id other : CallId) (c : Sector) (history : List Entry) (s : ℕ) → writes history s ≡ (other, c) ∷ [] → same_call other id ≡ false → issue_number (open_write (past history) id s) ≡ 0
unfolding writes
open-other id other c history s one ne = other-found id other c (open_writes (past history) s) one ne

open-own : (id : CallId) (c : Sector) (history : List Entry) (s : ℕ) → writes history s ≡ (id, c) ∷ [] → 0 < issue_number (open_write (past history) id s)
unfolding writes
open-own id c history s one = own-found id c (open_writes (past history) s) one (counted (past history) s)

-- A write is done: its block is local from then on.
module _ {shape : Shape} {fresh : List Bool} {places : ℕ → Option ℕ} {passes : List Pass} {history : List Entry} {S B : Type 0} {sg : store.Ghosts S} {bg : base.Ghosts B} {the_store : S} {the_base : B}
    (co : IsCoherent sg bg (requests shape fresh passes history) places the_store the_base) (i : ℕ) (p : Pass) (there : slice_get passes i ≡ Some p) (issuing : p.phase ≡ Issuing) where
  abbrev id : CallId
  id = call_id i p

  holds : has_region p.phase ≡ true
  holds = region-of _ Issuing refl issuing

  -- the first sector of the piece
  at : ℕ
  at = p.first + p.done

  writing : IsWriting p at
  unfolding at
  writing = let some = ((co.each i p there).piece holds).some in record { phase = issuing; from = omega arith; to = omega (arith, some) }

  within : IsIn shape.block p.block at
  within = writing-block (co.each i p there) writing

  done-is : (s : ℕ) → last_done (past (history ++ Done id ∷ [])) s ≡ max (last_done (past history) s) (issue_number (open_write (past history) id s))
  done-is s = after-push (λ (x : Past). last_done x s) history (Done id)

  this : (w : Pass) (by : ℕ) → slice_get passes by ≡ Some w → by ≡ i → w ≡ p
  this w by found e = some-inj (sym found ∙ ap (slice_get passes) e ∙ there)

  -- the write of its own that is open in its piece
  own-open : 0 < issue_number (open_write (past history) id at)
  own-open = elim (co.guest at) [
    | inl none ↦ absurd (none.nobody i p there writing)
    | inr w ↦
        let e = only-writer co i p there holds (issuing-write (co.each i p there) issuing) at within w in
        let same = this w.pass w.by w.there e in
        open-own id w.content history at (subst (λ (x : Pass). writes history at ≡ (call_id i x, w.content) ∷ []) same (subst (λ (k : ℕ). writes history at ≡ (call_id k w.pass, w.content) ∷ []) e w.one))
  ]

  -- it has none open elsewhere
  else-none : (s : ℕ) → (IsIn shape.block p.block s → ⊥) → issue_number (open_write (past history) id s) ≡ 0
  else-none s out = elim (co.guest s) [
    | inl none ↦ open-none id history s none.none
    | inr w ↦ elim (cases_eq w.by i) [
      | inl e ↦ absurd (out (writing-block (co.each i p there) (subst (λ (x : Pass). IsWriting x s) (this w.pass w.by w.there e) w.writing)))
      | inr ne ↦ open-other id (call_id w.by w.pass) w.content history s w.one (same-false (call_id w.by w.pass) id (λ e f. ne e))
    ]
  ]

  out-of : (b s : ℕ) → b ≢ p.block → IsIn shape.block b s → IsIn shape.block p.block s → ⊥
  out-of b s ne inside other = ne (same-block shape.block b p.block s inside other)

  pub done-local : {had : List MapEntry} → AreLocalBy shape had fresh history → AreLocalBy shape had (slice_set fresh p.block true) (history ++ Done id ∷ [])
  done-local {had} local = record { each = λ b inside. each b inside }
    where
      each : (b : ℕ) → b < shape.blocks → (slice_get (slice_set fresh p.block true) b ≡ Some true) ↔ ((was_local shape had b ≡ true) ⊎ IsWrittenIn shape (history ++ Done id ∷ []) b)
      each b inside = elim (cases_eq b p.block) [
        | inl e ↦
            let old = some_place fresh b (let size = co.size in omega (arith, inside, size)) in
            let set : slice_get (slice_set fresh p.block true) b ≡ Some true = ap (slice_get (slice_set fresh p.block true)) e ∙ get-set-same fresh p.block true old.0 (ap (slice_get fresh) (sym e) ∙ old.1) in
            let issued_contents : IsWrittenIn shape (history ++ Done id ∷ []) b = (at, subst (λ (x : ℕ). IsIn shape.block x at) (sym e) within, (let d = done-is at in let own = own-open in omega (arith, d, own))) in
            (λ is. inr issued_contents, λ why. set)
        | inr ne ↦
            let h = local.each b inside in let same = get-set-other fresh p.block b true ne in (
              (λ is. elim (h.0 (sym same ∙ is)) [
                | inl was ↦ inl was
                | inr w ↦ inr (w.0, w.1, (let d = done-is w.0 in let some = w.2 in omega (arith, d, some)))
              ]),
              (λ why. same ∙ h.1 (elim why [
                | inl was ↦ inl was
                | inr w ↦ inr (w.0, w.1, (let d = done-is w.0 in let some = w.2 in let none = else-none w.0 (out-of b w.0 ne w.1) in omega (arith, d, some, none)))
              ])),
            )
      ]

-- At opening they are those of the map.
pub new-local : {shape : Shape} {had : List MapEntry} {fresh : List Bool} → ((b : ℕ) → b < shape.blocks → slice_get fresh b ≡ Some (was_local shape had b)) → AreLocalBy shape had fresh []
new-local given = record {
  each = λ b within. (
    (λ is. inl (some-inj (sym (given b within) ∙ is))),
    (λ why. elim why [
      | inl was ↦ given b within ∙ ap Some was
      | inr w ↦ absurd (let none = w.2 in omega (arith, none))
    ]),
  );
}
