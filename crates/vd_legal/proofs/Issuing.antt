-- Issuing a piece keeps a core.
use Rattle.std.proofs.Common.{◌≡◌, ◌≢◌, ℕ, ◌<◌, ◌≤◌, ◌⊎◌, Bool, true, List, [], ◌∷◌, refl, sym, ◌∙◌, ap, subst, inl, inr, arith, Some, slice_get}
use Rattle.vd_device.specs.declared.base.Base as base
use Rattle.vd_law.specs.declared.entry.Sector.{Sector}
use Rattle.vd_device.specs.declared.store.Store as store
use Rattle.vd_passes.specs.declared.shape.Shape.{Shape}
use Rattle.vd_passes.specs.declared.pass.Pass.{Pass}
use Rattle.vd_passes.specs.declared.pass.Phase.TheVariants.{Held, Filled, Flushing}
use Rattle.vd_passes.specs.Needs.{sectors_left, pieces_left, events_needed, sectors_needed, HasRoom}
use Rattle.vd_passes.specs.Requests.{RequestState}
use Rattle.vd_passes.specs.Steps.{IsAt, HasAskedWrite}
use Rattle.vd_passes.proofs.Lists.{some-inj}
use Rattle.vd_passes.proofs.Needing.{is_before_event, room-issued}
use Rattle.vd_passes.proofs.Ready.{IsHolding, holding-region, can-write-asked}
use Rattle.vd_passes.proofs.Issuing.{issues-coherent, issues-faithful}
use Rattle.vd_machine.specs.Adding.{AddsEntries}
use Rattle.vd_legal.proofs.Devices.{piece-short}
use Rattle.vd_machine.specs.Issuing.{CanIssue, IsWritable}
use Rattle.vd_legal.proofs.Rooming.{can-add, room-used}
use Rattle.vd_machine.specs.Views.{View, view_requests, view_places}
use Rattle.vd_machine.specs.Sound.{RoomIsReserved, IsSound}
use Rattle.vd_machine.specs.Telling.{IsFaithfullyKept}
use Rattle.vd_legal.proofs.Framing.{framed, in-place, told-by}
use Rattle.vd_machine.specs.WriteSteps.{IssueStep}
use Rattle.vd_passes.specs.Coherent.{IsCoherent}

-- a pass whose piece can be issued holds its region
pub writable-holding : {shape : Shape} {fresh : List Bool} {p : Pass} → IsWritable shape fresh p → IsHolding p
writable-holding {shape} {fresh} {p} w = elim w.way [
  | inl held ↦ inl held.0
  | inr filled ↦ inr filled
]

pub holding-before : (p : Pass) → IsHolding p → is_before_event p.phase ≡ true
holding-before p (inl held) = ap is_before_event held
holding-before p (inr filled) = ap is_before_event filled

pub writing-at : {shape : Shape} {fresh : List Bool} (passes : List Pass) (i : ℕ) → IsAt passes i (IsWritable shape fresh)
    → IsAt passes i (λ p. ((p.phase ≡ Held) ⊎ (p.phase ≡ Filled)) × (p.write ≡ true))
writing-at {shape} {fresh} passes i at = (at.0, at.1, (writable-holding at.2, at.2.write))

-- no flush of its is under way
pub issuer-not : {shape : Shape} {fresh : List Bool} (passes : List Pass) (i : ℕ) → IsAt passes i (IsWritable shape fresh) → (p : Pass)
    → slice_get passes i ≡ Some p → p.phase ≢ Flushing
issuer-not {shape} {fresh} passes i at p there flushing = elim
    (writable-holding (subst (λ (x : Pass). IsWritable shape fresh x) (some-inj (sym at.1 ∙ there)) at.2)) [
      | inl held ↦ absurd (let e = sym held ∙ flushing in cc)
      | inr filled ↦ absurd (let e = sym filled ∙ flushing in cc)
    ]

-- it needs one event at least, and the sectors that are left
holding-events : (block : ℕ) (p : Pass) → HasRoom block p → IsHolding p → 0 < p.events
holding-events block p room (inl held) = let a = room.events in let e = ap (λ ph. events_needed ph p.write (pieces_left block p)) held in omega arith
holding-events block p room (inr filled) = let a = room.events in let e = ap (λ ph. events_needed ph p.write (pieces_left block p)) filled in omega arith

holding-sectors : (block : ℕ) (p : Pass) → HasRoom block p → IsHolding p → sectors_left p ≤ p.sectors
holding-sectors block p room (inl held) = let a = room.sectors in let e = ap (λ ph. sectors_needed ph (sectors_left p) p.piece) held in omega arith
holding-sectors block p room (inr filled) = let a = room.sectors in let e = ap (λ ph. sectors_needed ph (sectors_left p) p.piece) filled in omega arith

-- what is reserved suffices for the Issue of the piece
pub can-issue : {S B : Type 0} {g : store.Ghosts S} {h : base.Ghosts B} {c : View S B} → IsSound g h c
    → (i : ℕ) (content : List Sector) → IsAt c.passes i (IsWritable c.shape c.fresh) → HasAskedWrite c.history.log.entries i content
    → IsAt c.passes i (CanIssue g c.shape c.fresh content c.history c.store)
can-issue {c = c} kept i content at asked =
    let can = can-write-asked kept.coherent i content asked (writing-at c.passes i at) in
    let p = can.0 in let holding = subst (λ (x : Pass). IsHolding x) (some-inj (sym at.1 ∙ can.1)) (writable-holding at.2) in
    let way = subst (λ (x : Pass). IsWritable c.shape c.fresh x) (some-inj (sym at.1 ∙ can.1)) at.2 in
    let piece = can.2.0.read.piece in let room = kept.roomy.reserved i p can.1 in (
      p,
      can.1,
      record {
        writable = can.2.0;
        inside = let n = piece.no_more in let l = can.2.1 in omega (arith, n, l);
        way = way.way;
        room = can-add kept.roomy i p can.1 p.piece (holding-events c.shape.block p room holding)
            (let n = piece.no_more in let l = holding-sectors c.shape.block p room holding in omega (arith, n, l)) (piece-short can.2.0.read.small piece);
      },
    )

module _ {S B : Type 0} {g : store.Ghosts S} {h : base.Ghosts B} {c c' : View S B} (kept : IsSound g h c) {i : ℕ} {content : List Sector}
    (step : IssueStep g content i c c') where
  pub issue-coherent : IsCoherent g h (view_requests c') (view_places c') c'.store c'.base
  issue-coherent = in-place (framed c step.others) refl (ap (λ v. v.base) step.others)
      (issues-coherent content kept.coherent (writing-at c.passes i step.writer) step.content_asked step.issues)

  pub issue-room : RoomIsReserved g c'
  issue-room =
      let p = step.issues.pass in let there = step.issues.there in
      let holding = subst (λ (x : Pass). IsHolding x) (some-inj (sym step.writer.1 ∙ there)) (writable-holding step.writer.2) in
      let piece = (kept.coherent.each i p there).piece (holding-region p holding) in
      let used = room-issued piece (kept.roomy.reserved i p there) (holding-before p holding) step.issues.ticket step.issues.buffer in
      let more = subst (λ (x : Pass). AddsEntries (g.events c.store ∷ []) x.piece c.history c'.history)
      (some-inj (sym step.extends.1 ∙ there)) step.extends.2 in
      room-used kept.roomy (ap (λ v. v.shape) step.others) (ap (λ v. v.spare) step.others) i there
      (ap (λ (r : RequestState). r.passes) step.issues.after) more used.0 used.1 refl step.keeps.telling.events

  pub issue-told : IsFaithfullyKept g h c → g.tells c'.store → h.tells c'.base → IsFaithfullyKept g h c'
  issue-told was told base_told = told-by (framed c step.others) (ap (λ v. h.sectors v.base) step.others) refl was
      (λ start faithful. issues-faithful content kept.coherent (writing-at c.passes i step.writer) step.content_asked step.issues (λ b. faithful) told)
