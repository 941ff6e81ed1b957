-- Settling a write keeps a core.
use Rattle.std.proofs.Common.{◌≡◌, ℕ, ◌<◌, ◌≤◌, Bool, length, refl, sym, ◌∙◌, ap, subst, arith, Some, slice_get}
use Rattle.vd_device.specs.declared.store.Store as store
use Rattle.vd_device.specs.declared.base.Base as base
use Rattle.vd_device.specs.declared.ticket.Kind.TheVariants.{Write as WriteKind}
use Rattle.vd_device.specs.declared.settled.Settled.{Settled}
use Rattle.vd_device.specs.declared.settled.Settled.TheVariants as settled
use Rattle.vd_passes.specs.declared.pass.Pass.{Pass}
use Rattle.vd_passes.specs.declared.pass.Phase.TheVariants.{Issuing}
use Rattle.vd_passes.specs.declared.pass.Fault.TheVariants as fault
use Rattle.vd_passes.specs.Needs.{pieces_left, events_needed}
use Rattle.vd_passes.specs.Requests.{RequestState}
use Rattle.vd_passes.specs.Steps.{IsAt, IsWaiting, WriteSettled}
use Rattle.vd_passes.proofs.Lists.{some-inj}
use Rattle.vd_passes.proofs.Needing.{pieces-left, room-written, room-broke}
use Rattle.vd_passes.proofs.Regions.{region-of, issuing-write}
use Rattle.vd_passes.proofs.Settling.{waiting-write, write_settled-coherent, write_settled-faithful}
use Rattle.vd_machine.specs.Adding.{CanAdd, AddsEntries}
use Rattle.vd_machine.specs.Outcomes.{numbers_of}
use Rattle.vd_legal.proofs.Rooming.{can-add, room-used, room-late}
use Rattle.vd_law.specs.Needs.{events_of}
use Rattle.vd_machine.specs.Views.{View, view_requests, view_places}
use Rattle.vd_machine.specs.Sound.{RoomIsReserved, IsSound}
use Rattle.vd_machine.specs.Telling.{IsFaithfullyKept}
use Rattle.vd_legal.proofs.Framing.{framed, in-place, told-by}
use Rattle.vd_machine.specs.WriteSteps.{SettleIssueStep}
use Rattle.vd_passes.specs.Coherent.{IsCoherent}

module _ {S B : Type 0} {g : store.Ghosts S} {h : base.Ghosts B} {c : View S B}
    (kept : IsSound g h c) (i : ℕ) (at : IsAt c.passes i (λ p. p.phase ≡ Issuing)) where
  pub waiting-issue : IsAt c.passes i (λ p. IsWaiting g WriteKind c.shape c.store p × (p.block < length c.fresh))
  waiting-issue = let w = waiting-write kept.coherent i at in (w.0, w.1, (w.2, let d = w.2.piece.in_disk in let s = kept.coherent.size in omega (arith, d, s)))

  pub settled-block : (p : Pass) → slice_get c.passes i ≡ Some p → p.block < length c.fresh
  settled-block p there = subst (λ (x : Pass). x.block < length c.fresh) (some-inj (sym waiting-issue.1 ∙ there)) waiting-issue.2.1

  -- the end of the write has its event
  pub can-end : CanAdd 0 c.history (g.events c.store)
  can-end =
      let p = at.0 in let stands = kept.coherent.each i p at.1 in let left = pieces-left (stands.piece (region-of _ Issuing refl at.2)) in
      let room = (kept.roomy.reserved i p at.1).events in let e = ap (λ ph. events_needed ph p.write (pieces_left c.shape.block p)) at.2 in
      let f = ap (λ (w : Bool). events_of w (pieces_left c.shape.block p)) (issuing-write stands at.2) in
      can-add kept.roomy i p at.1 0 (omega (arith, left, room, e, f)) (omega arith) (omega arith)

  issues : {r' : RequestState} {s' : S} {answer : Settled} (step : WriteSettled g answer i (view_requests c) r' c.store s') → step.pass.phase ≡ Issuing
  issues step = ap (λ (x : Pass). x.phase) (some-inj (sym step.there ∙ at.1)) ∙ at.2

  settled-roomy : {c' : View S B} (answer : Settled) → WriteSettled g answer i (view_requests c) (view_requests c') c.store c'.store → c'.shape ≡ c.shape
      → c'.spare ≡ c.spare
      → AddsEntries (numbers_of answer (g.events c'.store)) 0 c.history c'.history → g.events c.store ≤ g.events c'.store → RoomIsReserved g c'
  settled-roomy settled.Done step shape left extends rise =
      let p = step.pass in let stands = kept.coherent.each i p step.there in let is = issues step in
      let used = room-written (stands.piece (region-of _ Issuing refl is)) (kept.roomy.reserved i p step.there) is (issuing-write stands is) in
      room-used kept.roomy shape left i step.there (ap (λ (r : RequestState). r.passes) step.after) extends used.0 used.1 refl (omega arith)
  settled-roomy (settled.NotYet same) step shape left extends rise = room-late kept.roomy shape left
      (ap (λ (r : RequestState). r.passes) step.after) extends rise
  settled-roomy (settled.Failed number) step shape left extends rise =
      let p = step.pass in let stands = kept.coherent.each i p step.there in let is = issues step in
      let used = room-broke (stands.piece (region-of _ Issuing refl is)) (kept.roomy.reserved i p step.there) is (issuing-write stands is)
      (fault.Store step.ticket.number) in
      room-used kept.roomy shape left i step.there (ap (λ (r : RequestState). r.passes) step.after) extends used.0 used.1 refl (omega arith)

module _ {S B : Type 0} {g : store.Ghosts S} {h : base.Ghosts B} {c c' : View S B} (kept : IsSound g h c) {i : ℕ} {answer : Settled}
    (step : SettleIssueStep g answer i c c') where
  pub settle_issue-coherent : IsCoherent g h (view_requests c') (view_places c') c'.store c'.base
  settle_issue-coherent = in-place (framed c step.others) refl (ap (λ v. v.base) step.others) (write_settled-coherent kept.coherent step.issuing step.settles)

  pub settle_issue-room : RoomIsReserved g c'
  settle_issue-room = settled-roomy kept i step.issuing answer step.settles (ap (λ v. v.shape) step.others)
      (ap (λ v. v.spare) step.others) step.extends step.keeps.telling.events

  pub settle_issue-told : IsFaithfullyKept g h c → g.tells c'.store → h.tells c'.base → IsFaithfullyKept g h c'
  settle_issue-told was told base_told = told-by (framed c step.others) (ap (λ v. h.sectors v.base) step.others) refl was
      (λ start faithful. write_settled-faithful kept.coherent step.issuing step.settles (λ b. faithful) told)
