-- A reply keeps a core.
use Rattle.std.proofs.Common.{◌≡◌, ℕ, Bool, false, refl, sym, ◌∙◌, ap, subst, inl, inr, arith, Option, Some, None, slice_get}
use Rattle.std.specs.Prelude.{◌↔◌}
use Rattle.vd_device.specs.declared.store.Store as store
use Rattle.vd_device.specs.declared.base.Base as base
use Rattle.vd_law.specs.declared.entry.Room.{Room}
use Rattle.vd_law.specs.declared.entry.Answer.{Answer}
use Rattle.vd_law.specs.declared.entry.Answer.TheVariants.{Ok}
use Rattle.vd_passes.specs.declared.pass.Pass.{Pass}
use Rattle.vd_passes.specs.declared.pass.Phase.TheVariants.{Ready}
use Rattle.vd_passes.specs.declared.pass.Fault.{Fault}
use Rattle.vd_passes.specs.declared.pass.Fault.TheVariants as fault
use Rattle.vd_passes.specs.Passes.{HasOutcome, answer_by}
use Rattle.vd_passes.specs.Requests.{RequestState}
use Rattle.vd_passes.specs.Steps.{IsAt, Replies}
use Rattle.vd_passes.proofs.Lists.{some-inj}
use Rattle.vd_passes.proofs.Needing.{sum-part, room-reply, room-replied}
use Rattle.vd_passes.proofs.Asking.{replies-coherent, replies-faithful}
use Rattle.vd_machine.specs.Asking.{CanReply, IsOkWhereDone, room_after_reply}
use Rattle.vd_legal.proofs.Reserving.{room-shared}
use Rattle.vd_machine.specs.Views.{View, view_requests, view_places}
use Rattle.vd_machine.specs.Sound.{RoomIsReserved, IsSound}
use Rattle.vd_machine.specs.Telling.{IsFaithfullyKept}
use Rattle.vd_legal.proofs.Framing.{framed, in-place, told-by}
use Rattle.vd_machine.specs.AskSteps.{ReplyStep}
use Rattle.vd_passes.specs.Coherent.{IsCoherent}

-- an answer to a read or a write is Ok exactly where all is done
ok-where : (p : Pass) (broken : Bool) (f : Option Fault) → HasOutcome p broken f → p.flush ≡ false → (answer_by f p.done ≡ Ok) ↔ (p.done ≡ p.count)
ok-where p broken None outcome data_call = (λ is. outcome.0, λ is. refl)
ok-where p broken (Some (fault.Store ticket)) outcome data_call =
    (λ is. absurd (cc), λ is. elim outcome.0 [ inl flush ↦ absurd (let f = sym flush ∙ data_call in cc) | inr less ↦ absurd (omega arith) ])
ok-where p broken (Some (fault.Base ticket)) outcome data_call = (λ is. absurd (cc), λ is. absurd (let less = outcome.0 in omega arith))
ok-where p broken (Some (fault.Worn generation)) outcome data_call = absurd (let f = sym outcome.0 ∙ data_call in cc)

module _ {S B : Type 0} {g : store.Ghosts S} {h : base.Ghosts B} {c : View S B}
    (i : ℕ) (kept : IsSound g h c) (at : IsAt c.passes i (λ p. p.phase ≡ Ready)) where
  pub can-reply : IsAt c.passes i (CanReply c.passes c.history c.spare (g.events c.store))
  can-reply =
      let p = at.0 in let a = sum-part (λ (q : Pass). q.events) c.passes i p at.1 in let b = sum-part (λ (q : Pass). q.sectors) c.passes i p at.1 in
      let c = kept.roomy.spare_events in let d = kept.roomy.spare_sectors in (
        p,
        at.1,
        record {
          few = kept.coherent.few;
          some = room-reply (kept.roomy.reserved i p at.1) at.2;
          part_events = omega (arith, a, c);
          part_sectors = omega (arith, b, d);
          later = kept.roomy.later;
        },
      )

  ready-is : {p : Pass} → slice_get c.passes i ≡ Some p → p.phase ≡ Ready
  ready-is {p} there = ap (λ (x : Pass). x.phase) (some-inj (sym there ∙ at.1)) ∙ at.2

  pub reply-ok : {answer : Answer} {r' : RequestState} → Replies answer i (view_requests c) r' → IsAt c.passes i (IsOkWhereDone answer)
  reply-ok {answer} step =
      let p = step.pass in (
        p,
        step.there,
        subst (λ (a : Answer). IsOkWhereDone a p) (sym step.is)
            (ok-where p _ p.fault ((kept.coherent.each i p step.there).ready (ready-is step.there))),
      )

module _ {S B : Type 0} {g : store.Ghosts S} {h : base.Ghosts B} {c c' : View S B} (kept : IsSound g h c) {i : ℕ} {answer : Answer}
    (step : ReplyStep g answer i c c') where
  pub reply-coherent : IsCoherent g h (view_requests c') (view_places c') c'.store c'.base
  reply-coherent = in-place (framed c step.others) (ap (λ v. v.store) step.others) (ap (λ v. v.base) step.others)
      (replies-coherent kept.coherent step.ready step.replies)

  pub reply-room : RoomIsReserved g c'
  reply-room =
      let m = step.replies in let p = m.pass in let some = room-reply (kept.roomy.reserved i p m.there) (ready-is i kept step.ready m.there) in
      let is : c'.spare ≡ room_after_reply p c.spare = step.left.2 ∙ ap (λ (x : Pass). room_after_reply x c.spare) (some-inj (sym step.left.1 ∙ m.there)) in
      let u = ap (λ (r : Room). r.events) is in let d = ap (λ (r : Room). r.sectors) is in let e = ap (λ v. g.events v.store) step.others in
      room-shared kept.roomy i (ap (λ v. v.shape) step.others) m.there (ap (λ (r : RequestState). r.passes) m.after) step.extends (room-replied c.shape.block p)
      (omega (arith, u, some)) (omega (arith, d)) (omega arith) (omega (arith, e))

  pub reply-told : IsFaithfullyKept g h c → g.tells c'.store → h.tells c'.base → IsFaithfullyKept g h c'
  reply-told was told base_told = told-by (framed c step.others) (ap (λ v. h.sectors v.base) step.others) (ap (λ v. v.store) step.others) was
      (λ start faithful. replies-faithful kept.coherent step.ready step.replies faithful)
