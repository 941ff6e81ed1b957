-- The steps of a flush keep what a core keeps.
use Rattle.std.proofs.Common.{ℕ, List, refl, ap, inl, inr, arith, Option, ◌≡◌}
use Rattle.vd_device.specs.declared.store.Store as store
use Rattle.vd_device.specs.declared.base.Base as base
use Rattle.vd_device.specs.Stores.{KeepsStore}
use Rattle.vd_law.specs.declared.entry.Sector.{Sector}
use Rattle.vd_device.specs.declared.settled.Settled.{Settled}
use Rattle.vd_passes.specs.declared.pass.Fault.{Fault}
use Rattle.vd_passes.specs.Requests.{RequestState}
use Rattle.vd_passes.specs.Steps.{SubmitsMeta, MetaSettled, EndsFlush}
use Rattle.vd_passes.proofs.Flushing.{IsFlushing, submits_meta-coherent, meta_settled-coherent, ends_flush-coherent}
use Rattle.vd_passes.proofs.FlushingTold.{submits_meta-faithful, meta_settled-faithful, ends_flush-faithful}
use Rattle.vd_passes.proofs.FlushingAccounts.{room-submits_meta, room-meta_settled, room-ends_flush, meta_settled-same}
use Rattle.vd_legal.proofs.Rooming.{room-same}
use Rattle.vd_machine.specs.Views.{View, view_requests, view_places}
use Rattle.vd_machine.specs.Sound.{RoomIsReserved, IsSound}
use Rattle.vd_machine.specs.Telling.{IsFaithfullyKept}
use Rattle.vd_legal.proofs.Framing.{IsFramed, in-place, told-by}
use Rattle.vd_passes.specs.Coherent.{IsCoherent}

ends-way : {why : Option Fault} {i : ℕ} {r r' : RequestState} (step : EndsFlush why i r r') → IsFlushing step.pass
ends-way step = elim step.cause [ inl over ↦ inr over.1 | inr worn ↦ inl worn.2 ]

-- Whatever else of the metadata a step changes: a call of a flush is submitted, is settled, or the flush is over or is not begun.
module _ {S B : Type 0} {g : store.Ghosts S} {h : base.Ghosts B} {c c' : View S B} (kept : IsSound g h c) {i : ℕ} (f : IsFramed c c')
    (spare : c'.spare ≡ c.spare) (history : c'.history ≡ c.history) (based : c'.base ≡ c.base) where
  module _ (keeps : KeepsStore g c.store c'.store) where
    module _ {content : List Sector} (step : SubmitsMeta g content i (view_requests c) (view_requests c') c.store c'.store) where
      pub submit-coherent : IsCoherent g h (view_requests c') (view_places c') c'.store c'.base
      submit-coherent = in-place f refl based (submits_meta-coherent kept.coherent step)

      pub submit-room : RoomIsReserved g c'
      submit-room = room-same kept.roomy f.shape spare i step.there (ap (λ (r : RequestState). r.passes) step.after) history
          (room-submits_meta (kept.roomy.reserved i step.pass step.there) step.phase step.ticket) refl refl refl keeps.telling.events

      pub submit-told : IsFaithfullyKept g h c → g.tells c'.store → h.tells c'.base → IsFaithfullyKept g h c'
      submit-told was told base_told = told-by f (ap h.sectors based) refl was
          (λ start faithful. submits_meta-faithful kept.coherent step (λ b. faithful) told)

    module _ {answer : Settled} (step : MetaSettled g answer i (view_requests c) (view_requests c') c.store c'.store) where
      pub settle_meta-coherent : IsCoherent g h (view_requests c') (view_places c') c'.store c'.base
      settle_meta-coherent = in-place f refl based (meta_settled-coherent kept.coherent step)

      pub settle_meta-room : RoomIsReserved g c'
      settle_meta-room = let same = meta_settled-same answer step.pass step.ticket in
          room-same kept.roomy f.shape spare i step.there (ap (λ (r : RequestState). r.passes) step.after) history
          (room-meta_settled (kept.roomy.reserved i step.pass step.there) step.phase answer step.ticket) same.0 same.1 same.2 keeps.telling.events

      pub settle_meta-told : IsFaithfullyKept g h c → g.tells c'.store → h.tells c'.base → IsFaithfullyKept g h c'
      settle_meta-told was told base_told = told-by f (ap h.sectors based) refl was
          (λ start faithful. meta_settled-faithful kept.coherent step (λ b. faithful) told)

  module _ (stored : c'.store ≡ c.store) {why : Option Fault} (step : EndsFlush why i (view_requests c) (view_requests c')) where
    pub end-coherent : IsCoherent g h (view_requests c') (view_places c') c'.store c'.base
    end-coherent = in-place f stored based (ends_flush-coherent kept.coherent step)

    pub end-room : RoomIsReserved g c'
    end-room = room-same kept.roomy f.shape spare i step.there (ap (λ (r : RequestState). r.passes) step.after) history
        (room-ends_flush (kept.roomy.reserved i step.pass step.there) (ends-way step) why) refl refl refl (let e = ap g.events stored in omega (arith, e))

    pub end-told : IsFaithfullyKept g h c → g.tells c'.store → h.tells c'.base → IsFaithfullyKept g h c'
    end-told was told base_told = told-by f (ap h.sectors based) stored was
        (λ start faithful. ends_flush-faithful kept.coherent step faithful)
