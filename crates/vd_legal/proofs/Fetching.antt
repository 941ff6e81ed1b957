-- A base read of a block keeps what a core keeps.
use Rattle.std.proofs.Common.{◌≡◌, ℕ, ◌≤◌, true, List, refl, sym, ◌∙◌, ap, inl, inr, arith, Some, slice_get}
use Rattle.vd_device.specs.declared.store.Store as store
use Rattle.vd_device.specs.declared.base.Base as base
use Rattle.vd_law.specs.declared.entry.Sector.{Sector}
use Rattle.vd_device.specs.declared.ticket.Ticket.{Ticket}
use Rattle.vd_device.specs.declared.settled.Settled.{Settled}
use Rattle.vd_device.specs.declared.settled.Settled.TheVariants as settled
use Rattle.vd_passes.specs.declared.pass.Pass.{Pass}
use Rattle.vd_passes.specs.declared.pass.Phase.TheVariants.{Fetching}
use Rattle.vd_passes.specs.Needs.{HasRoom}
use Rattle.vd_passes.specs.Requests.{RequestState}
use Rattle.vd_passes.specs.Steps.{IsAt, IsWaitingForBase, after_base_read}
use Rattle.vd_passes.proofs.Lists.{some-inj}
use Rattle.vd_passes.proofs.Needing.{is_before_event, room-fetched, room-filled, room-failed}
use Rattle.vd_passes.proofs.Fetching.{IsToFill, fetches-coherent, fetches-faithful, fills_zeros-coherent, fills_zeros-faithful, fetch_settled-coherent, fetch_settled-faithful, waiting-for-fetch, fetch-count}
use Rattle.vd_legal.proofs.Rooming.{room-same}
use Rattle.vd_legal.proofs.Devices.{backed}
use Rattle.vd_machine.specs.Views.{View, view_requests, view_places}
use Rattle.vd_machine.specs.Sound.{RoomIsReserved, IsSound}
use Rattle.vd_machine.specs.Telling.{base_then, IsFaithfullyKept}
use Rattle.vd_legal.proofs.Framing.{framed, in-place, told-by}
use Rattle.vd_machine.specs.WriteSteps.{FetchStep, SettleFetchStep}
use Rattle.vd_passes.specs.Coherent.{IsCoherent}

module _ {S B : Type 0} {g : store.Ghosts S} {h : base.Ghosts B} {c c' : View S B} (kept : IsSound g h c) {i : ℕ} (step : FetchStep h i c c') where
  to-fill : IsAt c.passes i (IsToFill c.fresh)
  to-fill = (step.writer.0, step.writer.1, (step.writer.2.held, step.writer.2.write, step.writer.2.away))

  before : (p : Pass) → slice_get c.passes i ≡ Some p → is_before_event p.phase ≡ true
  before p there = ap (λ (x : Pass). is_before_event x.phase) (some-inj (sym there ∙ step.writer.1)) ∙ ap is_before_event step.writer.2.held

  -- the base has something of the block, or nothing
  pub fetch-coherent : IsCoherent g h (view_requests c') (view_places c') c'.store c'.base
  fetch-coherent = in-place (framed c step.others) (ap (λ v. v.store) step.others) refl (elim step.fetches [
    | inl f ↦ fetches-coherent kept.coherent to-fill f.0
    | inr z ↦ rw z.1 (fills_zeros-coherent kept.coherent to-fill z.0)
  ])

  pub fetch-room : RoomIsReserved g c'
  fetch-room = elim step.fetches [
    | inl f ↦ let m = f.0 in room-same kept.roomy (ap (λ v. v.shape) step.others) (ap (λ v. v.spare) step.others) i m.there
        (ap (λ (r : RequestState). r.passes) m.after) (ap (λ v. v.history) step.others)
        (room-fetched (kept.roomy.reserved i m.pass m.there) (before m.pass m.there) m.ticket) refl refl refl
        (let e = ap (λ v. g.events v.store) step.others in omega (arith, e))
    | inr z ↦ let m = z.0 in room-same kept.roomy (ap (λ v. v.shape) step.others) (ap (λ v. v.spare) step.others) i m.there
        (ap (λ (r : RequestState). r.passes) m.after) (ap (λ v. v.history) step.others)
        (room-filled (kept.roomy.reserved i m.pass m.there) (before m.pass m.there) _) refl refl refl
        (let e = ap (λ v. g.events v.store) step.others in omega (arith, e))
  ]

  pub fetch-told : IsFaithfullyKept g h c → g.tells c'.store → h.tells c'.base → IsFaithfullyKept g h c'
  fetch-told was told base_told =
      told-by (framed c step.others) step.keeps.counts.sectors (ap (λ v. v.store) step.others) was (λ start faithful. elim step.fetches [
        | inl f ↦ fetches-faithful kept.coherent to-fill f.0 (λ (t : Unit {0}). faithful) tt
        | inr z ↦ fills_zeros-faithful kept.coherent to-fill z.0 (base_then h c.fixed) (λ (t : Unit {0}). backed kept.coherent (base_then h c.fixed) was.base_size)
            (λ t. faithful) tt
      ])

-- The settle of that read.

fetched-room : (answer : Settled) (block : ℕ) (p : Pass) (ticket : Ticket) (content : List Sector) → HasRoom block p → is_before_event p.phase ≡ true
    → HasRoom block (after_base_read answer p ticket block content)
fetched-room settled.Done block p ticket content room before = room-filled room before _
fetched-room (settled.NotYet same) block p ticket content room before = room
fetched-room (settled.Failed number) block p ticket content room before = room-failed room before _

-- it adds no entry
fetched-same : (answer : Settled) (block : ℕ) (p : Pass) (ticket : Ticket) (content : List Sector) → let p' = after_base_read answer p ticket block content in
    (p'.events ≡ p.events) × (p'.sectors ≡ p.sectors) × (p'.call ≡ p.call)
fetched-same settled.Done block p ticket content = (refl, refl, refl)
fetched-same (settled.NotYet same) block p ticket content = (refl, refl, refl)
fetched-same (settled.Failed number) block p ticket content = (refl, refl, refl)

module _ {S B : Type 0} {g : store.Ghosts S} {h : base.Ghosts B} {c : View S B} (kept : IsSound g h c) (i : ℕ)
    (at : IsAt c.passes i (λ p. p.phase ≡ Fetching)) where
  pub waiting-block : IsAt c.passes i (λ p. (w : IsWaitingForBase h c.shape c.base p) × (w.ticket.count ≤ c.shape.block))
  waiting-block = let w = waiting-for-fetch kept.coherent i at in
      (w.0, w.1, (w.2, fetch-count kept.coherent i (w.0, w.1, ap (λ (x : Pass). x.phase) (some-inj (sym w.1 ∙ at.1)) ∙ at.2) w.2.ticket w.2.has))

module _ {S B : Type 0} {g : store.Ghosts S} {h : base.Ghosts B} {c c' : View S B} (kept : IsSound g h c) {i : ℕ} {answer : Settled}
    (step : SettleFetchStep h answer i c c') where
  pub settle_fetch-coherent : IsCoherent g h (view_requests c') (view_places c') c'.store c'.base
  settle_fetch-coherent = in-place (framed c step.others) (ap (λ v. v.store) step.others) refl (fetch_settled-coherent kept.coherent step.fetching step.settles)

  pub settle_fetch-room : RoomIsReserved g c'
  settle_fetch-room =
      let m = step.settles in let same = fetched-same answer c.shape.block m.pass m.ticket m.content in
      let before : is_before_event m.pass.phase ≡ true = ap (λ (x : Pass). is_before_event x.phase)
      (some-inj (sym m.there ∙ step.fetching.1)) ∙ ap is_before_event step.fetching.2 in
      room-same kept.roomy (ap (λ v. v.shape) step.others) (ap (λ v. v.spare) step.others) i m.there (ap (λ (r : RequestState). r.passes) m.after)
      (ap (λ v. v.history) step.others)
      (fetched-room answer c.shape.block m.pass m.ticket m.content (kept.roomy.reserved i m.pass m.there) before) same.0 same.1 same.2
      (let e = ap (λ v. g.events v.store) step.others in omega (arith, e))

  pub settle_fetch-told : IsFaithfullyKept g h c → g.tells c'.store → h.tells c'.base → IsFaithfullyKept g h c'
  settle_fetch-told was told base_told =
      let before = step.keeps.telling.told_before base_told in
      let same : h.content c'.base ≡ base_then h c.fixed = step.keeps.telling.content base_told ∙ kept.since.base.telling.content before in
      told-by (framed c step.others) step.keeps.counts.sectors (ap (λ v. v.store) step.others) was
      (λ start faithful. fetch_settled-faithful kept.coherent step.fetching step.settles (λ (t : Unit {0}). base_told)
      (λ t. rw same (backed kept.coherent (base_then h c.fixed) was.base_size)) (λ t. faithful) tt)
