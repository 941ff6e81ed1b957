-- What the steps of a flush require stands in what a core keeps.
use Rattle.std.proofs.Common.{◌≡◌, ◌≢◌, ◌⊎◌, ℕ, ◌+◌, ◌≤◌, true, false, refl, sym, ◌∙◌, ap, subst, inl, inr, arith, length, Option, Some, None, slice_get}
use Rattle.std.specs.Prelude.{IsSome}
use Rattle.vd_device.specs.declared.ticket.Ticket.{Ticket}
use Rattle.vd_device.specs.declared.ticket.Kind.TheVariants.{Write, Flush}
use Rattle.vd_device.specs.declared.store.Store as store
use Rattle.vd_device.specs.declared.base.Base as base
use Rattle.vd_device.specs.Tickets.{HasPlace, IsFree}
use Rattle.vd_format.specs.Layouts.{blocks_of, storage_start}
use Rattle.vd_image.specs.Image.{Geometry}
use Rattle.vd_keeper.specs.declared.stage.Stage.{Stage}
use Rattle.vd_keeper.specs.declared.stage.Stage.TheVariants.{Rest, DataFlush, Puts, Syncs, Seals, Broken}
use Rattle.vd_keeper.specs.Keeping.{KeeperState}
use Rattle.vd_keeper.specs.Entries.{HasStorage}
use Rattle.vd_keeper.specs.Moves.{HasPutDue, is_settling}
use Rattle.vd_passes.specs.declared.shape.Shape.{Shape}
use Rattle.vd_passes.specs.declared.pass.Pass.{Pass}
use Rattle.vd_passes.specs.declared.pass.Phase.TheVariants.{Idle, Asked, Flushing}
use Rattle.vd_passes.specs.Passes.{HasInFlight, IsMeta}
use Rattle.vd_passes.specs.Steps.{IsAt}
use Rattle.vd_passes.proofs.Flushing.{store-place, flushing-ticket, below-free}
use Rattle.vd_passes.proofs.PlacesGiven.{place-from}
use Rattle.vd_machine.specs.Attending.{IsAtStage, KeeperAgrees}
use Rattle.vd_machine.specs.Flushing.{IsWaitingMeta}
use Rattle.vd_machine.specs.FlushSteps.{HasAskedFlush, IsBetween, IsAway}
use Rattle.vd_machine.specs.Views.{View}
use Rattle.vd_machine.specs.Sound.{MetadataAgrees, IsSound}
use Rattle.vd_machine.proofs.Attended.{is-flusher, at-stage, due-at}
use Rattle.vd_machine.proofs.Stored.{attended-storage}

-- a stage in which a call is in flight is one that is settled
settling-at : (s : Stage) (k : KeeperState) (p : Pass) (t : Ticket) → p.ticket ≡ Some t → IsAtStage s k p → is_settling s ≡ true
settling-at Rest k p t has at = absurd at
settling-at DataFlush k p t has at = refl
settling-at Puts k p t has at = refl
settling-at Syncs k p t has at = refl
settling-at Seals k p t has at = absurd (let none = sym has ∙ at in cc)
settling-at Broken k p t has at = absurd at

some-of : (o : Option Ticket) → IsSome o → (t : Ticket) × (o ≡ Some t)
some-of None some = absurd (let e : false ≡ true = some in cc)
some-of (Some t) some = (t, refl)

meta-kind : (shape : Shape) (t : Ticket) → IsMeta shape t → (t.kind ≡ Write) ⊎ (t.kind ≡ Flush)
meta-kind shape t (inl flush) = inr flush
meta-kind shape t (inr write) = inl write.0

module _ {S B : Type 0} {g : store.Ghosts S} {h : base.Ghosts B} {c : View S B} (kept : IsSound g h c) (recorded : MetadataAgrees c) where
  abbrev attends : KeeperAgrees c.shape c.table c.fresh c.passes c.flusher c.keeping
  attends = recorded.attended

  pub flush-place : HasPlace (g.flight c.store) (g.depth c.store)
  flush-place = store-place kept.coherent

  module _ (i : ℕ) where
    pub asked-flush : IsAt c.passes i HasAskedFlush → IsAt c.passes i (λ p. (p.phase ≡ Asked) × (p.flush ≡ true) × (p.ticket ≡ None))
    asked-flush at =
        let flight = subst (λ ph. HasInFlight ph c.shape c.fresh at.0) at.2.phase (kept.coherent.each i at.0 at.1).ticket in
        (at.0, at.1, (at.2.phase, at.2.flush, flight.ticket))

    pub between-calls : IsAt c.passes i IsBetween → IsAt c.passes i (λ p. (p.phase ≡ Flushing) × (p.flush ≡ true) × (p.ticket ≡ None))
    between-calls at = (at.0, at.1, (at.2.phase, (kept.coherent.each i at.0 at.1).flush at.2.phase, at.2.none))

    pub away-call : IsAt c.passes i IsAway → IsAt c.passes i (λ p. (p.phase ≡ Flushing) × IsWaitingMeta g c.store p)
    away-call at =
        let u = some-of at.0.ticket at.2.some in
        let its = flushing-ticket kept.coherent i (at.0, at.1, at.2.phase) u.0 u.1 in
        (at.0, at.1, (at.2.phase, record { ticket = u.0; has = u.1; none = its.2; kind = meta-kind c.shape u.0 its.1; mine = its.0 }))

    pub away-settling : IsAt c.passes i IsAway → is_settling c.keeping.stage ≡ true
    away-settling at =
        let u = some-of at.0.ticket at.2.some in
        settling-at c.keeping.stage c.keeping at.0 u.0 u.1 (at-stage attends i at.0 at.1 at.2.phase)

    pub between-due : IsAt c.passes i IsBetween → c.keeping.stage ≡ Puts → HasPutDue c.keeping
    between-due at stage = due-at attends i at.0 at.1 stage at.2.phase at.2.none

    alone : IsAt c.passes i IsBetween → (j : ℕ) (q : Pass) → slice_get c.passes j ≡ Some q → j ≢ i → q.phase ≢ Flushing
    alone at j q there other flushing =
        let mine = is-flusher attends i at.0 at.1 at.2.phase in let theirs = is-flusher attends j q there flushing in
        let e : Some j ≡ Some i = sym theirs ∙ mine in other (let same : j ≡ i = cc in same)

    pub between-free : IsAt c.passes i IsBetween → (first : ℕ) → first + 1 ≤ storage_start c.keeping.header
        → IsFree (g.flight c.store) (g.depth c.store) first 1
    between-free at first low = below-free kept.coherent i at.0 at.1 at.2.none (alone at) first 1 (let s = attends.storage_at in omega (arith, s, low))

  pub kept-storage : HasStorage c.table c.keeping
  kept-storage = attended-storage attends (λ b is.
      let placed = kept.coherent.fresh_placed b is in let from = place-from c.shape c.table.chunks b placed.0 placed.1 in
      (from.0, from.1, kept.storage.one_to_one.inside _ from.0 from.1))

  pub meta-inside : storage_start c.keeping.header ≤ (g.sectors c.store)
  meta-inside = let s = attends.storage_at in let inside = kept.storage.inside in omega (arith, s, inside)

  pub blocks-same : length c.fresh ≡ blocks_of c.keeping.header
  blocks-same = kept.coherent.size ∙ attends.blocks

  -- the chunks are of the size that they had when the core was made
  pub chunk-same : c.fixed.header.chunk ≡ c.keeping.header.chunk
  chunk-same = ap (λ (g : Geometry). g.chunk) (sym recorded.same)

  pub idle-rest : ((i : ℕ) (p : Pass) → slice_get c.passes i ≡ Some p → p.phase ≡ Idle) → (c.keeping.stage ≡ Rest) ⊎ (c.keeping.stage ≡ Broken)
  idle-rest idle = by c.flusher refl
    where
      by : (o : Option ℕ) → c.flusher ≡ o → (c.keeping.stage ≡ Rest) ⊎ (c.keeping.stage ≡ Broken)
      by None none = attends.resting none
      by (Some i) mine = absurd (
          let w = attends.working i mine in let flushing = (attends.flushing i w.0 w.1).1 mine in
          let e = sym (idle i w.0 w.1) ∙ flushing in cc)
