-- Settling the look at a piece keeps what a core keeps.
use Rattle.std.proofs.Common.{◌≡◌, ℕ, ◌+◌, ◌≤◌, true, List, length, refl, sym, ◌∙◌, ap, subst, inl, inr, arith, Option, Some, None, slice_get, slice_set, ◌^◌}
use Rattle.std.specs.Prelude.{IsSome}
use Rattle.vd_device.specs.declared.store.Store as store
use Rattle.vd_device.specs.declared.base.Base as base
use Rattle.vd_law.specs.declared.entry.Sector.{Sector}
use Rattle.vd_law.specs.Histories.{HistoryState}
use Rattle.vd_device.specs.declared.ticket.Kind.TheVariants.{Read as ReadKind}
use Rattle.vd_device.specs.declared.settled.Settled.{Settled}
use Rattle.vd_device.specs.declared.settled.Settled.TheVariants as settled
use Rattle.vd_passes.specs.declared.pass.Pass.{Pass}
use Rattle.vd_passes.specs.declared.pass.Phase.TheVariants.{Looking}
use Rattle.vd_passes.specs.declared.pass.Fault.{Fault}
use Rattle.vd_passes.specs.Places.{place_of}
use Rattle.vd_passes.specs.Passes.{has_region, fetches_of, HasInFlight, IsAsHistorySays, after_fault, after_piece, after_spending}
use Rattle.vd_passes.specs.Standings.{standing}
use Rattle.vd_passes.specs.Requests.{RequestState}
use Rattle.vd_passes.specs.Steps.{IsAt, IsWaiting, IsWaitingForBase, EndsRead}
use Rattle.vd_passes.proofs.Lists.{some-inj, fetches-taken}
use Rattle.vd_passes.proofs.Regions.{region-of, look-ticket}
use Rattle.vd_passes.proofs.Onward.{not-idle}
use Rattle.vd_passes.proofs.Needing.{is_before_event, room-failed, room-seen}
use Rattle.vd_passes.proofs.Settling.{in-flight}
use Rattle.vd_passes.proofs.LookSteps.{look_settled-coherent, look_settled-faithful, base_look_settled-coherent, base_look_settled-faithful}
use Rattle.vd_machine.specs.Adding.{CanAdd, AddsEntries}
use Rattle.vd_machine.specs.Outcomes.{read_numbers_of, read_sectors_of}
use Rattle.vd_legal.proofs.Rooming.{room-used, room-late}
use Rattle.vd_legal.proofs.Devices.{backed}
use Rattle.vd_legal.proofs.Looking.{has-room-to-see}
use Rattle.vd_machine.specs.Views.{View, view_requests, view_places}
use Rattle.vd_machine.specs.Sound.{RoomIsReserved, IsSound}
use Rattle.vd_machine.specs.Telling.{base_then, IsFaithfullyKept}
use Rattle.vd_legal.proofs.Framing.{framed, in-place, told-by}
use Rattle.vd_machine.specs.ReadSteps.{SettleStoreLookStep, SettleBaseLookStep}
use Rattle.vd_passes.specs.Coherent.{IsCoherent}

pub not-some : {X : Type 0} (o : Option X) → o ≡ None → IsSome o → ⊥
not-some None is some = cc
not-some (Some x) is some = cc

module _ {S B : Type 0} {g : store.Ghosts S} {h : base.Ghosts B} {c : View S B}
    (kept : IsSound g h c) (i : ℕ) where
  -- The read that is in flight can be settled.
  module _ (p : Pass) (there : slice_get c.passes i ≡ Some p) (looking : p.phase ≡ Looking) (out : List Sector) (long : p.count ≡ length out) where
    has : has_region p.phase ≡ true
    has = region-of _ Looking refl looking

    stands : IsAsHistorySays c.shape c.fresh (place_of c.shape c.table.chunks) (standing c.history.log.entries i) p
    stands = kept.coherent.each i p there

    look : HasInFlight Looking c.shape c.fresh p
    look = look-ticket stands looking

    inside : p.done + p.piece ≤ length out
    inside = let no_more = (stands.piece has).no_more in omega arith

    end : p.first + p.count ≤ 2 ^ 26
    end = let range = (stands.range (not-idle p.phase has)).0 in let size = kept.coherent.shaped.size in omega arith

    can-see : CanAdd p.piece c.history (g.events c.store)
    can-see = has-room-to-see kept i p there has (ap is_before_event looking) (stands.read looking)

    waiting-store : IsSome p.ticket
        → (w : IsWaiting g ReadKind c.shape c.store p) × (w.ticket.count ≡ p.piece) × (p.done + p.piece ≤ length out) × CanAdd p.piece c.history
        (g.events c.store)
    waiting-store some = elim look.1 [
      | inl store ↦ (
        record {
          ticket = look.0;
          has = store.has;
          none = store.none;
          is = store.kind;
          mine = in-flight c.passes kept.coherent.flight i p look.0 there store.has;
          piece = stands.piece has;
          end = end;
        },
        store.count,
        inside,
        can-see,
      )
      | inr based ↦ absurd (not-some p.ticket based.none some)
    ]

    waiting-base : p.ticket ≡ None
        → (w : IsWaitingForBase h c.shape c.base p) × (w.ticket.count ≤ p.piece) × (p.done + p.piece ≤ length out) × CanAdd p.piece c.history (g.events c.store)
    waiting-base none = elim look.1 [
      | inl store ↦ absurd (let h = store.has in cc)
      | inr based ↦ (
        record {
          ticket = look.0;
          has = based.has;
          none = none;
          is = based.kind;
          mine = let gone : Pass = record p { fetch = None } in (
            fetches_of (slice_set c.passes i gone),
            fetches_of c.passes,
            fetches-taken c.passes i p gone look.0 there based.has refl,
            kept.coherent.base_flight,
          );
          piece = stands.piece has;
          end = end;
          buffer = stands.buffer;
        },
        (let count = based.count in omega arith),
        inside,
        can-see,
      )
    ]

  pub waiting-for-look : (out : List Sector) → IsAt c.passes i (λ p. (p.phase ≡ Looking) × IsSome p.ticket × (p.count ≡ length out))
      → IsAt c.passes i (λ p. (w : IsWaiting g ReadKind c.shape c.store p) × (w.ticket.count ≡ p.piece) ×
      (p.done + p.piece ≤ length out) × CanAdd p.piece c.history (g.events c.store))
  waiting-for-look out at = (at.0, at.1, waiting-store at.0 at.1 at.2.0 out at.2.2 at.2.1)

  pub waiting-for-base-look : (out : List Sector) → IsAt c.passes i (λ p. (p.phase ≡ Looking) × (p.ticket ≡ None) × (p.count ≡ length out))
      → IsAt c.passes i (λ p. (w : IsWaitingForBase h c.shape c.base p) × (w.ticket.count ≤ p.piece) ×
      (p.done + p.piece ≤ length out) × CanAdd p.piece c.history (g.events c.store))
  waiting-for-base-look out at = (at.0, at.1, waiting-base at.0 at.1 at.2.0 out at.2.2 at.2.1)

  module _ {c' : View S B} (at : IsAt c.passes i (λ p. p.phase ≡ Looking)) (shape : c'.shape ≡ c.shape) (left : c'.spare ≡ c.spare) where
    -- The room after the end of the read.
    ended-roomy : (out out' : List Sector) (answer : Settled) (p : Pass) (why : Fault) (content : List Sector) → slice_get c.passes i ≡ Some p
        → EndsRead answer content why i (view_requests c) (view_requests c') out out'
        → AddsEntries (read_numbers_of answer (g.events c'.store)) (read_sectors_of answer p.piece) c.history c'.history
        → g.events c.store ≤ g.events c'.store → RoomIsReserved g c'
    ended-roomy out out' settled.Done p why content there sees extends rise =
        let looking : p.phase ≡ Looking = ap (λ (x : Pass). x.phase) (some-inj (sym there ∙ at.1)) ∙ at.2 in let stood = kept.coherent.each i p there in
        let used = room-seen (stood.piece (region-of _ Looking refl looking)) (kept.roomy.reserved i p there) (ap is_before_event looking)
        (stood.read looking) in
        let after = ap (λ (r : RequestState). r.passes) sees.after ∙ ap (λ (x : Pass). slice_set c.passes i (after_spending 1 x.piece (after_piece x)))
        (some-inj (sym sees.there ∙ there)) in
        room-used kept.roomy shape left i there after extends used.0 used.1 refl (omega arith)
    ended-roomy out out' (settled.NotYet same) p why content there late extends rise = room-late kept.roomy shape left
        (ap (λ (r : RequestState). r.passes) late.0) extends rise
    ended-roomy out out' (settled.Failed number) p why content there failed extends rise =
        let before : is_before_event p.phase ≡ true = ap (λ (x : Pass). is_before_event x.phase) (some-inj (sym there ∙ at.1)) ∙ ap is_before_event at.2 in
        let after = ap (λ (r : RequestState). r.passes) failed.0.after ∙ ap (λ (x : Pass). slice_set c.passes i (after_fault why x))
        (some-inj (sym failed.0.there ∙ there)) in
        room-used kept.roomy shape left i there after extends (room-failed (kept.roomy.reserved i p there) before why)
        (record { events_used = omega arith; sectors_used = omega arith }) refl
        (let l = kept.roomy.later in omega (arith, l, rise))

-- what the entries of the pass of a step are
extended : (passes : List Pass) (i : ℕ) {history history' : HistoryState} (answer : Settled) (until : ℕ) (p : Pass) → slice_get passes i ≡ Some p
    → IsAt passes i (λ p. AddsEntries (read_numbers_of answer until) (read_sectors_of answer p.piece) history history')
    → AddsEntries (read_numbers_of answer until) (read_sectors_of answer p.piece) history history'
extended passes i {history} {history'} answer until p there extends = subst
    (λ (x : Pass). AddsEntries (read_numbers_of answer until) (read_sectors_of answer x.piece) history history') (some-inj (sym extends.1 ∙ there)) extends.2

-- It came from the store.
module _ {S B : Type 0} {g : store.Ghosts S} {h : base.Ghosts B} {c c' : View S B} (kept : IsSound g h c) {i : ℕ} {answer : Settled} {out out' : List Sector}
    (step : SettleStoreLookStep g answer i out out' c c') where
  looking-at : IsAt c.passes i (λ p. p.phase ≡ Looking)
  looking-at = (step.looking.0, step.looking.1, step.looking.2.0)

  pub settle_look-coherent : IsCoherent g h (view_requests c') (view_places c') c'.store c'.base
  settle_look-coherent = in-place (framed c step.others) refl (ap (λ v. v.base) step.others) (look_settled-coherent kept.coherent looking-at step.settles)

  pub settle_look-room : RoomIsReserved g c'
  settle_look-room = let m = step.settles in
      ended-roomy kept i looking-at (ap (λ v. v.shape) step.others) (ap (λ v. v.spare) step.others) out out' answer m.pass _ m.content m.there m.effect
      (extended c.passes i answer (g.events c'.store) m.pass m.there step.extends) step.keeps.telling.events

  pub settle_look-told : IsFaithfullyKept g h c → g.tells c'.store → h.tells c'.base → IsFaithfullyKept g h c'
  settle_look-told was told base_told = told-by (framed c step.others) (ap (λ v. h.sectors v.base) step.others) refl was
      (λ start faithful. look_settled-faithful kept.coherent looking-at step.settles (λ b. faithful) told)

-- It came from the base.
module _ {S B : Type 0} {g : store.Ghosts S} {h : base.Ghosts B} {c c' : View S B} (kept : IsSound g h c) {i : ℕ} {answer : Settled} {out out' : List Sector}
    (step : SettleBaseLookStep h g answer i out out' c c') where
  looking-in : IsAt c.passes i (λ p. p.phase ≡ Looking)
  looking-in = (step.looking.0, step.looking.1, step.looking.2.0)

  pub settle_base_look-coherent : IsCoherent g h (view_requests c') (view_places c') c'.store c'.base
  settle_base_look-coherent = in-place (framed c step.others) (ap (λ v. v.store) step.others) refl
      (base_look_settled-coherent kept.coherent looking-in step.settles)

  pub settle_base_look-room : RoomIsReserved g c'
  settle_base_look-room = let m = step.settles in let e = ap (λ v. g.events v.store) step.others in
      let more = subst (λ n. IsAt c.passes i (λ p. AddsEntries (read_numbers_of answer n) (read_sectors_of answer p.piece) c.history c'.history))
      (sym e) step.extends in
      ended-roomy kept i looking-in (ap (λ v. v.shape) step.others) (ap (λ v. v.spare) step.others) out out' answer m.pass _ _ m.there m.effect
      (extended c.passes i answer (g.events c'.store) m.pass m.there more) (omega (arith, e))

  pub settle_base_look-told : IsFaithfullyKept g h c → g.tells c'.store → h.tells c'.base → IsFaithfullyKept g h c'
  settle_base_look-told was told base_told =
      let before = step.keeps.telling.told_before base_told in
      let same : h.content c'.base ≡ base_then h c.fixed = step.keeps.telling.content base_told ∙ kept.since.base.telling.content before in
      told-by (framed c step.others) step.keeps.counts.sectors (ap (λ v. v.store) step.others) was
      (λ start faithful. base_look_settled-faithful kept.coherent looking-in step.settles (λ (t : Unit {0}). base_told)
      (λ t. rw same (backed kept.coherent (base_then h c.fixed) was.base_size)) (λ t. faithful) tt)
