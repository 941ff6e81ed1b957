-- The steps that the store and the history have nothing of: a pass enters a block, or reads of the base.
use Rattle.std.proofs.Common.{◌≡◌, ℕ, Bool, true, List, refl, sym, ap, subst, Option, Some, slice_get}
use Rattle.vd_law.specs.declared.entry.Sector.{Sector}
use Rattle.vd_law.specs.Entries.{Entry}
use Rattle.vd_law.specs.Histories.{HistoryState}
use Rattle.vd_device.specs.declared.base.Base as base
use Rattle.vd_device.specs.declared.ticket.Ticket.{Ticket}
use Rattle.vd_device.specs.declared.settled.Settled.{Settled}
use Rattle.vd_device.specs.declared.settled.Settled.TheVariants as settled
use Rattle.vd_format.specs.declared.header.Header.{Header}
use Rattle.vd_table.specs.Tables.{TableState}
use Rattle.vd_crash.specs.facts.Safe.{Opening}
use Rattle.vd_crash.specs.flushes.Stage.{Idle as NoFlight}
use Rattle.vd_keeper.specs.Keeping.{KeeperState}
use Rattle.vd_passes.specs.declared.shape.Shape.{Shape}
use Rattle.vd_passes.specs.declared.pass.Pass.{Pass}
use Rattle.vd_passes.specs.declared.pass.Phase.{Phase}
use Rattle.vd_passes.specs.declared.pass.Phase.TheVariants.{Asked, Held, Fetching, Issuing, Flushing}
use Rattle.vd_passes.specs.Requests.{RequestState, requests, with_pass}
use Rattle.vd_passes.specs.Steps.{IsAt, Enters, Fetches, FillsZeros, FetchSettled, after_base_read, LooksAtBase}
use Rattle.vd_safety.specs.Mirrors.{core_state, IsFlightOf, HasSafeMirror}
use Rattle.vd_safety.proofs.Surroundings.{Surroundings}
use Rattle.vd_safety.proofs.Flying.{is_bare, flight-bare}
use Rattle.vd_safety.proofs.Onward.{only-passes}
use Rattle.vd_safety.proofs.Knowing.{at-this}

fetched-flight : (answer : Settled) (p : Pass) (t : Ticket) (block : ℕ) (content : List Sector) (i : ℕ) → is_bare p.phase ≡ true
    → IsFlightOf (after_base_read answer p t block content).phase (after_base_read answer p t block content).fault i (after_base_read answer p t block content) NoFlight
fetched-flight settled.Done p t block content i bare = refl
fetched-flight (settled.NotYet same) p t block content i bare = flight-bare p.phase p.fault i p NoFlight bare refl
fetched-flight (settled.Failed number) p t block content i bare = refl

module _ {h : Header} {o : Opening} {shape : Shape} {table : TableState} {fresh : List Bool} {k : KeeperState} {flusher : Option ℕ} {passes : List Pass} {history : HistoryState} {backing : List Sector} {last : ℕ} {log : List Entry}
    (around : Surroundings h o shape (core_state table fresh k flusher passes history) backing last) (secured : HasSafeMirror o (core_state table fresh k flusher passes history) log) where
  abbrev now : RequestState
  now = requests shape fresh passes history.log.entries

  -- A pass that has nothing in flight on the store goes on so.
  pub others-secured : {r' : RequestState} (i : ℕ) (p p' : Pass) → slice_get passes i ≡ Some p → is_bare p.phase ≡ true → (p.phase ≡ Flushing → ⊥) → IsFlightOf p'.phase p'.fault i p' NoFlight
      → r' ≡ with_pass i p' now → HasSafeMirror o (core_state table r'.fresh k flusher r'.passes history) log
  others-secured i p p' there bare not_flushing idle after =
      subst (λ (r : RequestState). HasSafeMirror o (core_state table r.fresh k flusher r.passes history) log) (sym after)
      (only-passes around secured i p p' there (λ is. absurd (let e : is_bare p.phase ≡ is_bare Issuing = ap is_bare is in cc)) not_flushing bare idle)

  -- from one of these phases
  from-phase : {r' : RequestState} (i : ℕ) (phase : Phase) (p p' : Pass) → slice_get passes i ≡ Some p → IsAt passes i (λ p. p.phase ≡ phase) → is_bare phase ≡ true → (phase ≡ Flushing → ⊥) → IsFlightOf p'.phase p'.fault i p' NoFlight
      → r' ≡ with_pass i p' now → HasSafeMirror o (core_state table r'.fresh k flusher r'.passes history) log
  from-phase i phase p p' there at bare not_flushing idle after =
      let is : p.phase ≡ phase = at-this passes i (λ p. p.phase ≡ phase) p there at in
      others-secured i p p' there (subst (λ (x : Phase). is_bare x ≡ true) (sym is) bare) (subst (λ (x : Phase). x ≡ Flushing → ⊥) (sym is) not_flushing) idle after

  pub enter-secured : {places : ℕ → Option ℕ} {i : ℕ} {r' : RequestState} → IsAt passes i (λ p. p.phase ≡ Asked) → Enters places i now r' → HasSafeMirror o (core_state table r'.fresh k flusher r'.passes history) log
  enter-secured {i = i} at step = from-phase i Asked step.pass _ step.there at refl (λ e. absurd (cc)) refl step.after

  pub fill-secured : {i : ℕ} {r' : RequestState} → IsAt passes i (λ p. p.phase ≡ Held) → FillsZeros i now r' → HasSafeMirror o (core_state table r'.fresh k flusher r'.passes history) log
  fill-secured {i} at step = from-phase i Held step.pass _ step.there at refl (λ e. absurd (cc)) refl step.after

  -- its calls of the base
  module _ {B : Type 0} {d : base.Ghosts B} {from to : B} {i : ℕ} {r' : RequestState} where
    pub fetch-secured : IsAt passes i (λ p. p.phase ≡ Held) → Fetches d i now r' from to → HasSafeMirror o (core_state table r'.fresh k flusher r'.passes history) log
    fetch-secured at step = from-phase i Held step.pass _ step.there at refl (λ e. absurd (cc)) refl step.after

    pub settle_fetch-secured : {answer : Settled} → IsAt passes i (λ p. p.phase ≡ Fetching) → FetchSettled d answer i now r' from to → HasSafeMirror o (core_state table r'.fresh k flusher r'.passes history) log
    settle_fetch-secured {answer} at step =
        let is : step.pass.phase ≡ Fetching = at-this passes i (λ p. p.phase ≡ Fetching) step.pass step.there at in
        from-phase i Fetching step.pass _ step.there at refl (λ e. absurd (cc)) (fetched-flight answer step.pass step.ticket shape.block step.content i (ap is_bare is)) step.after

    pub base_look-secured : IsAt passes i (λ p. p.phase ≡ Held) → LooksAtBase d i now r' from to → HasSafeMirror o (core_state table r'.fresh k flusher r'.passes history) log
    base_look-secured at step = from-phase i Held step.pass _ step.there at refl (λ e. absurd (cc)) refl step.after
