-- All that an arm of a driver answers for, from the step that it makes.
use Rattle.std.proofs.Common.{◌≡◌, ◌≢◌, ◌⊎◌, ℕ, true, false, List, length, sym, ◌∙◌, subst, Some, slice_get}
use Rattle.vd_law.specs.Counts.{Rose}
use Rattle.vd_law.specs.declared.entry.Sector.{Sector}
use Rattle.vd_device.specs.declared.store.Store as store
use Rattle.vd_device.specs.declared.base.Base as base
use Rattle.vd_device.specs.Stores.{IsTold}
use Rattle.vd_passes.specs.declared.pass.Pass.{Pass}
use Rattle.vd_passes.specs.declared.pass.Phase.{Phase}
use Rattle.vd_passes.specs.declared.pass.Phase.TheVariants.{Idle}
use Rattle.vd_passes.specs.Steps.{IsAt}
use Rattle.vd_machine.specs.Attending.{KeeperAgrees}
use Rattle.vd_machine.specs.Phases.{IsInPhase}
use Rattle.vd_machine.specs.Views.{View}
use Rattle.vd_core.specs.declared.outcome.Step.{Step}
use Rattle.vd_core.specs.declared.outcome.Step.TheVariants.{Late}
use Rattle.vd_drive.specs.Drivers.{WriterStep, ReaderStep, GoesOnWithFlush, FlusherStep}
use Rattle.vd_drive.specs.Driving.{DrivesFlush, flush_work_of}
use Rattle.vd_drive.specs.Moves.{Drives, core_work}
use Rattle.vd_drive.proofs.Made.{IsMade, IsFlushMade, writer-made, reader-made, going-made, flusher-made}
use Rattle.vd_drive.proofs.Driven.{writer-drives, writer-late, reader-drives, reader-late, reader-room, going-drives, going-late, flusher-drives, flusher-late}

module _ {S B : Type 0} (g : store.Ghosts S) (h : base.Ghosts B) (i : ℕ) (c c' : View S B) (told : IsTold g c.store) where
  -- what was found to be the phase of the pass
  abbrev IsPhaseOf : Phase → Type 0
  IsPhaseOf found = (p : Pass) → slice_get c.passes i ≡ Some p → found ≡ p.phase

  abbrev Stands : Type 0
  Stands = (p : Pass) → slice_get c.passes i ≡ Some p → IsInPhase c.shape p

  pub writer-answers : {found : Phase} → IsPhaseOf found → Stands → IsAt c.passes i (λ p. (p.phase ≢ Idle) × (p.write ≡ true) × (p.flush ≡ false))
      → (phase : Phase) → found ≡ phase
      → (content : List Sector) (result : Step) → WriterStep g h phase content result i c c'
      → IsAt c.passes i (λ p. WriterStep g h p.phase content result i c c') × IsMade g h i c c' × Drives result c.shape.block i (core_work c) (core_work c')
      × (result ≡ Late → Rose (g.late c.store) (g.late c'.store) ⊎ Rose (h.late c.base) (h.late c'.base))
  writer-answers is stands at phase found content result made =
      let same : at.0.phase ≡ phase = sym (is at.0 at.1) ∙ found in (
        (at.0, at.1, subst (λ (x : Phase). WriterStep g h x content result i c c') (sym same) made),
        writer-made g h i c c' told phase content result made,
        writer-drives g h i c c' at.0 at.1 phase content result same at.2.1 (stands at.0 at.1) made,
        writer-late g h i c c' phase content result made,
      )

  pub reader-answers : {found : Phase} (out out' : List Sector) → IsPhaseOf found → Stands
      → IsAt c.passes i (λ p. (p.phase ≢ Idle) × (p.write ≡ false) × (p.flush ≡ false) × (p.count ≡ length out)) → (phase : Phase) → found ≡ phase
      → (result : Step) → ReaderStep g h phase out out' result i c c'
      → IsAt c.passes i (λ p. ReaderStep g h p.phase out out' result i c c') × IsMade g h i c c' × Drives result c.shape.block i (core_work c) (core_work c')
      × (result ≡ Late → Rose (g.late c.store) (g.late c'.store) ⊎ Rose (h.late c.base) (h.late c'.base)) × (length out' ≡ length out)
  reader-answers out out' is stands at phase found result made =
      let same : at.0.phase ≡ phase = sym (is at.0 at.1) ∙ found in (
        (at.0, at.1, subst (λ (x : Phase). ReaderStep g h x out out' result i c c') (sym same) made),
        reader-made g h i c c' told phase out out' result made,
        reader-drives g h i c c' at.0 at.1 phase out out' result same at.2.1 (stands at.0 at.1) made,
        reader-late g h i c c' phase out out' result made,
        reader-room g h i c c' at.0 at.1 phase out out' result same at.2.3 (stands at.0 at.1) made,
      )

  pub going-answers : KeeperAgrees c.shape c.table c.fresh c.passes c.flusher c.keeping → (result : Step) → GoesOnWithFlush g result i c c'
      → GoesOnWithFlush g result i c c' × IsFlushMade g h i c c' × DrivesFlush result i (flush_work_of c) (flush_work_of c')
      × (result ≡ Late → Rose (g.late c.store) (g.late c'.store))
  going-answers attended result made =
      (made, going-made g h i c c' told result made, going-drives g i c c' attended result made, going-late g h i c c' result made)

  pub flusher-answers : {found : Phase} → IsPhaseOf found → KeeperAgrees c.shape c.table c.fresh c.passes c.flusher c.keeping
      → IsAt c.passes i (λ p. (p.phase ≢ Idle) × (p.flush ≡ true)) → (phase : Phase) → found ≡ phase → (result : Step) → FlusherStep g phase result i c c'
      → IsAt c.passes i (λ p. FlusherStep g p.phase result i c c') × IsFlushMade g h i c c' × DrivesFlush result i (flush_work_of c) (flush_work_of c')
      × (result ≡ Late → Rose (g.late c.store) (g.late c'.store))
  flusher-answers is attended at phase found result made =
      let same : at.0.phase ≡ phase = sym (is at.0 at.1) ∙ found in (
        (at.0, at.1, subst (λ (x : Phase). FlusherStep g x result i c c') (sym same) made),
        flusher-made g h i c c' told phase result made,
        flusher-drives g i c c' attended at.0 at.1 phase result same made,
        flusher-late g h i c c' phase result made,
      )
