-- The one step that a driver makes: the one that its pass's phase calls for.
use Rattle.std.specs.Prelude.{ℕ, ◌≡◌, ◌⊎◌, List}
use Rattle.vd_law.specs.declared.entry.Sector.{Sector}
use Rattle.vd_law.specs.declared.entry.Answer.{Answer}
use Rattle.vd_device.specs.declared.store.Store as store
use Rattle.vd_device.specs.declared.base.Base as base
use Rattle.vd_device.specs.declared.settled.Settled.{Settled}
use Rattle.vd_keeper.specs.declared.stage.Route.TheVariants.{Owed}
use Rattle.vd_passes.specs.declared.pass.Phase.{Phase}
use Rattle.vd_passes.specs.declared.pass.Phase.TheVariants.{Asked, Held, Fetching, Filled, Issuing, Looking, Flushing, Ready}
use Rattle.vd_machine.specs.Outcomes.{outcome_of}
use Rattle.vd_machine.specs.Views.{View}
use Rattle.vd_machine.specs.AskSteps.{ReplyStep}
use Rattle.vd_machine.specs.WriteSteps.{EnterStep, KeptOutStep, FetchStep, SettleFetchStep, IssueStep, SettleIssueStep}
use Rattle.vd_machine.specs.ReadSteps.{LookStep, SettleLookStep}
use Rattle.vd_machine.specs.FlushSteps.{FlushKeptOutStep, BeginFlushStep, WearStep, PutStep, SyncStep, SettleMetaStep, SealStep}
use Rattle.vd_core.specs.Outcomes.{step_of}
use Rattle.vd_core.specs.declared.outcome.Step.{Step}
use Rattle.vd_core.specs.declared.outcome.Step.TheVariants.{Again, Busy, Ended}

-- a settle with this answer tells the caller so, and was made
abbrev pub AnswersSettle : Step → (Settled → Type 0) → Type 0
AnswersSettle result Settles = (answer : Settled) × (result ≡ step_of (outcome_of answer)) × Settles answer

-- the pass has its reply, which ends its call
abbrev pub EndsCall : {S B : Type 0} → store.Ghosts S → Step → (i : ℕ) → View S B → View S B → Type 0
EndsCall g result i c c' = (answer : Answer) × (result ≡ Ended answer) × ReplyStep g answer i c c'

-- the pass has the region of its next piece's block, or is told which pass keeps it out
abbrev pub TriesToEnter : {S B : Type 0} → Step → (i : ℕ) → View S B → View S B → Type 0
TriesToEnter result i c c' = ((result ≡ Again) × EnterStep i c c') ⊎ ((by : ℕ) × (result ≡ Busy by) × KeptOutStep by i c c')

module _ {S B : Type 0} (g : store.Ghosts S) (h : base.Ghosts B) where
  -- the step of a write of this content. A held block that is fresh, or that the piece is the whole of, is never fetched.
  abbrev pub WriterStep : Phase → (content : List Sector) → Step → (i : ℕ) → View S B → View S B → Type 0
  WriterStep Asked content result i c c' = TriesToEnter result i c c'
  WriterStep Held content result i c c' = (result ≡ Again) × (IssueStep g content i c c' ⊎ FetchStep h i c c')
  WriterStep Fetching content result i c c' = AnswersSettle result (λ answer. SettleFetchStep h answer i c c')
  WriterStep Filled content result i c c' = (result ≡ Again) × IssueStep g content i c c'
  WriterStep Issuing content result i c c' = AnswersSettle result (λ answer. SettleIssueStep g answer i c c')
  WriterStep Ready content result i c c' = EndsCall g result i c c'
  WriterStep _ content result i c c' = ⊥

  -- the step of a read, and what it makes of `out`
  abbrev pub ReaderStep : Phase → (out out' : List Sector) → Step → (i : ℕ) → View S B → View S B → Type 0
  ReaderStep Asked out out' result i c c' = TriesToEnter result i c c' × (out' ≡ out)
  ReaderStep Held out out' result i c c' = (result ≡ Again) × LookStep g h i out out' c c'
  ReaderStep Looking out out' result i c c' = AnswersSettle result (λ answer. SettleLookStep g h answer i out out' c c')
  ReaderStep Ready out out' result i c c' = EndsCall g result i c c' × (out' ≡ out)
  ReaderStep _ out out' result i c c' = ⊥

module _ {S B : Type 0} (g : store.Ghosts S) where
  -- the flush under way goes on: its call is settled, or the next one is submitted, or it is over
  abbrev pub GoesOnWithFlush : Step → (i : ℕ) → View S B → View S B → Type 0
  GoesOnWithFlush result i c c' = AnswersSettle result (λ answer. SettleMetaStep g answer i c c')
      ⊎ ((result ≡ Again) × (PutStep g i c c' ⊎ SyncStep g i c c' ⊎ SealStep i c c'))

  -- the step of a flush
  abbrev pub FlusherStep : Phase → Step → (i : ℕ) → View S B → View S B → Type 0
  FlusherStep Asked result i c c' = ((result ≡ Again) × (BeginFlushStep g Owed i c c' ⊎ WearStep Owed i c c')) ⊎ ((by : ℕ) × (result ≡ Busy by) × FlushKeptOutStep by i c c')
  FlusherStep Flushing result i c c' = GoesOnWithFlush result i c c'
  FlusherStep Ready result i c c' = EndsCall g result i c c'
  FlusherStep _ result i c c' = ⊥

-- What a step of a read or a write leaves, and what a step of a flush leaves beside the metadata.
pub record LeavesDisk {S B : Type 0} (c c' : View S B) : Type 0 where
  pub fixed : c'.fixed ≡ c.fixed
  pub shape : c'.shape ≡ c.shape
  pub table : c'.table ≡ c.table
  pub opened : c'.history.opened ≡ c.history.opened
  pub room : c'.history.log.room ≡ c.history.log.room
