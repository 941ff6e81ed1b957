-- What the step of a read or a write leaves, and what the step of a flush leaves: each primitive is one step of the core.
use Rattle.std.proofs.Common.{◌≡◌, ℕ, List, refl, ap, ◌∙◌, inl, inr}
use Rattle.vd_law.specs.declared.entry.Sector.{Sector}
use Rattle.vd_device.specs.declared.store.Store as store
use Rattle.vd_device.specs.declared.base.Base as base
use Rattle.vd_device.specs.Stores.{IsTold, KeepsStore}
use Rattle.vd_device.specs.Bases.{KeepsBase}
use Rattle.vd_drive.proofs.Untouched.{store-untouched, base-untouched}
use Rattle.vd_keeper.specs.declared.stage.Route.TheVariants.{Owed}
use Rattle.vd_passes.specs.declared.pass.Phase.{Phase}
use Rattle.vd_passes.specs.declared.pass.Phase.TheVariants.{Idle, Asked, Held, Fetching, Filled, Issuing, Looking, Flushing, Ready}
use Rattle.vd_machine.specs.Views.{View}
use Rattle.vd_machine.specs.Steps.{IsStep, By_refusal, By_reply, By_enter, By_fetch, By_settle_fetch, By_issue, By_settle_issue, By_store_look, By_base_look, By_zeros, By_settle_store_look, By_settle_base_look, By_begin_flush, By_wear, By_put, By_sync, By_settle_meta, By_seal}
use Rattle.vd_core.specs.declared.outcome.Step.{Step}
use Rattle.vd_drive.specs.Drivers.{TriesToEnter, EndsCall, WriterStep, ReaderStep, GoesOnWithFlush, FlusherStep, LeavesDisk}

-- What the step of a read or a write is, and leaves.
pub record IsMade {S B : Type 0} (g : store.Ghosts S) (h : base.Ghosts B) (i : ℕ) (c c' : View S B) : Type 0 where
  pub step : IsStep g h i c c'
  pub leaves : LeavesDisk c c'
  pub flusher : c'.flusher ≡ c.flusher
  pub keeps : KeepsStore g c.store c'.store
  pub base_keeps : KeepsBase h c.base c'.base

-- what the step of a flush is, and leaves
pub record IsFlushMade {S B : Type 0} (g : store.Ghosts S) (h : base.Ghosts B) (i : ℕ) (c c' : View S B) : Type 0 where
  pub step : IsStep g h i c c'
  pub leaves : LeavesDisk c c'
  pub fresh : c'.fresh ≡ c.fresh
  pub keeps : KeepsStore g c.store c'.store
  pub base : c'.base ≡ c.base

module _ {S B : Type 0} (g : store.Ghosts S) (h : base.Ghosts B) (i : ℕ) (c c' : View S B) where
  -- the same view but for what the step changes
  left-by : {v : View S B} → c' ≡ v → v.fixed ≡ c.fixed → v.shape ≡ c.shape → v.table ≡ c.table → v.history.opened ≡ c.history.opened
      → v.history.log.room ≡ c.history.log.room → LeavesDisk c c'
  left-by is fixed shape table opened room = record {
    fixed = ap (λ (x : View S B). x.fixed) is ∙ fixed;
    shape = ap (λ (x : View S B). x.shape) is ∙ shape;
    table = ap (λ (x : View S B). x.table) is ∙ table;
    opened = ap (λ (x : View S B). x.history.opened) is ∙ opened;
    room = ap (λ (x : View S B). x.history.log.room) is ∙ room;
  }

  made-by : {v : View S B} → c' ≡ v → IsStep g h i c c' → LeavesDisk c c' → v.flusher ≡ c.flusher → KeepsStore g c.store c'.store
      → KeepsBase h c.base c'.base → IsMade g h i c c'
  made-by is step leaves flusher keeps base_keeps =
      record { step = step; leaves = leaves; flusher = ap (λ (x : View S B). x.flusher) is ∙ flusher; keeps = keeps; base_keeps = base_keeps }

  flush-made-by : {v : View S B} → c' ≡ v → IsStep g h i c c' → LeavesDisk c c' → v.fresh ≡ c.fresh → KeepsStore g c.store c'.store
      → v.base ≡ c.base → IsFlushMade g h i c c'
  flush-made-by is step leaves fresh keeps base = record {
    step = step;
    leaves = leaves;
    fresh = ap (λ (x : View S B). x.fresh) is ∙ fresh;
    keeps = keeps;
    base = ap (λ (x : View S B). x.base) is ∙ base;
  }

  store-same : {v : View S B} → c' ≡ v → IsTold g c.store → v.store ≡ c.store → KeepsStore g c.store c'.store
  store-same is told same = store-untouched g c.store c'.store (ap (λ (x : View S B). x.store) is ∙ same) told

  base-same : {v : View S B} → c' ≡ v → v.base ≡ c.base → KeepsBase h c.base c'.base
  base-same is same = base-untouched h c.base c'.base (ap (λ (x : View S B). x.base) is ∙ same)

  tried-made : IsTold g c.store → (result : Step) → TriesToEnter result i c c' → IsMade g h i c c'
  tried-made told result (inl (again, s)) =
      let is = s.others in made-by is (By_enter s) (left-by is refl refl refl refl refl) refl (store-same is told refl) (base-same is refl)
  tried-made told result (inr (by, busy, s)) =
      let is = s.others in made-by is (By_refusal is) (left-by is refl refl refl refl refl) refl (store-same is told refl) (base-same is refl)

  ended-made : IsTold g c.store → (result : Step) → EndsCall g result i c c' → IsMade g h i c c'
  ended-made told result (answer, ended, s) =
      let is = s.others in
      made-by is (By_reply answer s) (left-by is refl refl refl s.extends.opened s.extends.room) refl (store-same is told refl) (base-same is refl)

  pub writer-made : IsTold g c.store → (phase : Phase) (content : List Sector) (result : Step)
      → WriterStep g h phase content result i c c' → IsMade g h i c c'
  writer-made told Asked content result made = tried-made told result made
  writer-made told Held content result (again, inl s) =
      let is =
      s.others in let added = s.extends.2 in
      made-by is (By_issue content s) (left-by is refl refl refl added.opened added.room) refl s.keeps (base-same is refl)
  writer-made told Held content result (again, inr s) =
      let is = s.others in made-by is (By_fetch s) (left-by is refl refl refl refl refl) refl (store-same is told refl) s.keeps
  writer-made told Fetching content result (answer, settled, s) =
      let is = s.others in made-by is (By_settle_fetch answer s) (left-by is refl refl refl refl refl) refl (store-same is told refl) s.keeps
  writer-made told Filled content result (again, s) =
      let is =
      s.others in let added = s.extends.2 in
      made-by is (By_issue content s) (left-by is refl refl refl added.opened added.room) refl s.keeps (base-same is refl)
  writer-made told Issuing content result (answer, settled, s) =
      let is = s.others in made-by is (By_settle_issue answer s) (left-by is refl refl refl s.extends.opened s.extends.room) refl s.keeps (base-same is refl)
  writer-made told Ready content result made = ended-made told result made
  writer-made told Idle content result made = absurd made
  writer-made told Looking content result made = absurd made
  writer-made told Flushing content result made = absurd made

  pub reader-made : IsTold g c.store → (phase : Phase) (out out' : List Sector) (result : Step) → ReaderStep g h phase out out' result i c c'
      → IsMade g h i c c'
  reader-made told Asked out out' result (made, same) = tried-made told result made
  reader-made told Held out out' result (again, inl (s, same)) =
      let is = s.others in made-by is (By_store_look s) (left-by is refl refl refl refl refl) refl s.keeps (base-same is refl)
  reader-made told Held out out' result (again, inr (inl (s, same))) =
      let is = s.others in made-by is (By_base_look s) (left-by is refl refl refl refl refl) refl (store-same is told refl) s.keeps
  reader-made told Held out out' result (again, inr (inr s)) =
      let is =
      s.others in let added = s.extends.2 in
      made-by is (By_zeros out out' s) (left-by is refl refl refl added.opened added.room) refl (store-same is told refl) (base-same is refl)
  reader-made told Looking out out' result (answer, settled, inl s) =
      let is =
      s.others in let added = s.extends.2 in
      made-by is (By_settle_store_look answer out out' s) (left-by is refl refl refl added.opened added.room) refl s.keeps (base-same is refl)
  reader-made told Looking out out' result (answer, settled, inr s) =
      let is =
      s.others in let added = s.extends.2 in
      made-by is (By_settle_base_look answer out out' s) (left-by is refl refl refl added.opened added.room) refl (store-same is told refl) s.keeps
  reader-made told Ready out out' result (made, same) = ended-made told result made
  reader-made told Idle out out' result made = absurd made
  reader-made told Fetching out out' result made = absurd made
  reader-made told Filled out out' result made = absurd made
  reader-made told Issuing out out' result made = absurd made
  reader-made told Flushing out out' result made = absurd made

  pub going-made : IsTold g c.store → (result : Step) → GoesOnWithFlush g result i c c' → IsFlushMade g h i c c'
  going-made told result (inl (answer, settled, s)) =
      let is = s.others in flush-made-by is (By_settle_meta answer s) (left-by is refl refl refl refl refl) refl s.keeps refl
  going-made told result (inr (again, inl s)) = let is = s.others in flush-made-by is (By_put s) (left-by is refl refl refl refl refl) refl s.keeps refl
  going-made told result (inr (again, inr (inl s))) = let is = s.others in flush-made-by is (By_sync s) (left-by is refl refl refl refl refl) refl s.keeps refl
  going-made told result (inr (again, inr (inr s))) =
      let is = s.others in flush-made-by is (By_seal s) (left-by is refl refl refl refl refl) refl (store-same is told refl) refl

  pub flusher-made : IsTold g c.store → (phase : Phase) (result : Step) → FlusherStep g phase result i c c' → IsFlushMade g h i c c'
  flusher-made told Asked result (inl (again, inl s)) =
      let is = s.others in flush-made-by is (By_begin_flush Owed s) (left-by is refl refl refl refl refl) refl s.keeps refl
  flusher-made told Asked result (inl (again, inr s)) =
      let is = s.others in flush-made-by is (By_wear Owed s) (left-by is refl refl refl refl refl) refl (store-same is told refl) refl
  flusher-made told Asked result (inr (by, busy, s)) =
      let is = s.others in flush-made-by is (By_refusal is) (left-by is refl refl refl refl refl) refl (store-same is told refl) refl
  flusher-made told Flushing result made = going-made told result made
  flusher-made told Ready result (answer, ended, s) =
      let is = s.others in flush-made-by is (By_reply answer s) (left-by is refl refl refl s.extends.opened s.extends.room) refl (store-same is told refl) refl
  flusher-made told Idle result made = absurd made
  flusher-made told Held result made = absurd made
  flusher-made told Fetching result made = absurd made
  flusher-made told Filled result made = absurd made
  flusher-made told Issuing result made = absurd made
  flusher-made told Looking result made = absurd made
