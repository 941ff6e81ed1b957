-- The steps of a flush leave the metadata attended to.
use Rattle.std.proofs.Common.{◌≡◌, ℕ, List, refl, ◌∙◌, ap, subst, Option, Some, None}
use Rattle.vd_device.specs.declared.settled.Settled.{Settled}
use Rattle.vd_device.specs.declared.settled.Settled.TheVariants as settled
use Rattle.vd_device.specs.declared.store.Store as store
use Rattle.vd_device.specs.declared.base.Base as base
use Rattle.vd_format.specs.declared.header.Header.{Header}
use Rattle.vd_image.specs.Image.{geometry_of}
use Rattle.vd_table.specs.Tables.{TableState}
use Rattle.vd_keeper.specs.declared.stage.Put.{Put}
use Rattle.vd_keeper.specs.declared.stage.Route.{Route}
use Rattle.vd_keeper.specs.declared.stage.Way as way
use Rattle.vd_keeper.specs.declared.stage.Way.TheVariants as ways
use Rattle.vd_keeper.specs.Keeping.{KeeperState}
use Rattle.vd_keeper.specs.Moves.{after_adopt, next_header, IsNextPut, Next_record, Next_page, Next_header}
use Rattle.vd_passes.specs.declared.pass.Pass.{Pass}
use Rattle.vd_machine.specs.Attending.{KeeperAgrees}
use Rattle.vd_machine.specs.Flushing.{keeper_after}
use Rattle.vd_machine.specs.FlushSteps.{BeginFlushStep, WearStep, PutStep, SyncStep, SettleMetaStep, SealStep, flusher_after}
use Rattle.vd_machine.specs.Views.{View}
use Rattle.vd_machine.specs.Sound.{MetadataAgrees, IsSound}
use Rattle.vd_machine.proofs.Stages.{gone-left}
use Rattle.vd_machine.proofs.Attended.{begin-attended, worn-attended, put-attended, sync-attended, done-attended, late-attended, failed-attended, seal-attended}
use Rattle.vd_machine.proofs.Others.{adopting-attended}
use Rattle.vd_metadata.proofs.Marks.{same-marks, more-marks}
use Rattle.vd_metadata.proofs.FlushingReady.{blocks-same}

-- The header that every image has keeps its geometry.

next-same : (w : way.Way) (h : Header) → geometry_of (next_header w h) ≡ geometry_of h
next-same (ways.Recycle tracked) h = refl
next-same ways.Records h = refl
next-same ways.Nothing h = refl

put-same : {table : TableState} (k k' : KeeperState) (put : Put) → IsNextPut table k put k' → (k'.header ≡ k.header) × (k'.stale ≡ k.stale)
put-same k k' put (Next_record sector way bytes) = (refl, refl)
put-same k k' put (Next_page page sector way lowest bytes) = (refl, refl)
put-same k k' put (Next_header sector way none bytes) = (refl, refl)

settled-same : (answer : Settled) (k : KeeperState) → ((keeper_after answer k).header ≡ k.header) × ((keeper_after answer k).stale ≡ k.stale)
settled-same settled.Done k = let left = gone-left k k.stage in (left.header, left.stale)
settled-same (settled.NotYet same) k = (refl, refl)
settled-same (settled.Failed number) k = (refl, refl)

-- The keeper's header and what is stale stay; what else it and the passes become is attended to.
going : {S B : Type 0} {c : View S B} {s : S} {ps : List Pass} {k : KeeperState} {flusher : Option ℕ} {n : ℕ} → MetadataAgrees c
    → k.header ≡ c.keeping.header → k.stale ≡ c.keeping.stale
    → KeeperAgrees c.shape c.table c.fresh ps flusher k → MetadataAgrees (record c { store = s; keeping = k; flusher = flusher; passes = ps; steps = n })
going {c = c} was header stale attended = record {
  attended = attended;
  same = ap (λ (h : Header). geometry_of h) header ∙ was.same;
  stale = same-marks c.shape c.fixed.entries stale was.stale;
}

module _ {S B : Type 0} {c : View S B} {ps : List Pass} {i n : ℕ} where
  pub wear-kept : {route : Route} → MetadataAgrees c → WearStep route i c (record c { passes = ps; steps = n })
      → MetadataAgrees (record c { passes = ps; steps = n })
  wear-kept was step = going was refl refl (worn-attended was.attended step.wears)

  pub seal-kept : {k : KeeperState} → MetadataAgrees c → SealStep i c (record c { keeping = k; flusher = None; passes = ps; steps = n })
      → MetadataAgrees (record c { keeping = k; flusher = None; passes = ps; steps = n })
  seal-kept was step =
      let after = step.seals.after in record {
        attended = seal-attended was.attended step.stage step.seals;
        same = ap (λ (x : KeeperState). geometry_of x.header) after ∙ next-same c.keeping.way c.keeping.header ∙ was.same;
        stale = same-marks c.shape c.fixed.entries (ap (λ (x : KeeperState). x.stale) after)
            (more-marks c.shape c.fixed.entries c.keeping.stale c.keeping.snapshot was.stale);
      }

  module _ {g : store.Ghosts S} {s : S} where
    pub sync-kept : MetadataAgrees c → SyncStep g i c (record c { store = s; passes = ps; steps = n })
        → MetadataAgrees (record c { store = s; passes = ps; steps = n })
    sync-kept was step = going was refl refl (sync-attended was.attended step.stage step.syncs)

    module _ {k : KeeperState} where
      pub begin-kept : {route : Route} → MetadataAgrees c
          → BeginFlushStep g route i c (record c { store = s; keeping = k; flusher = Some i; passes = ps; steps = n })
          → MetadataAgrees (record c { store = s; keeping = k; flusher = Some i; passes = ps; steps = n })
      begin-kept was step =
          let free = subst (λ (o : Option ℕ). KeeperAgrees c.shape c.table c.fresh c.passes o c.keeping) step.free was.attended in
          let after = step.begins.after in
          going was (ap (λ (x : KeeperState). x.header) after) (ap (λ (x : KeeperState). x.stale) after) (begin-attended free step.tracked step.begins)

      pub put-kept : MetadataAgrees c → PutStep g i c (record c { store = s; keeping = k; passes = ps; steps = n })
          → MetadataAgrees (record c { store = s; keeping = k; passes = ps; steps = n })
      put-kept was step =
          let same = put-same c.keeping k step.puts.put step.puts.next in
          going was same.0 same.1 (put-attended was.attended step.stage step.puts)

      settle-attended : (answer : Settled) → MetadataAgrees c
          → SettleMetaStep g answer i c (record c { store = s; keeping = k; flusher = flusher_after answer c.flusher; passes = ps; steps = n })
          → KeeperAgrees c.shape c.table c.fresh ps (flusher_after answer c.flusher) k
      settle-attended settled.Done was step = done-attended was.attended step.settles
      settle-attended (settled.NotYet same) was step = late-attended was.attended step.settles
      settle-attended (settled.Failed number) was step = failed-attended was.attended step.settles

      pub settle_meta-kept : (answer : Settled) → MetadataAgrees c
          → SettleMetaStep g answer i c (record c { store = s; keeping = k; flusher = flusher_after answer c.flusher; passes = ps; steps = n })
          → MetadataAgrees (record c { store = s; keeping = k; flusher = flusher_after answer c.flusher; passes = ps; steps = n })
      settle_meta-kept answer was step =
          let after = step.settles.after in let same = settled-same answer c.keeping in
          going was (ap (λ (x : KeeperState). x.header) after ∙ same.0) (ap (λ (x : KeeperState). x.stale) after ∙ same.1) (settle-attended answer was step)

-- Every local block that not every image has is put into those that the next flush logs.
pub adopt-kept : {S B : Type 0} {g : store.Ghosts S} {h : base.Ghosts B} {c : View S B} {n : ℕ} → IsSound g h c
    → MetadataAgrees (record c { keeping = after_adopt c.fresh c.keeping; steps = n })
adopt-kept was = let m = was.metadata in record { attended = adopting-attended m.attended (blocks-same was m) refl; same = m.same; stale = m.stale }
