-- Each step of a core leaves its metadata attended to.
use Rattle.std.proofs.Common.{◌≡◌, ℕ, subst, sym}
use Rattle.vd_device.specs.declared.store.Store as store
use Rattle.vd_device.specs.declared.base.Base as base
use Rattle.vd_machine.specs.WriteSteps.{SettleIssueStep}
use Rattle.vd_machine.specs.FlushSteps.{BeginFlushStep, WearStep, PutStep, SyncStep, SettleMetaStep, SealStep}
use Rattle.vd_machine.specs.Views.{View}
use Rattle.vd_machine.specs.Steps.{IsStep, By_refusal, By_ask, By_reply, By_enter, By_fetch, By_settle_fetch, By_issue, By_settle_issue, By_store_look, By_base_look, By_zeros, By_settle_store_look, By_settle_base_look, By_begin_flush, By_wear, By_put, By_sync, By_settle_meta, By_seal, By_adopt}
use Rattle.vd_machine.specs.Sound.{MetadataAgrees, IsSound}
use Rattle.vd_metadata.proofs.Recording.{aside-kept, ask-kept, settle_issue-kept, reply-aside, enter-aside, fetch-aside, settle_fetch-aside, issue-aside, look-aside, base_look-aside, zeros-aside, settle_look-aside, settle_base_look-aside}
use Rattle.vd_metadata.proofs.FlushRecording.{begin-kept, wear-kept, put-kept, sync-kept, settle_meta-kept, seal-kept, adopt-kept}

-- the core after a step is this view
moved : {S B : Type 0} {c' new : View S B} → c' ≡ new → MetadataAgrees new → MetadataAgrees c'
moved is agrees = subst (λ x. MetadataAgrees x) (sym is) agrees

module _ {S B : Type 0} {g : store.Ghosts S} {h : base.Ghosts B} {i : ℕ} {c c' : View S B} (step : IsStep g h i c c') (was : IsSound g h c) where
  kept : MetadataAgrees c
  kept = was.metadata

  pub metadata-kept : MetadataAgrees c'
  metadata-kept = by step
    where
      by : IsStep g h i c c' → MetadataAgrees c'
      by (By_refusal others) = moved others (record { attended = kept.attended; same = kept.same; stale = kept.stale })
      by (By_ask result request s) = moved s.others (ask-kept kept s)
      by (By_reply answer s) = moved s.others (aside-kept kept (reply-aside answer s))
      by (By_enter s) = moved s.others (aside-kept kept (enter-aside s))
      by (By_fetch s) = moved s.others (aside-kept kept (fetch-aside s))
      by (By_settle_fetch answer s) = moved s.others (aside-kept kept (settle_fetch-aside answer s))
      by (By_issue content s) = moved s.others (aside-kept kept (issue-aside content s))
      by (By_settle_issue answer s) = moved s.others (settle_issue-kept answer was (subst (λ x. SettleIssueStep g answer i c x) s.others s))
      by (By_store_look s) = moved s.others (aside-kept kept (look-aside s))
      by (By_base_look s) = moved s.others (aside-kept kept (base_look-aside s))
      by (By_zeros out out' s) = moved s.others (aside-kept kept (zeros-aside s))
      by (By_settle_store_look answer out out' s) = moved s.others (aside-kept kept (settle_look-aside answer s))
      by (By_settle_base_look answer out out' s) = moved s.others (aside-kept kept (settle_base_look-aside answer s))
      by (By_begin_flush route s) = moved s.others (begin-kept kept (subst (λ x. BeginFlushStep g route i c x) s.others s))
      by (By_wear route s) = moved s.others (wear-kept kept (subst (λ x. WearStep route i c x) s.others s))
      by (By_put s) = moved s.others (put-kept kept (subst (λ x. PutStep g i c x) s.others s))
      by (By_sync s) = moved s.others (sync-kept kept (subst (λ x. SyncStep g i c x) s.others s))
      by (By_settle_meta answer s) = moved s.others (settle_meta-kept answer kept (subst (λ x. SettleMetaStep g answer i c x) s.others s))
      by (By_seal s) = moved s.others (seal-kept kept (subst (λ x. SealStep i c x) s.others s))
      by (By_adopt s) = moved s.others (adopt-kept was)
