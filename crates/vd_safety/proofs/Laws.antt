-- Each step of a core is one that the laws of crash safety know.
use Rattle.std.proofs.Common.{◌≡◌, ℕ, ◌≤◌, ◌⊎◌, List, subst, sym, arith}
use Rattle.vd_law.specs.Histories.{last_number}
use Rattle.vd_device.specs.declared.store.Store as store
use Rattle.vd_device.specs.declared.base.Base as base
use Rattle.vd_device.specs.Stores.{StoreTakes}
use Rattle.vd_law.specs.Entries.{Entry}
use Rattle.vd_machine.specs.Views.{View}
use Rattle.vd_machine.specs.AskSteps.{AskStep, ReplyStep}
use Rattle.vd_machine.specs.WriteSteps.{EnterStep, FetchStep, SettleFetchStep, IssueStep, SettleIssueStep}
use Rattle.vd_machine.specs.ReadSteps.{StoreLookStep, BaseLookStep, ZerosStep, SettleStoreLookStep, SettleBaseLookStep}
use Rattle.vd_machine.specs.FlushSteps.{BeginFlushStep, WearStep, PutStep, SyncStep, SettleMetaStep, SealStep, AdoptStep}
use Rattle.vd_machine.specs.Steps.{IsStep}
use Rattle.vd_machine.specs.Sound.{IsSound}
use Rattle.vd_machine.specs.Telling.{IsFaithfullyKept, LogAgrees}
use Rattle.vd_safety.specs.Safely.{IsSafelyKept, IsSafelyStopped}
use Rattle.vd_safety.proofs.KeepsAsking.{ask-safely, reply-safely}
use Rattle.vd_safety.proofs.KeepsCarrying.{safely-here}
use Rattle.vd_safety.proofs.KeepsEntering.{enter-safely, fetch-safely, settle_fetch-safely}
use Rattle.vd_safety.proofs.KeepsFlushing.{begin-safely, worn-safely, put-safely, sync-safely, settle_meta-safely, seal-safely, adopt-safely}
use Rattle.vd_safety.proofs.KeepsIssuing.{issue-safely, settle_issue-safely}
use Rattle.vd_safety.proofs.KeepsLooking.{look-safely, base_look-safely, zeros-safely, settle_look-safely, settle_base_look-safely}
use Rattle.vd_safety.proofs.KeepsStopping.{stopped-here, stopped-on, entries-as, late-one, ask-still, issue-still, write-still, look-still, base_look-still}

module _ {S B : Type 0} {g : store.Ghosts S} {h : base.Ghosts B} {i : ℕ} {c c' : View S B} (step : IsStep g h i c c') (was : IsSound g h c) where
  pub safely-kept : (g.tells c.store → h.tells c.base → IsFaithfullyKept g h c) → (g.tells c.store → LogAgrees g c)
      → (g.tells c.store → h.tells c.base → IsSafelyKept g h c)
      → g.tells c'.store → h.tells c'.base → IsSafelyKept g h c'
  safely-kept faithful logged safe = by step
    where
      on : {d : View S B} → c' ≡ d → (g.tells d.store → h.tells d.base → IsSafelyKept g h d) → g.tells c'.store → h.tells c'.base → IsSafelyKept g h c'
      on same next = subst (λ (x : View S B). g.tells x.store → h.tells x.base → IsSafelyKept g h x) (sym same) next

      by : IsStep g h i c c' → g.tells c'.store → h.tells c'.base → IsSafelyKept g h c'
      by (IsStep.By_refusal same) = on same (λ now base_now. safely-here (safe now base_now) (λ start held is secured. secured))
      by (IsStep.By_ask result request s) = on s.others (ask-safely was faithful safe (subst (λ x. AskStep g result request i c x) s.others s))
      by (IsStep.By_reply answer s) = on s.others (reply-safely was faithful safe (subst (λ x. ReplyStep g answer i c x) s.others s))
      by (IsStep.By_enter s) = on s.others (enter-safely was faithful safe (subst (λ x. EnterStep i c x) s.others s))
      by (IsStep.By_fetch s) = on s.others (fetch-safely was faithful safe (subst (λ x. FetchStep h i c x) s.others s))
      by (IsStep.By_settle_fetch answer s) = on s.others (settle_fetch-safely was faithful safe (subst (λ x. SettleFetchStep h answer i c x) s.others s))
      by (IsStep.By_issue content s) = on s.others (issue-safely was faithful safe (subst (λ x. IssueStep g content i c x) s.others s))
      by (IsStep.By_settle_issue answer s) = on s.others (settle_issue-safely was faithful safe (subst (λ x. SettleIssueStep g answer i c x) s.others s))
      by (IsStep.By_store_look s) = on s.others (look-safely was faithful safe (subst (λ x. StoreLookStep g i c x) s.others s))
      by (IsStep.By_base_look s) = on s.others (base_look-safely was faithful safe (subst (λ x. BaseLookStep h i c x) s.others s))
      by (IsStep.By_zeros out out' s) = on s.others (zeros-safely was faithful safe (subst (λ x. ZerosStep g i out out' c x) s.others s))
      by (IsStep.By_settle_store_look answer out out' s) = on s.others
          (settle_look-safely was faithful safe (subst (λ x. SettleStoreLookStep g answer i out out' c x) s.others s))
      by (IsStep.By_settle_base_look answer out out' s) = on s.others
          (settle_base_look-safely was faithful safe (subst (λ x. SettleBaseLookStep h g answer i out out' c x) s.others s))
      by (IsStep.By_begin_flush route s) = on s.others (begin-safely was faithful safe (subst (λ x. BeginFlushStep g route i c x) s.others s))
      by (IsStep.By_wear route s) = on s.others (worn-safely was faithful safe (subst (λ x. WearStep route i c x) s.others s))
      by (IsStep.By_put s) = on s.others (put-safely was faithful safe (subst (λ x. PutStep g i c x) s.others s))
      by (IsStep.By_sync s) = on s.others (sync-safely was faithful safe (subst (λ x. SyncStep g i c x) s.others s))
      by (IsStep.By_settle_meta answer s) = on s.others (settle_meta-safely was faithful safe (subst (λ x. SettleMetaStep g answer i c x) s.others s))
      by (IsStep.By_seal s) = on s.others (seal-safely was faithful safe (subst (λ x. SealStep i c x) s.others s))
      by (IsStep.By_adopt s) = on s.others (adopt-safely was safe (subst (λ x. AdoptStep c x) s.others s))

  pub stopped-kept : (g.tells c.store → h.tells c.base → IsSafelyKept g h c) → (g.records c.store → h.tells c.base → g.tells c.store ⊎ IsSafelyStopped g h c)
      → g.records c'.store → h.tells c'.base → g.tells c'.store ⊎ IsSafelyStopped g h c'
  stopped-kept safe stopped = by step
    where
      on : {d : View S B} → c' ≡ d → (g.records d.store → h.tells d.base → g.tells d.store ⊎ IsSafelyStopped g h d) → g.records c'.store → h.tells c'.base
          → g.tells c'.store ⊎ IsSafelyStopped g h c'
      on same next = subst (λ (x : View S B). g.records x.store → h.tells x.base → g.tells x.store ⊎ IsSafelyStopped g h x) (sym same) next

      later : last_number c.history.opened c.history.numbers ≤ g.events c.store
      later = was.roomy.later

      -- the numbers are not above the events that there are after a call
      later-still : {es : List Entry} {s : S} → StoreTakes g es c.store s → last_number c.history.opened c.history.numbers ≤ g.events s
      later-still takes = let before = later in let rise = takes.keeps.events in omega (arith, before, rise)

      by : IsStep g h i c c' → g.records c'.store → h.tells c'.base → g.tells c'.store ⊎ IsSafelyStopped g h c'
      by (IsStep.By_refusal same) = on same (stopped-here was safe stopped (λ t. t) (λ late start before. before))
      by (IsStep.By_ask result request s) = on s.others (stopped-here was safe stopped (λ t. t) (λ late start. ask-still s.ends later late))
      by (IsStep.By_reply answer s) = on s.others (stopped-here was safe stopped (λ t. t)
          (λ late start. late-one _ s.extends (entries-as s.replies.after) later late))
      by (IsStep.By_enter s) = on s.others (stopped-here was safe stopped (λ t. t) (λ late start before. before))
      by (IsStep.By_fetch s) = on s.others (stopped-here was safe stopped s.keeps.telling.told_before (λ late start before. before))
      by (IsStep.By_settle_fetch answer s) = on s.others (stopped-here was safe stopped s.keeps.telling.told_before (λ late start before. before))
      by (IsStep.By_issue content s) = on s.others (stopped-on was safe stopped _ s.issues.call.takes (λ t. t)
          (λ late start. issue-still s.issues s.extends.2 later))
      by (IsStep.By_settle_issue answer s) = on s.others (stopped-on was safe stopped _ s.settles.call.takes (λ t. t)
          (λ late start. write-still s.settles s.extends (later-still s.settles.call.takes) late))
      by (IsStep.By_store_look s) = on s.others (stopped-on was safe stopped _ s.looks.call.takes (λ t. t) (λ late start before. before))
      by (IsStep.By_base_look s) = on s.others (stopped-here was safe stopped s.keeps.telling.told_before (λ late start before. before))
      by (IsStep.By_zeros out out' s) = on s.others (stopped-here was safe stopped (λ t. t)
          (λ late start. late-one _ s.extends.2 (entries-as s.sees.sees.after) later late))
      by (IsStep.By_settle_store_look answer out out' s) =
          on s.others (stopped-on was safe stopped _ s.settles.call.takes (λ t. t)
          (λ late start. look-still s.settles s.extends.2 (later-still s.settles.call.takes) late))
      by (IsStep.By_settle_base_look answer out out' s) = on s.others
          (stopped-here was safe stopped s.keeps.telling.told_before (λ late start. base_look-still s.settles s.extends.2 later late))
      by (IsStep.By_begin_flush route s) = on s.others (stopped-on was safe stopped _ s.begins.sends.call.takes (λ t. t) (λ late start before. before))
      by (IsStep.By_wear route s) = on s.others (stopped-here was safe stopped (λ t. t) (λ late start before. before))
      by (IsStep.By_put s) = on s.others (stopped-on was safe stopped _ s.puts.sends.call.takes (λ t. t) (λ late start before. before))
      by (IsStep.By_sync s) = on s.others (stopped-on was safe stopped _ s.syncs.sends.call.takes (λ t. t) (λ late start before. before))
      by (IsStep.By_settle_meta answer s) = on s.others (stopped-on was safe stopped _ s.settles.settles.call.takes (λ t. t) (λ late start before. before))
      by (IsStep.By_seal s) = on s.others (stopped-here was safe stopped (λ t. t) (λ late start before. before))
      by (IsStep.By_adopt s) = on s.others (stopped-here was safe stopped (λ t. t) (λ late start before. before))
