-- One step of a core: each primitive is a constructor, with its conditions and what it changes.
use Rattle.std.specs.Prelude.{ℕ, List, Option}
use Rattle.vd_law.specs.declared.entry.Sector.{Sector}
use Rattle.vd_law.specs.declared.entry.Answer.{Answer}
use Rattle.vd_law.specs.Entries.{Asked}
use Rattle.vd_device.specs.declared.store.Store as store
use Rattle.vd_device.specs.declared.base.Base as base
use Rattle.vd_device.specs.declared.settled.Settled.{Settled}
use Rattle.vd_keeper.specs.declared.stage.Route.{Route}
use Rattle.vd_machine.specs.Views.{View, StandsStill}
use Rattle.vd_machine.specs.AskSteps.{AskStep, ReplyStep}
use Rattle.vd_machine.specs.WriteSteps.{EnterStep, FetchStep, SettleFetchStep, IssueStep, SettleIssueStep}
use Rattle.vd_machine.specs.ReadSteps.{StoreLookStep, BaseLookStep, ZerosStep, SettleStoreLookStep, SettleBaseLookStep}
use Rattle.vd_machine.specs.FlushSteps.{BeginFlushStep, WearStep, PutStep, SyncStep, SettleMetaStep, SealStep, AdoptStep}

module _ {S B : Type 0} (g : store.Ghosts S) (h : base.Ghosts B) where
  -- pass i has made a step; one that was refused counts and changes nothing else
  pub data IsStep (i : ℕ) (c c' : View S B) : Type 0 where
    By_refusal : StandsStill c c' → IsStep i c c'
    By_ask : (result : Option Answer) (request : Asked) → AskStep g result request i c c' → IsStep i c c'
    By_reply : (answer : Answer) → ReplyStep g answer i c c' → IsStep i c c'
    By_enter : EnterStep i c c' → IsStep i c c'
    By_fetch : FetchStep h i c c' → IsStep i c c'
    By_settle_fetch : (answer : Settled) → SettleFetchStep h answer i c c' → IsStep i c c'
    By_issue : (content : List Sector) → IssueStep g content i c c' → IsStep i c c'
    By_settle_issue : (answer : Settled) → SettleIssueStep g answer i c c' → IsStep i c c'
    By_store_look : StoreLookStep g i c c' → IsStep i c c'
    By_base_look : BaseLookStep h i c c' → IsStep i c c'
    By_zeros : (out out' : List Sector) → ZerosStep g i out out' c c' → IsStep i c c'
    By_settle_store_look : (answer : Settled) (out out' : List Sector) → SettleStoreLookStep g answer i out out' c c' → IsStep i c c'
    By_settle_base_look : (answer : Settled) (out out' : List Sector) → SettleBaseLookStep h g answer i out out' c c' → IsStep i c c'
    By_begin_flush : (route : Route) → BeginFlushStep g route i c c' → IsStep i c c'
    By_wear : (route : Route) → WearStep route i c c' → IsStep i c c'
    By_put : PutStep g i c c' → IsStep i c c'
    By_sync : SyncStep g i c c' → IsStep i c c'
    By_settle_meta : (answer : Settled) → SettleMetaStep g answer i c c' → IsStep i c c'
    By_seal : SealStep i c c' → IsStep i c c'
    By_adopt : AdoptStep c c' → IsStep i c c'
