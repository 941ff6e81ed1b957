-- Each step of a core accounts for what it answers.
use Rattle.std.proofs.Common.{ℕ}
use Rattle.vd_device.specs.declared.store.Store as store
use Rattle.vd_device.specs.declared.base.Base as base
use Rattle.vd_machine.specs.Views.{View}
use Rattle.vd_machine.specs.Steps.{IsStep}
use Rattle.vd_machine.specs.Sound.{IsSound}
use Rattle.vd_machine.specs.Telling.{LogAgrees}
use Rattle.vd_causes.specs.Accounts.{IsAccounted}
use Rattle.vd_causes.proofs.Accounting.{step-accounted}
use Rattle.vd_causes.proofs.Following.{step-logged}

module _ {S B : Type 0} {g : store.Ghosts S} {h : base.Ghosts B} {i : ℕ} {c c' : View S B} (step : IsStep g h i c c') (was : IsSound g h c) where
  pub accounted-kept : IsAccounted g h c → IsAccounted g h c'
  accounted-kept accounted = step-accounted was accounted step

  pub logged-kept : (g.tells c.store → LogAgrees g c) → g.tells c'.store → LogAgrees g c'
  logged-kept logged told = step-logged was logged step told
