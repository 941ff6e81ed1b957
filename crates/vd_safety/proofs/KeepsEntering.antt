-- A pass that enters a block, or fetches it, keeps a core so that every image is safe.
use Rattle.std.proofs.Common.{ℕ, List, inl, inr}
use Rattle.vd_device.specs.declared.store.Store as store
use Rattle.vd_device.specs.declared.base.Base as base
use Rattle.vd_device.specs.declared.settled.Settled.{Settled}
use Rattle.vd_passes.specs.declared.pass.Pass.{Pass}
use Rattle.vd_safety.proofs.Others.{enter-secured, fetch-secured, fill-secured, settle_fetch-secured}
use Rattle.vd_machine.specs.WriteSteps.{EnterStep, FetchStep, SettleFetchStep}
use Rattle.vd_machine.specs.Views.{View}
use Rattle.vd_machine.specs.Sound.{IsSound}
use Rattle.vd_machine.specs.Telling.{IsFaithfullyKept}
use Rattle.vd_safety.specs.Safely.{IsSafelyKept}
use Rattle.vd_safety.proofs.KeepsCarrying.{safely-here, around}

module _ {S B : Type 0} {g : store.Ghosts S} {h : base.Ghosts B} {c : View S B} (sound : IsSound g h c)
    (told : g.tells c.store → h.tells c.base → IsFaithfullyKept g h c)
    (was : g.tells c.store → h.tells c.base → IsSafelyKept g h c) {i steps' : ℕ} {passes' : List Pass} where
  -- A pass enters the block of its next piece.
  pub enter-safely : EnterStep i c (record c { passes = passes'; steps = steps' }) → g.tells c.store → h.tells c.base
      → IsSafelyKept g h (record c { passes = passes'; steps = steps' })
  enter-safely step now base_now = let at = step.asked in
      safely-here (was now base_now) (λ start held is secured. enter-secured (around sound (told now base_now) start held is) secured
      (at.0, at.1, at.2.asked) step.enters.enters)

  -- It reads its block from the base, or fills it with zeros.
  pub fetch-safely : {base' : B} → FetchStep h i c (record c { base = base'; passes = passes'; steps = steps' }) → g.tells c.store → h.tells base'
      → IsSafelyKept g h (record c { base = base'; passes = passes'; steps = steps' })
  fetch-safely step now base_now = let before = step.keeps.telling.told_before base_now in let at = step.writer in elim step.fetches [
    | inl f ↦ safely-here (was now before) (λ start held is secured. fetch-secured (around sound (told now before) start held is) secured
        (at.0, at.1, at.2.held) f.0)
    | inr z ↦ safely-here (was now before) (λ start held is secured. fill-secured (around sound (told now before) start held is) secured
        (at.0, at.1, at.2.held) z.0)
  ]

  -- It settles that read.
  pub settle_fetch-safely : {answer : Settled} {base' : B} → SettleFetchStep h answer i c (record c { base = base'; passes = passes'; steps = steps' })
      → g.tells c.store → h.tells base' → IsSafelyKept g h (record c { base = base'; passes = passes'; steps = steps' })
  settle_fetch-safely step now base_now = let before = step.keeps.telling.told_before base_now in
      safely-here (was now before) (λ start held is secured. settle_fetch-secured
      (around sound (told now before) start held is) secured step.fetching step.settles)
