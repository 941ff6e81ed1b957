-- The steps of a read keep a core so that every image is safe.
use Rattle.std.proofs.Common.{◌≡◌, ℕ, ◌⊎◌, List, ◌++◌, length, inr}
use Rattle.vd_device.specs.declared.store.Store as store
use Rattle.vd_device.specs.declared.base.Base as base
use Rattle.vd_law.specs.declared.entry.Sector.{Sector}
use Rattle.vd_law.specs.Histories.{HistoryState}
use Rattle.vd_device.specs.declared.settled.Settled.{Settled}
use Rattle.vd_device.specs.declared.settled.Settled.TheVariants as settled
use Rattle.vd_device.specs.Disks.{Disk, IsRunning}
use Rattle.vd_device.specs.Calls.{ask_read_entry}
use Rattle.vd_passes.specs.declared.pass.Pass.{Pass}
use Rattle.vd_safety.proofs.Looking.{IsReadNumberedAfter, look-secured, settle_look-secured, settle_base_look-secured, see_zeros-secured}
use Rattle.vd_safety.proofs.Others.{base_look-secured}
use Rattle.vd_machine.specs.Outcomes.{read_numbers_of}
use Rattle.vd_machine.specs.ReadSteps.{StoreLookStep, BaseLookStep, ZerosStep, SettleStoreLookStep, SettleBaseLookStep}
use Rattle.vd_machine.specs.Views.{View}
use Rattle.vd_machine.specs.Sound.{IsSound}
use Rattle.vd_machine.specs.Telling.{IsFaithfullyKept}
use Rattle.vd_safety.specs.Safely.{IsSafelyKept}
use Rattle.vd_safety.proofs.KeepsCarrying.{safely-on, safely-here, around}
use Rattle.vd_safety.proofs.KeepsIssuing.{none-written, settled-inside, number-now}

read-numbered-as : (answer : Settled) (history history' : HistoryState) (events : ℕ) (disk : Disk)
    → history'.numbers ≡ history.numbers ++ read_numbers_of answer events → (history' ≡ history) ⊎ IsRunning events disk
    → IsReadNumberedAfter answer (length disk.log) history.numbers history'.numbers
read-numbered-as settled.Done history history' events disk is runs = number-now history history' events disk is runs
read-numbered-as (settled.NotYet same) history history' events disk is runs = is
read-numbered-as (settled.Failed number) history history' events disk is runs = is

module _ {S B : Type 0} {g : store.Ghosts S} {h : base.Ghosts B} {c : View S B} (sound : IsSound g h c)
    (told : g.tells c.store → h.tells c.base → IsFaithfullyKept g h c)
    (was : g.tells c.store → h.tells c.base → IsSafelyKept g h c) {i steps' : ℕ} {passes' : List Pass} where
  -- A pass looks in the store.
  pub look-safely : {store' : S} → StoreLookStep g i c (record c { store = store'; passes = passes'; steps = steps' }) → g.tells store' → h.tells c.base
      → IsSafelyKept g h (record c { store = store'; passes = passes'; steps = steps' })
  look-safely step now base_now =
      let at = step.reader in let call = step.looks.call in let before = call.takes.keeps.told_before now in
      safely-on (was before base_now) (_, call.takes.told now)
      (λ j a v w. absurd (none-written (ask_read_entry step.looks.ticket) (λ b u covers. covers) j a v w)) call.counts.sectors
      (λ start held is secured. look-secured (around sound (told before base_now) start held is) (at.0, at.1, at.2.0.phase) step.looks now secured)

  -- It looks in the base.
  pub base_look-safely : {base' : B} → BaseLookStep h i c (record c { base = base'; passes = passes'; steps = steps' }) → g.tells c.store → h.tells base'
      → IsSafelyKept g h (record c { base = base'; passes = passes'; steps = steps' })
  base_look-safely step now base_now =
      let at = step.reader in let before = step.keeps.telling.told_before base_now in
      safely-here (was now before) (λ start held is secured. base_look-secured (around sound (told now before) start held is) secured
      (at.0, at.1, at.2.0.phase) step.looks)

  module _ {history' : HistoryState} {out out' : List Sector} where
    -- It sees zeros.
    pub zeros-safely : ZerosStep g i out out' c (record c { passes = passes'; history = history'; steps = steps' }) → g.tells c.store → h.tells c.base
        → IsSafelyKept g h (record c { passes = passes'; history = history'; steps = steps' })
    zeros-safely step now base_now = let at = step.reader in
        safely-here (was now base_now) (λ start held is secured.
        see_zeros-secured (around sound (told now base_now) start held is) secured history' (at.0, at.1, at.2.0.0.phase) step.sees
        (number-now c.history history' (g.events c.store) (g.disk c.store) step.extends.2.numbers (inr (step.running now))))

    -- Its look in the store is settled.
    pub settle_look-safely : {answer : Settled} {store' : S}
        → SettleStoreLookStep g answer i out out' c (record c { store = store'; passes = passes'; history = history'; steps = steps' })
        → g.tells store' → h.tells c.base → IsSafelyKept g h (record c { store = store'; passes = passes'; history = history'; steps = steps' })
    settle_look-safely {answer} {store'} step now base_now =
        let at = step.looking in let call = step.settles.call in let before = call.takes.keeps.told_before now in
        safely-on (was before base_now) (_, call.takes.told now) (settled-inside answer step.settles.ticket _ (g.sectors c.store)) call.counts.sectors
        (λ start held is secured. settle_look-secured answer history' (around sound (told before base_now) start held is) (at.0, at.1, at.2.0) step.settles
        (read-numbered-as answer c.history history' (g.events store') (g.disk store') step.extends.2.numbers (step.running now)) now secured)

    -- Its look in the base is settled.
    pub settle_base_look-safely : {answer : Settled} {base' : B}
        → SettleBaseLookStep h g answer i out out' c (record c { base = base'; passes = passes'; history = history'; steps = steps' })
        → g.tells c.store → h.tells base' → IsSafelyKept g h (record c { base = base'; passes = passes'; history = history'; steps = steps' })
    settle_base_look-safely {answer} step now base_now =
        let at = step.looking in let before = step.keeps.telling.told_before base_now in
        safely-here (was now before) (λ start held is secured. settle_base_look-secured answer history' (around sound (told now before) start held is)
        (at.0, at.1, at.2.0) step.settles
        (read-numbered-as answer c.history history' (g.events c.store) (g.disk c.store) step.extends.2.numbers (step.running now)) secured)
