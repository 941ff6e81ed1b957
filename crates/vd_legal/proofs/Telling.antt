-- Where the devices tell, a core's history is legal.
use Rattle.std.proofs.Common.{ℕ, List, subst, sym}
use Rattle.vd_device.specs.declared.store.Store as store
use Rattle.vd_device.specs.declared.base.Base as base
use Rattle.vd_law.specs.declared.entry.Sector.{Sector}
use Rattle.vd_law.specs.Rules.{IsRegular, IsLegal}
use Rattle.vd_machine.specs.Views.{View}
use Rattle.vd_machine.specs.Sound.{IsSound}
use Rattle.vd_machine.specs.Telling.{IsStartOf, IsFaithfullyKept}

-- from whatever the guest's disk was when the core was made
pub told-legal : {S B : Type 0} {g : store.Ghosts S} {h : base.Ghosts B} {c : View S B} → IsSound g h c → IsFaithfullyKept g h c → (start : List Sector)
    → IsStartOf g h c.fixed start → IsLegal start c.history.log.entries
told-legal {c = c} kept told start is = let faithful = told.faithful start is in record {
  regular = subst (λ (n : ℕ). IsRegular n c.history.log.entries) (sym faithful.size) kept.coherent.regular;
  shown = faithful.shown;
}
