-- What the type of a core keeps: parts that don't know each other, each kept by every step by a law of its own crate.
use Rattle.std.specs.Prelude.{◌⊎◌}
use Rattle.vd_device.specs.declared.store.Store as store
use Rattle.vd_device.specs.declared.base.Base as base
use Rattle.vd_machine.specs.Views.{View}
use Rattle.vd_machine.specs.Sound.{IsSound}
use Rattle.vd_machine.specs.Telling.{IsFaithfullyKept, LogAgrees}
use Rattle.vd_causes.specs.Accounts.{IsAccounted}
use Rattle.vd_safety.specs.Safely.{IsSafelyKept, IsSafelyStopped}

pub record IsWellKept {S B : Type 0} (g : store.Ghosts S) (h : base.Ghosts B) (c : View S B) : Type 0 where
  pub sound : IsSound g h c
  pub faithful : g.tells c.store → h.tells c.base → IsFaithfullyKept g h c
  pub logged : g.tells c.store → LogAgrees g c
  pub accounted : IsAccounted g h c
  pub safe : g.tells c.store → h.tells c.base → IsSafelyKept g h c
  pub stopped : g.records c.store → h.tells c.base → g.tells c.store ⊎ IsSafelyStopped g h c
