-- Why the answers of a core's history and its local blocks are as they are.
use Rattle.vd_device.specs.declared.store.Store as store
use Rattle.vd_device.specs.declared.base.Base as base
use Rattle.vd_passes.specs.Causes.{OfStore, OfBase, FaultsAddUp, AreOfPasses}
use Rattle.vd_machine.specs.Views.{View, view_requests}
use Rattle.vd_causes.specs.Storing.{IsStoredBy}
use Rattle.vd_causes.specs.Local.{AreLocalBy}
use Rattle.vd_causes.specs.Wearing.{RisesAddUp}

-- Each fault names a ticket of its device, which has failed as often since the core was made; a Full is due to what writes have taken;
-- a Worn to the flushes that were asked; each entry is of one of the passes; and a block is local by opening or by a write.
pub record IsAccounted {S B : Type 0} (g : store.Ghosts S) (h : base.Ghosts B) (c : View S B) : Type 0 where
  pub of_store : FaultsAddUp OfStore c.passes c.history.log.entries (g.last c.store) (g.faults c.fixed.store) (g.faults c.store)
  pub of_base : FaultsAddUp OfBase c.passes c.history.log.entries (h.last c.base) (h.faults c.fixed.base) (h.faults c.base)
  pub stored : IsStoredBy c.shape c.fixed.entries c.table c.history.log.entries
  pub worn : RisesAddUp c.fixed.header.generation c.keeping (view_requests c)
  pub local : AreLocalBy c.shape c.fixed.entries c.fresh c.history.log.entries
  pub of_passes : AreOfPasses c.passes c.history.log.entries
