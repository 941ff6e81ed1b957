-- A store and a base, as a command is handed them and as it leaves them.
use Rattle.std.specs.Prelude.{ℕ, ◌⊎◌, []}
use Rattle.vd_device.specs.declared.store.Store as store
use Rattle.vd_device.specs.declared.base.Base as base
use Rattle.vd_device.specs.Stores.{KeepsStore}
use Rattle.vd_device.specs.Quiet.{OnlyReads, OnlyReadsBase}
use Rattle.vd_law.specs.Counts.{Rose}

pub record Devices (S B : Type 0) : Type 0 where
  pub store : S
  pub base : B

abbrev pub devices : {S B : Type 0} → S → B → Devices S B
devices s b = record { store = s; base = b }

-- what a device tells that is only waited for: none of its settles is late
abbrev pub waited_store : {S : Type 0} → store.Ghosts S → store.Ghosts S
waited_store g = record g { late = λ s. 0 }

abbrev pub waited_base : {B : Type 0} → base.Ghosts B → base.Ghosts B
waited_base h = record h { late = λ b. 0 }

module _ {S B : Type 0} (g : store.Ghosts S) (h : base.Ghosts B) where
  -- nothing is in flight on either
  abbrev pub HaveNoneInFlight : Devices S B → Type 0
  HaveNoneInFlight d = g.flight d.store [] × h.flight d.base []

  -- both tell what they hold
  abbrev pub AreTold : Devices S B → Type 0
  AreTold d = g.tells d.store × h.tells d.base

  -- both were only read
  pub record AreReadOnly (d d' : Devices S B) : Type 0 where
    pub store : OnlyReads g d.store d'.store
    pub base : OnlyReadsBase h d.base d'.base

  -- What every command leaves: nothing in flight, and of the base what calls on it leave. A run waits for each of its calls.
  pub record Leaves (d d' : Devices S B) : Type 0 where
    pub idle : g.flight d'.store []
    pub store : KeepsStore (waited_store g) d.store d'.store
    pub base : OnlyReadsBase (waited_base h) d.base d'.base

  -- the count of failed calls rose of one of them
  abbrev pub HaveFailed : Devices S B → Devices S B → Type 0
  HaveFailed d d' = Rose (g.faults d.store) (g.faults d'.store) ⊎ Rose (h.faults d.base) (h.faults d'.base)
