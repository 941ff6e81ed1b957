-- The steps of a flush: what was owed is logged, and made durable.
use Rattle.std.specs.Prelude.{ℕ, ◌≡◌, ◌≢◌, true, Option, None, Some, IsSome, slice_get}
use Rattle.vd_device.specs.declared.store.Store as store
use Rattle.vd_device.specs.declared.settled.Settled.{Settled}
use Rattle.vd_device.specs.declared.settled.Settled.TheVariants as settled
use Rattle.vd_device.specs.Stores.{KeepsStore}
use Rattle.vd_keeper.specs.declared.stage.Route.{Route}
use Rattle.vd_keeper.specs.declared.stage.Route.TheVariants.{Recycle}
use Rattle.vd_keeper.specs.declared.stage.Stage.TheVariants.{Puts, Syncs, Seals}
use Rattle.vd_keeper.specs.Moves.{after_adopt}
use Rattle.vd_passes.specs.declared.pass.Pass.{Pass}
use Rattle.vd_passes.specs.declared.pass.Phase.TheVariants.{Idle, Asked, Flushing}
use Rattle.vd_passes.specs.Causes.{OfStore, HasNextTicket}
use Rattle.vd_passes.specs.Steps.{IsAt}
use Rattle.vd_machine.specs.Flushing.{BeginsFlush, PutsNext, SyncsPuts, SettlesMeta, SealsFlush, IsWornOut}
use Rattle.vd_machine.specs.Views.{View, one_step_more, view_requests, meta_state_of, StandsStill}

-- the pass has asked a flush
pub record HasAskedFlush (p : Pass) : Type 0 where
  pub phase : p.phase ≡ Asked
  pub flush : p.flush ≡ true

-- its flush is under way, and no call of it is in flight
pub record IsBetween (p : Pass) : Type 0 where
  pub phase : p.phase ≡ Flushing
  pub none : p.ticket ≡ None

-- its flush is under way, and a call of it is in flight
pub record IsAway (p : Pass) : Type 0 where
  pub phase : p.phase ≡ Flushing
  pub some : IsSome p.ticket

-- which pass flushes after a settle: none, where it has failed and the flush is given up
abbrev pub flusher_after : Settled → (flusher : Option ℕ) → Option ℕ
flusher_after settled.Done flusher = flusher
flusher_after (settled.NotYet same) flusher = flusher
flusher_after (settled.Failed number) flusher = None

-- a flush may be begun by this route: no recycle changes how many sectors the base backs
abbrev pub KeepsTracked : {S B : Type 0} → Route → View S B → Type 0
KeepsTracked route c = (t : ℕ) → route ≡ Recycle t → t ≡ c.keeping.header.tracked

module _ {S B : Type 0} where
  -- another pass's flush is under way
  pub record FlushKeptOutStep (by i : ℕ) (c c' : View S B) : Type 0 where
    pub asked : IsAt c.passes i HasAskedFlush
    pub flusher : c.flusher ≡ Some by
    pub other : by ≢ i
    pub others : StandsStill c c'

  -- a recycle is needed at the last generation: the pass is ready to answer so, and no call was made
  pub record WearStep (route : Route) (i : ℕ) (c c' : View S B) : Type 0 where
    pub asked : IsAt c.passes i HasAskedFlush
    pub free : c.flusher ≡ None
    pub wears : IsWornOut route i c.keeping (view_requests c) (view_requests c')
    pub others : c' ≡ record c { passes = c'.passes; steps = one_step_more c.steps }

  -- the flush is over: every image has its blocks from now on
  pub record SealStep (i : ℕ) (c c' : View S B) : Type 0 where
    pub between : IsAt c.passes i IsBetween
    pub stage : c.keeping.stage ≡ Seals
    pub seals : SealsFlush i (meta_state_of c) (meta_state_of c')
    pub others : c' ≡ record c { keeping = c'.keeping; flusher = None; passes = c'.passes; steps = one_step_more c.steps }

  -- every local block that not every image has is put into those that the next flush logs
  pub record AdoptStep (c c' : View S B) : Type 0 where
    pub idle : (i : ℕ) (p : Pass) → slice_get c.passes i ≡ Some p → p.phase ≡ Idle
    pub others : c' ≡ record c { keeping = after_adopt c.fresh c.keeping; steps = one_step_more c.steps }

module _ {S B : Type 0} (g : store.Ghosts S) where
  -- the flush has begun: what is owed is its snapshot, and the store's flush of what the guests wrote is in flight
  pub record BeginFlushStep (route : Route) (i : ℕ) (c c' : View S B) : Type 0 where
    pub asked : IsAt c.passes i HasAskedFlush
    pub tracked : KeepsTracked route c
    pub free : c.flusher ≡ None
    pub begins : BeginsFlush g route i (meta_state_of c) (meta_state_of c') c.store c'.store
    pub number : IsAt c'.passes i (HasNextTicket OfStore (g.last c.store) (g.last c'.store))
    pub keeps : KeepsStore g c.store c'.store
    pub others : c' ≡ record c { store = c'.store; keeping = c'.keeping; flusher = Some i; passes = c'.passes; steps = one_step_more c.steps }

  -- the next that it puts is in flight: a record, a sector of the map or the header
  pub record PutStep (i : ℕ) (c c' : View S B) : Type 0 where
    pub between : IsAt c.passes i IsBetween
    pub stage : c.keeping.stage ≡ Puts
    pub puts : PutsNext g c.table i (meta_state_of c) (meta_state_of c') c.store c'.store
    pub number : IsAt c'.passes i (HasNextTicket OfStore (g.last c.store) (g.last c'.store))
    pub keeps : KeepsStore g c.store c'.store
    pub others : c' ≡ record c { store = c'.store; keeping = c'.keeping; passes = c'.passes; steps = one_step_more c.steps }

  -- the store's flush of what was put is in flight
  pub record SyncStep (i : ℕ) (c c' : View S B) : Type 0 where
    pub between : IsAt c.passes i IsBetween
    pub stage : c.keeping.stage ≡ Syncs
    pub syncs : SyncsPuts g i (view_requests c) (view_requests c') c.store c'.store
    pub number : IsAt c'.passes i (HasNextTicket OfStore (g.last c.store) (g.last c'.store))
    pub keeps : KeepsStore g c.store c'.store
    pub others : c' ≡ record c { store = c'.store; passes = c'.passes; steps = one_step_more c.steps }

  -- the call of it that was in flight is settled; where it has failed the flush is given up
  pub record SettleMetaStep (answer : Settled) (i : ℕ) (c c' : View S B) : Type 0 where
    pub away : IsAt c.passes i IsAway
    pub settles : SettlesMeta g answer i (meta_state_of c) (meta_state_of c') c.store c'.store
    pub keeps : KeepsStore g c.store c'.store
    pub others : c' ≡ record c { store = c'.store; keeping = c'.keeping; flusher = flusher_after answer c.flusher; passes = c'.passes; steps = one_step_more c.steps }
