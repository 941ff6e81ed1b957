-- The steps of a write: a pass enters a block, fills its buffer with it where it must, and issues its piece.
use Rattle.std.specs.Prelude.{ℕ, ◌≡◌, ◌≢◌, ◌⊎◌, [], ◌∷◌, List, Bool, true, false, Some, map, slice_get}
use Rattle.vd_law.specs.declared.entry.Sector.{Sector}
use Rattle.vd_device.specs.declared.store.Store as store
use Rattle.vd_device.specs.declared.base.Base as base
use Rattle.vd_device.specs.declared.settled.Settled.{Settled}
use Rattle.vd_device.specs.Disks.{IsRunning}
use Rattle.vd_device.specs.Stores.{KeepsStore}
use Rattle.vd_device.specs.Bases.{KeepsBase}
use Rattle.vd_passes.specs.declared.shape.Shape.{Shape}
use Rattle.vd_passes.specs.declared.pass.Pass.{Pass}
use Rattle.vd_passes.specs.declared.pass.Phase.TheVariants.{Asked, Held, Fetching, Issuing}
use Rattle.vd_passes.specs.Causes.{OfStore, OfBase, HasNextTicket}
use Rattle.vd_passes.specs.Passes.{region_of}
use Rattle.vd_passes.specs.Steps.{IsAt, HasAskedWrite, FetchSettled, Issues, WriteSettled}
use Rattle.vd_machine.specs.Adding.{AddsEntries}
use Rattle.vd_machine.specs.Entering.{IsKeptOut, EntersBlock}
use Rattle.vd_machine.specs.Fetching.{FetchesBlock}
use Rattle.vd_machine.specs.Issuing.{IsWritable, keeper_after_write}
use Rattle.vd_machine.specs.Outcomes.{numbers_of}
use Rattle.vd_machine.specs.Views.{View, one_step_more, view_requests, StandsStill}

-- the pass has asked a read or a write, of which a piece is left
pub record HasPieces (p : Pass) : Type 0 where
  pub asked : p.phase ≡ Asked
  pub no_flush : p.flush ≡ false

-- the pass writes a part of the block that it holds, which isn't fresh
pub record IsPartWriter (shape : Shape) (fresh : List Bool) (p : Pass) : Type 0 where
  pub held : p.phase ≡ Held
  pub write : p.write ≡ true
  pub away : slice_get fresh p.block ≡ Some false
  pub part : p.piece ≢ shape.block

module _ {S B : Type 0} where
  -- a pass has the region of its next piece's block, to itself for a write, else shared
  pub record EnterStep (i : ℕ) (c c' : View S B) : Type 0 where
    pub asked : IsAt c.passes i HasPieces
    pub enters : EntersBlock c.table.chunks (map region_of c.passes) (map region_of c'.passes) i (view_requests c) (view_requests c')
    pub others : c' ≡ record c { passes = c'.passes; steps = one_step_more c.steps }

  -- another pass keeps it out, the lowest that does
  pub record KeptOutStep (by i : ℕ) (c c' : View S B) : Type 0 where
    pub asked : IsAt c.passes i HasPieces
    pub kept_out : IsKeptOut (map region_of c.passes) (map region_of c'.passes) i by (view_requests c) (view_requests c')
    pub others : StandsStill c c'

module _ {S B : Type 0} (h : base.Ghosts B) where
  -- the base read of its block is in flight, or the base has nothing of it
  pub record FetchStep (i : ℕ) (c c' : View S B) : Type 0 where
    pub writer : IsAt c.passes i (IsPartWriter c.shape c.fresh)
    pub fetches : FetchesBlock h i (view_requests c) (view_requests c') c.base c'.base
    pub number : IsAt c'.passes i (HasNextTicket OfBase (h.last c.base) (h.last c'.base))
    pub keeps : KeepsBase h c.base c'.base
    pub others : c' ≡ record c { base = c'.base; passes = c'.passes; steps = one_step_more c.steps }

  -- that read is settled
  pub record SettleFetchStep (answer : Settled) (i : ℕ) (c c' : View S B) : Type 0 where
    pub fetching : IsAt c.passes i (λ p. p.phase ≡ Fetching)
    pub settles : FetchSettled h answer i (view_requests c) (view_requests c') c.base c'.base
    pub keeps : KeepsBase h c.base c'.base
    pub others : c' ≡ record c { base = c'.base; passes = c'.passes; steps = one_step_more c.steps }

module _ {S B : Type 0} (g : store.Ghosts S) where
  -- its piece of this content is issued, and the store's write is in flight
  pub record IssueStep (content : List Sector) (i : ℕ) (c c' : View S B) : Type 0 where
    pub writer : IsAt c.passes i (IsWritable c.shape c.fresh)
    pub content_asked : HasAskedWrite c.history.log.entries i content
    pub issues : Issues g content i (view_requests c) (view_requests c') c.store c'.store
    pub extends : IsAt c.passes i (λ p. AddsEntries (g.events c.store ∷ []) p.piece c.history c'.history)
    pub number : IsAt c'.passes i (HasNextTicket OfStore (g.last c.store) (g.last c'.store))
    pub running : g.tells c.store → IsRunning (g.events c.store) (g.disk c.store)
    pub keeps : KeepsStore g c.store c'.store
    pub others : c' ≡ record c { store = c'.store; passes = c'.passes; history = c'.history; steps = one_step_more c.steps }

  -- that write is settled
  pub record SettleIssueStep (answer : Settled) (i : ℕ) (c c' : View S B) : Type 0 where
    pub issuing : IsAt c.passes i (λ p. p.phase ≡ Issuing)
    pub settles : WriteSettled g answer i (view_requests c) (view_requests c') c.store c'.store
    pub extends : AddsEntries (numbers_of answer (g.events c'.store)) 0 c.history c'.history
    pub running : g.tells c'.store → (c'.history ≡ c.history) ⊎ IsRunning (g.events c'.store) (g.disk c'.store)
    pub owes : IsAt c.passes i (λ p. c'.keeping ≡ keeper_after_write answer p.block c.keeping)
    pub keeps : KeepsStore g c.store c'.store
    pub others : c' ≡ record c { store = c'.store; fresh = c'.fresh; keeping = c'.keeping; passes = c'.passes; history = c'.history; steps = one_step_more c.steps }
