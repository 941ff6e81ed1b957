-- The steps of a read: a pass that holds its block looks at its piece.
use Rattle.std.specs.Prelude.{ℕ, ◌≡◌, ◌⊎◌, ◌+◌, ◌<◌, [], ◌∷◌, List, true, false, None, Some, IsSome, length, slice_get}
use Rattle.vd_law.specs.declared.entry.Sector.{Sector}
use Rattle.vd_device.specs.declared.store.Store as store
use Rattle.vd_device.specs.declared.base.Base as base
use Rattle.vd_device.specs.declared.settled.Settled.{Settled}
use Rattle.vd_device.specs.Disks.{IsRunning}
use Rattle.vd_device.specs.Stores.{KeepsStore}
use Rattle.vd_device.specs.Bases.{KeepsBase}
use Rattle.vd_passes.specs.declared.pass.Pass.{Pass}
use Rattle.vd_passes.specs.declared.pass.Phase.TheVariants.{Held, Looking}
use Rattle.vd_passes.specs.Causes.{OfStore, OfBase, HasNextTicket}
use Rattle.vd_passes.specs.Laying.{count_below}
use Rattle.vd_passes.specs.Steps.{IsAt, SeesZeros, Looks, LooksAtBase, LookSettled, BaseLookSettled}
use Rattle.vd_machine.specs.Adding.{AddsEntries}
use Rattle.vd_machine.specs.Outcomes.{read_numbers_of, read_sectors_of}
use Rattle.vd_machine.specs.Views.{View, one_step_more, view_requests}

-- the pass serves a read, and holds its block
pub record IsReader (p : Pass) : Type 0 where
  pub phase : p.phase ≡ Held
  pub write : p.write ≡ false

-- its block is fresh, so that the store has its piece
abbrev pub IsStoreReader : {S B : Type 0} → View S B → Pass → Type 0
IsStoreReader c p = IsReader p × (slice_get c.fresh p.block ≡ Some true)

-- its block isn't fresh, and the base has something of its piece
abbrev pub IsBaseReader : {S B : Type 0} → View S B → Pass → Type 0
IsBaseReader c p = IsReader p × (slice_get c.fresh p.block ≡ Some false) × (0 < count_below c.shape.limit (p.first + p.done) p.piece)

-- its block isn't fresh, and the base has nothing of its piece
abbrev pub IsZerosReader : {S B : Type 0} → View S B → Pass → Type 0
IsZerosReader c p = IsReader p × (slice_get c.fresh p.block ≡ Some false) × (count_below c.shape.limit (p.first + p.done) p.piece ≡ 0)

module _ {S B : Type 0} (g : store.Ghosts S) where
  -- the store's read of its piece is in flight
  pub record StoreLookStep (i : ℕ) (c c' : View S B) : Type 0 where
    pub reader : IsAt c.passes i (IsStoreReader c)
    pub looks : Looks g i (view_requests c) (view_requests c') c.store c'.store
    pub number : IsAt c'.passes i (HasNextTicket OfStore (g.last c.store) (g.last c'.store))
    pub keeps : KeepsStore g c.store c'.store
    pub others : c' ≡ record c { store = c'.store; passes = c'.passes; steps = one_step_more c.steps }

  -- it has seen zeros, which stand in `out` at the piece's place
  pub record ZerosStep (i : ℕ) (out out' : List Sector) (c c' : View S B) : Type 0 where
    pub reader : IsAt c.passes i (λ p. IsZerosReader c p × (p.count ≡ length out))
    pub sees : SeesZeros i (view_requests c) (view_requests c') out out'
    pub extends : IsAt c.passes i (λ p. AddsEntries (g.events c.store ∷ []) p.piece c.history c'.history)
    pub running : g.tells c.store → IsRunning (g.events c.store) (g.disk c.store)
    pub others : c' ≡ record c { passes = c'.passes; history = c'.history; steps = one_step_more c.steps }

  -- the store's read is settled: where it is done, what was seen stands in `out` at the piece's place
  pub record SettleStoreLookStep (answer : Settled) (i : ℕ) (out out' : List Sector) (c c' : View S B) : Type 0 where
    pub looking : IsAt c.passes i (λ p. (p.phase ≡ Looking) × IsSome p.ticket × (p.count ≡ length out))
    pub settles : LookSettled g answer i (view_requests c) (view_requests c') c.store c'.store out out'
    pub extends : IsAt c.passes i (λ p. AddsEntries (read_numbers_of answer (g.events c'.store)) (read_sectors_of answer p.piece) c.history c'.history)
    pub running : g.tells c'.store → (c'.history ≡ c.history) ⊎ IsRunning (g.events c'.store) (g.disk c'.store)
    pub keeps : KeepsStore g c.store c'.store
    pub others : c' ≡ record c { store = c'.store; passes = c'.passes; history = c'.history; steps = one_step_more c.steps }

module _ {S B : Type 0} (h : base.Ghosts B) where
  -- the base read of what the base has of its piece is in flight
  pub record BaseLookStep (i : ℕ) (c c' : View S B) : Type 0 where
    pub reader : IsAt c.passes i (IsBaseReader c)
    pub looks : LooksAtBase h i (view_requests c) (view_requests c') c.base c'.base
    pub number : IsAt c'.passes i (HasNextTicket OfBase (h.last c.base) (h.last c'.base))
    pub keeps : KeepsBase h c.base c'.base
    pub others : c' ≡ record c { base = c'.base; passes = c'.passes; steps = one_step_more c.steps }

  -- that read is settled, while the store has had so many events
  pub record SettleBaseLookStep (g : store.Ghosts S) (answer : Settled) (i : ℕ) (out out' : List Sector) (c c' : View S B) : Type 0 where
    pub looking : IsAt c.passes i (λ p. (p.phase ≡ Looking) × (p.ticket ≡ None) × (p.count ≡ length out))
    pub settles : BaseLookSettled h answer i (view_requests c) (view_requests c') c.base c'.base out out'
    pub extends : IsAt c.passes i (λ p. AddsEntries (read_numbers_of answer (g.events c.store)) (read_sectors_of answer p.piece) c.history c'.history)
    pub running : g.tells c.store → (c'.history ≡ c.history) ⊎ IsRunning (g.events c.store) (g.disk c.store)
    pub keeps : KeepsBase h c.base c'.base
    pub others : c' ≡ record c { base = c'.base; passes = c'.passes; history = c'.history; steps = one_step_more c.steps }

module _ {S B : Type 0} (g : store.Ghosts S) (h : base.Ghosts B) where
  -- a pass looks at its piece: in the store, in the base, or it has seen zeros at once
  abbrev pub LookStep : (i : ℕ) (out out' : List Sector) → View S B → View S B → Type 0
  LookStep i out out' c c' = (StoreLookStep g i c c' × (out' ≡ out)) ⊎ (BaseLookStep h i c c' × (out' ≡ out)) ⊎ ZerosStep g i out out' c c'

  -- its look is settled by the device that was read
  abbrev pub SettleLookStep : Settled → (i : ℕ) (out out' : List Sector) → View S B → View S B → Type 0
  SettleLookStep answer i out out' c c' = SettleStoreLookStep g answer i out out' c c' ⊎ SettleBaseLookStep h g answer i out out' c c'
