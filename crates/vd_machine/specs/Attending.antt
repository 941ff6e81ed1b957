-- What a keeper has to do with the table, the local blocks and the pass whose flush is under way.
use Rattle.std.specs.Prelude.{ℕ, ◌≡◌, ◌≢◌, ◌⊎◌, ◌↔◌, Bool, true, false, List, length, Option, Some, None, slice_get}
use Rattle.vd_device.specs.declared.ticket.Ticket.{Ticket}
use Rattle.vd_device.specs.declared.ticket.Kind.TheVariants.{Write, Flush as FlushKind}
use Rattle.vd_format.specs.Layouts.{blocks_of, chunks_of, storage_start}
use Rattle.vd_table.specs.Tables.{TableState}
use Rattle.vd_keeper.specs.declared.stage.Stage.{Stage}
use Rattle.vd_keeper.specs.declared.stage.Stage.TheVariants.{Rest, DataFlush, Puts, Syncs, Seals, Broken}
use Rattle.vd_keeper.specs.declared.stage.Way.TheVariants.{Nothing, Recycle}
use Rattle.vd_keeper.specs.Keeping.{KeeperState, no_marks, pages_of}
use Rattle.vd_keeper.specs.Flushes.{IsKeeping, is_recycle}
use Rattle.vd_keeper.specs.Moves.{HasPutDue, none_of}
use Rattle.vd_passes.specs.declared.shape.Shape.{Shape}
use Rattle.vd_passes.specs.declared.pass.Pass.{Pass}
use Rattle.vd_passes.specs.declared.pass.Phase.TheVariants.{Flushing}

-- the pass has a call of this kind in flight
abbrev pub IsOut : Pass → (Ticket → Type 0) → Type 0
IsOut p Is = (t : Ticket) × (p.ticket ≡ Some t) × Is t

-- Something was put, and no flush of it has succeeded: where a recycle has still to put its header, a sector of the map.
pub record HasUnflushedPuts (k : KeeperState) : Type 0 where
  pub some : k.way ≢ Nothing
  pub pages : is_recycle k.way ≡ true → k.head ≡ false → none_of k.put ≡ false

-- What the pass of the flush under way has in flight, by the flush's stage. Where nothing is in flight in the stage Puts, there is
-- something to put, and in the stage Syncs no sector of the map is left to put.
abbrev pub IsAtStage : Stage → KeeperState → Pass → Type 0
IsAtStage Rest k p = ⊥
IsAtStage DataFlush k p = IsOut p (λ t. t.kind ≡ FlushKind) × (k.way ≢ Nothing → HasPutDue k)
IsAtStage Puts k p = ((p.ticket ≡ None) × HasPutDue k) ⊎ (IsOut p (λ t. t.kind ≡ Write) × HasUnflushedPuts k)
IsAtStage Syncs k p = HasUnflushedPuts k × (is_recycle k.way ≡ true → k.head ≡ false → none_of k.marked ≡ true) × ((p.ticket ≡ None) ⊎ IsOut p (λ t. t.kind ≡ FlushKind))
IsAtStage Seals k p = p.ticket ≡ None
IsAtStage Broken k p = ⊥

-- The keeper is one of this disk; what it logs is local; and a flush is under way exactly where a pass flushes, which is the one that
-- is remembered.
pub record KeeperAgrees (shape : Shape) (table : TableState) (fresh : List Bool) (passes : List Pass) (flusher : Option ℕ) (k : KeeperState) : Type 0 where
  pub keeping : IsKeeping k
  pub block : shape.block ≡ k.header.block
  pub chunk : shape.chunk ≡ k.header.chunk
  pub blocks : shape.blocks ≡ blocks_of k.header
  pub storage_at : shape.storage_at ≡ storage_start k.header
  pub tracked : shape.tracked ≡ k.header.tracked
  pub chunks : length table.chunks ≡ chunks_of k.header
  pub storage : table.storage ≡ k.header.storage
  pub stale_fresh : (b : ℕ) → slice_get k.stale b ≡ Some true → slice_get fresh b ≡ Some true
  pub owed_fresh : (b : ℕ) → slice_get k.owed b ≡ Some true → slice_get fresh b ≡ Some true
  -- no recycle changes how many sectors the base backs
  pub same_tracked : (t : ℕ) → k.way ≡ Recycle t → t ≡ k.header.tracked
  -- sectors of the map are put only while puts are made durable
  pub put_in_stage : (k.stage ≡ Puts) ⊎ (k.stage ≡ Syncs) ⊎ (k.put ≡ no_marks (pages_of k.header))
  pub flushing : (i : ℕ) (p : Pass) → slice_get passes i ≡ Some p → (p.phase ≡ Flushing) ↔ (flusher ≡ Some i)
  pub resting : flusher ≡ None → (k.stage ≡ Rest) ⊎ (k.stage ≡ Broken)
  pub working : (i : ℕ) → flusher ≡ Some i → (p : Pass) × (slice_get passes i ≡ Some p) × IsAtStage k.stage k p
