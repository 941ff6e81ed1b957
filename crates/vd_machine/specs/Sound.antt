-- What a core keeps whatever its devices tell.
use Rattle.std.specs.Prelude.{ℕ, ◌≡◌, ◌+◌, ◌*◌, ◌/◌, ◌^◌, ◌<◌, ◌≤◌, length, Some, slice_get}
use Rattle.std.specs.List.{sum_by}
use Rattle.vd_law.specs.Histories.{last_number}
use Rattle.vd_device.specs.declared.store.Store as store
use Rattle.vd_device.specs.declared.base.Base as base
use Rattle.vd_device.specs.Stores.{KeepsStore}
use Rattle.vd_device.specs.Bases.{KeepsBase}
use Rattle.vd_table.specs.Tables.{IsOneToOne}
use Rattle.vd_image.specs.Image.{geometry_of}
use Rattle.vd_passes.specs.declared.pass.Pass.{Pass}
use Rattle.vd_passes.specs.Needs.{HasRoom}
use Rattle.vd_passes.specs.Coherent.{IsCoherent}
use Rattle.vd_machine.specs.Attending.{KeeperAgrees}
use Rattle.vd_machine.specs.Opened.{HaveMarks}
use Rattle.vd_machine.specs.Views.{View, view_requests, view_places}

-- The metadata: the keeper and the pass that flushes are attended to, the image is of the geometry that it had when the core was made,
-- and the blocks that were local then are so in every image.
pub record MetadataAgrees {S B : Type 0} (c : View S B) : Type 0 where
  pub attended : KeeperAgrees c.shape c.table c.fresh c.passes c.flusher c.keeping
  pub same : geometry_of c.keeping.header ≡ geometry_of c.fixed.header
  pub stale : HaveMarks c.shape c.fixed.entries c.keeping.stale

module _ {S B : Type 0} (g : store.Ghosts S) where
  -- The room in the history: each pass has reserved what its request may still need, the spare room is what is left beside that,
  -- and the numbers of the entries are not above the store's number of events.
  pub record RoomIsReserved (c : View S B) : Type 0 where
    pub later : last_number c.history.opened c.history.numbers ≤ g.events c.store
    pub spare_events : c.spare.events + sum_by (λ (p : Pass). p.events) c.passes ≡ c.history.log.left.events
    pub spare_sectors : c.spare.sectors + sum_by (λ (p : Pass). p.sectors) c.passes ≡ c.history.log.left.sectors
    pub reserved : (i : ℕ) (p : Pass) → slice_get c.passes i ≡ Some p → HasRoom c.shape.block p
    pub calls : (i : ℕ) (p : Pass) → slice_get c.passes i ≡ Some p → p.call + c.history.log.left.events ≤ c.history.log.room.events
    pub bounded : c.history.log.room.events < 2 ^ 64

  -- The table has a place for each chunk of the disk, and the storage lies in the store.
  pub record IsStorage (c : View S B) : Type 0 where
    pub chunks : (b : ℕ) → b < c.shape.blocks → b / c.shape.chunk < length c.table.chunks
    pub few : length c.table.chunks < 2 ^ 32
    pub one_to_one : IsOneToOne c.table
    pub inside : c.shape.storage_at + c.table.storage * (c.shape.chunk * c.shape.block) ≤ g.sectors c.store

module _ {S B : Type 0} (g : store.Ghosts S) (h : base.Ghosts B) where
  -- The devices are those with which the core was made, gone on, and so is the history.
  pub record IsSince (c : View S B) : Type 0 where
    pub store : KeepsStore g c.fixed.store c.store
    pub base : KeepsBase h c.fixed.base c.base
    pub opened : c.history.opened ≡ g.events c.fixed.store
    pub room : c.history.log.room ≡ c.fixed.room

  pub record IsSound (c : View S B) : Type 0 where
    pub since : IsSince c
    pub coherent : IsCoherent g h (view_requests c) (view_places c) c.store c.base
    pub roomy : RoomIsReserved g c
    pub storage : IsStorage g c
    pub metadata : MetadataAgrees c
