-- What else is known of a core before each step of a pass.
use Rattle.std.proofs.Common.{◌≡◌, ◌≢◌, ℕ, ◌*◌, ◌<◌, ◌≤◌, List, length, sym, ◌∙◌, ap, Some, slice_get}
use Rattle.vd_law.specs.declared.entry.Sector.{Sector}
use Rattle.vd_law.specs.Rules.{IsRegular}
use Rattle.vd_device.specs.declared.store.Store as store
use Rattle.vd_device.specs.declared.base.Base as base
use Rattle.vd_device.specs.declared.ticket.Ticket.{Ticket}
use Rattle.vd_format.specs.declared.header.Header.{Header}
use Rattle.vd_format.specs.Layouts.{blocks_of, storage_start}
use Rattle.vd_image.specs.Image.{Geometry}
use Rattle.vd_crash.specs.facts.Safe.{Opening}
use Rattle.vd_machine.specs.Attending.{KeeperAgrees}
use Rattle.vd_passes.specs.declared.shape.Shape.{Shape}
use Rattle.vd_passes.specs.declared.pass.Pass.{Pass}
use Rattle.vd_passes.specs.declared.pass.Phase.TheVariants.{Filled, Flushing}
use Rattle.vd_passes.specs.Laying.{IsRest}
use Rattle.vd_passes.specs.Requests.{requests}
use Rattle.vd_passes.specs.Standings.{standing}
use Rattle.vd_passes.specs.Places.{place_of}
use Rattle.vd_passes.specs.Passes.{IsAsHistorySays}
use Rattle.vd_passes.specs.Coherent.{ArePassesApart, IsCoherent, IsFaithful}
use Rattle.vd_safety.specs.Mirrors.{CoreState, IsOfHeader}
use Rattle.vd_format.specs.Background.{zero_sector, background_of, base_at}

-- The core's shape is that of the header, its passes stand where the history says, each ticket in flight on the store was given
-- before, and what a pass has filled is the base's content.
pub record Surroundings (h : Header) (o : Opening) (shape : Shape) (c : CoreState) (base : List Sector) (last : ℕ) : Type 0 where
  pub header : IsOfHeader h o c.keeping
  pub base_is : (s : ℕ) → o.base s ≡ base_at zero_sector base s
  pub attended : KeeperAgrees shape c.table c.fresh c.passes c.flusher c.keeping
  pub some_block : 0 < shape.block
  pub some_chunk : 0 < shape.chunk
  pub size : length c.fresh ≡ shape.blocks
  pub regular : IsRegular (shape.block * shape.blocks) c.history.log.entries
  pub each : (i : ℕ) (p : Pass) → slice_get c.passes i ≡ Some p → IsAsHistorySays shape c.fresh (place_of shape c.table.chunks) (standing c.history.log.entries i) p
  pub apart : (i j : ℕ) (p q : Pass) → slice_get c.passes i ≡ Some p → slice_get c.passes j ≡ Some q → i ≢ j → ArePassesApart p q
  pub numbers : (i : ℕ) (p : Pass) (t : Ticket) → slice_get c.passes i ≡ Some p → p.ticket ≡ Some t → t.number ≤ last
  pub buffers : (i : ℕ) (p : Pass) → slice_get c.passes i ≡ Some p → p.phase ≡ Filled → IsRest (background_of base shape.tracked) (shape.block * p.block) p.buffer

-- They are of what a core keeps where its devices tell.
pub surroundings-of : {h : Header} {o : Opening} {shape : Shape} {c : CoreState} {S B : Type 0} {g : store.Ghosts S} {d : base.Ghosts B} {s : S} {b : B} {start content : List Sector}
    → IsOfHeader h o c.keeping → ((a : ℕ) → o.base a ≡ base_at zero_sector content a) → KeeperAgrees shape c.table c.fresh c.passes c.flusher c.keeping
    → IsCoherent g d (requests shape c.fresh c.passes c.history.log.entries) (place_of shape c.table.chunks) s b
    → IsFaithful g start (background_of content shape.tracked) (requests shape c.fresh c.passes c.history.log.entries) (place_of shape c.table.chunks) s
    → Surroundings h o shape c content (g.last s)
surroundings-of header base_is attended coherent faithful = record {
  header = header;
  base_is = base_is;
  attended = attended;
  some_block = coherent.shaped.some;
  some_chunk = coherent.shaped.some_blocks;
  size = coherent.size;
  regular = coherent.regular;
  each = coherent.each;
  apart = coherent.apart;
  numbers = faithful.numbers;
  buffers = faithful.buffers;
}

-- a header with these numbers
abbrev bare : Geometry → Header
bare g = record { version = g.version; block = g.block; chunk = g.chunk; storage = g.storage; slots = g.slots; size = g.size; tracked = 0; generation = 0 }

module _ {h : Header} {o : Opening} {shape : Shape} {c : CoreState} {base : List Sector} {last : ℕ}
    (around : Surroundings h o shape c base last) where
  -- the shape's numbers are the header's
  pub block-same : shape.block ≡ h.block
  block-same = around.attended.block ∙ ap (λ (g : Geometry). g.block) around.header.same

  pub chunk-same : shape.chunk ≡ h.chunk
  chunk-same = around.attended.chunk ∙ ap (λ (g : Geometry). g.chunk) around.header.same

  pub blocks-same : shape.blocks ≡ blocks_of h
  blocks-same = around.attended.blocks ∙ ap (λ (g : Geometry). blocks_of (bare g)) around.header.same

  pub storage-same : shape.storage_at ≡ storage_start h
  storage-same = around.attended.storage_at ∙ ap (λ (g : Geometry). storage_start (bare g)) around.header.same

  pub owed-size : length c.keeping.owed ≡ shape.blocks
  owed-size = around.attended.keeping.owed_size ∙ sym around.attended.blocks

  -- the pass that flushes is in no phase of another request
  pub not-flusher : (i : ℕ) (p : Pass) → slice_get c.passes i ≡ Some p → (p.phase ≡ Flushing → ⊥) → c.flusher ≡ Some i → ⊥
  not-flusher i p there other is = other ((around.attended.flushing i p there).1 is)
