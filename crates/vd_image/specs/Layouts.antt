-- Where the parts of a store stand, by the numbers of a header.
use Rattle.std.specs.Prelude.{ℕ, ◌+◌, ◌/◌, ◌<◌, false}
pub use Rattle.vd_format.specs.Layouts.{blocks_of, chunks_of, map_start, slots_start, storage_start}
use Rattle.vd_format.specs.Layouts.{place_of_sector}
pub use Rattle.vd_format.specs.Headers.{IsValid}
use Rattle.vd_image.specs.Image.{Header, Layout, geometry_of}

-- the mappings that one sector of the map has
abbrev pub page_mappings : ℕ
page_mappings = 32

abbrev pub layout_of : Header → Layout
layout_of h = record {
  geometry = geometry_of h;
  size = h.size;
  chunks = chunks_of h;
  blocks = blocks_of h;
  slots = h.slots;
  storage = h.storage;
  discards = false;
  header_at = 0;
  map_at = λ c. map_start h + c / page_mappings;
  slot_at = λ k. slots_start h + k;
  block_of = λ s. s / h.block;
  chunk_of = λ b. b / h.chunk;
  place = λ p s. place_of_sector (storage_start h) h.chunk h.block p s;
}

-- each part lies in a store of so many sectors
pub record FitsInStore (l : Layout) (sectors : ℕ) : Type 0 where
  pub header : l.header_at < sectors
  pub map : (c : ℕ) → c < l.chunks → l.map_at c < sectors
  pub slots : (k : ℕ) → k < l.slots → l.slot_at k < sectors
  pub places : (p s : ℕ) → p < l.storage → l.place p s < sectors
