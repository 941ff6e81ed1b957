-- What an image says: the entry of each chunk, and the disk that it stands for.
use Rattle.std.specs.Prelude.{ℕ, ◌≡◌, ◌<◌, ◌≤◌, ◌⊎◌, Bool, true, false, Option, Some, Result, Ok, List, if◌then◌else◌}
pub use Rattle.vd_format.specs.declared.header.Header.{Header}
pub use Rattle.vd_format.specs.declared.header.HeaderError.{HeaderError}
use Rattle.vd_format.specs.Background.{background}
use Rattle.vd_image.specs.Log.{Sector, At}

-- The fields of a header that never change while a disk is in use. The others are `tracked` and the generation.
pub record Geometry : Type 0 where
  pub version : ℕ
  pub block : ℕ
  pub chunk : ℕ
  pub storage : ℕ
  pub slots : ℕ
  pub size : ℕ

abbrev pub geometry_of : Header → Geometry
geometry_of h = record { version = h.version; block = h.block; chunk = h.chunk; storage = h.storage; slots = h.slots; size = h.size }

-- What the map or a record says of one chunk: its storage, if it has any, its kind, and which blocks are in its mask.
pub record Mapping : Type 0 where
  pub storage : Option ℕ
  pub zeros : Bool
  pub has : ℕ → Bool

pub record Fact : Type 0 where
  pub chunk : ℕ
  pub mapping : Mapping

-- a sector with the magic of a record: whether it is that of this version, and whether its bytes but for the mappings are as they should be
pub record Record : Type 0 where
  pub same_version : Bool
  pub generation : ℕ
  pub well_formed : Bool
  pub facts : List Fact

-- How the bytes of a sector are read: as a header, as the mapping of a chunk in a page of the map, as a record.
pub record Format : Type 0 where
  pub header_of : Sector → Result Header HeaderError
  pub mapping_of : Sector → ℕ → Option Mapping
  pub record_of : Sector → Option Record

-- Where everything stands: the sector of the header, of a chunk's page of the map, of a slot of the journal; the block of
-- a guest's sector and the chunk of a block; and where a guest's sector stands in a storage chunk.
pub record Layout : Type 0 where
  pub geometry : Geometry
  pub size : ℕ
  pub chunks : ℕ
  pub blocks : ℕ
  pub slots : ℕ
  pub storage : ℕ
  -- chunks may be discarded: a mapping of kind zeros is in the grammar
  pub discards : Bool
  pub header_at : ℕ
  pub map_at : ℕ → ℕ
  pub slot_at : ℕ → ℕ
  pub block_of : ℕ → ℕ
  pub chunk_of : ℕ → ℕ
  pub place : ℕ → ℕ → ℕ

abbrev pub Image : Type 0
Image = ℕ → Sector

-- the block is local by this mapping, in this storage
abbrev pub IsLocalBy : Mapping → ℕ → ℕ → Type 0
IsLocalBy m block storage = (m.storage ≡ Some storage) × (m.has block ≡ true)

-- The grammar of a chunk's mapping: the mask has existing blocks of the chunk alone, and is empty exactly where there is no storage.
pub record IsMapping (l : Layout) (chunk : ℕ) (m : Mapping) : Type 0 where
  pub within : (p : ℕ) → m.storage ≡ Some p → p < l.storage
  -- a chunk of zeros is outside the grammar where no chunk is ever discarded
  pub kind : l.discards ≡ false → m.zeros ≡ false
  pub blocks : (b : ℕ) → m.has b ≡ true → (b < l.blocks) × (l.chunk_of b ≡ chunk)
  pub has_storage : (b : ℕ) → m.has b ≡ true → (p : ℕ) × (m.storage ≡ Some p)
  pub has_block : (p : ℕ) → m.storage ≡ Some p → (b : ℕ) × (m.has b ≡ true)

-- the record is of this version and generation, so that its slot counts
abbrev pub IsCurrent : Record → ℕ → Type 0
IsCurrent r generation = (r.same_version ≡ true) × (r.generation ≡ generation)

-- the grammar of a record
pub record IsRecord (l : Layout) (r : Record) : Type 0 where
  pub well_formed : r.well_formed ≡ true
  pub rising : (i j : ℕ) (f g : Fact) → i < j → At r.facts i f → At r.facts j g → f.chunk < g.chunk
  pub facts : (place : ℕ) (fact : Fact) → At r.facts place fact → (fact.chunk < l.chunks) × IsMapping l fact.chunk fact.mapping

-- the slot counts, and its record has this fact at this place
pub record Counts (f : Format) (l : Layout) (image : Image) (generation slot place : ℕ) (fact : Fact) : Type 0 where
  pub item : Record
  pub within : slot < l.slots
  pub reads : f.record_of (image (l.slot_at slot)) ≡ Some item
  pub current : IsCurrent item generation
  pub stands : At item.facts place fact

-- the second place is later, in the order of slots, then of places
abbrev pub IsLater : (slot place : ℕ) → (later_slot later_place : ℕ) → Type 0
IsLater slot place later_slot later_place = (slot < later_slot) ⊎ ((slot ≡ later_slot) × (place < later_place))

-- no fact that counts names the chunk
abbrev pub IsUnnamed : Format → Layout → Image → ℕ → ℕ → Type 0
IsUnnamed f l image generation chunk = (slot place : ℕ) (fact : Fact) → Counts f l image generation slot place fact → fact.chunk ≡ chunk → ⊥

-- the last fact that counts and names the chunk has this mapping
pub record IsLastNamed (f : Format) (l : Layout) (image : Image) (generation chunk : ℕ) (m : Mapping) : Type 0 where
  pub slot : ℕ
  pub place : ℕ
  pub fact : Fact
  pub counts : Counts f l image generation slot place fact
  pub names : fact.chunk ≡ chunk
  pub mapping : fact.mapping ≡ m
  pub last : (k j : ℕ) (other : Fact) → Counts f l image generation k j other → other.chunk ≡ chunk → IsLater slot place k j → ⊥

-- the chunk's mapping in the image: that of the last fact that counts and names it, else that of the map
abbrev pub Maps : Format → Layout → Image → ℕ → ℕ → Mapping → Type 0
Maps f l image generation chunk m =
    IsLastNamed f l image generation chunk m
    ⊎ (IsUnnamed f l image generation chunk × (chunk < l.chunks) × (f.mapping_of (image (l.map_at chunk)) chunk ≡ Some m))

-- the image gives the chunk this storage
abbrev pub GivesStorage : Format → Layout → Image → ℕ → ℕ → ℕ → Type 0
GivesStorage f l image generation chunk storage = (m : Mapping) × Maps f l image generation chunk m × (m.storage ≡ Some storage)

-- the block's sectors stand in this storage
abbrev pub IsLocal : Format → Layout → Image → ℕ → ℕ → ℕ → Type 0
IsLocal f l image generation block storage = (m : Mapping) × Maps f l image generation (l.chunk_of block) m × IsLocalBy m block storage

-- what a sector is whose block isn't local: the background where the chunk's kind is base, else zeros
abbrev pub unmapped_sector : (ℕ → Sector) → Sector → ℕ → Mapping → ℕ → Sector
unmapped_sector base zeros tracked m s = if m.zeros then zeros else background base zeros tracked s

-- the mapping of the map at this chunk is in the grammar
abbrev pub IsGoodMapping : Format → Layout → Image → ℕ → Type 0
IsGoodMapping f l image c = (m : Mapping) × (f.mapping_of (image (l.map_at c)) c ≡ Some m) × IsMapping l c m

-- if the slot counts, its record is in the grammar
abbrev pub IsGoodSlot : Format → Layout → Image → ℕ → ℕ → Type 0
IsGoodSlot f l image generation k = (r : Record) → f.record_of (image (l.slot_at k)) ≡ Some r → IsCurrent r generation → IsRecord l r

-- By a header of this generation each mapping of the map and each record that counts is in the grammar, and no two chunks
-- have one storage when all facts are applied.
pub record IsConsistent (f : Format) (l : Layout) (image : Image) (generation : ℕ) : Type 0 where
  pub mappings : (c : ℕ) → c < l.chunks → IsGoodMapping f l image c
  pub records : (k : ℕ) → k < l.slots → IsGoodSlot f l image generation k
  pub one_to_one : (c d p : ℕ) → GivesStorage f l image generation c p → GivesStorage f l image generation d p → c ≡ d

-- no slot has a record, of either version, of a later generation
abbrev pub HasNoLater : Format → Layout → Image → ℕ → Type 0
HasNoLater f l image generation = (k : ℕ) (r : Record) → k < l.slots → f.record_of (image (l.slot_at k)) ≡ Some r → r.generation ≤ generation

-- The image opens by a header of this layout, and no slot has a record of a later generation.
pub record IsSound (f : Format) (l : Layout) (image : Image) : Type 0 where
  pub header : Header
  pub reads : f.header_of (image l.header_at) ≡ Ok header
  pub geometry : geometry_of header ≡ l.geometry
  pub consistent : IsConsistent f l image header.generation
  pub no_later : HasNoLater f l image header.generation

-- the disk that the image stands for has v in sector s
pub record DiskHas (f : Format) (l : Layout) (base : ℕ → Sector) (zeros : Sector) (image : Image) (s : ℕ) (v : Sector) : Type 0 where
  pub header : Header
  pub reads : f.header_of (image l.header_at) ≡ Ok header
  pub mapping : Mapping
  pub maps : Maps f l image header.generation (l.chunk_of (l.block_of s)) mapping
  pub has : ((p : ℕ) × IsLocalBy mapping (l.block_of s) p × (v ≡ image (l.place p s)))
      ⊎ (((p : ℕ) → IsLocalBy mapping (l.block_of s) p → ⊥) × (v ≡ unmapped_sector base zeros header.tracked mapping s))

-- the parts of the store lie apart
pub record IsApart (l : Layout) : Type 0 where
  pub blocks : (s : ℕ) → s < l.size → l.block_of s < l.blocks
  pub chunks : (b : ℕ) → b < l.blocks → l.chunk_of b < l.chunks
  pub places : (p q s t : ℕ) → p < l.storage → q < l.storage → l.place p s ≡ l.place q t → (p ≡ q) × (l.chunk_of (l.block_of s) ≡ l.chunk_of (l.block_of t) → s ≡ t)
  pub place_header : (p s : ℕ) → p < l.storage → l.place p s ≡ l.header_at → ⊥
  pub place_map : (p s c : ℕ) → p < l.storage → c < l.chunks → l.place p s ≡ l.map_at c → ⊥
  pub place_slot : (p s k : ℕ) → p < l.storage → k < l.slots → l.place p s ≡ l.slot_at k → ⊥
  pub header_map : (c : ℕ) → c < l.chunks → l.header_at ≡ l.map_at c → ⊥
  pub header_slot : (k : ℕ) → k < l.slots → l.header_at ≡ l.slot_at k → ⊥
  pub map_slot : (c k : ℕ) → c < l.chunks → k < l.slots → l.map_at c ≡ l.slot_at k → ⊥
  pub slots : (j k : ℕ) → j < l.slots → k < l.slots → l.slot_at j ≡ l.slot_at k → j ≡ k
