-- What a crash may leave of the metadata: the header, the pages of the map and the records.
use Rattle.std.specs.Prelude.{ℕ, ◌≡◌, ◌+◌, ◌<◌, ◌≤◌, ◌⊎◌, true, false, Option, Some, Ok}
use Rattle.vd_image.specs.Log.{Sector, At}
use Rattle.vd_image.specs.Image.{Header, Mapping, Fact, Record, IsMapping, IsCurrent, IsRecord, geometry_of}
use Rattle.vd_crash.specs.facts.Safe.{Opening}
use Rattle.vd_crash.specs.facts.Memory.{Index}
use Rattle.vd_format.specs.Background.{background}

-- What a mapping says that must be so: that a block stands in its chunk's storage, that a chunk is of kind zeros.
pub data Claim : Type 0 where
  Stored : (b : ℕ) → Claim
  Zero : (c : ℕ) → Claim

-- what a crash may leave in each sector
abbrev pub Left : Type 1
Left = ℕ → Sector → Type 0

-- A mapping that is right: it is in the grammar, gives storage as memory does, and what it says is settled.
pub record IsRight (o : Opening) (settled : Claim → Type 0) (table : ℕ → Option ℕ) (chunk : ℕ) (m : Mapping) : Type 0 where
  pub grammar : IsMapping o.layout chunk m
  -- the storage is that of the table in memory
  pub storage_agrees : (p : ℕ) → m.storage ≡ Some p → table chunk ≡ Some p
  pub blocks_settled : (b : ℕ) → m.has b ≡ true → settled (Stored b)
  pub kind_settled : m.zeros ≡ true → settled (Zero chunk)

-- a page of the map that is right at this chunk
pub record IsRightPage (o : Opening) (settled : Claim → Type 0) (table : ℕ → Option ℕ) (chunk : ℕ) (v : Sector) : Type 0 where
  pub mapping : Mapping
  pub reads : o.format.mapping_of v chunk ≡ Some mapping
  pub right : IsRight o settled table chunk mapping

-- the content is a record that counts and names the chunk
pub record RecordNames (o : Opening) (generation chunk : ℕ) (v : Sector) : Type 0 where
  pub item : Record
  pub fact : Fact
  pub place : ℕ
  pub reads : o.format.record_of v ≡ Some item
  pub current : IsCurrent item generation
  pub stands : At item.facts place fact
  pub is : fact.chunk ≡ chunk

-- a slot from this one on, before the cursor, names the chunk, whatever is left of it
pub record IsNamed (o : Opening) (left : Left) (generation cursor from c : ℕ) : Type 0 where
  pub slot : ℕ
  pub since : from ≤ slot
  pub below : slot < cursor
  pub within : slot < o.layout.slots
  pub names : (v : Sector) → left (o.layout.slot_at slot) v → RecordNames o generation c v

-- A page of the map that may be left: its mapping is right, or some slot names the chunk in each image.
pub record IsPageLeft (o : Opening) (left : Left) (settled : Claim → Type 0) (x : Index) (chunk : ℕ) (v : Sector) : Type 0 where
  pub mapping : Mapping
  pub reads : o.format.mapping_of v chunk ≡ Some mapping
  pub grammar : IsMapping o.layout chunk mapping
  pub right : IsRight o settled x.table chunk mapping ⊎ ((x.sure ≡ true) × IsNamed o left x.generation x.cursor 0 chunk)

-- A record that may be left in slot k and counts: each mapping is right, or some later slot names the chunk in each image.
pub record IsRecordLeft (o : Opening) (left : Left) (settled : Claim → Type 0) (x : Index) (k : ℕ) (item : Record) : Type 0 where
  pub grammar : IsRecord o.layout item
  pub right : (place : ℕ) (fact : Fact) → At item.facts place fact → IsRight o settled x.table fact.chunk fact.mapping ⊎ IsNamed o left x.generation x.cursor (k + 1) fact.chunk

-- What every image is to have of a block: the block itself; or the block or a chunk of kind zeros.
pub data Need : Type 0 where
  Local : (b : ℕ) → Need
  Off_base : (b : ℕ) → Need

abbrev pub block_in : Need → ℕ
block_in (Local b) = b
block_in (Off_base b) = b

-- the mapping of its chunk has it
abbrev pub Says : Need → Mapping → Type 0
Says (Local b) m = m.has b ≡ true
Says (Off_base b) m = (m.has b ≡ true) ⊎ (m.zeros ≡ true)

-- the chunk of the block
abbrev pub chunk_in : Opening → Need → ℕ
chunk_in o t = o.layout.chunk_of (block_in t)

-- the page of the map has it
pub record PageHas (o : Opening) (t : Need) (v : Sector) : Type 0 where
  pub mapping : Mapping
  pub reads : o.format.mapping_of v (chunk_in o t) ≡ Some mapping
  pub has : Says t mapping

-- every content that may be left of the block's page of the map has it
pub record IsInPage (o : Opening) (left : Left) (t : Need) : Type 0 where
  pub within : chunk_in o t < o.layout.chunks
  pub page : (v : Sector) → left (o.layout.map_at (chunk_in o t)) v → PageHas o t v

-- each fact of the record that names the block's chunk has it
abbrev pub FactsHave : Opening → Need → Record → Type 0
FactsHave o t item = (place : ℕ) (fact : Fact) → At item.facts place fact → fact.chunk ≡ chunk_in o t → Says t fact.mapping

-- so does each record that counts and may be left in a slot from this one on
abbrev pub SlotsHave : Opening → Left → ℕ → ℕ → Need → Type 0
SlotsHave o left generation from t = (k : ℕ) (v : Sector) (item : Record) → from ≤ k → k < o.layout.slots → left (o.layout.slot_at k) v → o.format.record_of v ≡ Some item → IsCurrent item generation → FactsHave o t item

-- a slot before the cursor names the block's chunk, whatever is left of it, and each fact on it from there on has it
pub record IsInSlots (o : Opening) (left : Left) (generation cursor : ℕ) (t : Need) : Type 0 where
  pub slot : ℕ
  pub below : slot < cursor
  pub within : slot < o.layout.slots
  pub names : (v : Sector) → left (o.layout.slot_at slot) v → RecordNames o generation (chunk_in o t) v
  pub later : SlotsHave o left generation slot t

-- each image of the kept generation has it: by a slot, or by the block's page of the map and no fact that says otherwise
abbrev pub IsLocalLeft : Opening → Left → ℕ → ℕ → Need → Type 0
IsLocalLeft o left generation cursor t = IsInSlots o left generation cursor t ⊎ (IsInPage o left t × SlotsHave o left generation 0 t)

-- every image must have it
abbrev pub IsDue : Index → Need → Type 0
IsDue x (Local b) = x.stale b ≡ true
IsDue x (Off_base b) = x.off_base b ≡ true

-- a header that may be left: of the kept generation or the next, and the background by it is the start's, but for blocks
-- that a next header has in their pages
pub record IsHeaderLeft (o : Opening) (left : Left) (x : Index) (v : Sector) : Type 0 where
  pub header : Header
  pub reads : o.format.header_of v ≡ Ok header
  pub geometry : geometry_of header ≡ o.layout.geometry
  pub generation : (header.generation ≡ x.generation) ⊎ (header.generation ≡ x.generation + 1)
  pub background : (s : ℕ) → s < o.layout.size → x.off_base (o.layout.block_of s) ≡ false → (background o.base o.zeros header.tracked s ≡ o.disk s) ⊎ ((header.generation ≡ x.generation + 1) × (x.tried (o.layout.block_of s) ≡ true) × IsInPage o left (Off_base (o.layout.block_of s)))

-- no header of another generation than the kept one may be left
abbrev pub IsSureHeader : Opening → Left → ℕ → Type 0
IsSureHeader o left generation = (v : Sector) (h : Header) → left o.layout.header_at v → o.format.header_of v ≡ Ok h → h.generation ≡ generation

-- what may be left of the metadata
pub record IsMetadata (o : Opening) (left : Left) (settled : Claim → Type 0) (x : Index) : Type 0 where
  -- the header is the kept one, or a next one that was tried
  pub header_known : (v : Sector) → left o.layout.header_at v → IsHeaderLeft o left x v
  -- where it is sure it is of the kept generation
  pub header_sure : x.sure ≡ true → IsSureHeader o left x.generation
  -- what the map says of a chunk is right, or superseded
  pub pages : (c : ℕ) (v : Sector) → c < o.layout.chunks → left (o.layout.map_at c) v → IsPageLeft o left settled x c v
  -- no slot has a record of a later generation
  pub no_newer_record : (k : ℕ) (v : Sector) (r : Record) → k < o.layout.slots → left (o.layout.slot_at k) v → o.format.record_of v ≡ Some r → r.generation ≤ x.generation
  -- what counts in a slot is right, or superseded
  pub records : (k : ℕ) (v : Sector) (r : Record) → k < o.layout.slots → left (o.layout.slot_at k) v → o.format.record_of v ≡ Some r → IsCurrent r x.generation → IsRecordLeft o left settled x k r
  -- no slot from the cursor on counts
  pub none_beyond : (k : ℕ) (v : Sector) (r : Record) → x.cursor ≤ k → k < o.layout.slots → left (o.layout.slot_at k) v → o.format.record_of v ≡ Some r → IsCurrent r x.generation → ⊥
  -- a stale block is local in each image, and none takes from the base what it must not
  pub due_everywhere : (t : Need) → IsDue x t → IsLocalLeft o left x.generation x.cursor t × (IsInPage o left t ⊎ (x.sure ≡ true))
