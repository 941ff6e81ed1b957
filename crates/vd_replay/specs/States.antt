-- What a state says of the image that it was read from.
use Rattle.std.specs.Prelude.{ℕ, ◌≡◌, ◌≢◌, ◌+◌, ◌-◌, ◌*◌, ◌/◌, ◌<◌, ◌≤◌, ◌↔◌, Bool, true, false, List, length, replicate, Some, Ok, slice_get}
use Rattle.vd_law.specs.declared.entry.Sector.{Sector}
use Rattle.vd_format.specs.declared.header.Header.{Header}
use Rattle.vd_format.specs.Headers.{IsValid, header_of}
use Rattle.vd_format.specs.Layouts.{blocks_of, chunks_of, store_need, sectors_for_bytes}
use Rattle.vd_format.specs.Entries.{empty_entry}
use Rattle.vd_table.specs.Tables.{Has}
use Rattle.vd_image.specs.Image.{Image, Record, Maps, IsCurrent}
use Rattle.vd_image.specs.Layouts.{layout_of}
use Rattle.vd_image.specs.Decoders.{Entry, IsEntry, entry_at, this_version, shape_of, mask_has, mapping_in, entry_place, format_of}
use Rattle.vd_image.specs.Openings.{Opens}
use Rattle.vd_replay.specs.Images.{image_of}
use Rattle.vd_replay.specs.Pages.{AreEntries}
use Rattle.vd_replay.specs.Placing.{IsPlaced, IsSpread}
use Rattle.vd_replay.specs.Fresh.{is_fresh}
use Rattle.vd_replay.specs.declared.state.State.{State}

-- The header is valid, and everything has the size that it says. This holds of a void state too.
pub record IsSized (s : State) : Type 0 where
  pub valid : IsValid s.header
  pub map : length s.map ≡ chunks_of s.header
  pub pages : length s.pages ≡ chunks_of s.header
  pub table : length s.table.chunks ≡ chunks_of s.header
  pub storage : s.table.storage ≡ s.header.storage
  pub chunk : s.fresh.chunk ≡ s.header.chunk
  pub fresh : length s.fresh.bits ≡ blocks_of s.header
  -- one truth value for each sector of the map
  pub more : length s.more ≡ sectors_for_bytes (16 * chunks_of s.header)
  pub slots : s.cursor.slots ≡ s.header.slots

-- What holds of a state that isn't void, whatever the store tells: its entries are in the grammar, and its table and its local blocks are theirs.
pub record IsWholeState (s : State) : Type 0 where
  pub sized : IsSized s
  pub entries : AreEntries (shape_of s.header) (chunks_of s.header) s.map
  pub placed : IsPlaced s.map (length s.map) s.table
  pub spread : IsSpread s.map (length s.map) s.fresh
  pub next : s.cursor.next ≤ s.cursor.slots

-- A state that isn't void, of an image that lies in a store of so many sectors.
pub record IsReadable (sectors : ℕ) (s : State) : Type 0 where
  pub sized : IsSized s
  pub full : s.void ≡ false
  pub room : store_need s.header ≤ sectors

-- What is opened, whatever the store tells.
pub record IsOpenedState (sectors : ℕ) (s : State) : Type 0 where
  pub readable : IsReadable sectors s
  pub whole : IsWholeState s

-- the chunk has this entry in the state, and its mapping in the image is that of this entry
pub record IsEntryOf (h : Header) (image : Image) (map : List Entry) (chunk : ℕ) : Type 0 where
  pub entry : Entry
  pub stands : slice_get map chunk ≡ Some entry
  pub grammar : IsEntry (shape_of h) chunk entry
  pub maps : Maps (format_of h) (layout_of h) image h.generation chunk (mapping_in h chunk entry)

-- the chunk's entry in the state has this storage chunk
abbrev pub Stores : List Entry → (chunk p : ℕ) → Type 0
Stores map chunk p = (e : Entry) × (slice_get map chunk ≡ Some e) × (e.storage ≡ p + 1)

-- the block is in the mask of its chunk's entry
abbrev pub IsInMask : Header → List Entry → (block : ℕ) → Type 0
IsInMask h map block = (e : Entry) × (slice_get map (block / h.chunk) ≡ Some e) × (mask_has (block / h.chunk * h.chunk) e.mask block ≡ true)

-- some chunk of this sector of the map has another entry than this sector gives it
pub record SaysMore (h : Header) (image : Image) (map : List Entry) (page : ℕ) : Type 0 where
  pub chunk : ℕ
  pub on_page : chunk / 32 ≡ page
  pub entry : Entry
  pub stands : slice_get map chunk ≡ Some entry
  pub other : entry ≢ entry_at (image ((layout_of h).map_at chunk)) (entry_place chunk)

-- the slot counts: a record of this image's version and generation stands in it
abbrev pub HasCounting : Header → Image → (slot : ℕ) → Type 0
HasCounting h image slot = (slot < h.slots) × ((r : Record) × ((format_of h).record_of (image ((layout_of h).slot_at slot)) ≡ Some r) × IsCurrent r h.generation)

-- The state is what an image of version 2 says, which opens by this header in a store of so many sectors.
pub record IsState (sectors : ℕ) (image : Image) (h : Header) (s : State) : Type 0 where
  pub opens : Opens sectors image h
  pub header_is : s.header ≡ h
  pub entries : (c : ℕ) → c < chunks_of h → IsEntryOf h image s.map c
  pub table : (c p : ℕ) → Has s.table c p ↔ Stores s.map c p
  pub fresh : (b : ℕ) (bit : Bool) → slice_get s.fresh.bits b ≡ Some bit → (bit ≡ true) ↔ IsInMask h s.map b
  pub more : (page : ℕ) (mark : Bool) → slice_get s.more page ≡ Some mark → (mark ≡ true) ↔ SaysMore h image s.map page
  -- the cursor stands one past the highest slot that counts, and at 0 where none does
  pub next : 0 < s.cursor.next → HasCounting h image (s.cursor.next - 1)
  pub none_later : (slot : ℕ) → s.cursor.next ≤ slot → HasCounting h image slot → ⊥

-- The state is what an image of version 1 says that is as it was made: nothing is local.
pub record IsOldState (held : List Sector) (h : Header) (s : State) : Type 0 where
  pub reads : header_of (image_of held 0) ≡ Ok h
  pub room : store_need h ≤ length held
  pub is_fresh : is_fresh h held ≡ true
  pub header_is : s.header ≡ h
  pub map : s.map ≡ replicate (chunks_of h) empty_entry
  pub table : (c p : ℕ) → Has s.table c p → ⊥
  pub fresh : (b : ℕ) (bit : Bool) → slice_get s.fresh.bits b ≡ Some bit → bit ≡ false
  pub more : (page : ℕ) (mark : Bool) → slice_get s.more page ≡ Some mark → mark ≡ false
  pub next : s.cursor.next ≡ 0

-- the state is what these sectors say, by the version of their header
pub record StateSays (held : List Sector) (s : State) : Type 0 where
  pub current : s.header.version ≡ this_version → IsState (length held) (image_of held) s.header s
  pub old : s.header.version ≡ 1 → IsOldState held s.header s
