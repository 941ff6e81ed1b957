-- The map, sector by sector: `at` gives its sector of each number.
use Rattle.std.specs.Prelude.{ℕ, ◌≡◌, ◌+◌, ◌*◌, ◌/◌, ◌%◌, ◌<◌, true, List, length, min, Some, Result, Ok, Err, ⊤, slice_get, slice_index_or}
use Rattle.vd_law.specs.declared.entry.Sector.{Sector}
use Rattle.vd_format.specs.declared.map.Entry.{Entry}
use Rattle.vd_format.specs.declared.map.Shape2.{Shape2}
use Rattle.vd_format.specs.Entries.{IsEntry, entry_at, has_entry}
use Rattle.vd_image.specs.CrashImages.{sectors_or}
use Rattle.vd_replay.specs.declared.pages.BadEntry.{BadEntry}
use Rattle.vd_format.specs.Background.{zero_sector}

-- the sectors of a store from one on, by their number in that area
abbrev pub area_at : (held : List Sector) (from : ℕ) → ℕ → Sector
area_at held from n = sectors_or zero_sector held (from + n)

-- these are the sectors from number n on
abbrev pub AreAt : (ℕ → Sector) → (n : ℕ) → List Sector → Type 0
AreAt at n sectors = (i : ℕ) → i < length sectors → at (n + i) ≡ slice_index_or sectors i zero_sector

-- how many chunks have their entry in the first so many sectors of the map
abbrev pub chunks_in : Shape2 → (pages : ℕ) → ℕ
chunks_in shape pages = min (32 * pages) shape.chunks

-- the entry of a chunk, whatever it is
abbrev pub chunk_entry : (ℕ → Sector) → (chunk : ℕ) → Entry
chunk_entry at chunk = entry_at (at (chunk / 32)) (chunk % 32)

-- it is in the grammar
abbrev pub IsEntryInGrammar : Shape2 → (ℕ → Sector) → (chunk : ℕ) → Type 0
IsEntryInGrammar shape at chunk = has_entry shape chunk (at (chunk / 32)) (chunk % 32) ≡ true

-- the entries of the first n chunks are in the grammar, and are these
pub record AreRead (shape : Shape2) (at : ℕ → Sector) (n : ℕ) (entries : List Entry) : Type 0 where
  pub good : (c : ℕ) → c < n → IsEntryInGrammar shape at c
  pub entry : (c : ℕ) → c < n → slice_get entries c ≡ Some (chunk_entry at c)

-- of the first n chunks, this is the first whose entry is outside the grammar, and the value is its storage field
pub record IsFirstBadEntry (shape : Shape2) (at : ℕ → Sector) (n chunk value : ℕ) : Type 0 where
  pub within : chunk < n
  pub bad : IsEntryInGrammar shape at chunk → ⊥
  pub before : (c : ℕ) → c < chunk → IsEntryInGrammar shape at c
  pub value_is : value ≡ (chunk_entry at chunk).storage

-- the first n chunks were judged: all entries were taken, or the first bad one was found
abbrev pub Judged : Shape2 → (ℕ → Sector) → (n : ℕ) → List Entry → Result ⊤ BadEntry → Type 0
Judged shape at n entries (Ok all) = AreRead shape at n entries
Judged shape at n entries (Err bad) = IsFirstBadEntry shape at n bad.chunk bad.value

-- each of these entries of the first n chunks is in the grammar
pub record AreEntries (shape : Shape2) (n : ℕ) (entries : List Entry) : Type 0 where
  pub each : (c : ℕ) (e : Entry) → c < n → slice_get entries c ≡ Some e → IsEntry shape c e

-- an entry of the grammar for each chunk
pub record IsMap (shape : Shape2) (entries : List Entry) : Type 0 where
  pub size : length entries ≡ shape.chunks
  pub grammar : AreEntries shape shape.chunks entries
