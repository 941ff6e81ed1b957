-- The entries that a flush writes.
use Rattle.std.specs.Prelude.{ℕ, ◌≡◌, ◌+◌, ◌-◌, ◌*◌, ◌<◌, ◌==◌, ◌||◌, Bool, true, false, if◌then◌else◌, List, [], ◌∷◌, map, filter, min, length, take, drop, Option, Some, slice_get}
use Rattle.std.specs.List.{list_any, range_with_len}
use Rattle.vd_format.specs.declared.header.Header.{Header}
use Rattle.vd_format.specs.declared.map.Entry.{Entry}
use Rattle.vd_format.specs.declared.journal.Fact2.{Fact2}
use Rattle.vd_format.specs.Layouts.{chunks_of}
use Rattle.vd_bits.specs.Masks.{mask_of}
use Rattle.vd_bits.specs.Blocks.{bits_in}
use Rattle.vd_table.specs.Tables.{TableState, Has}
use Rattle.vd_keeper.specs.Keeping.{KeeperState}

-- either has it
abbrev pub union_of : List Bool → List Bool → List Bool
union_of [] ys = ys
union_of (x ∷ xs) [] = x ∷ xs
union_of (x ∷ xs) (y ∷ ys) = (x || y) ∷ union_of xs ys

-- the chunk has a block among these
abbrev pub has_block : Header → List Bool → (chunk : ℕ) → Bool
has_block h blocks chunk = list_any (λ b. b) (bits_in (record { chunk = h.chunk; bits = blocks }) chunk)

-- the chunks that have a block among these, in rising order
unfoldable pub chunks_with : Header → List Bool → List ℕ
chunks_with h blocks = filter (has_block h blocks) (range_with_len 0 (chunks_of h))

-- 0 is no storage, and p + 1 is storage chunk p
abbrev pub storage_number : Option (Option ℕ) → ℕ
storage_number (Some (Some p)) = p + 1
storage_number _ = 0

-- the entry of a chunk with these blocks: with its storage where it has a block
unfoldable pub map_entry : Header → TableState → (blocks : List Bool) → (chunk : ℕ) → Entry
map_entry h table blocks chunk = let mask = mask_of (bits_in (record { chunk = h.chunk; bits = blocks }) chunk) in
    record { storage = if mask == 0 then 0 else storage_number (slice_get table.chunks chunk); zeros = false; mask = mask }

abbrev pub fact_of : Header → TableState → (blocks : List Bool) → (chunk : ℕ) → Fact2
fact_of h table blocks chunk = record { chunk = chunk; entry = map_entry h table blocks chunk }

-- the entries of a sector of the map
abbrev pub entries_on_page : Header → TableState → (blocks : List Bool) → (page : ℕ) → List Entry
entries_on_page h table blocks page = map (map_entry h table blocks) (range_with_len (32 * page) (min 32 (chunks_of h - 32 * page)))

-- the blocks that the flush under way leaves in every image
abbrev pub wanted_blocks : KeeperState → List Bool
wanted_blocks k = union_of k.stale k.snapshot

-- the chunks of the next record: up to 24 of the snapshot's that no record has yet
abbrev pub next_chunks : KeeperState → List ℕ
next_chunks k = take 24 (drop k.logged (chunks_with k.header k.snapshot))

-- and its facts
abbrev pub next_facts : TableState → KeeperState → List Fact2
next_facts table k = map (fact_of k.header table (wanted_blocks k)) (next_chunks k)

-- the entries of a sector of its map
abbrev pub page_entries : TableState → KeeperState → (page : ℕ) → List Entry
page_entries table k page = entries_on_page k.header table (wanted_blocks k) page

-- The table has a place for each chunk, and storage for each that has a block which the flush writes.
pub record HasStorage (table : TableState) (k : KeeperState) : Type 0 where
  pub size : length table.chunks ≡ chunks_of k.header
  pub storage : table.storage ≡ k.header.storage
  pub each : (chunk : ℕ) → has_block k.header (wanted_blocks k) chunk ≡ true → (p : ℕ) × (p < k.header.storage) × Has table chunk p
