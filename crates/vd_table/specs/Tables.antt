-- Which storage chunk each chunk has.
use Rattle.std.specs.Prelude.{◌≡◌, ◌≢◌, ◌⊎◌, ℕ, ◌<◌, List, Option, Some, is_some, slice_get, slice_set}
use Rattle.std.specs.List.{count_by}

-- the storage chunk of each chunk, and how many storage chunks there are
pub record TableState : Type 0 where
  pub chunks : List (Option ℕ)
  pub storage : ℕ

-- the chunk has storage chunk p
abbrev pub Has : TableState → (chunk p : ℕ) → Type 0
Has table chunk p = slice_get table.chunks chunk ≡ Some (Some p)

-- how many chunks have storage
abbrev pub used_chunks : TableState → ℕ
used_chunks table = count_by is_some table.chunks

-- the chunk got storage chunk p
abbrev pub with_storage : TableState → (chunk p : ℕ) → TableState
with_storage table chunk p = record table { chunks = slice_set table.chunks chunk (Some p) }

-- no two chunks have one storage chunk, and there is each that a chunk has
pub record IsOneToOne (table : TableState) : Type 0 where
  pub apart : (a b p : ℕ) → Has table a p → Has table b p → a ≡ b
  pub inside : (chunk p : ℕ) → Has table chunk p → p < table.storage

-- p is the least storage chunk that no chunk has
pub record IsLeastFree (table : TableState) (p : ℕ) : Type 0 where
  pub inside : p < table.storage
  pub free : (chunk : ℕ) → Has table chunk p → ⊥
  pub below : (q : ℕ) → q < p → (chunk : ℕ) × Has table chunk q

-- chunk `by` keeps p from `chunk`: another that has p, or `chunk` itself with another storage chunk
abbrev pub HindersStorage : TableState → (chunk p by : ℕ) → Type 0
HindersStorage table chunk p by = ((by ≢ chunk) × Has table by p) ⊎ ((by ≡ chunk) × ((q : ℕ) × (q ≢ p) × Has table chunk q))

-- and it is the lowest that does
pub record IsFirstStorageHindrance (table : TableState) (chunk p by : ℕ) : Type 0 where
  pub hinders : HindersStorage table chunk p by
  pub first : (other : ℕ) → other < by → HindersStorage table chunk p other → ⊥
