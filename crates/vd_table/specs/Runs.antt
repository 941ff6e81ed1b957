-- Storage for each chunk of a run.
use Rattle.std.specs.Prelude.{◌≡◌, ◌⊎◌, ℕ, zero, suc, ◌+◌, None, Some, is_none, slice_get, take, drop}
use Rattle.std.specs.List.{count_by}
use Rattle.vd_table.specs.Tables.{TableState, Has, IsLeastFree, with_storage}

-- how many of the `count` chunks from `from` on have no storage
abbrev pub lacking : TableState → (from count : ℕ) → ℕ
lacking table from count = count_by is_none (take count (drop from table.chunks))

-- the chunk has storage already, or got the least free storage chunk
abbrev pub TakesOne : TableState → (chunk : ℕ) → TableState → Type 0
TakesOne table chunk table' = (((p : ℕ) × Has table chunk p) × (table' ≡ table)) ⊎ ((slice_get table.chunks chunk ≡ Some None) × ((p : ℕ) × IsLeastFree table p × (table' ≡ with_storage table chunk p)))

-- so did each of these chunks, in rising order
abbrev pub TakesRun : TableState → (from count : ℕ) → TableState → Type 0
TakesRun table from zero table' = table' ≡ table
TakesRun table from (suc count) table' = (between : TableState) × TakesRun table from count between × TakesOne between (from + count) table'
