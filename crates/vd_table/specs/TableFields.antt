-- What holds of the fields of a table.
use Rattle.std.specs.Prelude.{◌≡◌, ◌↔◌, ℕ, ◌+◌, ◌^◌, ◌<◌, Bool, true, List, Option, None, Some, is_some, length, slice_get}
use Rattle.std.specs.List.{count_by}
use Rattle.vd_bits.specs.Marks.{count_true}

-- A storage chunk's owner is the chunk that has it, the set `free` has those without an owner, with the used ones they are
-- all, and their numbers have 32 bits, as those of the chunks have.
pub record IsLinked (storage owners : List (Option ℕ)) (free : List Bool) : Type 0 where
  pub owner : (chunk p : ℕ) → slice_get storage chunk ≡ Some (Some p) → slice_get owners p ≡ Some (Some chunk)
  pub owned : (chunk p : ℕ) → slice_get owners p ≡ Some (Some chunk) → slice_get storage chunk ≡ Some (Some p)
  pub each : length free ≡ length owners
  pub unowned : (p : ℕ) → (slice_get free p ≡ Some true) ↔ (slice_get owners p ≡ Some None)
  pub all : count_true free + count_by is_some storage ≡ length owners
  pub few : length owners < 2 ^ 32
  pub short : length storage < 2 ^ 32
