-- What is known while an area, or the slots, are read piece by piece.
use Rattle.std.specs.Prelude.{ℕ, ◌≡◌, ◌+◌, ◌^◌, ◌<◌, ◌≤◌, Bool, List, length}
use Rattle.vd_law.specs.declared.entry.Sector.{Sector}
use Rattle.vd_device.specs.Quiet.{sectors_from}
use Rattle.vd_replay.specs.Fresh.{are_empty, none_counts}

-- so many sectors from `from` on lie in a store of so many
pub record IsArea (sectors from count : ℕ) : Type 0 where
  pub near : from < 2 ^ 32
  pub inside : from + count ≤ sectors

-- so many sectors are held there, and this says whether their first bytes are zeros
pub record IsEmptyPiece (held : List Sector) (first count bytes : ℕ) (empty : Bool) : Type 0 where
  pub size : length (sectors_from held first count) ≡ count
  pub empty_is : empty ≡ are_empty bytes (sectors_from held first count)

-- so many slots are held there, and this says whether none of them counts
pub record IsFreePiece (held : List Sector) (first count version generation : ℕ) (free : Bool) : Type 0 where
  pub size : length (sectors_from held first count) ≡ count
  pub free_is : free ≡ none_counts version generation (sectors_from held first count)
