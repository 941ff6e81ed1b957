-- What a keeper of an image's metadata knows.
use Rattle.std.specs.Prelude.{ℕ, ◌≡◌, ◌+◌, ◌/◌, Bool, true, false, List, replicate, Some, slice_get}
use Rattle.vd_format.specs.declared.header.Header.{Header}
use Rattle.vd_format.specs.Layouts.{chunks_of}
use Rattle.vd_keeper.specs.declared.stage.Stage.{Stage}
use Rattle.vd_keeper.specs.declared.stage.Way.{Way}

pub record KeeperState : Type 0 where
  -- the header that a reopening finds, and whether no other may be found
  pub header : Header
  pub sure : Bool
  -- the first slot that no record of this generation was put into
  pub next : ℕ
  pub stage : Stage
  pub way : Way
  -- of each block: it is local in every image that a crash may leave; it is to be logged by the next flush that begins, or by the one
  -- under way; the flush under way logs it
  pub stale : List Bool
  pub owed : List Bool
  pub snapshot : List Bool
  -- of each sector of the map: the next recycle must write it; the flush under way has put it, and no flush of it has succeeded
  pub marked : List Bool
  pub put : List Bool
  -- how many of the snapshot's chunks stand in records that were put, and whether the next header was put
  pub logged : ℕ
  pub head : Bool

-- the number of the map's sectors
abbrev pub pages_of : Header → ℕ
pages_of h = (chunks_of h + 31) / 32

abbrev pub no_marks : (count : ℕ) → List Bool
no_marks count = replicate count false

-- no block has both
abbrev pub AreDisjoint : List Bool → List Bool → Type 0
AreDisjoint a b = (i : ℕ) → slice_get a i ≡ Some true → slice_get b i ≡ Some true → ⊥
