-- What a keeper keeps while a flush is under way.
use Rattle.std.specs.Prelude.{ℕ, ◌≡◌, ◌+◌, ◌-◌, ◌/◌, ◌^◌, ◌<◌, ◌≤◌, ◌⊎◌, Bool, true, false, length, Some, slice_get}
use Rattle.vd_format.specs.Headers.{IsValid}
use Rattle.vd_format.specs.Layouts.{blocks_of}
use Rattle.vd_keeper.specs.declared.stage.Stage.TheVariants.{Rest, Broken}
use Rattle.vd_keeper.specs.declared.stage.Way as way
use Rattle.vd_keeper.specs.declared.stage.Way.TheVariants as ways
use Rattle.vd_keeper.specs.Keeping.{KeeperState, AreDisjoint, no_marks, pages_of}
use Rattle.vd_keeper.specs.Entries.{chunks_with}

-- so many chunks fill so many records
abbrev pub records_for : ℕ → ℕ
records_for chunks = (chunks + 23) / 24

abbrev pub is_recycle : way.Way → Bool
is_recycle (ways.Recycle tracked) = true
is_recycle ways.Records = false
is_recycle ways.Nothing = false

-- the last generation, after which no recycle is made
abbrev pub last_generation : ℕ
last_generation = 2 ^ 63 - 1

-- A flush by records has slots for the chunks that it has still to log; one by a recycle has a generation to come, and tracks no more.
pub record IsPossible (k : KeeperState) : Type 0 where
  pub slots : k.way ≡ ways.Records → k.next + records_for (length (chunks_with k.header k.snapshot) - k.logged) ≤ k.header.slots
  pub generation : is_recycle k.way ≡ true → k.header.generation < last_generation
  pub tracked : (t : ℕ) → k.way ≡ ways.Recycle t → t ≤ k.header.tracked

-- what is kept: the sizes, that no block is both owed and stale, that the snapshot's blocks are owed, and that no flush is under way
-- in the stages Rest and Broken
pub record IsKeeping (k : KeeperState) : Type 0 where
  pub valid : IsValid k.header
  pub version : k.header.version ≡ 2
  pub slots : k.next ≤ k.header.slots
  pub stale_size : length k.stale ≡ blocks_of k.header
  pub owed_size : length k.owed ≡ blocks_of k.header
  pub snapshot_size : length k.snapshot ≡ blocks_of k.header
  pub marked_size : length k.marked ≡ pages_of k.header
  pub put_size : length k.put ≡ pages_of k.header
  pub apart : AreDisjoint k.owed k.stale
  pub part : (b : ℕ) → slice_get k.snapshot b ≡ Some true → slice_get k.owed b ≡ Some true
  pub at_rest : (k.stage ≡ Rest) ⊎ (k.stage ≡ Broken) → (k.snapshot ≡ no_marks (blocks_of k.header)) × (k.put ≡ no_marks (pages_of k.header))
  pub under_way : (k.stage ≡ Rest) ⊎ (k.stage ≡ Broken) ⊎ IsPossible k
