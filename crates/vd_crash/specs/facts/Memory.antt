-- What the core knows in memory of its metadata, its discards and its blocks.
use Rattle.std.specs.Prelude.{ℕ, ◌≡◌, ◌<◌, Bool, Option, Some}

-- What the core knows of the metadata in its store: the kept header's generation, and whether no other header may be left;
-- the storage that a chunk has or keeps; the blocks that every image has as local; the blocks that no image takes from the
-- base; the blocks on which a header depends that was tried and may be left; and the first slot that no record of this
-- generation was put into.
pub record Index : Type 0 where
  pub generation : ℕ
  pub tracked : ℕ
  pub sure : Bool
  pub table : ℕ → Option ℕ
  pub stale : ℕ → Bool
  pub off_base : ℕ → Bool
  pub tried : ℕ → Bool
  pub cursor : ℕ

-- What it knows of discarded chunks: which entry of the history is the issue of which chunk's discard, the chunks of kind
-- zeros, and those whose discard the next flush must log. Each discard among the first `reach` entries shows in every image.
pub record Discards : Type 0 where
  pub drops : ℕ → Option ℕ
  pub zeros : ℕ → Bool
  pub lost : ℕ → Bool
  pub reach : ℕ

-- what it knows of its blocks besides: those that are local, those that the next flush must log, and the store event
-- that writes a block whole which isn't local yet
pub record Memory : Type 0 where
  pub index : Index
  pub fresh : ℕ → Bool
  -- how many store events there were when the block became local, 0 for one that was local at opening
  pub born : ℕ → ℕ
  pub owed : ℕ → Bool
  pub pending : ℕ → Option ℕ
  pub discards : Discards

-- storage is within its bounds, and no two chunks have one
pub record IsTable (storage : ℕ) (table : ℕ → Option ℕ) : Type 0 where
  pub within : (c p : ℕ) → table c ≡ Some p → p < storage
  pub one_to_one : (c d p : ℕ) → table c ≡ Some p → table d ≡ Some p → c ≡ d
