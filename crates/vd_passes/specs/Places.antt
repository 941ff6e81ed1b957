-- Where the blocks of a disk lie in its store.
use Rattle.std.specs.Prelude.{ℕ, ◌≡◌, ◌≢◌, ◌+◌, ◌*◌, ◌/◌, ◌^◌, ◌<◌, ◌≤◌, ◌⊎◌, min, List, Option, Some, None, slice_get}
use Rattle.vd_format.specs.Layouts.{place_of_block}
use Rattle.vd_passes.specs.declared.shape.Shape.{Shape}

-- guest sector s lies in block b
abbrev pub IsIn : (block b s : ℕ) → Type 0
IsIn block b s = (block * b ≤ s) × (s < block * b + block)

-- the block's first sector in the store, where its chunk has this storage chunk
abbrev pub place_in : Shape → ℕ → Option (Option ℕ) → Option ℕ
place_in shape b (Some (Some p)) = Some (place_of_block shape.storage_at shape.chunk shape.block p b)
place_in shape b _ = None

-- the first sector of block b in the store, by the storage chunk of each chunk
unfoldable pub place_of : Shape → (chunks : List (Option ℕ)) → ℕ → Option ℕ
place_of shape chunks b = place_in shape b (slice_get chunks (b / shape.chunk))

-- No two blocks have a sector of the store in common, and each lies in the store from sector `low` on.
pub record ArePlaces (block low sectors : ℕ) (places : ℕ → Option ℕ) : Type 0 where
  pub apart : (b c x y : ℕ) → places b ≡ Some x → places c ≡ Some y → b ≢ c → (x + block ≤ y) ⊎ (y + block ≤ x)
  pub inside : (b x : ℕ) → places b ≡ Some x → (low ≤ x) × (x + block ≤ sectors)

-- the blocks that have a place keep it
abbrev pub KeepsPlaces : (places places' : ℕ → Option ℕ) → Type 0
KeepsPlaces places places' = (b x : ℕ) → places b ≡ Some x → places' b ≡ Some x

-- A shape whose numbers are within their limits, over devices of so many sectors.
pub record IsShape (shape : Shape) (sectors base_sectors : ℕ) : Type 0 where
  pub some : 0 < shape.block
  pub small : shape.block ≤ 128
  pub some_blocks : 0 < shape.chunk
  pub few_blocks : shape.chunk ≤ 64
  pub size : shape.block * shape.blocks ≤ 2 ^ 26
  pub tracked : shape.tracked ≤ shape.block * shape.blocks
  pub limit : shape.limit ≡ min base_sectors shape.tracked
  pub header : 0 < shape.storage_at
  pub bounded : sectors < 2 ^ 64
