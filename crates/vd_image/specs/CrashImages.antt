-- Images as lists of sectors, as a store tells them.
use Rattle.std.specs.Prelude.{ℕ, ◌≡◌, List, length, slice_index_or}
use Rattle.std.specs.List.{Contains}
use Rattle.vd_law.specs.Contents.{may}
use Rattle.vd_image.specs.Log.{Sector, Entry, At}

-- the sectors of a list, and this one past its end
abbrev pub sectors_or : Sector → List Sector → ℕ → Sector
sectors_or other sectors s = slice_index_or sectors s other

-- A crash may leave this image: it has as many sectors as the store, and in each sector by itself a content that the law
-- allows after this log.
pub record IsCrashImage (start : List Sector) (log : List Entry) (image : List Sector) : Type 0 where
  pub size : length image ≡ length start
  pub sectors : (s : ℕ) (v : Sector) → At image s v → Contains (may start log s) v
