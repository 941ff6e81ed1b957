-- What a sector of the disk is where no block of it is local: the base in the tracked part, zeros from there on.
use Rattle.std.specs.Prelude.{ℕ, ◌-◌, List, map, min, replicate, slice_index_or, nat_lt, if◌then◌else◌}
use Rattle.std.specs.List.{range_with_len}
use Rattle.vd_law.specs.declared.entry.Sector.{Sector}

-- the sector of zeros
unfoldable pub zero_sector : Sector
zero_sector = record { bytes = replicate 512 0 }

-- the base at sector s: zeros past its end
abbrev pub base_at : (zeros : Sector) (content : List Sector) → ℕ → Sector
base_at zeros content s = slice_index_or content s zeros

-- the base below `tracked`, zeros from there on
abbrev pub background : (base : ℕ → Sector) (zeros : Sector) (tracked : ℕ) → ℕ → Sector
background base zeros tracked s = if nat_lt s tracked then base s else zeros

-- that of a base with this content
abbrev pub background_of : (content : List Sector) (tracked : ℕ) → ℕ → Sector
background_of content tracked = background (base_at zero_sector content) zero_sector tracked

-- `count` sectors of it from `first` on
unfoldable pub background_run : (content : List Sector) (tracked first count : ℕ) → List Sector
background_run content tracked first count = map (background_of content tracked) (range_with_len first count)

-- so many of `count` sectors from `first` on lie both in a base of so many sectors and in the tracked part
abbrev pub count_in_base : (sectors tracked first count : ℕ) → ℕ
count_in_base sectors tracked first count = min (min sectors tracked - first) count
