-- When an image is as it was made: no chunk has an entry, and no record counts.
use Rattle.std.specs.Prelude.{ℕ, ◌-◌, ◌*◌, ◌==◌, ◌&&◌, Bool, true, false, not, if◌then◌else◌, List, [], ◌∷◌, take, Option, Some, None}
use Rattle.std.specs.List.{list_all}
use Rattle.vd_law.specs.declared.entry.Sector.{Sector}
use Rattle.vd_format.specs.declared.header.Header.{Header}
use Rattle.vd_format.specs.Numbers.{are_zeros}
use Rattle.vd_format.specs.Layouts.{chunks_of, table_start, bits_start, map_start, slots_start, sectors_for_bytes}
use Rattle.vd_format.specs.Records.{JournalRecord, record_of}
use Rattle.vd_device.specs.Quiet.{sectors_from}

-- the first so many bytes of these sectors are zeros
unfoldable pub are_empty : (bytes : ℕ) → List Sector → Bool
are_empty bytes [] = true
are_empty bytes (x ∷ xs) = are_zeros (take bytes x.bytes) && are_empty (bytes - 512) xs

-- the area of so many bytes that begins at sector `from` of the store has zeros alone
abbrev pub is_empty_area : (held : List Sector) (from bytes : ℕ) → Bool
is_empty_area held from bytes = are_empty bytes (sectors_from held from (sectors_for_bytes bytes))

-- a slot counts where it has a record of the image's version and generation
abbrev pub is_current : (version generation : ℕ) → Option JournalRecord → Bool
is_current version generation None = false
is_current version generation (Some r) = (r.version == version) && (r.generation == generation)

unfoldable pub counts : (version generation : ℕ) → Sector → Bool
counts version generation x = is_current version generation (record_of x)

-- none of these slots counts
abbrev pub none_counts : (version generation : ℕ) → List Sector → Bool
none_counts version generation slots = list_all (λ x. not (counts version generation x)) slots

-- version 1 has a table of 4 bytes and a bitmap of 8 bytes for each chunk, version 2 a map of 16
abbrev pub is_map_empty : Header → List Sector → Bool
is_map_empty h held =
    if h.version == 1 then is_empty_area held table_start (4 * chunks_of h) && is_empty_area held (bits_start h) (8 * chunks_of h)
    else is_empty_area held (map_start h) (16 * chunks_of h)

unfoldable pub is_fresh : Header → List Sector → Bool
is_fresh h held = is_map_empty h held && none_counts h.version h.generation (sectors_from held (slots_start h) h.slots)
