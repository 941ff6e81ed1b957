-- The header is one sector:
--     bytes      field         rule                                                                  number
--     0 to 7     the magic     the text FVDPROF1
--     8 to 11    version       1 or 2
--     12 to 15   block         8, 16, 32, 64 or 128                                                  1
--     16 to 19   chunk         1, 2, 4, 8, 16, 32 or 64                                              2
--     20 to 23   storage       from 1 to the number of chunks                                        4
--     24 to 27   slots         from 1 to 4,096                                                       5
--     28 to 31   zeros                                                                               8
--     32 to 39   size          whole blocks, at least one, and no more than the version allows       3
--     40 to 47   tracked       at most the size                                                      6
--     48 to 55   generation    from 1 to 2^63 - 1                                                    7
--     56 to 511  zeros                                                                               8
-- A sector is refused for its magic first, then for its version, then for the field of the lowest number that breaks its rule.
use Rattle.std.specs.Prelude.{ℕ, ◌≡◌, ◌≢◌, ◌≤◌, ◌<◌, ◌^◌, ◌%◌, ◌⊎◌, ◌==◌, ◌&&◌, ◌||◌, Bool, List, [], ◌∷◌, ◌++◌, Option, Some, None, Result, Ok, Err, take, drop, replicate, slice_range, codes, nat_lt, nat_le, if◌then◌else◌}
use Rattle.std.specs.List.{Contains, list_any}
use Rattle.vd_law.specs.declared.entry.Sector.{Sector}
use Rattle.vd_format.specs.declared.header.Header.{Header}
use Rattle.vd_format.specs.declared.header.HeaderError.{HeaderError}
use Rattle.vd_format.specs.declared.header.HeaderError.TheVariants.{NotImage, Version, Field}
use Rattle.vd_format.specs.Numbers.{u32_bytes, u64_bytes, u32_at, u64_at, are_zeros, has_magic}
use Rattle.vd_format.specs.Layouts.{chunks_of}

abbrev pub header_magic : List ℕ
header_magic = codes "FVDPROF1"

abbrev pub block_sizes : List ℕ
block_sizes = 8 ∷ 16 ∷ 32 ∷ 64 ∷ 128 ∷ []

abbrev pub chunk_sizes : List ℕ
chunk_sizes = 1 ∷ 2 ∷ 4 ∷ 8 ∷ 16 ∷ 32 ∷ 64 ∷ []

abbrev pub most_slots : ℕ
most_slots = 4096

-- the most sectors that the guest's disk may have
abbrev pub most_sectors : ℕ → ℕ
most_sectors version = if version == 1 then 16777216 else 67108864

-- the rules of the fields
pub record IsValid (h : Header) : Type 0 where
  pub version : (h.version ≡ 1) ⊎ (h.version ≡ 2)
  pub block : Contains block_sizes h.block
  pub chunk : Contains chunk_sizes h.chunk
  pub whole_blocks : h.size % h.block ≡ 0
  pub some_block : h.block ≤ h.size
  pub size : h.size ≤ most_sectors h.version
  pub some_storage : 1 ≤ h.storage
  pub storage : h.storage ≤ chunks_of h
  pub some_slot : 1 ≤ h.slots
  pub slots : h.slots ≤ most_slots
  pub tracked : h.tracked ≤ h.size
  pub some_generation : 1 ≤ h.generation
  pub generation : h.generation < 2 ^ 63

-- the one spelling of a header
unfoldable pub spelling : Header → List ℕ
spelling h =
    header_magic ++ u32_bytes h.version ++ u32_bytes h.block ++ u32_bytes h.chunk ++ u32_bytes h.storage ++ u32_bytes h.slots ++ replicate 4 0
    ++ u64_bytes h.size ++ u64_bytes h.tracked ++ u64_bytes h.generation ++ replicate 456 0

-- the sector spells the header
pub record SpellsHeader (sector : Sector) (h : Header) : Type 0 where
  pub valid : IsValid h
  pub bytes : sector.bytes ≡ spelling h

-- ---- reading

-- the fields, whatever they are
unfoldable pub fields_in : List ℕ → Header
fields_in bytes = record {
  version = u32_at bytes 8;
  block = u32_at bytes 12;
  chunk = u32_at bytes 16;
  storage = u32_at bytes 20;
  slots = u32_at bytes 24;
  size = u64_at bytes 32;
  tracked = u64_at bytes 40;
  generation = u64_at bytes 48;
}

-- the bytes that must be zeros are
abbrev pub zeros_in : List ℕ → Bool
zeros_in bytes = are_zeros (slice_range bytes 28 32) && are_zeros (drop 56 bytes)

-- each rule as a test

abbrev pub is_among : List ℕ → ℕ → Bool
is_among sizes n = list_any (λ size. size == n) sizes

unfoldable pub is_version : ℕ → Bool
is_version version = (version == 1) || (version == 2)

unfoldable pub is_block : ℕ → Bool
is_block block = is_among block_sizes block

unfoldable pub is_chunk : ℕ → Bool
is_chunk chunk = is_among chunk_sizes chunk

unfoldable pub is_size : Header → Bool
is_size h = (h.size % h.block == 0) && nat_le h.block h.size && nat_le h.size (most_sectors h.version)

unfoldable pub is_storage : Header → Bool
is_storage h = nat_le 1 h.storage && nat_le h.storage (chunks_of h)

unfoldable pub is_slots : ℕ → Bool
is_slots slots = nat_le 1 slots && nat_le slots most_slots

unfoldable pub is_tracked : Header → Bool
is_tracked h = nat_le h.tracked h.size

unfoldable pub is_generation : ℕ → Bool
is_generation generation = nat_le 1 generation && nat_lt generation (2 ^ 63)

-- the fields by their numbers, each with whether it keeps its rule
unfoldable pub judged_fields : Header → Bool → List (ℕ × Bool)
judged_fields h zeros =
    (1, is_block h.block)
    ∷ (2, is_chunk h.chunk)
    ∷ (3, is_size h)
    ∷ (4, is_storage h)
    ∷ (5, is_slots h.slots)
    ∷ (6, is_tracked h)
    ∷ (7, is_generation h.generation)
    ∷ (8, zeros)
    ∷ []

-- the first that doesn't
abbrev pub first_wrong : List (ℕ × Bool) → Option ℕ
first_wrong [] = None
first_wrong ((n, right) ∷ fields) = if right then first_wrong fields else Some n

-- the header, or the field that breaks its rule
abbrev pub unless_wrong : Header → Option ℕ → Result Header HeaderError
unless_wrong h None = Ok h
unless_wrong h (Some n) = Err (Field n)

-- the header that a sector says, or why it says none
unfoldable pub header_of : Sector → Result Header HeaderError
header_of sector =
    let h = fields_in sector.bytes in
    if has_magic header_magic sector.bytes
    then (if is_version h.version then unless_wrong h (first_wrong (judged_fields h (zeros_in sector.bytes))) else Err (Version h.version))
    else Err NotImage

-- ---- what a sector without a header has

-- the sector begins with the magic
abbrev pub HasHeaderMagic : Sector → Type 0
HasHeaderMagic sector = take 8 sector.bytes ≡ header_magic

-- the sector has the magic, and an unknown version
pub record HasOtherVersion (sector : Sector) (version : ℕ) : Type 0 where
  pub image : HasHeaderMagic sector
  pub says : u32_at sector.bytes 8 ≡ version
  pub unknown : (version ≢ 1) × (version ≢ 2)

-- the sector has the magic and a known version, and the field of this number is the first that breaks its rule
pub record HasWrongField (sector : Sector) (field : ℕ) : Type 0 where
  pub image : HasHeaderMagic sector
  pub version : (u32_at sector.bytes 8 ≡ 1) ⊎ (u32_at sector.bytes 8 ≡ 2)
  pub wrong : first_wrong (judged_fields (fields_in sector.bytes) (zeros_in sector.bytes)) ≡ Some field
