-- A slot of the journal is one sector. A record of version 2 has
--     0 to 7      the magic     the text FVDRECO2
--     8 to 15     generation
--     16 to 19    the number of facts, 1 to 24
--     20 to 23    zeros
--     24 on       the facts, 20 bytes each: the chunk in four bytes, and then an entry as in the map
--     the rest    zeros
-- A slot counts exactly where it has this magic and the header's generation. Any other content of a slot is passed over.
use Rattle.std.specs.Prelude.{ℕ, zero, suc, ◌≡◌, ◌≤◌, ◌<◌, ◌+◌, ◌-◌, ◌*◌, ◌^◌, ◌==◌, ◌&&◌, Bool, true, false, List, [], ◌∷◌, ◌++◌, length, Option, Some, None, take, drop, map, replicate, slice_range, codes, nat_lt, nat_le, if◌then◌else◌}
use Rattle.std.specs.List.{All, flat_map}
use Rattle.std.specs.List.Sorted.{IsStrictlyIncreasing}
use Rattle.vd_law.specs.declared.entry.Sector.{Sector}
use Rattle.vd_format.specs.declared.journal.Fact2.{Fact2}
use Rattle.vd_format.specs.declared.map.Shape2.{Shape2}
use Rattle.vd_format.specs.Numbers.{u32_bytes, u64_bytes, u32_at, u64_at, are_zeros, has_magic}
use Rattle.vd_format.specs.Entries.{IsEntry, entry_bytes, entry_from, has_kind, is_entry}

abbrev pub record_magic : List ℕ
record_magic = codes "FVDRECO2"

-- the magic of a record of version 1
abbrev pub old_record_magic : List ℕ
old_record_magic = codes "FVDRECO1"

abbrev pub most_facts : ℕ
most_facts = 24

-- the numbers of a shape are numbers of the code
pub record ShapeFits (shape : Shape2) : Type 0 where
  pub chunks : shape.chunks < 2 ^ 32
  pub storage : shape.storage < 2 ^ 32
  pub generation : shape.generation < 2 ^ 64

-- the grammar of the facts of a record
pub record AreFacts (shape : Shape2) (facts : List Fact2) : Type 0 where
  pub some_fact : 1 ≤ length facts
  pub most : length facts ≤ most_facts
  pub rising : IsStrictlyIncreasing (map (λ fact. fact.chunk) facts)
  pub chunks : All (λ (fact : Fact2). fact.chunk < shape.chunks) facts
  pub entries : All (λ (fact : Fact2). IsEntry shape fact.chunk fact.entry) facts

unfoldable pub fact_bytes : Fact2 → List ℕ
fact_bytes fact = u32_bytes fact.chunk ++ entry_bytes fact.entry

-- the one spelling of a record
unfoldable pub record_bytes : ℕ → List Fact2 → List ℕ
record_bytes generation facts =
    record_magic ++ u64_bytes generation ++ u32_bytes (length facts) ++ replicate 4 0 ++ flat_map fact_bytes facts ++ replicate (488 - 20 * length facts) 0

-- ---- reading

-- what a sector with the magic of a record says. The bytes are well formed where the number of facts, the zeros and the kinds are as they must be.
pub record JournalRecord : Type 0 where
  pub version : ℕ
  pub generation : ℕ
  pub well_formed : Bool
  pub facts : List Fact2

unfoldable pub fact_from : List ℕ → ℕ → Fact2
fact_from bytes at = record { chunk = u32_at bytes at; entry = entry_from bytes (at + 4) }

-- so many facts from this byte on
unfoldable pub facts_from : List ℕ → ℕ → ℕ → List Fact2
facts_from bytes at zero = []
facts_from bytes at (suc n) = fact_from bytes at ∷ facts_from bytes (at + 20) n

-- the kind of each of them is 0 or 1
unfoldable pub have_kinds : List ℕ → ℕ → ℕ → Bool
have_kinds bytes at zero = true
have_kinds bytes at (suc n) = has_kind bytes (at + 4) && have_kinds bytes (at + 20) n

abbrev pub count_in : List ℕ → ℕ
count_in bytes = u32_at bytes 16

unfoldable pub is_well_formed : List ℕ → Bool
is_well_formed bytes =
    nat_le 1 (count_in bytes) && nat_le (count_in bytes) most_facts && are_zeros (slice_range bytes 20 24) && are_zeros (drop (24 + 20 * count_in bytes) bytes)
    && have_kinds bytes 24 (count_in bytes)

-- a record of version 1 is told by its magic and its generation alone
unfoldable pub record_of : Sector → Option JournalRecord
record_of sector =
    let bytes = sector.bytes in
    if has_magic record_magic bytes
    then Some (record { version = 2; generation = u64_at bytes 8; well_formed = is_well_formed bytes; facts = facts_from bytes 24 (count_in bytes) })
    else (if has_magic old_record_magic bytes then Some (record { version = 1; generation = u64_at bytes 8; well_formed = false; facts = [] }) else None)

-- the chunks rise, each below the number of chunks, and each entry is in the grammar; the chunks before are below `from`
unfoldable pub are_facts : Shape2 → ℕ → List Fact2 → Bool
are_facts shape from [] = true
are_facts shape from (fact ∷ facts) =
    nat_le from fact.chunk && nat_lt fact.chunk shape.chunks && is_entry shape fact.chunk fact.entry && are_facts shape (fact.chunk + 1) facts

-- what a slot says to an image of this shape: nothing, these facts, or a record that counts and is outside the grammar
pub data Said : Type 0 where
  Nothing : Said
  Facts : (facts : List Fact2) → Said
  Outside : Said

abbrev pub said_by : Shape2 → Option JournalRecord → Said
said_by shape None = Nothing
said_by shape (Some r) =
    if (r.version == 2) && (r.generation == shape.generation)
    then (if r.well_formed && are_facts shape 0 r.facts then Facts r.facts else Outside)
    else Nothing

unfoldable pub slot_of : Shape2 → Sector → Said
slot_of shape sector = said_by shape (record_of sector)

-- ---- what a slot has

-- the slot counts: it has the magic and this generation
pub record HasRecord (sector : Sector) (generation : ℕ) : Type 0 where
  pub magic : take 8 sector.bytes ≡ record_magic
  pub generation_is : u64_at sector.bytes 8 ≡ generation

-- the sector is the one spelling of facts in the grammar
pub record SpellsRecord (sector : Sector) (shape : Shape2) (facts : List Fact2) : Type 0 where
  pub grammar : AreFacts shape facts
  pub bytes : sector.bytes ≡ record_bytes shape.generation facts

-- the slot counts, and is the spelling of no facts in the grammar
pub record IsOutsideGrammar (sector : Sector) (shape : Shape2) : Type 0 where
  pub counts : HasRecord sector shape.generation
  pub unspelled : (facts : List Fact2) → SpellsRecord sector shape facts → ⊥
