-- How the bytes of an image of version 2 are read, as one value: the laws of images speak of these bytes by it.
use Rattle.std.specs.Prelude.{ℕ, ◌-◌, ◌*◌, ◌%◌, ◌==◌, ◌&&◌, Bool, Option, Some, None, map, if◌then◌else◌, nat_le}
use Rattle.std.specs.Int.{bit_at}
use Rattle.std.specs.Option.{option_map}
pub use Rattle.vd_format.specs.declared.map.Entry.{Entry}
pub use Rattle.vd_format.specs.declared.journal.Fact2.{Fact2}
pub use Rattle.vd_format.specs.declared.map.Shape2.{Shape2}
unfoldable pub use Rattle.vd_format.specs.Headers.{header_of}
pub use Rattle.vd_format.specs.Entries.{IsEntry, entry_at}
unfoldable pub use Rattle.vd_format.specs.Entries.{has_kind}
pub use Rattle.vd_format.specs.Records.{JournalRecord as Said}
unfoldable pub use Rattle.vd_format.specs.Records.{record_of}
use Rattle.vd_image.specs.Image.{Header, Mapping, Fact, Record, Format}
use Rattle.vd_image.specs.Layouts.{blocks_of, chunks_of, page_mappings}

abbrev pub this_version : ℕ
this_version = 2

-- the numbers by which an image's entries and records are judged
abbrev pub shape_of : Header → Shape2
shape_of h = record { chunks = chunks_of h; storage = h.storage; blocks = blocks_of h; chunk = h.chunk; generation = h.generation }

-- 0 is no storage, and p + 1 is storage chunk p
abbrev pub storage_in : ℕ → Option ℕ
storage_in n = if n == 0 then None else Some (n - 1)

-- the mask of a chunk that begins at block `first` has this block
abbrev pub mask_has : ℕ → ℕ → ℕ → Bool
mask_has first mask b = nat_le first b && (bit_at mask (b - first) == 1)

-- what an entry says of the chunk
abbrev pub mapping_in : Header → ℕ → Entry → Mapping
mapping_in h chunk e = record { storage = storage_in e.storage; zeros = e.zeros; has = mask_has (chunk * h.chunk) e.mask }

abbrev pub fact_in : Header → Fact2 → Fact
fact_in h fact = record { chunk = fact.chunk; mapping = mapping_in h fact.chunk fact.entry }

abbrev pub record_in : Header → Said → Record
record_in h r = record { same_version = r.version == this_version; generation = r.generation; well_formed = r.well_formed; facts = map (fact_in h) r.facts }

-- the place of a chunk's entry in its page
abbrev pub entry_place : ℕ → ℕ
entry_place chunk = chunk % page_mappings

-- the byte from which it stands there
abbrev pub entry_byte : ℕ → ℕ
entry_byte chunk = 16 * entry_place chunk

-- The decoding by the numbers of a header. An entry of another kind than base and zeros is none.
abbrev pub format_of : Header → Format
format_of h = record {
  header_of = header_of;
  mapping_of = λ v chunk. if has_kind v.bytes (entry_byte chunk) then Some (mapping_in h chunk (entry_at v (entry_place chunk))) else None;
  record_of = λ v. option_map (record_in h) (record_of v);
}
