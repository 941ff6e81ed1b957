-- The passes over a log that find a crash image.
use Rattle.std.specs.Prelude.{ℕ, ◌≡◌, ◌+◌, ◌-◌, min, ◌==◌, nat_le, List, length, take, Option, Some, None, slice_get, if◌then◌else◌}
use Rattle.std.specs.Option.{option_map, option_map_or}
use Rattle.vd_law.specs.declared.entry.Sector.{Sector}
use Rattle.vd_law.specs.Entries.{Entry, Past, past}
use Rattle.vd_law.specs.Contents.{issued_contents, versions, last_done}
use Rattle.vd_device.specs.Calls.{next_number}
use Rattle.vd_faults.specs.declared.versions.Versions as declared
use Rattle.vd_faults.specs.declared.versions.Change as change
use Rattle.vd_faults.specs.declared.versions.Change.TheVariants as changes

-- a sector that has one more write, and one whose last write is firm
abbrev pub one_more : declared.Versions → declared.Versions
one_more v = record v { written = next_number v.written }

abbrev pub made_firm : declared.Versions → declared.Versions
made_firm v = record v { chosen = v.written }

-- a change of the sectors that a content has
abbrev pub changed_if : (declared.Versions → declared.Versions) → (content : Option Sector) → Option declared.Versions → Option declared.Versions
changed_if change None v = v
changed_if change (Some c) v = option_map change v

-- What a pass over the first i entries has counted: the writes of each sector, and the last that is done among the sealed ones.
pub record HasCountedWrites (log : List Entry) (sealed i s : ℕ) (v : declared.Versions) : Type 0 where
  pub writes : v.written ≡ length (issued_contents (past (take i log)) s)
  pub done : v.chosen ≡ last_done (past (take (min i sealed) log)) s

-- the pass goes on from what it has counted
abbrev pub GoesOnCounting : (log : List Entry) (sealed i : ℕ) (old new : List declared.Versions) → Type 0
GoesOnCounting log sealed i old new =
    ((s : ℕ) (v : declared.Versions) → slice_get old s ≡ Some v → HasCountedWrites log sealed i s v)
    → (s : ℕ) (v : declared.Versions) → slice_get new s ≡ Some v → HasCountedWrites log sealed (i + 1) s v

-- how many contents there are to choose from
abbrev pub count_of : declared.Versions → ℕ
count_of v = (v.written - v.chosen) + 1

abbrev pub counts_in : List declared.Versions → ℕ → ℕ
counts_in all s = option_map_or count_of (slice_get all s) 0

-- the write that an answer chooses, from which the writes are counted again
abbrev pub after_choice : declared.Versions → (answer : ℕ) → declared.Versions
after_choice v answer = record { written = 0; chosen = v.chosen + min answer (v.written - v.chosen) }

-- what a sector of the image is after one more write, if there is one
abbrev pub laid : Option declared.Versions → (content : Option Sector) → (before : Option Sector) → Option Sector
laid None content before = before
laid (Some v) None before = before
laid (Some v) (Some c) before = if next_number v.written == v.chosen then Some c else before

-- the number of the version that the image has of a sector so far
abbrev pub shown : declared.Versions → ℕ
shown v = if nat_le v.chosen v.written then v.chosen else 0

-- How far the image has come after p, where each sector is to get the version with its target's number.
pub record HasLaidVersion (start : List Sector) (target : ℕ → ℕ) (p : Past) (s : ℕ) (v : declared.Versions) (image : List Sector) : Type 0 where
  pub writes : v.written ≡ length (issued_contents p s)
  pub chosen : v.chosen ≡ target s
  pub holds : slice_get image s ≡ slice_get (versions start p s) (shown v)

-- the pass goes on from how far it has come
abbrev pub GoesOnLaying : (start : List Sector) (target : ℕ → ℕ) (log : List Entry) (i : ℕ) (old : List declared.Versions) (image : List Sector) (new : List declared.Versions) (image' : List Sector) → Type 0
GoesOnLaying start target log i old image new image' =
    length start ≡ length old → ((s : ℕ) (v : declared.Versions) → slice_get old s ≡ Some v → HasLaidVersion start target (past (take i log)) s v image)
    → (s : ℕ) (v : declared.Versions) → slice_get new s ≡ Some v → HasLaidVersion start target (past (take (i + 1) log)) s v image'

abbrev pub change_of : change.Change → declared.Versions → declared.Versions
change_of changes.Written v = one_more v
change_of changes.Firm v = made_firm v
