-- Contents laid over one another.
use Rattle.std.specs.Prelude.{ℕ, ◌≡◌, ◌+◌, ◌-◌, ◌*◌, ◌<◌, ◌⊎◌, min, List, ◌++◌, length, take, drop, replicate, Option, Some, None}
use Rattle.vd_law.specs.declared.entry.Sector.{Sector}
use Rattle.vd_law.specs.Contents.{sector_in}
use Rattle.vd_device.specs.Calls.{IsHeld}
use Rattle.vd_format.specs.Background.{zero_sector}

-- a content of which the sectors from `at` on are these instead
abbrev pub content_with_part : (at : ℕ) (part content : List Sector) → List Sector
content_with_part at part content = take at content ++ part ++ drop (at + length part) content

-- of `count` sectors from `first` on those that lie below the limit
abbrev pub count_below : (limit first count : ℕ) → ℕ
count_below limit first count = min (limit - first) count

-- each sector of the content, which begins at sector `first`, is the one of `rest`
abbrev pub IsRest : (rest : ℕ → Sector) (first : ℕ) (content : List Sector) → Type 0
IsRest rest first content = (s : ℕ) (v : Sector) → sector_in first content s ≡ Some v → v ≡ rest s

-- what is read of the base, with zeros behind it, is the rest of so many sectors
abbrev pub Backs : (rest : ℕ → Sector) (limit : ℕ) (base : List Sector) → Type 0
Backs rest limit base = (first count : ℕ) (front : List Sector) → length front ≡ count_below limit first count → (0 < length front → IsHeld first front base)
    → IsRest rest first (front ++ replicate (count - length front) zero_sector)

-- a content, and the sector at which it begins
pub record Extent : Type 0 where
  pub first : ℕ
  pub content : List Sector

abbrev pub extent : (first : ℕ) → (content : List Sector) → Extent
extent first content = record { first = first; content = content }

abbrev pub sector_of : Extent → ℕ → Option Sector
sector_of e s = sector_in e.first e.content s

-- What the store is given for a piece of block b, whose place begins at its sector `at`: the piece's sectors, and round them the rest
-- where the whole block is written.
pub record Lays (rest : ℕ → Sector) (block b at : ℕ) (part stored : Extent) (is_rest : Type 0) : Type 0 where
  pub source : (a s : ℕ) (c : Sector) → a + block * b ≡ at + s → sector_of stored a ≡ Some c → (sector_of part s ≡ Some c) ⊎ ((sector_of part s ≡ None) × (c ≡ rest s) × is_rest)
  pub whole : (a s : ℕ) (c : Sector) → a + block * b ≡ at + s → sector_of part s ≡ Some c → sector_of stored a ≡ Some c
