-- Which of the contents that a crash may leave in a sector is chosen.
use Rattle.std.specs.Prelude.{ℕ, zero, suc, ◌≡◌, ◌-◌, ◌%◌, min, max, ◌==◌, List, [], ◌∷◌, length, Option, Some, slice_get, if◌then◌else◌}
use Rattle.vd_law.specs.declared.entry.Sector.{Sector}
use Rattle.vd_law.specs.Contents.{may}
use Rattle.vd_device.specs.Disks.{Disk}

-- the number of the first pair that has the sector, else 0
abbrev pub listed : List (ℕ × ℕ) → ℕ → ℕ
listed [] sector = 0
listed (pair ∷ pairs) sector = if pair.0 == sector then pair.1 else listed pairs sector

-- the number of a content, of so many, that a word draws
abbrev pub drawn : (word count : ℕ) → ℕ
drawn word count = word % max count 1

-- The state of a chooser that was asked for each sector below s, in rising order, which has so many contents.
abbrev pub asked : {C : Type 0} → (C → ℕ → ℕ → ℕ × C) → C → (counts : ℕ → ℕ) → (s : ℕ) → C
asked choice chooser counts zero = chooser
asked choice chooser counts (suc s) = (choice (asked choice chooser counts s) s (counts s)).1

-- its answer for sector s
abbrev pub answer_at : {C : Type 0} → (C → ℕ → ℕ → ℕ × C) → C → (counts : ℕ → ℕ) → (s : ℕ) → ℕ
answer_at choice chooser counts s = (choice (asked choice chooser counts s) s (counts s)).0

-- the content with this number, or the last where there is none
abbrev pub member : List Sector → ℕ → Option Sector
member contents number = slice_get contents (min number (length contents - 1))

-- how many contents a crash may leave in sector s
abbrev pub contents_at : Disk → ℕ → ℕ
contents_at d s = length (may d.start d.log s)

-- Each sector has that of the contents which a crash may leave there that the chooser chose.
pub record IsChosen {C : Type 0} (choice : C → ℕ → ℕ → ℕ × C) (chooser : C) (d : Disk) (image : List Sector) : Type 0 where
  pub size : length image ≡ length d.start
  pub each : (s : ℕ) (v : Sector) → slice_get image s ≡ Some v → member (may d.start d.log s) (answer_at choice chooser (contents_at d) s) ≡ Some v
