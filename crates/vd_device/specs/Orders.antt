-- What the law of a store says of its log.
use Rattle.std.specs.Prelude.{ℕ, ◌≡◌, ◌+◌, ◌<◌, ◌≤◌, [], length}
use Rattle.vd_law.specs.Entries.{Entry, Issue, Past, past}
use Rattle.vd_law.specs.Contents.{open_writes}
use Rattle.vd_law.specs.Rules.{Each, IsShown}
use Rattle.vd_device.specs.Disks.{Disk}

-- what an entry may do after these: a write begins where none is open
abbrev pub BeginsAlone : Past → Entry → Type 0
BeginsAlone p (Issue id first content) = (s : ℕ) → first ≤ s → s < first + length content → open_writes p s ≡ []
BeginsAlone p _ = Unit {0}

-- a write lies in a store of this many sectors
abbrev pub WritesInside : ℕ → Past → Entry → Type 0
WritesInside sectors p (Issue id first content) = first + length content ≤ sectors
WritesInside sectors p _ = Unit {0}

-- Each write of the log lies in the store and was begun where none was open, and each read was given what could be there.
pub record IsInOrder (d : Disk) : Type 0 where
  pub alone : Each BeginsAlone (past d.log)
  pub inside : Each (WritesInside (length d.start)) (past d.log)
  pub shown : Each (IsShown d.start) (past d.log)
