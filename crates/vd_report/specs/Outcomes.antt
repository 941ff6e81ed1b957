-- What became of a command.
use Rattle.std.specs.Prelude.{ℕ, List}
use Rattle.vd_law.specs.declared.entry.Sector.{Sector}
use Rattle.vd_law.specs.Entries.{Entry}
use Rattle.vd_report.specs.declared.line.Line.{Line}

-- what a line of the trace shows: sectors from `first` on, or which device failed to give them
pub data ShownLine : Type 0 where
  Sectors : (first : ℕ) → List Sector → ShownLine
  Failed : (first : ℕ) → Line → ShownLine

-- How the image opens again that a run has left: not, which the line says why; or it does, and this is shown, and so many are
-- local of the blocks that begin in the tracked part.
pub data Reopened : Type 0 where
  Refused : Line → Reopened
  Opened : (shown : List ShownLine) (local of : ℕ) → Reopened

-- it is one line, or sectors of the disk from `first` on, or the report of a history of so many guests, of its closing and of the reopening
pub data Outcome : Type 0 where
  Says : Line → Outcome
  Shown : (first : ℕ) → List Sector → Outcome
  Reported : (guests : ℕ) → List Entry → (closing : Line) → Reopened → Outcome
