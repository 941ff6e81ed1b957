-- Traces: what their bytes say, and the first line that is bad or too much.
use Rattle.std.specs.Prelude.{ℕ, ◌≡◌, ◌+◌, List, [], ◌∷◌, ◌++◌, length, take, slice_get, Some, None, Option, map, ◌==◌, replicate, filter}
use Rattle.std.specs.List.{enumerate_from, filter_map}
use Rattle.std.specs.Str.Lines.{lines}
use Rattle.vd_law.specs.Entries as law
use Rattle.vd_law.specs.Entries.{Asked}
use Rattle.vd_trace.specs.declared.line.Line.{Line}
use Rattle.vd_trace.specs.declared.line.Line.TheVariants.{Asks, Shows}
use Rattle.vd_trace.specs.declared.line.Work.{Work}
use Rattle.vd_trace.specs.declared.line.Work.TheVariants.{Read, Fill, Put, Flush}
use Rattle.vd_trace.specs.Lines.{IsGood, KeepsLimits}

-- each line says this, behind those before it
abbrev pub SpellsLines : (guests : ℕ) (before : List Line) → List (List ℕ) → List Line → Type 0
SpellsLines guests before [] [] = Unit {0}
SpellsLines guests before (line ∷ lines) (says ∷ more) = IsGood guests before line says × KeepsLimits before says × SpellsLines guests (before ++ says ∷ []) lines more
SpellsLines guests before _ _ = ⊥

-- The bytes are a trace of so many guests, whose lines say this. A line ends with a line feed, which a carriage return may
-- stand before; the last may lack its end.
abbrev pub SpellsTrace : (guests : ℕ) → List ℕ → List Line → Type 0
SpellsTrace guests bytes says = SpellsLines guests [] (lines bytes) says

-- of these lines, those before this number, counted from 1, say this as a trace does, and this is the line of that number
pub record GoesTo (guests : ℕ) (all : List (List ℕ)) (number : ℕ) (before : List Line) (line : List ℕ) : Type 0 where
  pub counted : number ≡ length before + 1
  pub good : SpellsLines guests [] (take (length before) all) before
  pub there : slice_get all (length before) ≡ Some line

-- the line of this number is the first that is not in the grammar
abbrev pub IsFirstBad : (guests : ℕ) → List (List ℕ) → (number : ℕ) → Type 0
IsFirstBad guests all number = (before : List Line) × (line : List ℕ) × GoesTo guests all number before line × ((says : Line) → ¬ (IsGood guests before line says))

-- the line of this number is in the grammar, and the first with which a limit is passed
abbrev pub IsFirstTooMuch : (guests : ℕ) → List (List ℕ) → (number : ℕ) → Type 0
IsFirstTooMuch guests all number =
    (before : List Line) × (line : List ℕ) × (says : Line) × GoesTo guests all number before line × IsGood guests before line says × (¬ (KeepsLimits before says))

-- A trace as it is kept: for how many guests it is, and its lines that ask and those that show, each with its number.

pub record Asking : Type 0 where
  pub number : ℕ
  pub guest : ℕ
  pub work : Work

pub record Showing : Type 0 where
  pub number : ℕ
  pub first : ℕ
  pub count : ℕ

pub record Script : Type 0 where
  pub guests : ℕ
  pub asks : List Asking
  pub shows : List Showing

abbrev pub asking : ℕ × Line → Option Asking
asking (number, Asks guest work) = Some (record { number = number; guest = guest; work = work })
asking (number, says) = None

abbrev pub showing : ℕ × Line → Option Showing
showing (number, Shows first count) = Some (record { number = number; first = first; count = count })
showing (number, says) = None

-- lines are counted from 1
abbrev pub asks_in : List Line → List Asking
asks_in says = filter_map asking (enumerate_from 1 says)

abbrev pub shows_in : List Line → List Showing
shows_in says = filter_map showing (enumerate_from 1 says)

abbrev pub script_of : (guests : ℕ) → List Line → Script
script_of guests says = record { guests = guests; asks = asks_in says; shows = shows_in says }

-- what the guest asks of the disk
abbrev pub work_asked : Work → Asked
work_asked (Read first count) = law.Read first count
work_asked (Fill first count byte) = law.Write first (replicate count (record { bytes = replicate 512 byte }))
work_asked (Put first sector) = law.Write first (sector ∷ [])
work_asked Flush = law.Flush

-- what all of them ask
abbrev pub works_asked : List Asking → List Asked
works_asked asks = map (λ a. work_asked a.work) asks

-- a guest's requests, in the order of the lines
abbrev pub requests_of : (guest : ℕ) → List Asking → List Asked
requests_of guest asks = works_asked (filter (λ a. a.guest == guest) asks)

abbrev pub script : Script → (guest : ℕ) → List Asked
script trace guest = requests_of guest trace.asks
