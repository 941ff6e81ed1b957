-- How far the reading of a source has come.
use Rattle.std.specs.Prelude.{ℕ, ◌≡◌, ◌≢◌, ◌+◌, ◌-◌, ◌*◌, ◌≤◌, ◌⊎◌, List, [], ◌∷◌, ◌++◌, length}
use Rattle.std.specs.Io.{IsEmptyOrEndsWith}
use Rattle.std.specs.List.{All}
use Rattle.std.specs.Str.Lines.{lines}
use Rattle.vd_trace.specs.declared.kept.Draft.{Draft}
use Rattle.vd_trace.specs.declared.error.TraceError.{TraceError}
use Rattle.vd_trace.specs.declared.error.TraceError.TheVariants.{Bad, TooMuch, Source, NoMemory}
use Rattle.vd_trace.specs.declared.line.Line.{Line}
use Rattle.vd_trace.specs.Traces.{SpellsTrace, IsFirstBad, IsFirstTooMuch}
use Rattle.vd_trace.specs.Keeping.{HasReadLines}

-- some of all lines were read, and where that is told, the others are those of the bytes that are left
pub record StandsAt (all : List (List ℕ)) (told : Type 0) (left : List ℕ) (draft : Draft) : Type 0 where
  pub done : List (List ℕ)
  pub read : HasReadLines done draft
  pub rest : told → all ≡ done ++ lines left

-- where that is told, the error names the first line that is bad or too much
abbrev pub EndsBy : (guests : ℕ) → List (List ℕ) → (told : Type 0) → TraceError → Type 0
EndsBy guests all told (Bad number) = told → IsFirstBad guests all number
EndsBy guests all told (TooMuch number) = told → IsFirstTooMuch guests all number
EndsBy guests all told Source = Unit {0}
EndsBy guests all told NoMemory = Unit {0}

-- no bytes, or lines that have all ended
abbrev pub AreWhole : List ℕ → Type 0
AreWhole bytes = (bytes ≡ []) ⊎ ((front : List ℕ) × (bytes ≡ front ++ 10 ∷ []))

-- so much is left of these bytes behind the lines that were read
pub record HasTaken (all left : List ℕ) (draft : Draft) : Type 0 where
  pub ended : List ℕ
  pub rest : all ≡ ended ++ left
  pub whole : AreWhole ended
  pub read : HasReadLines (lines ended) draft

-- A source gave these bytes but for those that are left, and failed then. What the lines say that had ended is in the grammar
-- and within the limits, and the line that had begun isn't too long yet.
pub record FailsBehind (guests : ℕ) (all left : List ℕ) : Type 0 where
  pub ended : List ℕ
  pub begun : List ℕ
  pub given : all ≡ ended ++ (begun ++ left)
  pub whole : IsEmptyOrEndsWith ended 10
  pub says : List Line
  pub good : SpellsTrace guests ended says
  pub unended : All (λ b. b ≢ 10) begun
  pub short : length begun ≤ 1101

-- what is left to do at most: lines that may come, and bytes that the window may take
abbrev pub left_over : Draft → (window : List ℕ) → ℕ
left_over draft window = (500001 - draft.lines) * 8193 + (8192 - length window)
