-- What a kept trace answers.
use Rattle.std.specs.Prelude.{ℕ, ◌≡◌, ◌+◌, ◌⊎◌, List, take, nat_lt, find, Result, MatchResult, Ok, Err, Option}
use Rattle.std.specs.Option.{option_map}
use Rattle.std.specs.Str.Lines.{lines}
use Rattle.vd_law.specs.declared.entry.Sector.{Sector}
use Rattle.vd_law.specs.Entries as law
use Rattle.vd_trace.specs.declared.line.Line.{Line}
use Rattle.vd_trace.specs.declared.line.Work.{Work}
use Rattle.vd_trace.specs.declared.line.Work.TheVariants.{Read, Fill, Put, Flush}
use Rattle.vd_trace.specs.declared.error.TraceError.{TraceError}
use Rattle.vd_trace.specs.declared.error.TraceError.TheVariants.{Bad, TooMuch, Source, NoMemory}
use Rattle.vd_trace.specs.declared.trace.Asked.{Asked}
use Rattle.vd_trace.specs.declared.trace.Asked.TheVariants as asked
use Rattle.vd_trace.specs.Texts.{IsRangeOfLine}
use Rattle.vd_trace.specs.Traces.{Asking, Showing, Script, script_of, SpellsTrace, IsFirstBad, IsFirstTooMuch}

-- what reading these bytes leads to
abbrev pub ReadsTrace : (guests : ℕ) → List ℕ → Result Script TraceError → Type 0
ReadsTrace guests bytes (Ok trace) = (says : List Line) × SpellsTrace guests bytes says × (trace ≡ script_of guests says)
ReadsTrace guests bytes (Err (Bad number)) = IsFirstBad guests (lines bytes) number
ReadsTrace guests bytes (Err (TooMuch number)) = IsFirstTooMuch guests (lines bytes) number
ReadsTrace guests bytes (Err Source) = Unit {0}
ReadsTrace guests bytes (Err NoMemory) = Unit {0}

-- a trace of these lines is accepted, but for a fault of the source or want of memory
abbrev pub Accepts : (guests : ℕ) → List Line → Result Script TraceError → Type 0
Accepts guests says result = MatchResult result (λ trace. trace ≡ script_of guests says) (λ e. (e ≡ Source) ⊎ (e ≡ NoMemory))

-- the first sector behind those of a range
abbrev pub end_of : Work → ℕ
end_of (Read first count) = first + count
end_of (Fill first count byte) = first + count
end_of (Put first sector) = first + 1
end_of Flush = 0

-- the number of the first line whose range lies past a disk of this many sectors
abbrev pub asks_past : ℕ → List Asking → Option ℕ
asks_past size asks = option_map (λ a. a.number) (find (λ a. nat_lt size (end_of a.work)) asks)

abbrev pub shows_past : ℕ → List Showing → Option ℕ
shows_past size shows = option_map (λ s. s.number) (find (λ s. nat_lt size (s.first + s.count)) shows)

-- a request as the disk is asked, with the content that was handed out for it
abbrev pub request_of : Asked → List Sector → law.Asked
request_of (asked.Read first count) content = law.Read first count
request_of (asked.Write first count) content = law.Write first (take count content)
request_of asked.Flush content = law.Flush

-- a request's range
abbrev pub HasRange : Asked → Type 0
HasRange (asked.Read first count) = IsRangeOfLine first count
HasRange (asked.Write first count) = IsRangeOfLine first count
HasRange asked.Flush = Unit {0}

-- how many sectors were handed out
abbrev pub sectors_handed : Asked → ℕ
sectors_handed (asked.Read first count) = 0
sectors_handed (asked.Write first count) = count
sectors_handed asked.Flush = 0
