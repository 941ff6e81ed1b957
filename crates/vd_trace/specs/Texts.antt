-- What a trace is written as: its lines that ask and then those that show, in lower case, and nothing else.
use Rattle.std.specs.Prelude.{ℕ, ◌≡◌, ◌<◌, ◌≤◌, ◌^◌, List, [], ◌∷◌, ◌++◌, length, map, sum_by, codes, decimal}
use Rattle.std.specs.List.{All, flat_map, join_with_byte}
use Rattle.hex.specs.Hex.{encode_lower, IsBytes}
use Rattle.vd_trace.specs.declared.line.Line.{Line}
use Rattle.vd_trace.specs.declared.line.Line.TheVariants.{Nothing, Asks, Shows}
use Rattle.vd_trace.specs.declared.line.Work.{Work}
use Rattle.vd_trace.specs.declared.line.Work.TheVariants.{Read, Fill, Put, Flush}
use Rattle.vd_trace.specs.Lines.{sectors_of_line}
use Rattle.vd_trace.specs.Traces.{Asking, Showing, Script, SpellsTrace, script_of}

-- the fields behind the guest
abbrev pub work_fields : Work → List (List ℕ)
work_fields (Read first count) = codes "R" ∷ decimal first ∷ decimal count ∷ []
work_fields (Fill first count byte) = codes "W" ∷ decimal first ∷ decimal count ∷ encode_lower (byte ∷ []) ∷ []
work_fields (Put first sector) = codes "X" ∷ decimal first ∷ encode_lower sector.bytes ∷ []
work_fields Flush = codes "F" ∷ []

abbrev pub line_fields : Line → List (List ℕ)
line_fields Nothing = []
line_fields (Asks guest work) = decimal guest ∷ work_fields work
line_fields (Shows first count) = codes "S" ∷ decimal first ∷ decimal count ∷ []

-- the fields, with a blank between each two
abbrev pub line_body : Line → List ℕ
line_body says = join_with_byte 32 (line_fields says)

abbrev pub trace_line_text : Line → List ℕ
trace_line_text says = line_body says ++ codes "\n"

abbrev pub asking_line : Asking → Line
asking_line a = Asks a.guest a.work

abbrev pub showing_line : Showing → Line
showing_line s = Shows s.first s.count

-- the lines that are written
abbrev pub lines_of : Script → List Line
lines_of trace = map asking_line trace.asks ++ map showing_line trace.shows

abbrev pub trace_text : Script → List ℕ
trace_text trace = flat_map trace_line_text (lines_of trace)

abbrev pub who_asks : Asking → ℕ × Work
who_asks a = (a.guest, a.work)

abbrev pub what_shows : Showing → ℕ × ℕ
what_shows s = (s.first, s.count)

-- the same requests of each guest in the same order, and the same sectors that are shown; the numbers of their lines may differ
pub record IsSameTrace (a b : Script) : Type 0 where
  pub guests : a.guests ≡ b.guests
  pub asks : map who_asks a.asks ≡ map who_asks b.asks
  pub shows : map what_shows a.shows ≡ map what_shows b.shows

-- the text of the trace is in the grammar, and says the same
abbrev pub ReadsBack : Script → Type 0
ReadsBack trace = (says : List Line) × SpellsTrace trace.guests (trace_text trace) says × IsSameTrace (script_of trace.guests says) trace

-- a range has from 1 to 2,048 sectors, and its first has at most ten digits
abbrev pub IsRangeOfLine : (first count : ℕ) → Type 0
IsRangeOfLine first count = (first < 10 ^ 10) × (1 ≤ count) × (count ≤ 2048)

-- what is asked has such a range, and a sector has 512 bytes
abbrev pub IsRequest : Work → Type 0
IsRequest (Read first count) = IsRangeOfLine first count
IsRequest (Fill first count byte) = (first < 10 ^ 10) × (1 ≤ count) × (count ≤ 2048) × (byte < 256)
IsRequest (Put first sector) = (first < 10 ^ 10) × (length sector.bytes ≡ 512) × IsBytes sector.bytes
IsRequest Flush = Unit {0}

abbrev pub IsLine : (guests : ℕ) → Line → Type 0
IsLine guests Nothing = Unit {0}
IsLine guests (Asks guest work) = (guest < 10 ^ 10) × (1 ≤ guest) × (guest ≤ guests) × IsRequest work
IsLine guests (Shows first count) = IsRangeOfLine first count

-- every number is in its range, and the limits are kept, as in every trace that is read
pub record IsScript (trace : Script) : Type 0 where
  pub ranges : All (IsLine trace.guests) (lines_of trace)
  pub few : length (lines_of trace) ≤ 500000
  pub small : sum_by sectors_of_line (lines_of trace) ≤ 262144
