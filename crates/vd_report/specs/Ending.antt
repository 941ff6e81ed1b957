-- How a command ends: its text, its status, and what a failing sink makes of them.
use Rattle.std.specs.Prelude.{ℕ, zero, suc, ◌≡◌, ◌⊎◌, ◌==◌, Bool, true, false, if◌then◌else◌, List, ◌++◌, codes}
use Rattle.std.specs.List.{list_all, list_any, flat_map}
use Rattle.vd_law.specs.Entries.{Entry, Reply}
use Rattle.vd_law.specs.Rules.{is_ok}
use Rattle.vd_report.specs.Replies.{history_text, sum_text}
use Rattle.vd_io.specs.declared.sink.Sink as sink
use Rattle.vd_io.specs.Streams.{WritesPart}
use Rattle.vd_report.specs.declared.line.Line.{Line}
use Rattle.vd_report.specs.declared.line.Line.TheVariants as lines
use Rattle.vd_report.specs.declared.line.About.{About}
use Rattle.vd_report.specs.declared.line.About.TheVariants as about
use Rattle.vd_report.specs.Lines.{line_text, about_text}
use Rattle.vd_report.specs.Tokens.{show_text}
use Rattle.vd_report.specs.Statuses.{status_of_line}
use Rattle.vd_report.specs.Streams.{KeepsSink}
use Rattle.vd_report.specs.Outcomes.{ShownLine, Sectors, Failed, Reopened, Refused, Opened, Outcome, Says, Shown, Reported}
use Rattle.vd_law.specs.Counts.{Rose}

-- each reply is Ok
abbrev pub is_ok_reply : Entry → Bool
is_ok_reply (Reply id answer) = is_ok answer
is_ok_reply e = true

abbrev pub are_ok : List Entry → Bool
are_ok entries = list_all is_ok_reply entries

-- the line names a device that failed
abbrev pub is_device_fault : Line → Bool
is_device_fault line = status_of_line line == 5

abbrev pub has_failed : ShownLine → Bool
has_failed (Sectors first sectors) = false
has_failed (Failed first line) = true

-- the status with which a reopening ends a run: 5 where a device failed, 3 where the image is refused, 0 where neither did
abbrev pub reopened_status : Reopened → ℕ
reopened_status (Refused line) = if is_device_fault line then 5 else 3
reopened_status (Opened shown local of) = if list_any has_failed shown then 5 else 0

-- and the status of a run: 5 where the closing failed too, and 1 where nothing did, but some reply isn't Ok
abbrev pub run_status : (closing_failed : Bool) (reopened : ℕ) (ok : Bool) → ℕ
run_status closing_failed reopened ok = if closing_failed then 5 else (if reopened == 0 then (if ok then 0 else 1) else reopened)

abbrev pub status_of : Outcome → ℕ
status_of (Says line) = status_of_line line
status_of (Shown first sectors) = 0
status_of (Reported guests entries closing reopened) = run_status (is_device_fault closing) (reopened_status reopened) (are_ok entries)

-- a line of the report
abbrev pub about_line : About → Line → List ℕ
about_line what line = about_text what ++ line_text line ++ codes "\n"

abbrev pub shown_text : ShownLine → List ℕ
shown_text (Sectors first sectors) = show_text first sectors
shown_text (Failed first line) = about_line (about.Shown first) line

abbrev pub reopened_text : Reopened → List ℕ
reopened_text (Refused line) = about_line about.Reopening line
reopened_text (Opened shown local of) = about_line about.Reopening lines.Ok ++ flat_map shown_text shown ++ about_line about.Command (lines.Local local of)

abbrev pub text_of : Outcome → List ℕ
text_of (Says line) = line_text line ++ codes "\n"
text_of (Shown first sectors) = show_text first sectors
text_of (Reported guests entries closing reopened) =
    history_text guests entries ++ about_line about.Closing closing ++ reopened_text reopened ++ sum_text guests entries

-- a sink that failed makes status 6 of statuses 0 and 1, and leaves every other
abbrev pub status_unwritten : ℕ → ℕ
status_unwritten zero = 6
status_unwritten (suc zero) = 6
status_unwritten (suc (suc n)) = suc (suc n)

-- The text was written, and the status is the outcome's; or the sink failed, and a front of the text was written.
pub record PrintsOutcome {O : Type 0} (o : sink.Ghosts O) (outcome : Outcome) (status : ℕ) (out out' : O) : Type 0 where
  pub keeps : KeepsSink o out out'
  pub printed : ((status ≡ status_of outcome) × (o.tells out' → o.written out' ≡ o.written out ++ text_of outcome))
      ⊎ ((status ≡ status_unwritten (status_of outcome)) × Rose (o.faults out) (o.faults out')
      × (o.tells out' → WritesPart (text_of outcome) (o.written out) (o.written out')))
