-- The texts of the lines as they are kept.
use Rattle.std.specs.Prelude.{ℕ, List}
use Rattle.vd_law.specs.declared.entry.Sector.{Sector}
use Rattle.vd_trace.specs.declared.kept.Item.{Item}
use Rattle.vd_trace.specs.declared.kept.Shown.{Shown}
use Rattle.vd_trace.specs.Texts.{trace_line_text, asking_line, showing_line}
use Rattle.vd_trace.specs.Keeping.{asking_of, showing_of}

abbrev pub item_text : List Sector → Item → List ℕ
item_text sectors item = trace_line_text (asking_line (asking_of sectors item))

abbrev pub trace_shown_text : Shown → List ℕ
trace_shown_text shown = trace_line_text (showing_line (showing_of shown))
