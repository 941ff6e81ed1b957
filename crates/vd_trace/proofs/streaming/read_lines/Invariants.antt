use Rattle.std.proofs.Common.{◌≡◌, ◌≤◌, ◌++◌}
use Rattle.std.specs.Str.Lines.{lines}
use Rattle.vd_trace.specs.Streaming.{StandsAt, HasTaken, left_over}
use Rattle.vd_trace.proofs.streaming.read_lines.Given as goal

abbrev pub invariant-pieces : goal.invariant-pieces
invariant-pieces g l = record {
  stands : StandsAt (lines (g.I.Source.rest l.initial.source)) (g.I.Source.tells l.source) (l.window ++ g.I.Source.rest l.source) l.draft;
  taken : g.I.Source.tells l.source → HasTaken (g.I.Source.rest l.initial.source) (l.window ++ g.I.Source.rest l.source) l.draft;
  guests : l.draft.guests ≡ l.initial.draft.guests;
  told_before : g.I.Source.tells l.source → g.I.Source.tells l.initial.source;
  no_fewer_faults : g.I.Source.faults l.initial.source ≤ g.I.Source.faults l.source;
}

abbrev pub decreases-pieces : goal.decreases-pieces
decreases-pieces g l = left_over l.draft l.window
