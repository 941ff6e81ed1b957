use Rattle.std.proofs.Common.{◌≡◌, ◌≤◌, ◌++◌, take}
use Rattle.vd_report.specs.Tokens.{tokens}
use Rattle.vd_report.proofs.sectors.put_tokens.Given as goal

abbrev pub invariant-loop-sector : goal.invariant-loop-sector
invariant-loop-sector g l = record {
  told_before : g.O.Sink.tells l.out → g.O.Sink.tells l.initial.out;
  wrote : g.O.Sink.tells l.out → g.O.Sink.written l.out ≡ g.O.Sink.written l.initial.out ++ tokens (take l.sector-index l.sectors);
  no_fewer_faults : g.O.Sink.faults l.initial.out ≤ g.O.Sink.faults l.out;
}
