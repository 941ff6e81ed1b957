use Rattle.std.proofs.Common.{◌≡◌, ◌≤◌, ◌++◌, take}
use Rattle.std.specs.List.{flat_map}
use Rattle.vd_trace.specs.Printing.{item_text}
use Rattle.vd_trace.proofs.printing.put_items.Given as goal

abbrev pub invariant-loop-item : goal.invariant-loop-item
invariant-loop-item g l = record {
  told_before : g.O.Sink.tells l.out → g.O.Sink.tells l.initial.out;
  wrote : g.O.Sink.tells l.out → g.O.Sink.written l.out ≡ g.O.Sink.written l.initial.out ++ flat_map (item_text l.sectors) (take l.item-index l.items);
  no_fewer_faults : g.O.Sink.faults l.initial.out ≤ g.O.Sink.faults l.out;
}
