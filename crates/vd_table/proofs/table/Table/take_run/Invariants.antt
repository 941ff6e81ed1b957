use Rattle.std.proofs.Common.{◌+◌, ◌-◌, ◌≤◌}
use Rattle.vd_table.specs.Tables.{used_chunks}
use Rattle.vd_table.specs.Runs.{lacking, TakesRun}
use Rattle.vd_table.proofs.table.Table.take_run.Given as goal

abbrev pub invariant-loop-chunk : goal.invariant-loop-chunk
invariant-loop-chunk l = record {
  takes : TakesRun l.fn.self l.from (l.chunk - l.from) l.self;
  enough : used_chunks l.self + lacking l.self l.chunk (l.from + l.count - l.chunk) ≤ l.self.storage;
}
