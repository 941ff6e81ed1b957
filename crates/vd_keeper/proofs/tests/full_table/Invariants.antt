use Rattle.std.proofs.Common.{◌≡◌, ◌<◌, ℕ, length}
use Rattle.vd_table.specs.Tables.{Has}
use Rattle.vd_keeper.proofs.tests.full_table.Given as goal

abbrev pub invariant-loop-chunk : goal.invariant-loop-chunk
invariant-loop-chunk l = record {
  size : length l.table.chunks ≡ l.chunks;
  storage : l.table.storage ≡ l.header.storage;
  each : (c : ℕ) → c < l.chunk → Has l.table c c;
}
