use Rattle.std.proofs.Common.{◌≡◌, ◌<◌, length}
use Rattle.bits_bench.proofs.fill.Given as goal

abbrev pub invariant-loop : goal.invariant-loop
invariant-loop l = record {
  place : l.chunk < l.chunks;
  chunks : length l.table.chunks ≡ l.chunks;
}
