use Rattle.std.proofs.Common.{◌≡◌, length}
use Rattle.bits_bench.proofs.fill_often.Given as goal

abbrev pub invariant-loop : goal.invariant-loop
invariant-loop l = length l.table.chunks ≡ l.chunks
