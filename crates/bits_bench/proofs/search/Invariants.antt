use Rattle.std.proofs.Common.{◌≡◌, ◌<◌, false, replicate}
use Rattle.bits_bench.proofs.search.Given as goal

abbrev pub invariant-loop : goal.invariant-loop
invariant-loop l = record {
  place : l.page < l.pages;
  empty : l.set ≡ replicate l.pages false;
}
