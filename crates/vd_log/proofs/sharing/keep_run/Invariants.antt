use Rattle.std.proofs.Common.{◌≡◌, ◌≤◌, ◌++◌, vec_capacity}
use Rattle.std.specs.Prelude.{replicate}
use Rattle.vd_log.proofs.sharing.keep_run.Given as goal

abbrev pub invariant-loop : goal.invariant-loop
invariant-loop l = (l.sectors.items ≡ l.initial.sectors.items ++ replicate l.counter l.first) × (vec_capacity l.initial.sectors ≤ vec_capacity l.sectors)
