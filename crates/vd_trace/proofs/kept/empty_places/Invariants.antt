use Rattle.std.proofs.Common.{◌≡◌, []}
use Rattle.std.specs.Prelude.{replicate}
use Rattle.vd_trace.specs.Keeping.{lists}
use Rattle.vd_trace.proofs.kept.empty_places.Given as goal

abbrev pub invariant-loop : goal.invariant-loop
invariant-loop l = lists l.places.items ≡ replicate l.counter []
