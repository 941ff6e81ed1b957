use Rattle.std.proofs.Common.{◌≤◌, vec_capacity}
use Rattle.vd_core.specs.Opening.{AreNew}
use Rattle.vd_core.proofs.opening.new_passes.Given as goal

abbrev pub invariant-loop : goal.invariant-loop
invariant-loop l = AreNew l.counter l.block l.passes.items × (l.count ≤ vec_capacity l.passes)
