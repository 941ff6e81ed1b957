use Rattle.std.proofs.Common.{◌≡◌, false, length}
use Rattle.vd_passes.specs.Steps.{IsAt}
use Rattle.core_rows.proofs.Runs.{IsBusyWith}
use Rattle.core_rows.proofs.calls.read.Given as goal

abbrev pub invariant-loop : goal.invariant-loop
invariant-loop g l = IsAt l.core.passes l.pass (IsBusyWith false (length l.out)) × (l.core.shape ≡ l.fn.core.shape) × (length l.core.passes ≡ length l.fn.core.passes)
