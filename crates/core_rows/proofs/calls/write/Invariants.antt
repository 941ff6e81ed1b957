use Rattle.std.proofs.Common.{◌≡◌, true, length}
use Rattle.vd_passes.specs.Steps.{IsAt, HasAskedWrite}
use Rattle.core_rows.proofs.Runs.{IsBusyWith}
use Rattle.core_rows.proofs.calls.write.Given as goal

abbrev pub invariant-loop : goal.invariant-loop
invariant-loop g l = IsAt l.core.passes l.pass (IsBusyWith true (length l.content)) × HasAskedWrite l.core.history.log.entries l.pass l.content × (l.core.shape ≡ l.fn.core.shape) × (length l.core.passes ≡ length l.fn.core.passes)
