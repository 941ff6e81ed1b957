use Rattle.std.proofs.Common.{◌≡◌, ◌≢◌, ℕ, true, List, length, slice_get}
use Rattle.vd_law.specs.declared.entry.Sector.{Sector}
use Rattle.vd_passes.specs.Steps.{IsAt, HasAskedWrite}
use Rattle.core_rows.proofs.Runs.{IsBusyWith}
use Rattle.core_rows.proofs.calls.end_write.Given as goal

abbrev pub invariant-loop : goal.invariant-loop
invariant-loop g l = IsAt l.core.passes l.pass (IsBusyWith true (length l.content)) × (l.core.shape ≡ l.fn.core.shape) × (length l.core.passes ≡ length l.fn.core.passes)
    × ((other : ℕ) → other ≢ l.pass → slice_get l.core.passes other ≡ slice_get l.fn.core.passes other)
    × ((other : ℕ) (said : List Sector) → HasAskedWrite l.fn.core.history.log.entries other said → HasAskedWrite l.core.history.log.entries other said)
