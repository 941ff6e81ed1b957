use Rattle.std.proofs.Common.{◌≡◌, ℕ, ◌<◌, length, Some}
use Rattle.std.specs.Prelude.{slice_get}
use Rattle.vd_faults.specs.declared.versions.Versions.{Versions}
use Rattle.vd_faults.proofs.versions.clear.Given as goal

abbrev pub invariant-loop-i : goal.invariant-loop-i
invariant-loop-i l = (length l.all.items ≡ length l.initial.all.items) × ((s : ℕ) (v : Versions) → s < l.i → slice_get l.all.items s ≡ Some v → v ≡ record { written = 0; chosen = 0 })
