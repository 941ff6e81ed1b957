use Rattle.std.proofs.Common.{◌≡◌, ℕ, length, Some}
use Rattle.std.specs.Prelude.{slice_get}
use Rattle.vd_faults.specs.declared.versions.Versions.{Versions}
use Rattle.vd_faults.specs.Versions.{HasCountedWrites}
use Rattle.vd_faults.proofs.versions.count.Given as goal

abbrev pub invariant-loop-i : goal.invariant-loop-i
invariant-loop-i l =
    (length l.all.items ≡ length l.initial.all.items)
    × ((s : ℕ) (v : Versions) → slice_get l.all.items s ≡ Some v → HasCountedWrites l.tape.log.entries l.tape.sealed l.i s v)
