use Rattle.std.proofs.Common.{◌≡◌, ℕ, length, take, Some}
use Rattle.std.specs.Prelude.{slice_get}
use Rattle.vd_law.specs.Entries.{past}
use Rattle.vd_faults.specs.declared.versions.Versions.{Versions}
use Rattle.vd_faults.specs.Versions.{HasLaidVersion}
use Rattle.vd_faults.proofs.image.lay_all.Given as goal

abbrev pub invariant-loop-i : goal.invariant-loop-i
invariant-loop-i l =
    (length l.all.items ≡ length l.initial.all.items) × (length l.image.items ≡ length l.initial.image.items)
    × ((target : ℕ → ℕ) → ((s : ℕ) (v : Versions) → slice_get l.initial.all.items s ≡ Some v → v ≡ record { written = 0; chosen = target s }) →
    (s : ℕ) (v : Versions) → slice_get l.all.items s ≡ Some v → HasLaidVersion l.initial.image.items target (past (take l.i l.tape.log.entries)) s v l.image.items)
