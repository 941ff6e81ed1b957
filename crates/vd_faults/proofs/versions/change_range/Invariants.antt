use Rattle.std.proofs.Common.{◌≡◌, ℕ, length, take}
use Rattle.std.specs.Prelude.{slice_get}
use Rattle.vd_law.specs.Contents.{sector_in}
use Rattle.vd_faults.specs.Versions.{changed_if, change_of}
use Rattle.vd_faults.proofs.versions.change_range.Given as goal

abbrev pub invariant-loop-k : goal.invariant-loop-k
invariant-loop-k l =
    (length l.all.items ≡ length l.initial.all.items)
    × ((s : ℕ) → slice_get l.all.items s ≡ changed_if (change_of l.change) (sector_in l.first (take l.k l.content) s) (slice_get l.initial.all.items s))
