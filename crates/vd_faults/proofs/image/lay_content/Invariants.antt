use Rattle.std.proofs.Common.{◌≡◌, ℕ, length, take}
use Rattle.std.specs.Prelude.{slice_get}
use Rattle.vd_law.specs.Contents.{sector_in}
use Rattle.vd_faults.specs.Versions.{changed_if, one_more, laid}
use Rattle.vd_faults.proofs.image.lay_content.Given as goal

abbrev pub invariant-loop-k : goal.invariant-loop-k
invariant-loop-k l =
    (length l.all.items ≡ length l.initial.all.items) × (length l.image.items ≡ length l.initial.image.items)
    × ((s : ℕ) → slice_get l.all.items s ≡ changed_if one_more (sector_in l.first (take l.k l.content) s) (slice_get l.initial.all.items s))
    × ((s : ℕ) → slice_get l.image.items s ≡ laid (slice_get l.initial.all.items s) (sector_in l.first (take l.k l.content) s) (slice_get l.initial.image.items s))
