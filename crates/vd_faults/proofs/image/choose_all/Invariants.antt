use Rattle.std.proofs.Common.{◌≡◌, ℕ, length, Some}
use Rattle.std.specs.Prelude.{slice_get, nat_lt, if◌then◌else◌}
use Rattle.vd_faults.specs.declared.versions.Versions.{Versions}
use Rattle.vd_faults.specs.Choices.{asked, answer_at}
use Rattle.vd_faults.specs.Versions.{counts_in, after_choice}
use Rattle.vd_faults.proofs.image.choose_all.Given as goal

abbrev pub invariant-loop-s : goal.invariant-loop-s
invariant-loop-s g l =
    (length l.all.items ≡ length l.initial.all.items)
    × (l.chooser ≡ asked g.C.Chooser.choice l.initial.chooser (counts_in l.initial.all.items) l.s)
    × ((k : ℕ) (v : Versions) → slice_get l.initial.all.items k ≡ Some v →
    slice_get l.all.items k ≡ Some (if nat_lt k l.s then after_choice v (answer_at g.C.Chooser.choice l.initial.chooser (counts_in l.initial.all.items) k) else v))
