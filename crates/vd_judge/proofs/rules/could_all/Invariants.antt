use Rattle.std.proofs.Common.{◌≡◌, ℕ, ◌+◌, ◌<◌, take, Some}
use Rattle.std.specs.Prelude.{slice_get}
use Rattle.std.specs.List.{Contains}
use Rattle.vd_law.specs.declared.entry.Sector.{Sector}
use Rattle.vd_law.specs.Entries.{past}
use Rattle.vd_law.specs.Contents.{could_after}
use Rattle.vd_judge.proofs.rules.could_all.Given as goal

abbrev pub invariant-loop-k : goal.invariant-loop-k
invariant-loop-k g l =
    (k : ℕ) (v : Sector) → k < l.k → slice_get l.content k ≡ Some v → Contains (could_after (g.F.Flat.disk l.start) (past (take l.i l.log.entries)) (l.first + k)) v
