use Rattle.std.proofs.Common.{◌≡◌, ℕ, ◌<◌, ◌≤◌, take}
use Rattle.std.specs.List.{All}
use Rattle.vd_law.specs.Entries.{past}
use Rattle.vd_law.specs.Contents.{Open, open_writes}
use Rattle.vd_judge.proofs.rules.is_untouched.Given as goal

abbrev pub invariant-loop-s : goal.invariant-loop-s
invariant-loop-s l =
    (s : ℕ) → l.first ≤ s → s < l.s → All (λ (w : Open). w.call ≡ l.id) (open_writes (past (take l.i l.log.entries)) s)
