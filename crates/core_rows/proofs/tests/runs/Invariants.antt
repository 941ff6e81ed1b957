use Rattle.std.proofs.Common.{◌≡◌, ◌*◌, length}
use Rattle.vd_passes.specs.declared.pass.Phase.TheVariants.{Idle}
use Rattle.vd_passes.specs.Steps.{IsAt}
use Rattle.core_rows.proofs.tests.runs.Given as goal

abbrev pub invariant-loop-call : goal.invariant-loop-call
invariant-loop-call g l = IsAt l.core.passes 0 (λ p. p.phase ≡ Idle) × (l.core.shape.block * l.core.shape.blocks ≡ 128) × (length l.core.passes ≡ 1)
