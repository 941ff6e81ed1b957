use Rattle.std.proofs.Common.{◌≡◌, ◌∙◌, ap, ℕ, ◌*◌, ◌/◌}
use Rattle.vd_format.specs.declared.header.Header.{Header}
use Rattle.vd_format.specs.Layouts.{blocks_of}
use Rattle.vd_passes.specs.declared.shape.Shape.{Shape}
use Rattle.core_rows.proofs.Runs.{each-idle}
use Rattle.core_rows.proofs.tests.opened.Goals as goal

-- such a disk has 128 sectors in its blocks
whole : (h : Header) → (h.block ≡ 8) × (h.size ≡ 128) → h.block * blocks_of h ≡ 128
whole h small = ap (λ (b : ℕ). b * (h.size / b)) small.0 ∙ ap (λ (n : ℕ). 8 * (n / 8)) small.1

pub returns-in-Ok-new-clause-size : goal.returns-in-Ok-new-clause-size
returns-in-Ok-new-clause-size g c =
    ap (λ (s : Shape). s.block * s.blocks) c.in-Ok-new.ensures.opened.shape_is ∙ whole c.in-Ok.state.header (c.is_small.ensures c.if-not-is_small.false)

pub returns-in-Ok-new-clause-idle : goal.returns-in-Ok-new-clause-idle
returns-in-Ok-new-clause-idle g c = each-idle c.in-Ok-new.core.passes c.in-Ok-new.ensures.opened.passes_are
