use Rattle.std.proofs.Common.{sym, ap, ◌∙◌}
use Rattle.vd_format.specs.declared.header.Header.{Header}
use Rattle.vd_image.specs.Image.{geometry_of}
use Rattle.vd_core.proofs.state.Core.header.Goals as goal

pub returns-clause-same : goal.returns-clause-same
returns-clause-same g c = rw (sym c.self.view_is) (ap (λ (h : Header). geometry_of h) c.header.ensures.header ∙ c.self.invariant.0.sound.metadata.same)
