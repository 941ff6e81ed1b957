use Rattle.vd_crash.proofs.primitives.Keeping.{opening_keeps_all, primitive_keeps, kept_is_safe}
use Rattle.vd_crash.proofs.primitives.safety_is_kept.Goals as goal

pub returns : goal.returns
returns c = record { opening = opening_keeps_all; primitive = primitive_keeps; safe = kept_is_safe }
