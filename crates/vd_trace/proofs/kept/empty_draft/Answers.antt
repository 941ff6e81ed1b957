use Rattle.std.proofs.Common.{refl}
use Rattle.vd_trace.proofs.Verdicts.{empty-read}
use Rattle.vd_trace.proofs.kept.empty_draft.Goals as goal

pub returns-clause-read : goal.returns-clause-read
returns-clause-read c = empty-read _ c.new.ensures.items c.new-2.ensures.items c.new-3.ensures.items c.in_ok-places.ensures refl refl
