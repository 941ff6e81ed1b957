use Rattle.std.proofs.Common.{refl}
use Rattle.vd_safety.proofs.Words.{secured-safe}
use Rattle.vd_safety.proofs.secured_is_crash_safe.Goals as goal

pub returns : goal.returns
returns c = λ h entries before held base disk s log is size inside. secured-safe h entries before held base disk s.history.opened s.table s.fresh s.keeping s.flusher s.passes s.history log is refl size inside
