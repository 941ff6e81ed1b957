use Rattle.vd_safety.proofs.Held.{held-sound}
use Rattle.vd_safety.proofs.secured_image_opens_again.Goals as goal

pub returns : goal.returns
returns c = λ h entries before held base disk opened s log now. held-sound h entries before held base disk opened s.table s.fresh s.keeping s.flusher s.passes s.history log now
