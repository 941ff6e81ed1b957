use Rattle.vd_discard.proofs.Released.{releasing}
use Rattle.vd_discard.proofs.storage_is_released.Goals as goal

pub returns : goal.returns
returns c = releasing
