use Rattle.vd_image.proofs.Exact as laws
use Rattle.vd_image.proofs.may_is_exact.Goals as goal

pub returns : goal.returns
returns c = record { some = laws.some_image; exact = laws.may_is_exact }
