use Rattle.vd_image.proofs.Layouts.{parts_apart, parts_inside}
use Rattle.vd_image.proofs.parts_lie_apart.Goals as goal

pub returns : goal.returns
returns c = record { apart = parts_apart; inside = parts_inside }
