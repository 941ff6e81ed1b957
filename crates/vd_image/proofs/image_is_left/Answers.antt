use Rattle.vd_image.proofs.CrashImages.{list_is_left}
use Rattle.vd_image.proofs.image_is_left.Goals as goal

pub returns : goal.returns
returns c = list_is_left
