use Rattle.vd_image.proofs.Made.{made_opens, made_no_later, made_disk, some_header}
use Rattle.vd_image.proofs.new_image_opens.Goals as goal

pub returns : goal.returns
returns c = record { opens = made_opens; no_later = made_no_later; disk = made_disk; some = some_header }
