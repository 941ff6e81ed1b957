use Rattle.vd_image.proofs.Openings.{opens_not_refused, opening_refused_for_one, opens_or_refused, sound_opens, opens_sound}
use Rattle.vd_image.proofs.sound_is_not_refused.Goals as goal

pub returns : goal.returns
returns c = record { not_both = opens_not_refused; one = opening_refused_for_one; either = opens_or_refused; sound = sound_opens; opens = opens_sound }
