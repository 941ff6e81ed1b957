use Rattle.vd_device.proofs.QuietLaws.{reads_twice}
use Rattle.vd_replay.proofs.fresh.is_map_empty.Goals as goal

pub returns-in_err-bits-clause-quiet : goal.returns-in_err-bits-clause-quiet
returns-in_err-bits-clause-quiet g c = reads_twice c.is_empty_area.ensures.quiet c.is_empty_area-2.ensures.quiet

pub returns-clause-quiet : goal.returns-clause-quiet
returns-clause-quiet g c = reads_twice c.is_empty_area.ensures.quiet c.is_empty_area-2.ensures.quiet
