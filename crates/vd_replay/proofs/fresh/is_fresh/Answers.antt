use Rattle.vd_device.proofs.QuietLaws.{reads_twice}
use Rattle.vd_replay.proofs.fresh.is_fresh.Goals as goal

pub returns-in_err-free-clause-quiet : goal.returns-in_err-free-clause-quiet
returns-in_err-free-clause-quiet g c = reads_twice c.is_map_empty.ensures.quiet c.are_slots_free.ensures.quiet

pub returns-clause-quiet : goal.returns-clause-quiet
returns-clause-quiet g c = reads_twice c.is_map_empty.ensures.quiet c.are_slots_free.ensures.quiet
