use Rattle.vd_device.proofs.QuietLaws.{reads_twice}
use Rattle.vd_replay.proofs.FillingLaws.{bad_entry_read, bad_record_read}
use Rattle.vd_replay.proofs.state.State.read_entries.Goals as goal

pub returns-in-Ok-Ok-replay-clause-quiet : goal.returns-in-Ok-Ok-replay-clause-quiet
returns-in-Ok-Ok-replay-clause-quiet g c = reads_twice c.read_map.ensures.quiet c.replay.ensures.quiet

pub returns-in-Ok-Err-replay-clause-quiet : goal.returns-in-Ok-Err-replay-clause-quiet
returns-in-Ok-Err-replay-clause-quiet g c = reads_twice c.read_map.ensures.quiet c.replay.ensures.quiet

pub returns-in-Err-replay-clause-quiet : goal.returns-in-Err-replay-clause-quiet
returns-in-Err-replay-clause-quiet g c = reads_twice c.read_map.ensures.quiet c.replay.ensures.quiet

pub returns-in-Ok-Err-clause-wrong : goal.returns-in-Ok-Err-clause-wrong
returns-in-Ok-Err-clause-wrong g c told version found =
    bad_entry_read c.args.self.now.header (g.S.Store.disk c.read_map.new.store).held c.shape_of-shape.result c.layout_of-layout.result.spare_at c.read_map.new.pages c.in-Ok-Err.field-0 c.in-Ok-Err.bad
    c.shape_of-shape.ensures.shape c.layout_of-layout.ensures.map c.in-Ok-Err.field-0-is (c.in-Ok-Err.ensures.judged told) c.requires.sized.valid version found

pub returns-in-Ok-Err-replay-clause-wrong : goal.returns-in-Ok-Err-replay-clause-wrong
returns-in-Ok-Err-replay-clause-wrong g c told version found =
    bad_record_read c.args.self.now.header (g.S.Store.disk c.read_map.new.store).held (g.S.Store.disk c.replay.new.store).held c.shape_of-shape.result c.layout_of-layout.result.spare_at c.layout_of-layout.result.slots_at
    c.read_map.new.pages c.copy.new.map c.replay.new.map c.in-Ok-Ok.field-0 _ c.in-Ok-Err-replay.field-0 c.in-Ok-Err-replay.slot (c.replay.ensures.quiet.held told) c.shape_of-shape.ensures.shape c.layout_of-layout.ensures.map c.layout_of-layout.ensures.slots
    c.in-Ok-Ok.field-0-is (c.in-Ok-Ok.ensures.judged (c.replay.ensures.quiet.keeps.telling.told_before told)) c.in-Ok-Err-replay.field-0-is (c.in-Ok-Err-replay.ensures.replayed told) c.requires.sized.valid version found
