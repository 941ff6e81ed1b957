use Rattle.std.proofs.Common.{◌∙◌}
use Rattle.vd_trace.specs.Keeping.{work_of}
use Rattle.vd_trace.proofs.Pieces.{asks-written}
use Rattle.vd_trace.proofs.printing.put_item.Goals as goal

pub returns-clause-writes : goal.returns-clause-writes
returns-clause-writes g c =
    rw (← asks-written c.args.item.guest (work_of c.args.sectors.now c.args.item.work) c.push_number.new.text.items c.push_word.new.text.items c.push_work.new.text.items c.as_slice.result.now
    (rw (c.new-text.ensures, c.from.ensures) at c.push_number.ensures.items) c.push_word.ensures.items c.push_work.ensures.items (c.as_slice.ensures.value ∙ c.push_word-2.ensures.items)) c.write.ensures.writes
