use Rattle.std.proofs.Common.{ap, sym, ◌∙◌}
use Rattle.vd_format.specs.Records.{slot_of}
use Rattle.vd_replay.proofs.JournalLaws.{said_other, said_facts, said_bad, replay_other, replay_facts, replay_bad}
use Rattle.vd_replay.proofs.journal.take_slot.Goals as goal

pub returns-in-Other-clause-replayed : goal.returns-in-Other-clause-replayed
returns-in-Other-clause-replayed c at pages is before =
    let said = said_other (slot_of c.args.shape.now c.args.sector.now) (sym c.read_record2.ensures.read ∙ c.in-Other.is) in
    replay_other c.args.shape.now at c.args.slot pages c.args.map.now c.args.next (ap (slot_of c.args.shape.now) is ∙ said) before

pub returns-in-Counts-clause-replayed : goal.returns-in-Counts-clause-replayed
returns-in-Counts-clause-replayed c at pages is before =
    let said = said_facts (slot_of c.args.shape.now c.args.sector.now) c.in-Counts.facts (sym c.read_record2.ensures.read ∙ c.in-Counts.is) in
    replay_facts c.args.shape.now at c.args.slot pages c.args.map.now c.apply.new.map c.args.next c.in-Counts.facts (ap (slot_of c.args.shape.now) is ∙ said) c.apply.ensures.put before

pub returns-in-Bad-clause-replayed : goal.returns-in-Bad-clause-replayed
returns-in-Bad-clause-replayed c at pages is before =
    let said = said_bad (slot_of c.args.shape.now c.args.sector.now) (sym c.read_record2.ensures.read ∙ c.in-Bad.is) in
    replay_bad c.args.shape.now at c.args.slot pages c.args.map.now c.args.next (ap (slot_of c.args.shape.now) is ∙ said) before
