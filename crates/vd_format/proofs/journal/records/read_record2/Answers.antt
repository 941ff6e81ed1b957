use Rattle.std.proofs.Common.{sym, ap, ◌∙◌, arith}
use Rattle.vd_format.specs.Records.{slot_of}
use Rattle.vd_format.proofs.Slots.{slot_of-facts, slot_of-nothing, slot_of-outside}
use Rattle.vd_format.specs.SlotReading.{slot_for}
use Rattle.vd_format.proofs.SlotReading.{for_facts, for_nothing, for_outside}
use Rattle.vd_format.proofs.journal.records.read_record2.Goals as goal

pub returns-clause-counts : goal.returns-clause-counts
returns-clause-counts c facts =
    let law = slot_of-facts c.args.shape.now c.args.sector.now facts c.read.ensures.small c.read.ensures.fits (omega arith) in
    (λ told. law.0 (for_facts (slot_of c.args.shape.now c.args.sector.now) facts (sym c.read.ensures.read ∙ told)), λ spells. c.read.ensures.read ∙ ap slot_for (law.1 spells))

pub returns-clause-other : goal.returns-clause-other
returns-clause-other c =
    let law = slot_of-nothing c.args.shape.now c.args.sector.now in
    (λ told. law.0 (for_nothing (slot_of c.args.shape.now c.args.sector.now) (sym c.read.ensures.read ∙ told)), λ none. c.read.ensures.read ∙ ap slot_for (law.1 none))

pub returns-clause-bad : goal.returns-clause-bad
returns-clause-bad c =
    let law = slot_of-outside c.args.shape.now c.args.sector.now c.read.ensures.small c.read.ensures.fits (omega arith) in
    (λ told. law.0 (for_outside (slot_of c.args.shape.now c.args.sector.now) (sym c.read.ensures.read ∙ told)), λ outside. c.read.ensures.read ∙ ap slot_for (law.1 outside))
