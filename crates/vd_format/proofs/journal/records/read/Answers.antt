use Rattle.std.proofs.Common.{◌≡◌, List, true, false, Option, Some, None, sym, ap, ◌∙◌}
use Rattle.std.proofs.lemmas.Bool.{cond-true, cond-false}
use Rattle.vd_law.specs.declared.entry.Sector.{Sector}
use Rattle.vd_format.specs.declared.journal.Fact2.{Fact2}
use Rattle.vd_format.specs.declared.map.Shape2.{Shape2}
use Rattle.vd_format.specs.Records.{Nothing, slot_of}
use Rattle.vd_format.specs.SlotReading.{slot_for, said_for, slot_counts, record_facts}
use Rattle.vd_format.proofs.SlotReading.{slot_of-in}
use Rattle.vd_format.proofs.journal.records.read.Goals as goal

passed_over : (shape : Shape2) (sector : Sector) → slot_counts shape sector.bytes ≡ false → slot_of shape sector ≡ Nothing
passed_over shape sector none = slot_of-in shape sector ∙ cond-false (slot_counts shape sector.bytes) (said_for (record_facts shape sector.bytes)) Nothing none

counted : (shape : Shape2) (sector : Sector) (facts : Option (List Fact2)) → slot_counts shape sector.bytes ≡ true → record_facts shape sector.bytes ≡ facts → slot_of shape sector ≡ said_for facts
counted shape sector facts counts read = slot_of-in shape sector ∙ cond-true (slot_counts shape sector.bytes) (said_for (record_facts shape sector.bytes)) Nothing counts ∙ ap said_for read

pub returns-then-not-counts-clause-read : goal.returns-then-not-counts-clause-read
returns-then-not-counts-clause-read c =
    let sector : Sector = record { bytes = c.args.bytes.now } in
    sym (ap slot_for (passed_over c.args.shape.now sector (sym c.counts.ensures ∙ c.if-not-counts.true)))

pub returns-in-Some-clause-read : goal.returns-in-Some-clause-read
returns-in-Some-clause-read c =
    let sector : Sector = record { bytes = c.args.bytes.now } in
    sym (ap slot_for (counted c.args.shape.now sector (Some c.in-Some.facts) (sym c.counts.ensures ∙ c.if-not-counts.false) (sym c.record_facts.ensures ∙ c.in-Some.is)))

pub returns-in-None-clause-read : goal.returns-in-None-clause-read
returns-in-None-clause-read c =
    let sector : Sector = record { bytes = c.args.bytes.now } in
    sym (ap slot_for (counted c.args.shape.now sector None (sym c.counts.ensures ∙ c.if-not-counts.false) (sym c.record_facts.ensures ∙ c.in-None.is)))
