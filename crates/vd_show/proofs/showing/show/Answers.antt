use Rattle.std.proofs.Common.{ap, length, ◌∙◌, ◌≡◌}
use Rattle.vd_report.specs.declared.line.Line.TheVariants.{NoMemory}
use Rattle.vd_device.proofs.QuietLaws.{reads_nothing, base_reads_nothing}
use Rattle.vd_report.specs.Outcomes.{Says}
use Rattle.vd_show.specs.Showing.{Without_memory}
use Rattle.vd_show.proofs.ShowLaws.{found_many, whole_room, ends_shown}
use Rattle.vd_show.proofs.showing.show.Goals as goal

pub returns-in_default-clause-reads : goal.returns-in_default-clause-reads
returns-in_default-clause-reads g c = record { store = reads_nothing c.sectors_at_rest-sectors.ensures.ready; base = base_reads_nothing c.requires.base_idle }

pub returns-in_default-clause-answer : goal.returns-in_default-clause-answer
returns-in_default-clause-answer g c = (Says NoMemory, Without_memory, c.say.ensures.ends)

pub returns-in-Ok-find_sectors-clause-answer : goal.returns-in-Ok-find_sectors-clause-answer
returns-in-Ok-find_sectors-clause-answer g c =
    let many : length c.as_mut_slice.result.now ≡ c.args.count = c.as_mut_slice.ensures.len ∙ c.in-Ok.ensures.len in
    let same = whole_room c.in-Ok.room.len c.find_sectors.new.room c.in-Ok.room.items (c.find_sectors.auto.room ∙ ap length c.as_mut_slice.ensures.value) c.in-Ok.room.ok.0 in
    (_, found_many many c.in-Ok-find_sectors.ensures.found, ends_shown _ c.as_slice.result.now c.find_sectors.new.room (c.as_slice.ensures.value ∙ same) c.print_sectors.ensures.ends)

pub returns-clause-answer : goal.returns-clause-answer
returns-clause-answer g c =
    let many : length c.as_mut_slice.result.now ≡ c.args.count = c.as_mut_slice.ensures.len ∙ c.in-Ok.ensures.len in
    (_, found_many many c.in-Err.ensures.found, c.say-in-Err.ensures.ends)
