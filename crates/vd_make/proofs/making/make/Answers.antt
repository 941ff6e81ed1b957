use Rattle.std.proofs.Common.{◌≡◌, length, refl, ap, ◌∙◌, subst, arith}
use Rattle.vd_report.specs.declared.line.Line.TheVariants.{NoMemory, TooSmall, StoreFault, Made}
use Rattle.vd_report.specs.Outcomes.{Says}
use Rattle.vd_make.specs.Making.{Too_few, Lacks_memory, Write_failed, Is_made}
use Rattle.vd_report.specs.declared.line.Line.{Line}
use Rattle.vd_format.specs.Layouts.{store_need}
use Rattle.vd_device.proofs.QuietLaws.{reads_nothing}
use Rattle.vd_report.specs.Ending.{PrintsOutcome}
use Rattle.vd_make.proofs.StoryLaws.{all_filled, zero_is}
use Rattle.vd_make.proofs.CrashLaws.{nothing_safe, story_safe, story_size, story_start, written_new}
use Rattle.vd_make.proofs.making.make.Goals as goal
use Rattle.vd_make.proofs.EndLaws.{no_whole}
use Rattle.vd_format.specs.Background.{zero_sector}

pub returns-then-have-need-clause-makes : goal.returns-then-have-need-clause-makes
returns-then-have-need-clause-makes g c = record { safe = λ told recorded. nothing_safe _ _; made = λ whole told recorded. absurd (no_whole 1 refl (λ e. cc) c.say.ensures.ends whole) }

pub returns-then-have-need-clause-answer : goal.returns-then-have-need-clause-answer
returns-then-have-need-clause-answer g c =
    let need = c.layout_of-need.ensures.need in
    let have = c.sectors_to_write-have.ensures.value in
    let small = c.if-have-need.true in
    let line : TooSmall c.layout_of-need.result.need c.sectors_to_write-have.result ≡ TooSmall (store_need c.args.header.now) (g.S.Store.sectors c.args.store.now) = cc in (
      Says (TooSmall (store_need c.args.header.now) (g.S.Store.sectors c.args.store.now)),
      Too_few (omega (arith, need, have, small)) (reads_nothing c.sectors_to_write-have.ensures.ready),
      subst (λ (l : Line). PrintsOutcome g.O.Sink (Says l) c.say.result c.args.out.now c.say.new.out) line c.say.ensures.ends,
    )

pub returns-in_default-clause-makes : goal.returns-in_default-clause-makes
returns-in_default-clause-makes g c = record { safe = λ told recorded. nothing_safe _ _; made = λ whole told recorded. absurd (no_whole 5 refl (λ e. cc) c.say-in_default.ensures.ends whole) }

pub returns-in_default-clause-answer : goal.returns-in_default-clause-answer
returns-in_default-clause-answer g c =
    let need = c.layout_of-need.ensures.need in
    let have = c.sectors_to_write-have.ensures.value in
    let large = c.if-have-need.false in
    (Says NoMemory, Lacks_memory (omega (arith, need, have, large)) (reads_nothing c.sectors_to_write-have.ensures.ready), c.say-in_default.ensures.ends)

pub write_image-requires-clause-zeros : goal.write_image-requires-clause-zeros
write_image-requires-clause-zeros g c =
    (all_filled zero_sector c.filled.result 2048 _ _ (zero_is _ c.filled.ensures) c.as_slice.ensures.value (c.in-Ok.ensures.items_if_clones_equal (λ y same. same)), c.as_slice.ensures.len ∙ c.in-Ok.ensures.len)

pub returns-in-Ok-write_image-clause-makes : goal.returns-in-Ok-write_image-clause-makes
returns-in-Ok-write_image-clause-makes g c =
    let need = c.layout_of-need.ensures.need in
    let large = c.if-have-need.false in
    let before = c.write_image.ensures.keeps.telling in record {
      safe = λ told recorded. (
          let start = c.sectors_to_write-have.ensures.start (before.recorded_before recorded) in
          story_safe _ _ _ c.requires.valid c.requires.version (omega (arith, need, large, start)) (c.write_image.ensures.story told));
      made = λ whole told recorded. (
          let start = c.sectors_to_write-have.ensures.start (before.recorded_before recorded) in
          let held = c.sectors_to_write-have.ensures.held (before.told_before told) in
          let story = c.write_image.ensures.story told in
          let same_start = ap length (story_start _ _ _ _ _ story) in
          let same_held = story_size _ _ _ _ _ story in
          written_new _ _ c.requires.valid c.requires.version (omega (arith, need, large, start, same_start)) (omega (arith, need, large, held, same_held)) (c.in-Ok-write_image.ensures.written told));
    }

pub returns-in-Ok-write_image-clause-answer : goal.returns-in-Ok-write_image-clause-answer
returns-in-Ok-write_image-clause-answer g c =
    let need = c.layout_of-need.ensures.need in
    let have = c.sectors_to_write-have.ensures.value in
    let large = c.if-have-need.false in (
      Says (Made (store_need c.args.header.now)),
      Is_made (omega (arith, need, have, large)),
      subst (λ (l : Line). PrintsOutcome g.O.Sink (Says l) c.say-in-Ok-write_image.result c.args.out.now c.say-in-Ok-write_image.new.out) (ap Made need) c.say-in-Ok-write_image.ensures.ends,
    )

pub returns-clause-makes : goal.returns-clause-makes
returns-clause-makes g c =
    let need = c.layout_of-need.ensures.need in
    let large = c.if-have-need.false in record {
      safe = λ told recorded. (
          let start = c.sectors_to_write-have.ensures.start (c.write_image.ensures.keeps.telling.recorded_before recorded) in
          story_safe _ _ _ c.requires.valid c.requires.version (omega (arith, need, large, start)) (c.write_image.ensures.story told));
      made = λ whole told recorded. absurd (no_whole 3 refl (λ e. cc) c.say-in-Err.ensures.ends whole);
    }

pub returns-clause-answer : goal.returns-clause-answer
returns-clause-answer g c =
    let need = c.layout_of-need.ensures.need in
    let have = c.sectors_to_write-have.ensures.value in
    let large = c.if-have-need.false in
    (Says (StoreFault c.in-Err.ticket), Write_failed c.in-Err.ticket (omega (arith, need, have, large)) c.in-Err.ensures.fault, c.say-in-Err.ensures.ends)
