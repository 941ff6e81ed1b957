use Rattle.std.proofs.Common.{ℕ, [], length, sym, ap, ◌∙◌, arith}
use Rattle.vd_device.specs.Disks.{Disk}
use Rattle.vd_faults.specs.Choices.{asked, contents_at}
use Rattle.vd_faults.specs.Versions.{counts_in}
use Rattle.vd_faults.proofs.Choice.{asked-same, counted-fit, counts-same, target, after-target, image-chosen, chosen-each}
use Rattle.vd_faults.proofs.image.leave_image.Goals as goal

pub choose_all-requires : goal.choose_all-requires
choose_all-requires g c =
    let d : Disk = record { start = c.args.image.now.items; log = c.args.tape.now.log.entries; held = [] } in
    record { firm = counted-fit d c.count.new.all.items (c.count.ensures.size ∙ sym c.requires.same) c.count.ensures.written c.count.ensures.firm c.requires.short }

pub returns-clause-image : goal.returns-clause-image
returns-clause-image g c = λ held.
    let d : Disk = record { start = c.args.image.now.items; log = c.args.tape.now.log.entries; held = held } in
    let all = c.count.new.all.items in let size = c.count.ensures.size ∙ sym c.requires.same in
    let goal_of : ℕ → ℕ = target d all size c.count.ensures.written c.count.ensures.firm g.C.Chooser.choice c.args.chooser.now in
    image-chosen d all size c.count.ensures.written c.count.ensures.firm g.C.Chooser.choice c.args.chooser.now c.lay_all.new.image.items c.lay_all.ensures.image_size
    (c.lay_all.ensures.image goal_of
    (chosen-each g.C.Chooser.choice c.args.chooser.now all c.choose_all.new.all.items goal_of c.choose_all.ensures.size c.choose_all.ensures.each
    (after-target d all size c.count.ensures.written c.count.ensures.firm g.C.Chooser.choice c.args.chooser.now)))

pub returns-clause-asked : goal.returns-clause-asked
returns-clause-asked g c = λ held.
    let d : Disk = record { start = c.args.image.now.items; log = c.args.tape.now.log.entries; held = held } in
    let all = c.count.new.all.items in let size = c.count.ensures.size ∙ sym c.requires.same in
    c.choose_all.ensures.chooser
    ∙ ap (asked g.C.Chooser.choice c.args.chooser.now (counts_in all)) size
    ∙ asked-same g.C.Chooser.choice c.args.chooser.now (counts_in all) (contents_at d) (length c.args.image.now.items)
    (counts-same d all size c.count.ensures.written c.count.ensures.firm (length c.args.image.now.items) (omega arith))
