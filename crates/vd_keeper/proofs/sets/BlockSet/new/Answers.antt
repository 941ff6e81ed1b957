use Rattle.std.proofs.Common.{◌-◌, replicate, length, refl}
use Rattle.std.proofs.lemmas.List.{length-replicate}
use Rattle.vd_keeper.proofs.SetLaws.{new-marks}
use Rattle.vd_keeper.proofs.sets.BlockSet.new.Goals as goal

pub invariant_of-result : goal.invariant_of-result
invariant_of-result c =
    rw (c.in_ok-new.ensures, c.in_ok-new-2.ensures, c.from.ensures, c.from-2.ensures, c.from-3.ensures)
    (record { chunk = refl; some = c.requires.some; few = rw length-replicate c.ranges.blocks.fits; chunks = new-marks c.args.blocks c.args.chunk })
