use Rattle.std.proofs.Common.{refl}
use Rattle.vd_replay.proofs.DiskLaws.{first_of_run, next_of_run}
use Rattle.vd_replay.proofs.disk.run_from.Goals as goal

pub loop-count-init : goal.loop-count-init
loop-count-init c = first_of_run c.args.state.now c.args.first c.args.source c.requires.source

pub loop-count-preserved : goal.loop-count-preserved
loop-count-preserved c = next_of_run c.args.state.now c.args.first c.loop-count.count c.args.source c.further.result c.loop-count.invariant c.further.ensures (c.if-not-comes_from.ensures refl)
