use Rattle.std.proofs.Common.{arith}
use Rattle.vd_law.specs.Entries.{Past}
use Rattle.vd_judge.specs.ContentStates.{count_and_open}
use Rattle.vd_law.proofs.Going.{going_on}
use Rattle.vd_judge.proofs.contents.find_track.Goals as goal

pub loop-i-preserved : goal.loop-i-preserved
loop-i-preserved c = record {
  track = going_on (λ (p : Past). count_and_open p c.args.id c.args.s) c.args.log.now.entries c.loop-i.i _ _ _ c.event.ensures c.track_with-track.ensures.track c.loop-i.invariant.track;
  bound = omega (arith, c.track_with-track.ensures.bound, c.loop-i.invariant.bound);
}
