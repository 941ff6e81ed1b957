use Rattle.std.proofs.Common.{◌-◌}
use Rattle.vd_keeper.specs.Sets.{chunk_count}
use Rattle.vd_keeper.proofs.PageMarks.{IsMarking}
use Rattle.vd_keeper.proofs.flushing.mark_pages.Given as goal

abbrev pub invariant-loop-chunk : goal.invariant-loop-chunk
invariant-loop-chunk l = IsMarking l.set l.fn.marked l.marked l.at

abbrev pub decreases-loop-chunk : goal.decreases-loop-chunk
decreases-loop-chunk l = chunk_count l.set - l.at
