use Rattle.vd_keeper.proofs.Joining.{IsAdopting}
use Rattle.vd_keeper.proofs.owing.adopt.Given as goal

abbrev pub invariant-loop-chunk : goal.invariant-loop-chunk
invariant-loop-chunk l = IsAdopting l.fn.owed l.owed l.fresh.bits l.stale.bits l.chunk
