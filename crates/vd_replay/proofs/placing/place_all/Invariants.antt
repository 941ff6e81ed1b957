use Rattle.vd_replay.specs.Placing.{AreSized, IsPlaced, IsSpread}
use Rattle.vd_replay.proofs.placing.place_all.Given as goal

abbrev pub invariant-loop-chunk : goal.invariant-loop-chunk
invariant-loop-chunk l = record {
  sizes : AreSized l.shape l.table l.fresh;
  placed : IsPlaced l.map l.chunk l.table;
  spread : IsSpread l.map l.chunk l.fresh;
}
