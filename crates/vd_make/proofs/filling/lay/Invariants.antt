use Rattle.std.proofs.Common.{◌-◌, ◌≤◌}
use Rattle.vd_law.specs.declared.entry.Sector.{Sector}
use Rattle.vd_device.specs.Stores.{KeepsStore}
use Rattle.vd_device.specs.Quiet.{IsReady}
use Rattle.vd_make.specs.Putting.{AreAll, TriesWrites, IsRangeWritten}
use Rattle.vd_make.proofs.filling.lay.Given as goal

abbrev pub invariant-loop-at : goal.invariant-loop-at
invariant-loop-at g l = record {
  ready : IsReady g.S.Store l.store;
  keeps : KeepsStore g.S.Store l.fn.store l.store;
  lays : (v : Sector) → AreAll v l.content → g.S.Store.tells l.store → TriesWrites v l.from l.to (g.S.Store.disk l.fn.store) (g.S.Store.disk l.store);
  laid : (v : Sector) → AreAll v l.content → g.S.Store.tells l.store → IsRangeWritten v l.from l.at (g.S.Store.disk l.store);
  low : l.from ≤ l.at;
  high : l.at ≤ l.to;
}

abbrev pub decreases-loop-at : goal.decreases-loop-at
decreases-loop-at g l = l.to - l.at
