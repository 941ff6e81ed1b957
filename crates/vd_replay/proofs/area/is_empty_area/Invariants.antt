use Rattle.std.proofs.Common.{◌-◌, ◌≤◌}
use Rattle.vd_device.specs.Quiet.{OnlyReads}
use Rattle.vd_replay.specs.Looking.{IsEmptyPiece}
use Rattle.vd_replay.proofs.area.is_empty_area.Given as goal

abbrev pub invariant-loop-done : goal.invariant-loop-done
invariant-loop-done g l =
    OnlyReads g.S.Store l.fn.store l.store
    × (g.S.Store.tells l.store → IsEmptyPiece (g.S.Store.disk l.store).held l.from l.done l.bytes l.empty)
    × (l.done ≤ l.count)

abbrev pub decreases-loop-done : goal.decreases-loop-done
decreases-loop-done g l = l.count - l.done
