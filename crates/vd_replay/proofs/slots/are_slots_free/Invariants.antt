use Rattle.std.proofs.Common.{◌-◌, ◌≤◌}
use Rattle.vd_device.specs.Quiet.{OnlyReads}
use Rattle.vd_replay.specs.Looking.{IsFreePiece}
use Rattle.vd_replay.proofs.slots.are_slots_free.Given as goal

abbrev pub invariant-loop-done : goal.invariant-loop-done
invariant-loop-done g l =
    OnlyReads g.S.Store l.fn.store l.store
    × (g.S.Store.tells l.store → IsFreePiece (g.S.Store.disk l.store).held l.from l.done l.version l.generation l.free)
    × (l.done ≤ l.count)

abbrev pub decreases-loop-done : goal.decreases-loop-done
decreases-loop-done g l = l.count - l.done
