use Rattle.std.proofs.Common.{◌-◌, ◌≤◌, ◌≡◌, length}
use Rattle.vd_device.specs.Quiet.{OnlyReads, OnlyReadsBase}
use Rattle.vd_replay.specs.Disks.{AreShown, HasLocal, HasOfBase}
use Rattle.vd_replay.proofs.disk.read_disk.Given as goal

abbrev pub invariant-loop-done : goal.invariant-loop-done
invariant-loop-done g l = record {
  quiet : OnlyReads g.S.Store l.fn.store l.store;
  base_quiet : OnlyReadsBase g.B.Base l.fn.base l.base;
  store_same : (HasLocal l.state l.first (length l.fn.out) → ⊥) → l.store ≡ l.fn.store;
  base_same : (HasOfBase l.state (g.B.Base.sectors l.fn.base) l.first (length l.fn.out) → ⊥) → l.base ≡ l.fn.base;
  size : length l.out ≡ length l.fn.out;
  most : l.done ≤ length l.out;
  shown : g.S.Store.tells l.store → g.B.Base.tells l.base → AreShown (g.S.Store.disk l.store).held (g.B.Base.content l.base) l.state l.first l.done l.out;
}

abbrev pub decreases-loop-done : goal.decreases-loop-done
decreases-loop-done g l = length l.initial.out - l.done
