use Rattle.std.proofs.Common.{◌-◌, ◌≤◌, ◌≡◌, length}
use Rattle.std.specs.Prelude.{IfOk}
use Rattle.vd_device.specs.Quiet.{OnlyReads}
use Rattle.vd_replay.specs.Pages.{area_at}
use Rattle.vd_replay.specs.Journal.{AreTaken, Replayed}
use Rattle.vd_replay.proofs.journal.replay.Given as goal

abbrev pub invariant-loop-done : goal.invariant-loop-done
invariant-loop-done g l = record {
  quiet : OnlyReads g.S.Store l.fn.store l.store;
  most : l.done ≤ l.count;
  size : length l.map ≡ length l.fn.map;
  taken : IfOk l.so_far (λ next. AreTaken l.shape l.done next l.map);
  replayed : g.S.Store.tells l.store → Replayed l.shape (area_at (g.S.Store.disk l.store).held l.from) l.done l.fn.map l.map l.so_far;
}

abbrev pub decreases-loop-done : goal.decreases-loop-done
decreases-loop-done g l = l.count - l.done
