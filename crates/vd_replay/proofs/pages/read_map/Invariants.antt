use Rattle.std.proofs.Common.{◌-◌, ◌≤◌, ◌≡◌, length}
use Rattle.std.specs.Prelude.{OnOk}
use Rattle.vd_device.specs.Quiet.{OnlyReads}
use Rattle.vd_replay.specs.Pages.{area_at, chunks_in, Judged, AreEntries}
use Rattle.vd_replay.proofs.pages.read_map.Given as goal

abbrev pub invariant-loop-done : goal.invariant-loop-done
invariant-loop-done g l = record {
  quiet : OnlyReads g.S.Store l.fn.store l.store;
  most : l.done ≤ l.count;
  size : length l.pages ≡ length l.fn.pages;
  grammar : OnOk l.judged (AreEntries l.shape (chunks_in l.shape l.done) l.pages);
  judged : g.S.Store.tells l.store → Judged l.shape (area_at (g.S.Store.disk l.store).held l.from) (chunks_in l.shape l.done) l.pages l.judged;
}

abbrev pub decreases-loop-done : goal.decreases-loop-done
decreases-loop-done g l = l.count - l.done
