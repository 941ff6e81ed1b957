use Rattle.std.proofs.Common.{◌≡◌, List, length, take}
use Rattle.std.specs.List.{list_any, flat_map}
use Rattle.vd_device.specs.Devices.{devices, AreReadOnly}
use Rattle.vd_report.specs.Outcomes.{ShownLine}
use Rattle.vd_report.specs.Ending.{has_failed, shown_text}
use Rattle.vd_report.specs.Writing.{WritesOn}
use Rattle.vd_run.specs.Reopening.{AreShownBy}
use Rattle.vd_run.proofs.reopening.put_shows.Given as goal

abbrev pub invariant-loop-at : goal.invariant-loop-at
invariant-loop-at g l = record {
  room : length l.room ≡ 2048;
  state : l.disk.state ≡ l.initial.disk.state;
  reads : AreReadOnly g.S.Store g.B.Base (devices l.initial.disk.store l.initial.disk.base) (devices l.disk.store l.disk.base);
  shown : List ShownLine;
  are : AreShownBy g.S.Store g.B.Base l.initial.disk.state.header (devices l.initial.disk.store l.initial.disk.base) (devices l.disk.store l.disk.base) (take l.at l.trace.shows) shown;
  failed : l.failed ≡ list_any has_failed shown;
  writes : WritesOn g.O.Sink (flat_map shown_text shown) l.initial.so_far l.so_far l.initial.out l.out;
}
