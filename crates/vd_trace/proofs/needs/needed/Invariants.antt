use Rattle.std.proofs.Common.{◌≡◌, ◌*◌, ◌^◌, ◌≤◌, take}
use Rattle.std.specs.Prelude.{sum_by}
use Rattle.vd_trace.specs.Keeping.{room_in}
use Rattle.vd_trace.proofs.needs.needed.Given as goal

abbrev pub invariant-loop-item : goal.invariant-loop-item
invariant-loop-item l = record {
  events : l.events ≡ sum_by (λ i. (room_in l.block i).events) (take l.item-index l.items);
  sectors : l.sectors ≡ sum_by (λ i. (room_in l.block i).sectors) (take l.item-index l.items);
  events_few : l.events ≤ 2 ^ 35 * l.item-index;
  sectors_few : l.sectors ≤ 2 ^ 35 * l.item-index;
}
