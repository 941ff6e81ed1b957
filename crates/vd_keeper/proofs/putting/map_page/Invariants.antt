use Rattle.std.proofs.Common.{◌≡◌, length, map, take}
use Rattle.std.specs.List.{range_with_len}
use Rattle.vd_keeper.specs.Entries.{union_of, map_entry}
use Rattle.vd_keeper.proofs.putting.map_page.Given as goal

abbrev pub invariant-loop-place : goal.invariant-loop-place
invariant-loop-place l = (length l.entries ≡ 32) × (take l.place l.entries ≡ map (map_entry l.header l.table (union_of l.stale.bits l.snapshot.bits)) (range_with_len l.first l.place))
