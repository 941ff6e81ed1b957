use Rattle.std.proofs.Common.{◌-◌, ◌*◌, take}
use Rattle.std.specs.List.{flat_map}
use Rattle.vd_format.specs.Entries.{entry_bytes}
use Rattle.vd_format.proofs.Bytes.{IsWritten}
use Rattle.vd_format.proofs.map.pages.page_of.Given as goal

abbrev pub invariant-loop-place : goal.invariant-loop-place
invariant-loop-place l = IsWritten l.sector.bytes (flat_map entry_bytes (take l.place l.entries)) (512 - 16 * l.place)
