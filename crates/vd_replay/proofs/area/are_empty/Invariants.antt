use Rattle.std.proofs.Common.{◌≡◌, drop}
use Rattle.vd_replay.specs.Fresh.{are_empty}
use Rattle.vd_replay.proofs.area.are_empty.Given as goal

abbrev pub invariant-loop-sector : goal.invariant-loop-sector
invariant-loop-sector l = are_empty l.bytes l.sectors ≡ are_empty l.left (drop l.sector-index l.sectors)
