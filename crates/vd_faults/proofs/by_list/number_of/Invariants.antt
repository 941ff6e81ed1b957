use Rattle.std.proofs.Common.{◌≡◌, drop}
use Rattle.vd_faults.specs.Choices.{listed}
use Rattle.vd_faults.proofs.by_list.number_of.Given as goal

abbrev pub invariant-loop-place : goal.invariant-loop-place
invariant-loop-place l = listed (drop l.place-index l.pairs) l.sector ≡ listed l.pairs l.sector
