use Rattle.std.proofs.Common.{◌≡◌, take}
use Rattle.vd_bits.specs.Marks.{count_true}
use Rattle.vd_run.proofs.reopening.count_local.Given as goal

abbrev pub invariant-loop-block : goal.invariant-loop-block
invariant-loop-block l = l.local ≡ count_true (take l.block l.state.fresh.bits)
