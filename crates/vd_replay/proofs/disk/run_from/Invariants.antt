use Rattle.std.proofs.Common.{ℕ, ◌+◌, ◌<◌}
use Rattle.vd_replay.specs.Disks.{IsSource, source_further_on}
use Rattle.vd_replay.proofs.disk.run_from.Given as goal

abbrev pub invariant-loop-count : goal.invariant-loop-count
invariant-loop-count l = (i : ℕ) → i < l.count → IsSource l.state (l.first + i) (source_further_on l.source i)
