use Rattle.std.proofs.Common.{◌≡◌, ◌+◌, ◌*◌, ◌^◌, ◌≤◌, take}
use Rattle.vd_law.specs.Entries.{past}
use Rattle.vd_law.specs.Calls.{progress}
use Rattle.vd_judge.specs.CallStates.{progress_of}
use Rattle.vd_judge.proofs.calls.progress.Given as goal

abbrev pub invariant-loop-i : goal.invariant-loop-i
invariant-loop-i l = record {
  state : progress_of l.state ≡ progress (past (take l.i l.log.entries)) l.id;
  bound : l.state.done + l.state.pending ≤ 2 ^ 64 * l.i;
}
