use Rattle.std.proofs.Common.{◌≡◌, ◌≤◌, take}
use Rattle.vd_law.specs.Entries.{past}
use Rattle.vd_judge.specs.ContentStates.{track_of, count_and_open}
use Rattle.vd_judge.proofs.contents.find_track.Given as goal

abbrev pub invariant-loop-i : goal.invariant-loop-i
invariant-loop-i l = record {
  track : track_of l.track ≡ count_and_open (past (take l.i l.log.entries)) l.id l.s;
  bound : l.track.written ≤ l.i;
}
