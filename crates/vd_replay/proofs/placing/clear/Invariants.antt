use Rattle.std.proofs.Common.{ℕ, ◌≡◌, ◌<◌, length, Some}
use Rattle.std.specs.Prelude.{slice_get}
use Rattle.vd_format.specs.Entries.{empty_entry}
use Rattle.vd_replay.proofs.placing.clear.Given as goal

abbrev pub invariant-loop-chunk : goal.invariant-loop-chunk
invariant-loop-chunk l = record {
  size : length l.map ≡ l.chunks;
  each : (i : ℕ) → i < l.chunk → slice_get l.map i ≡ Some empty_entry;
}
