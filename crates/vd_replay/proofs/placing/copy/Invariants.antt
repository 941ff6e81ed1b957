use Rattle.std.proofs.Common.{ℕ, ◌≡◌, ◌<◌, length}
use Rattle.std.specs.Prelude.{slice_get}
use Rattle.vd_replay.proofs.placing.copy.Given as goal

abbrev pub invariant-loop-chunk : goal.invariant-loop-chunk
invariant-loop-chunk l = record {
  size : length l.map ≡ l.chunks;
  each : (i : ℕ) → i < l.chunk → slice_get l.map i ≡ slice_get l.other i;
}
