-- What a command leaves of the source that it reads and of the sink that it writes.
use Rattle.std.specs.Prelude.{ℕ, ◌≤◌}
use Rattle.vd_io.specs.declared.sink.Sink as sink
use Rattle.vd_io.specs.declared.source.Source as source

-- no count has fallen, and what it tells it told before
pub record KeepsSink {O : Type 0} (o : sink.Ghosts O) (out out' : O) : Type 0 where
  pub told_before : o.tells out' → o.tells out
  pub no_fewer_faults : o.faults out ≤ o.faults out'

pub record KeepsSource {I : Type 0} (i : source.Ghosts I) (source source' : I) : Type 0 where
  pub told_before : i.tells source' → i.tells source
  pub no_fewer_faults : i.faults source ≤ i.faults source'
