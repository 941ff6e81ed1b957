-- What is written of a text part by part, where a sink that has failed is written to no more.
use Rattle.std.specs.Prelude.{ℕ, ◌≡◌, List, Result, Ok, Err, IsErr, OnOk, OnErr}
use Rattle.vd_io.specs.declared.sink.Sink as sink
use Rattle.vd_io.specs.Streams.{WritesText}
use Rattle.vd_report.specs.Streams.{KeepsSink}
use Rattle.vd_law.specs.Counts.{Rose}

-- behind parts that were written with this result: a part is written, whole or a front of it, or nothing is after a failure
abbrev pub WritesNextPart : {E : Type 0} → (part : List ℕ) (before after : Result (Unit {0}) E) (written written' : List ℕ) → Type 0
WritesNextPart part (Ok done) after written written' = WritesText part after written written'
WritesNextPart part (Err e) after written written' = written' ≡ written

-- one more part of a text
pub record WritesOn {O E : Type 0} (o : sink.Ghosts O) (part : List ℕ) (before after : Result (Unit {0}) E) (out out' : O) : Type 0 where
  pub keeps : KeepsSink o out out'
  pub goes_on : o.tells out' → WritesNextPart part before after (o.written out) (o.written out')
  pub failed_still : OnErr before (IsErr after)
  pub cause : OnOk before (OnErr after (Rose (o.faults out) (o.faults out')))
