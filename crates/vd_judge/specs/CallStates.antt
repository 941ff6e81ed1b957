-- What the code's state of a call stands for.
use Rattle.std.specs.Option.{option_map}
use Rattle.vd_judge.specs.declared.calls.CallState.{CallState}
use Rattle.vd_law.specs.Entries.{asked_of}
use Rattle.vd_law.specs.Calls.{Progress}

abbrev pub progress_of : CallState → Progress
progress_of state = record {
  asked = option_map asked_of state.asked;
  done = state.done;
  pending = state.pending;
  started = state.started;
  broken = state.broken;
  answered = state.answered;
}
