-- How far the last call of a pass has come, by the history.
use Rattle.std.specs.Prelude.{ℕ, List}
use Rattle.vd_law.specs.declared.entry.CallId.{CallId}
use Rattle.vd_law.specs.Entries.{Entry, past}
use Rattle.vd_law.specs.Calls.{Progress, progress, last_call}

pub record Standing : Type 0 where
  -- the number of the last call, 0 before the first
  pub call : ℕ
  pub progress : Progress

abbrev pub last_id : List Entry → ℕ → CallId
last_id log i = record { pass = i; call = last_call (past log) i }

unfoldable pub standing : List Entry → ℕ → Standing
standing log i = record { call = last_call (past log) i; progress = progress (past log) (last_id log i) }
