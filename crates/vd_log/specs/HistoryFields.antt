-- What the fields of a history stand for, and what holds of them.
use Rattle.std.specs.Prelude.{◌≡◌, ◌+◌, ◌≤◌, length, vec_capacity}
use Rattle.std.specs.List.{All}
use Rattle.vd_log.specs.declared.history.History.TheInside.{Inside}
use Rattle.vd_law.specs.Logs.{IsShort}
use Rattle.vd_law.specs.Histories.{HistoryState, IsRising}

abbrev pub history_state : Inside → HistoryState
history_state history = record { log = history.log; numbers = history.numbers.items; opened = history.opened }

-- each entry has a number and is short, the numbers never fall, and the room for those to come was reserved
pub record IsNumbered (history : Inside) : Type 0 where
  pub each : length history.numbers.items ≡ length history.log.entries
  pub short : All IsShort history.log.entries
  pub rising : IsRising history.opened history.numbers.items
  pub reserved : length history.numbers.items + history.log.left.events ≤ vec_capacity history.numbers
