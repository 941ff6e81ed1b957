-- Room in a history, and what a step uses of it.
use Rattle.std.specs.Prelude.{ℕ, ◌≡◌, ◌+◌, ◌<◌, ◌≤◌, List, ◌++◌, length}
use Rattle.vd_law.specs.Histories.{HistoryState, last_number}

-- one more entry with so many sectors can be added, while the store has so many events
pub record CanAdd (sectors : ℕ) (history : HistoryState) (events : ℕ) : Type 0 where
  pub event : 0 < history.log.left.events
  pub sectors_fit : sectors ≤ history.log.left.sectors
  pub short : sectors ≤ 2048
  pub later : last_number history.opened history.numbers ≤ events

-- entries with these numbers, which have so many sectors, were added
pub record AddsEntries (more : List ℕ) (sectors : ℕ) (old new : HistoryState) : Type 0 where
  pub numbers : new.numbers ≡ old.numbers ++ more
  pub opened : new.opened ≡ old.opened
  pub room : new.log.room ≡ old.log.room
  pub events_left : new.log.left.events + length more ≡ old.log.left.events
  pub sectors_left : new.log.left.sectors + sectors ≡ old.log.left.sectors
