-- What the adding of an entry leaves of the room.
use Rattle.std.specs.Prelude.{◌≡◌, ◌+◌, length}
use Rattle.vd_law.specs.Entries.{Entry}
use Rattle.vd_law.specs.Logs.{LogState, content_of}

-- The entry took one event of the room that was left, and as many sectors as it tells. The room with which the log was made is the same.
pub record TakesRoom (entry : Entry) (log log' : LogState) : Type 0 where
  pub events : log'.left.events + 1 ≡ log.left.events
  pub sectors : log'.left.sectors + length (content_of entry) ≡ log.left.sectors
  pub room : log'.room ≡ log.room
