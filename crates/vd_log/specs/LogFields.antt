-- What the fields of a log stand for, and what holds of them.
use Rattle.std.specs.Prelude.{◌+◌, ◌-◌, ◌≤◌, length, map, vec_capacity}
use Rattle.std.specs.List.{All}
use Rattle.vd_log.specs.declared.log.Log.TheInside.{Inside}
use Rattle.vd_law.specs.Logs.{LogState, IsShort}
use Rattle.vd_log.specs.StoredEntries.{entry_in, HasContentWithin, IsShared}

abbrev pub log_state : Inside → LogState
log_state log = record {
  entries = map (entry_in log.sectors.items) log.stored.items;
  left = record { events = log.room.events - length log.stored.items; sectors = log.room.sectors - log.told };
  room = log.room;
}

-- the room was reserved, each entry is short, and each content stands among the sectors, of which there are at most as many as
-- were told and as runs may have beside
pub record IsSoundLog (log : Inside) : Type 0 where
  pub events : length log.stored.items ≤ log.room.events
  pub sectors : length log.sectors.items + log.shared.spare ≤ log.told + 16384
  pub told : log.told ≤ log.room.sectors
  pub shared : IsShared log.sectors.items log.shared
  pub events_reserved : log.room.events ≤ vec_capacity log.stored
  pub sectors_reserved : log.room.sectors + 16384 ≤ vec_capacity log.sectors
  pub within : All (HasContentWithin (length log.sectors.items)) log.stored.items
  pub short : All IsShort (log_state log).entries
