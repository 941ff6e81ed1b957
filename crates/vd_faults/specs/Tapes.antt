-- A log that stops where it has no room.
use Rattle.std.specs.Prelude.{ℕ, ◌+◌, ◌-◌, ◌^◌, min, max, Bool, false, not, ◌&&◌, ◌==◌, nat_le, nat_lt, List, [], ◌∷◌, ◌++◌, length, Option, Some, None, if◌then◌else◌, slice_get}
use Rattle.std.specs.Option.{option_map_or}
use Rattle.vd_law.specs.declared.entry.Sector.{Sector}
use Rattle.vd_law.specs.declared.entry.Room.{Room}
use Rattle.vd_law.specs.Entries.{Entry, Ask, Issue, Done, Broke, Seen, Reply}
use Rattle.vd_law.specs.Logs.{LogState, content_of}
use Rattle.vd_law.specs.Rules.{is_ok}
use Rattle.vd_device.specs.Calls.{next_number}

-- The log; for each of its entries the place of the entry with which its call began; how many entries stood before the Ask of
-- that flush which was asked last, of those that are done; how many entries a fuse lets it have; and how many calls came since
-- it stopped, the one that stopped it among them.
pub record TapeState : Type 0 where
  pub log : LogState
  pub origins : List ℕ
  pub sealed : ℕ
  pub fuse : Option ℕ
  pub over : ℕ

-- an empty tape that goes on
abbrev pub blank : Room → TapeState
blank room = record { log = record { entries = []; left = room; room = room }; origins = []; sealed = 0; fuse = None; over = 0 }

-- the fuse is through
abbrev pub is_blown : Option ℕ → List Entry → Bool
is_blown None entries = false
is_blown (Some most) entries = nat_le most (length entries)

-- it hasn't stopped, and isn't stopped by the fuse in its next call
abbrev pub runs_on : LogState → (fuse : Option ℕ) (over : ℕ) → Bool
runs_on log fuse over = (over == 0) && not (is_blown fuse log.entries)

-- the entry can be added: there is room for it and for its sectors
abbrev pub takes : LogState → (fuse : Option ℕ) (over : ℕ) → Entry → Bool
takes log fuse over e =
    runs_on log fuse over && (nat_lt 0 log.left.events && nat_le (length (content_of e)) log.left.sectors)

abbrev pub added : Entry → LogState → LogState
added e log = record {
  entries = log.entries ++ e ∷ [];
  left = record { events = log.left.events - 1; sectors = log.left.sectors - length (content_of e) };
  room = log.room;
}

-- How many events it tells: those of its log, and the calls since it stopped.
abbrev pub events_told : LogState → (over : ℕ) → ℕ
events_told log over = min (length log.entries + over) (2 ^ 64 - 1)

-- what a further entry, whose call began at this place, makes of that number: in a store's log flushes alone are answered Ok
abbrev pub sealed_by : Entry → (origin sealed : ℕ) → ℕ
sealed_by (Ask id request) origin sealed = sealed
sealed_by (Issue id first content) origin sealed = sealed
sealed_by (Done id) origin sealed = sealed
sealed_by (Broke id) origin sealed = sealed
sealed_by (Seen id first content) origin sealed = sealed
sealed_by (Reply id answer) origin sealed = if is_ok answer then max sealed origin else sealed

abbrev pub lengthened : Entry → (origin : ℕ) → TapeState → TapeState
lengthened e origin tape = record tape {
  log = added e tape.log;
  origins = tape.origins ++ origin ∷ [];
  sealed = sealed_by e origin tape.sealed;
}

-- the tape after a call with this entry: it was added, or the tape stopped
abbrev pub taped : Entry → (origin : ℕ) → TapeState → TapeState
taped e origin tape =
    if takes tape.log tape.fuse tape.over e then lengthened e origin tape else record tape { over = next_number tape.over }

-- the content that the entry at this place tells
abbrev pub content_at : List Entry → ℕ → List Sector
content_at entries place = option_map_or content_of (slice_get entries place) []
