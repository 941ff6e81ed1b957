-- What the fields of a tape stand for, and what holds of them.
use Rattle.std.specs.Prelude.{◌≡◌, ◌+◌, ◌≤◌, length, vec_capacity}
use Rattle.vd_faults.specs.declared.tape.Tape.TheInside.{Inside}
use Rattle.vd_faults.specs.Tapes.{TapeState}

abbrev pub tape_of : Inside → TapeState
tape_of t = record { log = t.log; origins = t.origins.items; sealed = t.sealed; fuse = t.fuse; over = t.over }

-- each entry has its origin, and the room for those of a whole log was reserved
pub record HasRoomForOrigins (t : Inside) : Type 0 where
  pub each : length t.origins.items ≡ length t.log.entries
  pub fits : length t.log.entries + t.log.left.events ≤ t.log.room.events
  pub reserved : t.log.room.events ≤ vec_capacity t.origins
