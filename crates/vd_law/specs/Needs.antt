-- The room in a history that requests take.
use Rattle.std.specs.Prelude.{ℕ, ◌+◌, ◌-◌, ◌*◌, ◌/◌, ◌%◌, List, length, sum_by, Bool, true, false}
use Rattle.vd_law.specs.declared.entry.Room.{Room}
use Rattle.vd_law.specs.Entries.{Asked, Read, Write, Flush}

-- in how many blocks a range lies
abbrev pub pieces : (block first count : ℕ) → ℕ
pieces block first count = (first % block + count + (block - 1)) / block

-- the events of so many pieces: each of a read is seen, and each of a write is issued and ends
abbrev pub events_of : (write : Bool) → (pieces : ℕ) → ℕ
events_of true pieces = 2 * pieces
events_of false pieces = pieces

-- Each request is asked and answered. A read's sectors are told as they are seen,
abbrev pub read_room : (block first count : ℕ) → Room
read_room block first count = record { events = 2 + pieces block first count; sectors = count }

-- a write's as it is asked and as it is issued,
abbrev pub write_room : (block first count : ℕ) → Room
write_room block first count = record { events = 2 + 2 * pieces block first count; sectors = 2 * count }

-- and a flush tells none.
abbrev pub flush_room : Room
flush_room = record { events = 2; sectors = 0 }

abbrev pub request_room : (block : ℕ) → Asked → Room
request_room block (Read first count) = read_room block first count
request_room block (Write first content) = write_room block first (length content)
request_room block Flush = flush_room

-- all of them, one after the other
abbrev pub requests_room : (block : ℕ) → List Asked → Room
requests_room block requests = record { events = sum_by (λ r. (request_room block r).events) requests; sectors = sum_by (λ r. (request_room block r).sectors) requests }

-- how many sectors a request has
abbrev pub sectors_asked : Asked → ℕ
sectors_asked (Read first count) = count
sectors_asked (Write first content) = length content
sectors_asked Flush = 0
