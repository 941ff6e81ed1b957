-- A store in memory, and what its calls make of it.
use Rattle.std.specs.Prelude.{ℕ, ◌≡◌, ◌+◌, ◌-◌, Bool, false, not, ◌&&◌, List, [], ◌++◌, length, map, take, drop, slice_range, Option, Some, None, if◌then◌else◌}
use Rattle.std.specs.List.{filter, list_any}
use Rattle.vd_law.specs.declared.entry.Sector.{Sector}
use Rattle.vd_law.specs.declared.entry.Room.{Room}
use Rattle.vd_law.specs.Entries.{Entry}
use Rattle.vd_law.specs.Logs.{LogState}
use Rattle.vd_device.specs.declared.ticket.Ticket.{Ticket}
use Rattle.vd_device.specs.declared.ticket.Kind.{Kind}
use Rattle.vd_device.specs.declared.ticket.Kind.TheVariants.{Read, Write, Flush}
use Rattle.vd_device.specs.declared.settled.Settled.{Settled}
use Rattle.vd_device.specs.declared.settled.Settled.TheVariants.{Done, NotYet, Failed}
use Rattle.vd_device.specs.Calls.{next_number, done_entry, failed_entry}
use Rattle.vd_device.specs.Disks.{Disk}
use Rattle.vd_faults.specs.declared.rule.Keep.{Keep}
use Rattle.vd_faults.specs.declared.rule.Keep.TheVariants.{Old, New}
use Rattle.vd_faults.specs.declared.rule.Rule.{Rule}
use Rattle.vd_faults.specs.Rules.{holds, holds_spent, polled, outlives, fault_of}
use Rattle.vd_faults.specs.Tapes.{runs_on, takes, added, content_at}

-- what its sectors held at the start and hold now, and its log; how many entries a fuse lets the log have; the calls since it
-- stopped, the one that stopped it among them; its rules as they stand; the number of its last ticket; how many tickets are in
-- flight, and how many have ended; its counts of failed and of late calls
pub record MemStoreState : Type 0 where
  pub start : List Sector
  pub held : List Sector
  pub log : LogState
  pub fuse : Option ℕ
  pub over : ℕ
  pub rules : List Rule
  pub last : ℕ
  pub flying : ℕ
  pub ended : ℕ
  pub faults : ℕ
  pub late : ℕ

-- a store with this content that has taken no call, with a log of this room
abbrev pub fresh : (content : List Sector) (room : Room) (rules : List Rule) → MemStoreState
fresh content room rules = record {
  start = content;
  held = content;
  log = record { entries = []; left = room; room = room };
  fuse = None;
  over = 0;
  rules = rules;
  last = 0;
  flying = 0;
  ended = 0;
  faults = 0;
  late = 0;
}

-- what it tells as a store
abbrev pub disk_of : MemStoreState → Disk
disk_of m = record { start = m.start; log = m.log.entries; held = m.held }

-- it hasn't stopped
abbrev pub StillRuns : MemStoreState → Type 0
StillRuns m = m.over ≡ 0

-- its log can take this entry, else it stops
abbrev pub can_add : MemStoreState → Entry → Bool
can_add m e = takes m.log m.fuse m.over e

-- after a call that adds this entry where it can, and holds these sectors from then on
abbrev pub entered : Entry → (held : List Sector) → MemStoreState → MemStoreState
entered e held m =
    if can_add m e then record m { log = added e m.log; held = held } else record m { over = next_number m.over }

-- a ticket was put in flight
abbrev pub submitted : Entry → MemStoreState → MemStoreState
submitted e m = entered e m.held (record m { last = next_number m.last; flying = m.flying + 1 })

-- the sectors with a content written over them
abbrev pub over_at : (first : ℕ) (content held : List Sector) → List Sector
over_at first content held = take first held ++ (content ++ drop (length content) (drop first held))

-- what is held once the write of this ticket is carried out: the content that its Issue tells
abbrev pub carried_out : Kind → Ticket → (log : List Entry) (held : List Sector) → List Sector
carried_out Read ticket log held = held
carried_out Write ticket log held = over_at ticket.first (content_at log ticket.mark) held
carried_out Flush ticket log held = held

-- A ticket ends, and a rule fails it or none does.

abbrev pub last_entry : Option Keep → Ticket → (held : List Sector) → Entry
last_entry None ticket held = done_entry ticket.kind ticket (slice_range held ticket.first (ticket.first + ticket.count))
last_entry (Some keep) ticket held = failed_entry ticket.kind ticket

abbrev pub last_held : Option Keep → Ticket → (log : List Entry) (held : List Sector) → List Sector
last_held None ticket log held = carried_out ticket.kind ticket log held
last_held (Some Old) ticket log held = held
last_held (Some New) ticket log held = carried_out ticket.kind ticket log held

-- it is done where no rule fails it and its last entry was added
abbrev pub is_done : Option Keep → (added : Bool) → Bool
is_done None added = added
is_done (Some keep) added = false

-- whether a rule fails the ticket where it is waited for
abbrev pub fault : MemStoreState → Ticket → Option Keep
fault m ticket = fault_of (next_number m.ended) m.log.entries ticket m.rules

-- the ticket has left the flight, and the holds that waited for it are over
abbrev pub left_by : Ticket → (done : Bool) → MemStoreState → MemStoreState
left_by ticket done m = record m {
  flying = m.flying - 1;
  ended = next_number m.ended;
  faults = if done then m.faults else next_number m.faults;
  rules = filter (outlives ticket) m.rules;
}

-- after a ticket ended so
abbrev pub ended_by : Option Keep → Ticket → MemStoreState → MemStoreState
ended_by failure ticket m =
    let e = last_entry failure ticket m.held in
    entered e (last_held failure ticket m.log.entries m.held) (left_by ticket (is_done failure (can_add m e)) m)

-- after the ticket was waited for, and what was answered
abbrev pub waited : Ticket → MemStoreState → MemStoreState
waited ticket m = ended_by (fault m ticket) ticket m

abbrev pub wait_answer : MemStoreState → Ticket → Settled
wait_answer m ticket =
    if is_done (fault m ticket) (can_add m (last_entry (fault m ticket) ticket m.held)) then Done else Failed ticket.number

-- it goes on, and a rule holds the ticket, each that does with a poll left
abbrev pub is_late : MemStoreState → Ticket → Bool
is_late m ticket =
    runs_on m.log m.fuse m.over && (list_any (holds ticket) m.rules && not (list_any (holds_spent ticket) m.rules))

-- after the ticket was polled, and what was answered
abbrev pub polled_once : Ticket → MemStoreState → MemStoreState
polled_once ticket m =
    if is_late m ticket then record m { late = next_number m.late; rules = map (polled ticket) m.rules } else waited ticket m

abbrev pub settle_answer : MemStoreState → Ticket → Settled
settle_answer m ticket = if is_late m ticket then NotYet ticket else wait_answer m ticket
