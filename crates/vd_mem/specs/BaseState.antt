-- A base in memory, and what its calls make of it.
use Rattle.std.specs.Prelude.{ℕ, ◌≡◌, ◌+◌, ◌-◌, ◌≤◌, Bool, not, ◌&&◌, ◌||◌, ◌==◌, List, length, map, if◌then◌else◌}
use Rattle.std.specs.List.{AllByRecursion, filter, list_any}
use Rattle.vd_law.specs.declared.entry.Sector.{Sector}
use Rattle.vd_device.specs.declared.ticket.Ticket.{Ticket}
use Rattle.vd_device.specs.declared.ticket.Kind.TheVariants.{Read}
use Rattle.vd_device.specs.declared.settled.Settled.{Settled}
use Rattle.vd_device.specs.declared.settled.Settled.TheVariants.{Done, NotYet, Failed}
use Rattle.vd_device.specs.Calls.{next_number}
use Rattle.vd_faults.specs.declared.rule.Rule.{Rule}
use Rattle.vd_faults.specs.Rules.{holds, holds_spent, polled, outlives, is_nth, counted}

-- what its sectors hold; its rules as they stand; the number of its last ticket; how many tickets are in flight, and how many
-- have ended; its counts of failed and of late calls
pub record MemBaseState : Type 0 where
  pub content : List Sector
  pub rules : List Rule
  pub last : ℕ
  pub flying : ℕ
  pub ended : ℕ
  pub faults : ℕ
  pub late : ℕ

-- the mark of a ticket that a rule by sector fails
abbrev pub mark_of : Bool → ℕ
mark_of fails = if fails then 1 else 0

-- a read of these sectors was put in flight
abbrev pub read_submitted : (first count : ℕ) → MemBaseState → MemBaseState
read_submitted first count b = record b { last = next_number b.last; flying = b.flying + 1; rules = map (counted first count) b.rules }

-- A ticket that is waited for fails where a rule holds it, it was marked, or it is the one of its number to end.
abbrev pub read_fails : MemBaseState → Ticket → Bool
read_fails b ticket = list_any (holds ticket) b.rules || ((ticket.mark == 1) || list_any (is_nth (next_number b.ended)) b.rules)

-- after the ticket was waited for, and what was answered
abbrev pub read_waited : Ticket → MemBaseState → MemBaseState
read_waited ticket b = record b {
  flying = b.flying - 1;
  ended = next_number b.ended;
  faults = if not (read_fails b ticket) then b.faults else next_number b.faults;
  rules = filter (outlives ticket) b.rules;
}

abbrev pub read_answer : MemBaseState → Ticket → Settled
read_answer b ticket = if not (read_fails b ticket) then Done else Failed ticket.number

-- a rule holds the ticket, each that does with a poll left
abbrev pub read_late : MemBaseState → Ticket → Bool
read_late b ticket = list_any (holds ticket) b.rules && not (list_any (holds_spent ticket) b.rules)

-- after the ticket was polled, and what was answered
abbrev pub read_polled : Ticket → MemBaseState → MemBaseState
read_polled ticket b =
    if read_late b ticket then record b { late = next_number b.late; rules = map (polled ticket) b.rules } else read_waited ticket b

abbrev pub poll_answer : MemBaseState → Ticket → Settled
poll_answer b ticket = if read_late b ticket then NotYet ticket else read_answer b ticket

-- the ticket is a read of sectors that the base has
abbrev pub IsReadWithin : (sectors : ℕ) → Ticket → Type 0
IsReadWithin sectors ticket = (ticket.kind ≡ Read) × (ticket.first + ticket.count ≤ sectors)

-- these may be the tickets in flight
pub record FliesBase (b : MemBaseState) (tickets : List Ticket) : Type 0 where
  pub many : b.flying ≡ length tickets
  pub reads : AllByRecursion (IsReadWithin (length b.content)) tickets
