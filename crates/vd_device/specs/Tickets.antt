-- Tickets in flight: which there are is a relation, so that a store need not keep their list.
use Rattle.std.specs.Prelude.{ℕ, ◌≡◌, ◌+◌, ◌<◌, ◌≤◌, ◌⊎◌, List, ◌∷◌, ◌++◌, length}
use Rattle.std.specs.List.{AllByRecursion}
use Rattle.vd_law.specs.declared.entry.CallId.{CallId}
use Rattle.vd_device.specs.declared.ticket.Ticket.{Ticket}
use Rattle.vd_device.specs.declared.ticket.Kind.{Kind}
use Rattle.vd_device.specs.declared.ticket.Kind.TheVariants.{Read, Write, Flush}

-- a request's range: 1 to 2,048 sectors that lie in a device of so many
abbrev pub IsRange : (sectors first count : ℕ) → Type 0
IsRange sectors first count = (0 < count) × (count ≤ 2048) × (first + count ≤ sectors)

pub record IsTicket (ticket : Ticket) (kind : Kind) (first count : ℕ) : Type 0 where
  pub kind_is : ticket.kind ≡ kind
  pub first_is : ticket.first ≡ first
  pub count_is : ticket.count ≡ count

-- the two ranges have no sector in common
abbrev pub AreRangesApart : (first count other_first other_count : ℕ) → Type 0
AreRangesApart first count other_first other_count = (first + count ≤ other_first) ⊎ (other_first + other_count ≤ first)

-- a write doesn't touch the range
abbrev pub IsClear : (first count : ℕ) → Ticket → Type 0
IsClear first count t = t.kind ≡ Write → AreRangesApart t.first t.count first count

-- fewer tickets than `depth` are in flight
abbrev pub HasPlace : (List Ticket → Type 0) → (depth : ℕ) → Type 0
HasPlace flight depth = (tickets : List Ticket) × flight tickets × (length tickets < depth)

-- fewer tickets than `depth` are in flight, and no write among them touches the range
abbrev pub IsFree : (List Ticket → Type 0) → (depth first count : ℕ) → Type 0
IsFree flight depth first count =
    (tickets : List Ticket) × flight tickets × (length tickets < depth) × AllByRecursion (IsClear first count) tickets

-- these are the others, and the ticket stands somewhere among them
pub record HasAmong (ticket : Ticket) (others all : List Ticket) : Type 0 where
  pub before : List Ticket
  pub after : List Ticket
  pub without : others ≡ before ++ after
  pub with_it : all ≡ before ++ ticket ∷ after

-- the ticket is in flight from now on
abbrev pub Puts : Ticket → (List Ticket → Type 0) → (List Ticket → Type 0) → Type 0
Puts ticket old new = (others all : List Ticket) → HasAmong ticket others all → old others → new all

-- the ticket is not in flight any more
abbrev pub Takes : Ticket → (List Ticket → Type 0) → (List Ticket → Type 0) → Type 0
Takes ticket old new = (others all : List Ticket) → HasAmong ticket others all → old all → new others

-- what was in flight is so now
abbrev pub KeepsFlight : (List Ticket → Type 0) → (List Ticket → Type 0) → Type 0
KeepsFlight old new = (tickets : List Ticket) → old tickets → new tickets

abbrev pub IsInFlight : (List Ticket → Type 0) → Ticket → Type 0
IsInFlight flight ticket = (others : List Ticket) × (all : List Ticket) × HasAmong ticket others all × flight all

abbrev pub reads_of : Kind → ℕ → ℕ
reads_of Read count = count
reads_of Write count = 0
reads_of Flush count = 0

-- how many sectors the ticket reads
abbrev pub sectors_read : Ticket → ℕ
sectors_read ticket = reads_of ticket.kind ticket.count

-- in a store's log a call is of pass 0, and its number is its ticket's
abbrev pub ticket_id : Ticket → CallId
ticket_id ticket = record { pass = 0; call = ticket.number }
