-- Which tickets are in flight on a store in memory.
use Rattle.std.specs.Prelude.{ℕ, ◌≡◌, ◌≢◌, ◌+◌, ◌<◌, ◌≤◌, List, [], ◌∷◌, length, take, Some, slice_get}
use Rattle.std.specs.List.{AllByRecursion, Contains}
use Rattle.vd_law.specs.declared.entry.Sector.{Sector}
use Rattle.vd_law.specs.declared.entry.CallId.{CallId}
use Rattle.vd_law.specs.Entries.{Flush as Asks_flush, Entry, Past, past}
use Rattle.vd_law.specs.Calls.{progress, before_ask}
use Rattle.vd_law.specs.Contents.{sector_in, issued_contents, open_writes, could_after}
use Rattle.vd_device.specs.declared.ticket.Ticket.{Ticket}
use Rattle.vd_device.specs.declared.ticket.Kind.{Kind}
use Rattle.vd_device.specs.declared.ticket.Kind.TheVariants.{Read, Write, Flush}
use Rattle.vd_device.specs.Tickets.{ticket_id}
use Rattle.vd_device.specs.Calls.{issue_entry}
use Rattle.vd_device.specs.Disks.{Disk, AreWrites}
use Rattle.vd_mem.specs.StoreState.{MemStoreState, StillRuns, disk_of}

-- On sector s this call's write of v alone is open. It is the last write there, and v could be there.
pub record IsOnlyOpen (start : List Sector) (p : Past) (id : CallId) (s : ℕ) (v : Sector) : Type 0 where
  pub alone : open_writes p s ≡ record { call = id; number = length (issued_contents p s); content = v } ∷ []
  pub among : Contains (could_after start p s) v

-- the write of this ticket is open, and its Issue stands at the ticket's mark
pub record HasOpenWrite (start : List Sector) (log : List Entry) (ticket : Ticket) : Type 0 where
  pub content : List Sector
  pub size : length content ≡ ticket.count
  pub issue : slice_get log ticket.mark ≡ Some (issue_entry ticket content)
  pub only_open : (s : ℕ) (v : Sector) → sector_in ticket.first content s ≡ Some v → IsOnlyOpen start (past log) (ticket_id ticket) s v

-- the flush of this ticket was asked at the ticket's mark
pub record IsFlushAsked (log : List Entry) (ticket : Ticket) : Type 0 where
  pub asked : (progress (past log) (ticket_id ticket)).asked ≡ Some Asks_flush
  pub before : before_ask (past log) (ticket_id ticket) ≡ past (take ticket.mark log)

abbrev pub IsLoggedAs : Kind → (start : List Sector) (log : List Entry) → Ticket → Type 0
IsLoggedAs Read start log ticket = Unit {0}
IsLoggedAs Write start log ticket = HasOpenWrite start log ticket
IsLoggedAs Flush start log ticket = IsFlushAsked log ticket

-- what the log says of a ticket in flight, where the number of the last ticket is this
pub record IsCall (last : ℕ) (start : List Sector) (log : List Entry) (ticket : Ticket) : Type 0 where
  pub number : ticket.number ≤ last
  pub placed : ticket.mark < length log
  pub stands : IsLoggedAs ticket.kind start log ticket

-- no two tickets have one number
abbrev pub HaveDistinctNumbers : List Ticket → Type 0
HaveDistinctNumbers [] = Unit {0}
HaveDistinctNumbers (t ∷ tickets) = AllByRecursion (λ u. u.number ≢ t.number) tickets × HaveDistinctNumbers tickets

pub record AreCalls (last : ℕ) (d : Disk) (tickets : List Ticket) : Type 0 where
  pub each : AllByRecursion (IsCall last d.start d.log) tickets
  pub distinct : HaveDistinctNumbers tickets
  pub writes : AreWrites tickets d

-- a ticket's range lies in a device of so many sectors
abbrev pub IsTicketWithin : ℕ → Ticket → Type 0
IsTicketWithin sectors ticket = (ticket.first + ticket.count ≤ sectors) × (ticket.count ≤ 2048)

-- These may be the tickets in flight: as many, in range, and while the store runs with what its log says of each.
pub record Flies (m : MemStoreState) (tickets : List Ticket) : Type 0 where
  pub many : m.flying ≡ length tickets
  pub within : AllByRecursion (IsTicketWithin (length m.start)) tickets
  pub calls : StillRuns m → AreCalls m.last (disk_of m) tickets
