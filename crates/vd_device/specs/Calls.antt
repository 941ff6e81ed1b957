-- What the calls of a device do.
use Rattle.std.specs.Prelude.{ℕ, ◌≡◌, ◌+◌, ◌≤◌, List, [], ◌∷◌, Some, slice_get}
use Rattle.vd_law.specs.declared.entry.Sector.{Sector}
use Rattle.vd_law.specs.declared.entry.Answer.TheVariants.{Ok as Fine, StoreFault}
use Rattle.vd_law.specs.Entries.{Read as Asks_read, Flush as Asks_flush, Entry, Ask, Issue, Done as Write_done, Broke, Seen, Reply}
use Rattle.vd_law.specs.Contents.{sector_in}
use Rattle.vd_law.specs.Counts.{Rose, next_count}
use Rattle.vd_device.specs.declared.ticket.Ticket.{Ticket}
use Rattle.vd_device.specs.declared.ticket.Kind.{Kind}
use Rattle.vd_device.specs.declared.ticket.Kind.TheVariants.{Read, Write, Flush}
use Rattle.vd_device.specs.declared.settled.Settled.{Settled}
use Rattle.vd_device.specs.declared.settled.Settled.TheVariants.{Done, NotYet, Failed}
use Rattle.vd_device.specs.declared.settled.Waited.{Waited}
use Rattle.vd_device.specs.declared.settled.Waited.TheVariants as waited
use Rattle.vd_device.specs.Tickets.{ticket_id, Takes, KeepsFlight}
use Rattle.vd_device.specs.Disks.{Disk, GrowsBy}

-- the number of the next ticket: they rise from 1, and the greatest u64 is given again
abbrev pub next_number : ℕ → ℕ
next_number last = next_count last

-- the entries with which a call begins
abbrev pub ask_read_entry : Ticket → Entry
ask_read_entry ticket = Ask (ticket_id ticket) (Asks_read ticket.first ticket.count)

abbrev pub ask_flush_entry : Ticket → Entry
ask_flush_entry ticket = Ask (ticket_id ticket) Asks_flush

abbrev pub issue_entry : Ticket → List Sector → Entry
issue_entry ticket content = Issue (ticket_id ticket) ticket.first content

-- the entry with which a call of this kind is done, with what was read
abbrev pub done_entry : Kind → Ticket → List Sector → Entry
done_entry Read ticket out = Seen (ticket_id ticket) ticket.first out
done_entry Write ticket out = Write_done (ticket_id ticket)
done_entry Flush ticket out = Reply (ticket_id ticket) Fine

-- the entry with which it failed
abbrev pub failed_entry : Kind → Ticket → Entry
failed_entry Read ticket = Reply (ticket_id ticket) (StoreFault ticket.number 0)
failed_entry Write ticket = Broke (ticket_id ticket)
failed_entry Flush ticket = Reply (ticket_id ticket) (StoreFault ticket.number 0)

-- what a wait answers, as what a settle does
abbrev pub settled_of : Waited → Settled
settled_of waited.Done = Done
settled_of (waited.Failed number) = Failed number

-- How the ticket went on: it has left the flight, or it stays in it and nothing was read.
abbrev pub Settles : Settled → Ticket → (out out' : List Sector) → (List Ticket → Type 0) → (List Ticket → Type 0) → Type 0
Settles Done ticket out out' old new = Takes ticket old new
Settles (NotYet same) ticket out out' old new = (same ≡ ticket) × (out' ≡ out) × KeepsFlight old new
Settles (Failed number) ticket out out' old new = (number ≡ ticket.number) × (out' ≡ out) × Takes ticket old new

-- no count of failed or late calls falls
abbrev pub CountsNeverFall : (faults faults' late late' : ℕ) → Type 0
CountsNeverFall faults faults' late late' = (faults ≤ faults') × (late ≤ late')

-- A failure and a delay have their cause: the count of them rose in this call, or stands at its last value.
abbrev pub IsCaused : Settled → (faults faults' late late' : ℕ) → Type 0
IsCaused Done faults faults' late late' = CountsNeverFall faults faults' late late'
IsCaused (NotYet same) faults faults' late late' = CountsNeverFall faults faults' late late' × Rose late late'
IsCaused (Failed number) faults faults' late late' = CountsNeverFall faults faults' late late' × Rose faults faults'

-- the call isn't done
abbrev pub IsUndone : Settled → Type 0
IsUndone Done = ⊥
IsUndone (NotYet same) = Unit {0}
IsUndone (Failed number) = Unit {0}

-- the entries that a settle adds to the log
abbrev pub settle_entries : Settled → Ticket → (out : List Sector) → List Entry
settle_entries Done ticket out = done_entry ticket.kind ticket out ∷ []
settle_entries (NotYet same) ticket out = []
settle_entries (Failed number) ticket out = failed_entry ticket.kind ticket ∷ []

-- what was read from sector `first` on is held there
abbrev pub IsHeld : (first : ℕ) (out held : List Sector) → Type 0
IsHeld first out held = (s : ℕ) (v : Sector) → sector_in first out s ≡ Some v → slice_get held s ≡ Some v

-- a read that is done gave what is held
abbrev pub Gives : Settled → Ticket → (out held : List Sector) → Type 0
Gives Done ticket out held = ticket.kind ≡ Read → IsHeld ticket.first out held
Gives (NotYet same) ticket out held = Unit {0}
Gives (Failed number) ticket out held = Unit {0}

-- what a settle of a store that tells its contents did
pub record Tells (answer : Settled) (ticket : Ticket) (out : List Sector) (old new : Disk) : Type 0 where
  pub grows : GrowsBy (settle_entries answer ticket out) old new
  pub gives : Gives answer ticket out new.held
