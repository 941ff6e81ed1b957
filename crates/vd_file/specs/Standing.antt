-- What is seen of a device over a file: its numbers, and nothing of what its sectors hold.
use Rattle.std.specs.Prelude.{ℕ, ◌≡◌, Bool, false, List, length}
use Rattle.std.specs.List.{AllByRecursion}
use Rattle.vd_device.specs.declared.ticket.Ticket.{Ticket}
use Rattle.vd_device.specs.declared.ticket.Kind.TheVariants.{Read}
use Rattle.vd_device.specs.Tickets.{IsRange}

pub record FileState : Type 0 where
  -- it is over a file, else a device of no sectors
  pub has_file : Bool
  pub sectors : ℕ
  -- the tickets in flight
  pub flying : ℕ
  -- the number of the last ticket
  pub last : ℕ
  pub faults : ℕ
  pub events : ℕ
  -- a flush failed
  pub unsure : Bool

-- a device of so many sectors that was not used yet
abbrev pub unused_file : (has_file : Bool) (sectors : ℕ) → FileState
unused_file has_file sectors = record { has_file = has_file; sectors = sectors; flying = 0; last = 0; faults = 0; events = 0; unsure = false }

-- what the ticket reads lies in a device of so many sectors
abbrev pub ReadsInside : ℕ → Ticket → Type 0
ReadsInside sectors t = t.kind ≡ Read → IsRange sectors t.first t.count

-- These may be the tickets in flight: they are as many, and each reads inside the device.
pub record AreFlying (s : FileState) (tickets : List Ticket) : Type 0 where
  pub many : s.flying ≡ length tickets
  pub inside : AllByRecursion (ReadsInside s.sectors) tickets
