-- What holds of a store in memory after each call.
use Rattle.std.specs.Prelude.{◌≡◌, ◌^◌, ◌<◌, ◌≤◌, List, length}
use Rattle.vd_device.specs.declared.ticket.Ticket.{Ticket}
use Rattle.vd_device.specs.Disks.{IsHonest}
use Rattle.vd_device.specs.Orders.{IsInOrder}
use Rattle.vd_mem.specs.StoreState.{MemStoreState, StillRuns, disk_of}
use Rattle.vd_mem.specs.Flying.{Flies}

pub record TellsHonestly (m : MemStoreState) : Type 0 where
  -- each ticket has its first entry in the log
  pub numbers : m.last ≤ length m.log.entries
  pub honest : IsHonest (disk_of m)
  pub order : IsInOrder (disk_of m)

pub record IsSoundMemStore (m : MemStoreState) : Type 0 where
  pub size : length m.held ≡ length m.start
  pub short : length m.log.entries < 2 ^ 63
  pub told : StillRuns m → TellsHonestly m
  pub flight : (tickets : List Ticket) × Flies m tickets
