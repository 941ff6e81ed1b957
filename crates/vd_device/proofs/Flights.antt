-- A ticket that is submitted and then waited for.
use Rattle.std.proofs.Common.{List, [], ◌∷◌, refl}
use Rattle.vd_device.specs.declared.ticket.Ticket.{Ticket}
use Rattle.vd_device.specs.Tickets.{HasAmong, Puts, Takes, KeepsFlight, IsInFlight}

pub at_front : (ticket : Ticket) (tickets : List Ticket) → HasAmong ticket tickets (ticket ∷ tickets)
at_front ticket tickets = record { before = []; after = tickets; without = refl; with_it = refl }

-- what was put is in flight
pub put_flight : (old new : List Ticket → Type 0) (ticket : Ticket) (tickets : List Ticket) → old tickets → Puts ticket old new → IsInFlight new ticket
put_flight old new ticket tickets flight puts =
    (tickets, ticket ∷ tickets, at_front ticket tickets, puts tickets (ticket ∷ tickets) (at_front ticket tickets) flight)

-- what is put and then taken leaves the flight as it was
pub put_taken : (old mid new : List Ticket → Type 0) (ticket : Ticket) → Puts ticket old mid → Takes ticket mid new → KeepsFlight old new
put_taken old mid new ticket puts takes tickets flight =
    takes tickets (ticket ∷ tickets) (at_front ticket tickets) (puts tickets (ticket ∷ tickets) (at_front ticket tickets) flight)
