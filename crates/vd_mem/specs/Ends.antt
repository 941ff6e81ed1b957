-- When the write of a ticket can be carried out.
use Rattle.std.specs.Prelude.{◌+◌, ◌<◌, ◌≤◌, List, length}
use Rattle.vd_law.specs.declared.entry.Sector.{Sector}
use Rattle.vd_law.specs.Entries.{Entry}
use Rattle.vd_device.specs.declared.ticket.Ticket.{Ticket}
use Rattle.vd_device.specs.declared.ticket.Kind.{Kind}
use Rattle.vd_device.specs.declared.ticket.Kind.TheVariants.{Read, Write, Flush}
use Rattle.vd_faults.specs.Tapes.{content_at}

-- its Issue stands at its mark, and the content fits into the sectors
abbrev pub CanCarryOut : Kind → Ticket → (log : List Entry) (held : List Sector) → Type 0
CanCarryOut Read ticket log held = Unit {0}
CanCarryOut Write ticket log held = (ticket.mark < length log) × (ticket.first + length (content_at log ticket.mark) ≤ length held)
CanCarryOut Flush ticket log held = Unit {0}
