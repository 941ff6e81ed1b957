-- What a call leaves of a base, which is one value before and one after.
use Rattle.std.specs.Prelude.{ℕ, ◌≡◌, List, ⊤, Result, IfErr, OnErr}
use Rattle.vd_law.specs.declared.entry.Sector.{Sector}
use Rattle.vd_device.specs.declared.base.Base as base
use Rattle.vd_device.specs.declared.ticket.Ticket.{Ticket}
use Rattle.vd_device.specs.declared.settled.Settled.{Settled}
use Rattle.vd_device.specs.Tickets.{KeepsFlight, Puts}
use Rattle.vd_device.specs.Calls.{Gives, IsCaused, Settles, next_number}
use Rattle.vd_device.specs.Frames.{CountsStand, ContentStands, IsNextTicket}
use Rattle.vd_law.specs.Counts.{Rose}

module _ {B : Type 0} (h : base.Ghosts B) where
  -- What any run of calls leaves of a base.
  pub record KeepsBase (b b' : B) : Type 0 where
    pub counts : CountsStand h.sectors h.depth h.faults h.late h.last b b'
    pub telling : ContentStands h.tells h.content b b'

  -- a read was submitted
  pub record SubmitsToBase (ticket : Ticket) (b b' : B) : Type 0 where
    pub next : IsNextTicket h.last ticket b b'
    pub flight : Puts ticket (h.flight b) (h.flight b')
    pub keeps : KeepsBase b b'

  -- a read was settled
  pub record SettlesInBase (answer : Settled) (ticket : Ticket) (out out' : List Sector) (b b' : B) : Type 0 where
    pub settles : Settles answer ticket out out' (h.flight b) (h.flight b')
    pub cause : IsCaused answer (h.faults b) (h.faults b') (h.late b) (h.late b')
    pub last : h.last b' ≡ h.last b
    pub keeps : KeepsBase b b'
    pub gives : h.tells b' → Gives answer ticket out' (h.content b')

  -- A read was submitted and waited for: one ticket was taken.
  pub record CallsBase (result : Result ⊤ ℕ) (b b' : B) : Type 0 where
    pub number : h.last b' ≡ next_number (h.last b)
    pub fault : IfErr result (λ (n : ℕ). n ≡ h.last b')
    pub cause : OnErr result (Rose (h.faults b) (h.faults b'))
    pub flight : KeepsFlight (h.flight b) (h.flight b')
    pub keeps : KeepsBase b b'
