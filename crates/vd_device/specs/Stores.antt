-- What a call leaves of a store, which is one value before and one after.
use Rattle.std.specs.Prelude.{ℕ, ◌≡◌, ◌<◌, List, [], ◌∷◌, ⊤, Result, IfErr, OnErr}
use Rattle.vd_law.specs.declared.entry.Sector.{Sector}
use Rattle.vd_law.specs.Entries.{Entry}
use Rattle.vd_device.specs.declared.store.Store as store
use Rattle.vd_device.specs.declared.ticket.Ticket.{Ticket}
use Rattle.vd_device.specs.declared.settled.Settled.{Settled}
use Rattle.vd_device.specs.Tickets.{KeepsFlight, Puts}
use Rattle.vd_device.specs.Disks.{HasStopped, RecordsSome, TellsOrStopped}
use Rattle.vd_device.specs.Calls.{Gives, IsCaused, IsUndone, Settles, next_number, settle_entries}
use Rattle.vd_device.specs.Frames.{CountsStand, TellingStands, TakesEvents, IsNextTicket}
use Rattle.vd_law.specs.Counts.{Rose}

module _ {S : Type 0} (g : store.Ghosts S) where
  -- where it logs, it tells all or has stopped
  abbrev pub IsTold : S → Type 0
  IsTold s = g.records s → TellsOrStopped (g.tells s) (g.events s) (g.disk s)

  -- it is as large and as deep as it was, and neither a count of failed or late calls nor the last ticket's number falls
  abbrev pub StoreCountsStand : S → S → Type 0
  StoreCountsStand s s' = CountsStand g.sectors g.depth g.faults g.late g.last s s'

  abbrev pub StoreTellingStands : S → S → Type 0
  StoreTellingStands s s' = TellingStands g.tells g.records g.disk g.events s s'

  abbrev pub StoreTakes : List Entry → S → S → Type 0
  StoreTakes es s s' = TakesEvents g.tells g.records g.disk g.events es s s'

  -- What any run of calls leaves of a store.
  pub record KeepsStore (s s' : S) : Type 0 where
    pub counts : StoreCountsStand s s'
    pub telling : StoreTellingStands s s'

  -- a call was submitted, and this entry is its beginning
  pub record Submits (ticket : Ticket) (entry : Entry) (s s' : S) : Type 0 where
    pub next : IsNextTicket g.last ticket s s'
    pub rises : g.tells s' → g.last s < ticket.number
    pub flight : Puts ticket (g.flight s) (g.flight s')
    pub counts : StoreCountsStand s s'
    pub takes : StoreTakes (entry ∷ []) s s'

  -- A call was settled. A store that has stopped answers no call Done.
  pub record SettlesCall (answer : Settled) (ticket : Ticket) (out out' : List Sector) (s s' : S) : Type 0 where
    pub settles : Settles answer ticket out out' (g.flight s) (g.flight s')
    pub cause : IsCaused answer (g.faults s) (g.faults s') (g.late s) (g.late s')
    pub last : g.last s' ≡ g.last s
    pub counts : StoreCountsStand s s'
    pub takes : StoreTakes (settle_entries answer ticket out') s s'
    pub gives : g.tells s' → Gives answer ticket out' (g.disk s').held
    pub undone : g.records s' → HasStopped (g.events s') (g.disk s') → IsUndone answer

  -- A call was submitted and waited for: one ticket was taken, and these are its entries.
  pub record CallsStore (es : List Entry) (result : Result ⊤ ℕ) (s s' : S) : Type 0 where
    pub number : g.last s' ≡ next_number (g.last s)
    pub fault : IfErr result (λ (n : ℕ). n ≡ g.last s')
    pub cause : OnErr result (Rose (g.faults s) (g.faults s'))
    pub flight : KeepsFlight (g.flight s) (g.flight s')
    pub keeps : KeepsStore s s'
    pub recorded : g.records s' → RecordsSome es (g.events s) (g.events s') (g.disk s) (g.disk s')
