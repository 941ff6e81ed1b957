-- The origins of a store's tape stay what they say.
use Rattle.std.proofs.Common.{◌≡◌, ℕ, ◌+◌, ◌<◌, ◌≤◌, ◌⊎◌, inl, inr, Bool, true, false, List, Option, Some, None, length, refl, ap, sym, ◌∙◌, subst, arith}
use Rattle.std.specs.Prelude.{if◌then◌else◌}
use Rattle.std.specs.List.{find}
use Rattle.vd_law.specs.declared.entry.Sector.{Sector}
use Rattle.vd_law.specs.declared.entry.Answer.TheVariants.{Ok as Fine, StoreFault}
use Rattle.vd_law.specs.Entries.{Asked, Read as Asks_read, Write as Asks_write, Flush as Asks_flush, Entry, Past, past}
use Rattle.vd_law.specs.Calls.{progress}
use Rattle.vd_law.specs.Contents.{sector_in, issued_contents, Open, is_of, open_write, issue_number, is_flushed}
use Rattle.vd_law.proofs.Opening.{same_call-refl}
use Rattle.vd_device.specs.declared.ticket.Ticket.{Ticket}
use Rattle.vd_device.specs.declared.ticket.Kind.{Kind}
use Rattle.vd_device.specs.declared.ticket.Kind.TheVariants.{Read, Write, Flush}
use Rattle.vd_device.specs.Tickets.{HasAmong, ticket_id}
use Rattle.vd_device.specs.Calls.{done_entry, failed_entry}
use Rattle.vd_device.specs.Disks.{Disk}
use Rattle.vd_faults.specs.declared.rule.Keep.{Keep}
use Rattle.vd_faults.specs.Tapes.{TapeState, taped}
use Rattle.vd_mem.specs.StoreState.{MemStoreState, StillRuns, disk_of, last_entry}
use Rattle.vd_mem.specs.Flying.{IsOnlyOpen, HasOpenWrite, IsLoggedAs, IsCall, AreCalls, Flies, IsTicketWithin}
use Rattle.vd_faults.specs.Traced.{IsOrigin, IsTracedAt, IsTracedTape}
use Rattle.vd_faults.proofs.Choosing.{takes-runs}
use Rattle.vd_faults.proofs.Origins.{IsSealing, traced-taped}
use Rattle.vd_mem.proofs.Flights.{all-take}
use Rattle.vd_mem.proofs.Sectors.{sector-none}
use Rattle.vd_mem.proofs.Flying.{off-none}
use Rattle.vd_mem.proofs.Submits.{IsSubmit, Begins}

-- The first entry of a ticket.
first-traced : (k : Kind) (m : MemStoreState) (t : Ticket) (e : Entry) → IsTicketWithin (length m.start) t → Begins k m t e → IsTracedAt (length m.start) m.log.entries (past m.log.entries) e t.mark × IsSealing m.log.entries e t.mark
first-traced Read m t e within is = subst (λ (x : Entry). IsTracedAt (length m.start) m.log.entries (past m.log.entries) x t.mark × IsSealing m.log.entries x t.mark) (sym is) (tt, tt)
first-traced Write m t e within is =
    subst (λ (x : Entry). IsTracedAt (length m.start) m.log.entries (past m.log.entries) x t.mark × IsSealing m.log.entries x t.mark) (sym is.2)
    (omega (arith, is.1, within.0), tt)
first-traced Flush m t e within is = subst (λ (x : Entry). IsTracedAt (length m.start) m.log.entries (past m.log.entries) x t.mark × IsSealing m.log.entries x t.mark) (sym is) (tt, tt)

pub submit-traced : (m : MemStoreState) (t : Ticket) (e : Entry) (tape : TapeState) → IsSubmit m t e → tape.log ≡ m.log → IsTracedTape (length m.start) tape → IsTracedTape (length m.start) (taped e t.mark tape)
submit-traced m t e tape submit same before =
    let facts = first-traced t.kind m t e submit.within submit.begins in
    traced-taped (length m.start) tape t.mark before e
    (λ can. subst (λ (log : List Entry). IsTracedAt (length m.start) log (past log) e t.mark × IsSealing log e t.mark) (sym (ap (λ k. k.entries) same)) facts)

-- The last entry of a ticket.

unflushed : (asked : Option Asked) (number done : ℕ) → is_flushed asked (StoreFault number done) ≡ false
unflushed None number done = refl
unflushed (Some (Asks_read first count)) number done = refl
unflushed (Some (Asks_write first content)) number done = refl
unflushed (Some Asks_flush) number done = refl

module _ (n : ℕ) (d : Disk) (t : Ticket) (others all : List Ticket) (among : HasAmong t others all) (last : ℕ) (calls : AreCalls last d all) (within : t.first + t.count ≤ n) where
  abbrev p : Past
  p = past d.log

  ends-on : (s : ℕ) (v : Sector) → IsOnlyOpen d.start p (ticket_id t) s v → issue_number (open_write p (ticket_id t) s) ≡ length (issued_contents p s)
  ends-on s v o =
      ap (λ (ws : List Open). issue_number (find (is_of (ticket_id t)) ws)) o.alone
      ∙ ap (λ (b : Bool). issue_number (if b then Some (own s v) else None)) (same_call-refl (ticket_id t))
    where
      own : ℕ → Sector → Open
      own s v = record { call = ticket_id t; number = length (issued_contents p s); content = v }

  origin : (w : HasOpenWrite d.start d.log t) → IsOrigin n d.log p (ticket_id t) t.mark
  origin w = record {
    first = t.first;
    content = w.content;
    issue = w.issue;
    ends = record {
      inside = omega (arith, w.size, within);
      on = λ s v at. ends-on s v (w.only_open s v at);
      off = λ s none. off-none d t others all s among calls.distinct calls.writes (outside s none);
    };
  }
    where
      outside : (s : ℕ) → sector_in t.first w.content s ≡ None → (s < t.first) ⊎ (t.first + t.count ≤ s)
      outside s none = elim (sector-none t.first w.content s none) [ inl below ↦ inl below | inr above ↦ inr (omega (arith, above, w.size)) ]

  done-traced : (k : Kind) (out : List Sector) → t.mark < length d.log → IsLoggedAs k d.start d.log t → IsTracedAt n d.log p (done_entry k t out) t.mark × IsSealing d.log (done_entry k t out) t.mark
  done-traced Read out placed w = (tt, tt)
  done-traced Write out placed w = (origin w, tt)
  done-traced Flush out placed w = (tt, (ap (λ (a : Option Asked). is_flushed a Fine) w.asked, λ ok. (omega (arith, placed), w.before)))

  failed-traced : (k : Kind) → IsTracedAt n d.log p (failed_entry k t) t.mark × IsSealing d.log (failed_entry k t) t.mark
  failed-traced Read = (tt, (unflushed (progress p (ticket_id t)).asked t.number 0, λ ok. absurd (let no : false ≡ true = ok in cc)))
  failed-traced Write = (tt, tt)
  failed-traced Flush = (tt, (unflushed (progress p (ticket_id t)).asked t.number 0, λ ok. absurd (let no : false ≡ true = ok in cc)))

  last-traced : (failure : Option Keep) (held : List Sector) → IsTracedAt n d.log p (last_entry failure t held) t.mark × IsSealing d.log (last_entry failure t held) t.mark
  last-traced None held =
      let here = (all-take (IsCall last d.start d.log) t others all among calls.each).0 in
      done-traced t.kind _ here.placed here.stands
  last-traced (Some keep) held = failed-traced t.kind

pub end-traced : (m : MemStoreState) (t : Ticket) (failure : Option Keep) (held : List Sector) (tape : TapeState) (others all : List Ticket) → HasAmong t others all → Flies m all → tape.log ≡ m.log → tape.over ≡ m.over → IsTracedTape (length m.start) tape
    → IsTracedTape (length m.start) (taped (last_entry failure t held) t.mark tape)
end-traced m t failure held tape others all among flight same stopped before =
    traced-taped (length m.start) tape t.mark before (last_entry failure t held)
    (λ can. let runs : StillRuns m = sym stopped ∙ takes-runs tape.log tape.fuse tape.over (last_entry failure t held) can in
    subst (λ (log : List Entry). IsTracedAt (length m.start) log (past log) (last_entry failure t held) t.mark × IsSealing log (last_entry failure t held) t.mark) (sym (ap (λ k. k.entries) same))
    (last-traced (length m.start) (disk_of m) t others all among m.last (flight.calls runs) (all-take (IsTicketWithin (length m.start)) t others all among flight.within).0.0 failure held))
