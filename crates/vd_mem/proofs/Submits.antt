-- A ticket is put in flight.
use Rattle.std.proofs.Common.{◌≡◌, ℕ, ◌+◌, ◌^◌, ◌<◌, ◌≤◌, Bool, List, [], ◌∷◌, ◌++◌, Option, Some, length, refl, ap, sym, ◌∙◌, subst, inl, inr, arith, length-append}
use Rattle.std.specs.Prelude.{if◌then◌else◌, slice_get}
use Rattle.std.specs.Option.{option_to_list}
use Rattle.std.specs.List.{Contains}
use Rattle.std.proofs.lemmas.List.{take_at}
use Rattle.std.proofs.lemmas.List.Elements.{Contains-push}
use Rattle.std.proofs.lemmas.Bool.{cond_both}
use Rattle.vd_lists.proofs.Places.{slice_get_last}
use Rattle.vd_lists.proofs.Options.{cases_option}
use Rattle.vd_law.specs.declared.entry.Sector.{Sector}
use Rattle.vd_law.specs.declared.entry.CallId.{CallId}
use Rattle.vd_law.specs.Entries.{Read as Asks_read, Flush as Asks_flush, Entry, call_of, Past, ◌▸◌, past}
use Rattle.vd_law.specs.Calls.{progress, before_ask}
use Rattle.vd_law.specs.Contents.{sector_in, issued_contents, Open, open_after_issue, open_writes, could_after}
use Rattle.vd_law.proofs.Appending.{past-push}
use Rattle.vd_law.proofs.Opening.{same_call-refl}
use Rattle.vd_law.proofs.OpenLaws.{progress-own}
use Rattle.vd_device.specs.declared.ticket.Ticket.{Ticket}
use Rattle.vd_device.specs.declared.ticket.Kind.{Kind}
use Rattle.vd_device.specs.declared.ticket.Kind.TheVariants.{Read, Write, Flush}
use Rattle.vd_device.specs.Tickets.{IsFree, HasAmong, Puts, ticket_id}
use Rattle.vd_device.specs.Calls.{next_number, issue_entry, ask_read_entry, ask_flush_entry}
use Rattle.vd_device.specs.Disks.{IsHonest, AreWrites, GrowsBy, Adds}
use Rattle.vd_device.specs.Orders.{IsInOrder}
use Rattle.vd_device.specs.Stores.{StoreTakes}
use Rattle.vd_device.proofs.Flights.{at_front}
use Rattle.vd_faults.specs.Tapes.{added}
use Rattle.vd_mem.specs.StoreState.{MemStoreState, StillRuns, disk_of, can_add, submitted}
use Rattle.vd_mem.specs.Flying.{IsOnlyOpen, IsLoggedAs, AreCalls, IsTicketWithin, Flies}
use Rattle.vd_mem.specs.Sound.{IsSoundMemStore}
use Rattle.vd_mem.specs.Devices.{mem_store}
use Rattle.vd_faults.proofs.Choosing.{takes-runs, stopped-over}
use Rattle.vd_mem.proofs.Taking.{Took, takes}
use Rattle.vd_mem.proofs.Flights.{all-put, put-length}
use Rattle.vd_mem.proofs.Sectors.{sector-range}
use Rattle.vd_mem.proofs.Opens.{IsOff}
use Rattle.vd_mem.proofs.Flying.{grown, IsOffOthers, writes-asked, writes-issued, free-closed, calls-put}
use Rattle.vd_mem.proofs.Honest.{kept-grows, ask-more, issue-more}
use Rattle.vd_mem.proofs.Orders.{Follows, order-push}

-- the first entry of a call of this kind
abbrev pub Begins : Kind → MemStoreState → Ticket → Entry → Type 0
Begins Read m t e = e ≡ ask_read_entry t
Begins Write m t e = (content : List Sector) × (length content ≡ t.count) × (e ≡ issue_entry t content) × IsFree (Flies m) 128 t.first t.count
Begins Flush m t e = e ≡ ask_flush_entry t

-- the ticket is submitted with this entry
pub record IsSubmit (m : MemStoreState) (t : Ticket) (e : Entry) : Type 0 where
  pub number : t.number ≡ next_number m.last
  pub mark : t.mark ≡ length m.log.entries
  pub within : IsTicketWithin (length m.start) t
  pub begins : Begins t.kind m t e

own : (k : Kind) (m : MemStoreState) (t : Ticket) (e : Entry) → Begins k m t e → call_of e ≡ ticket_id t
own Read m t e is = ap call_of is
own Write m t e is = ap call_of is.2
own Flush m t e is = ap call_of is

grows : (k : Kind) (m : MemStoreState) (t : Ticket) (e : Entry) → Begins k m t e → IsHonest (disk_of m) → GrowsBy (e ∷ []) (disk_of m) (grown (disk_of m) e m.held)
grows Read m t e is honest =
    subst (λ (x : Entry). GrowsBy (x ∷ []) (disk_of m) (grown (disk_of m) x m.held)) (sym is) (kept-grows (disk_of m) (ask_read_entry t) (ask-more (ticket_id t) (Asks_read t.first t.count)) honest)
grows Write m t e is honest =
    subst (λ (x : Entry). GrowsBy (x ∷ []) (disk_of m) (grown (disk_of m) x m.held)) (sym is.2) (kept-grows (disk_of m) (issue_entry t is.0) (issue-more (ticket_id t) t.first is.0) honest)
grows Flush m t e is honest =
    subst (λ (x : Entry). GrowsBy (x ∷ []) (disk_of m) (grown (disk_of m) x m.held)) (sym is) (kept-grows (disk_of m) (ask_flush_entry t) (ask-more (ticket_id t) Asks_flush) honest)

-- no write is open where a free range lies
closed : (m : MemStoreState) (first count : ℕ) → StillRuns m → IsFree (Flies m) 128 first count → (s : ℕ) → first ≤ s → s < first + count → open_writes (past m.log.entries) s ≡ []
closed m first count runs free s from to = free-closed (disk_of m) free.0 first count s (free.1.calls runs).writes free.3 from to

off : (k : Kind) (m : MemStoreState) (t : Ticket) (e : Entry) → StillRuns m → Begins k m t e → IsOffOthers e (disk_of m)
off Read m t e runs is s busy = subst (λ (x : Entry). IsOff x s) (sym is) tt
off Write m t e runs is s busy =
    subst (λ (x : Entry). IsOff x s) (sym is.2)
    (elim (cases_option (sector_in t.first is.0 s)) [
      | inl none ↦ none
      | inr some ↦ let range = sector-range t.first is.0 s some.0 some.1 in
          absurd (busy (closed m t.first t.count runs is.3 s range.0 (omega (arith, range.1, is.1))))
    ])
off Flush m t e runs is s busy = subst (λ (x : Entry). IsOff x s) (sym is) tt

writes : (k : Kind) (m : MemStoreState) (t : Ticket) (e : Entry) (others all : List Ticket) → t.kind ≡ k → Begins k m t e → HasAmong t others all → AreWrites others (disk_of m) → AreWrites all (grown (disk_of m) e m.held)
writes Read m t e others all kind is among before =
    subst (λ (x : Entry). AreWrites all (grown (disk_of m) x m.held)) (sym is) (writes-asked (disk_of m) (ask_read_entry t) m.held t others all (λ p s. refl) among before)
writes Write m t e others all kind is among before =
    subst (λ (x : Entry). AreWrites all (grown (disk_of m) x m.held)) (sym is.2) (writes-issued (disk_of m) is.0 m.held t others all kind is.1 among before)
writes Flush m t e others all kind is among before =
    subst (λ (x : Entry). AreWrites all (grown (disk_of m) x m.held)) (sym is) (writes-asked (disk_of m) (ask_flush_entry t) m.held t others all (λ p s. refl) among before)

-- what the log says of the new ticket

first-open : (start : List Sector) (p : Past) (t : Ticket) (content : List Sector) (s : ℕ) (v : Sector) → open_writes p s ≡ [] → sector_in t.first content s ≡ Some v → IsOnlyOpen start (p ▸ issue_entry t content) (ticket_id t) s v
first-open start p t content s v none at =
    let id = ticket_id t in
    let parts = subst (λ (o : Option Sector). (open_after_issue id (length (issued_contents p s) + 1) o ++ open_writes p s ≡ record { call = id; number = length (issued_contents p s ++ option_to_list o); content = v } ∷ []) × Contains (could_after start p s ++ option_to_list o) v) (sym at)
    (ap (λ (ws : List Open). new id (length (issued_contents p s) + 1) v ∷ ws) none ∙ ap (λ (n : ℕ). new id n v ∷ []) (sym (length-append (issued_contents p s) (v ∷ []))), Contains-push (could_after start p s) v) in
    record { alone = parts.0; among = parts.1 }
  where
    new : CallId → ℕ → Sector → Open
    new id n v = record { call = id; number = n; content = v }

stands : (k : Kind) (m : MemStoreState) (t : Ticket) (e : Entry) → StillRuns m → t.mark ≡ length m.log.entries → Begins k m t e → IsLoggedAs k m.start (m.log.entries ++ e ∷ []) t
stands Read m t e runs mark is = tt
stands Write m t e runs mark is =
    let log = m.log.entries in
    record {
      content = is.0;
      size = is.1;
      issue = ap (slice_get (log ++ e ∷ [])) mark ∙ slice_get_last log e ∙ ap (λ (x : Entry). Some x) is.2;
      only_open = λ s v at. let range = sector-range t.first is.0 s v at in
          subst (λ (p : Past). IsOnlyOpen m.start p (ticket_id t) s v) (sym (past-push log e))
          (subst (λ (x : Entry). IsOnlyOpen m.start (past log ▸ x) (ticket_id t) s v) (sym is.2)
          (first-open m.start (past log) t is.0 s v (closed m t.first t.count runs is.3 s range.0 (omega (arith, range.1, is.1))) at));
    }
stands Flush m t e runs mark is =
    let log = m.log.entries in let id = ticket_id t in
    record {
      asked = ap (λ (p : Past). (progress p id).asked) (past-push log e) ∙ ap (λ (x : Entry). (progress (past log ▸ x) id).asked) is
          ∙ ap (λ c. c.asked) (progress-own (past log) (ask_flush_entry t));
      before = ap (λ (p : Past). before_ask p id) (past-push log e) ∙ ap (λ (x : Entry). before_ask (past log ▸ x) id) is
          ∙ ap (λ (b : Bool). if b then past log else before_ask (past log) id) (same_call-refl id)
          ∙ ap past (sym (take_at log (e ∷ []) t.mark (sym mark)));
    }

-- a write begins inside the store where none is open
follows : (k : Kind) (m : MemStoreState) (t : Ticket) (e : Entry) → StillRuns m → IsTicketWithin (length m.start) t → Begins k m t e → Follows (disk_of m) e
follows Read m t e runs within is = subst (Follows (disk_of m)) (sym is) (record { alone = tt; inside = tt; shown = tt })
follows Write m t e runs within is =
    subst (Follows (disk_of m)) (sym is.2)
    (record { alone = λ s from to. closed m t.first t.count runs is.3 s from (omega (arith, to, is.1)); inside = omega (arith, within.0, is.1); shown = tt })
follows Flush m t e runs within is = subst (Follows (disk_of m)) (sym is) (record { alone = tt; inside = tt; shown = tt })

module _ (m : MemStoreState) (t : Ticket) (e : Entry) (submit : IsSubmit m t e) (sound : IsSoundMemStore m) where
  abbrev in_log : MemStoreState
  in_log = record m { log = added e m.log; last = next_number m.last; flying = m.flying + 1 }

  abbrev stopped : MemStoreState
  stopped = record m { over = next_number m.over; last = next_number m.last; flying = m.flying + 1 }

  above : StillRuns m → m.last < t.number
  above runs = omega (arith, (sound.told runs).numbers, sound.short, submit.number)

  calls : (others all : List Ticket) → HasAmong t others all → StillRuns m → Flies m others → AreCalls in_log.last (disk_of in_log) all
  calls others all among runs flight =
      let before = flight.calls runs in
      subst (λ (n : ℕ). AreCalls n (disk_of in_log) all) submit.number
      (calls-put m.last (disk_of m) e m.held t others all (above runs) (own t.kind m t e submit.begins) (off t.kind m t e runs submit.begins)
      (writes t.kind m t e others all refl submit.begins among before.writes)
      (record {
        number = omega arith;
        placed = omega (arith, submit.mark, length-append m.log.entries (e ∷ []));
        stands = stands t.kind m t e runs submit.mark submit.begins;
      })
      among before)

  pub submit-puts : Puts t (Flies m) (Flies (submitted e m))
  submit-puts others all among flight =
      let count : m.flying + 1 ≡ length all = omega (arith, flight.many, put-length t others all among) in
      let range = all-put (IsTicketWithin (length m.start)) t others all among flight.within submit.within in
      cond_both (can_add m e) in_log stopped (λ (m' : MemStoreState). Flies m' all)
      (λ can. record { many = count; within = range; calls = λ runs. calls others all among runs flight })
      (λ full. record { many = count; within = range; calls = λ runs. stopped-over m.over runs })

  pub submit-adds : StillRuns (submitted e m) → Adds e (disk_of m) (disk_of (submitted e m))
  submit-adds =
      cond_both (can_add m e) in_log stopped (λ (m' : MemStoreState). StillRuns m' → Adds e (disk_of m) (disk_of m'))
      (λ can runs. grows t.kind m t e submit.begins (sound.told runs).honest)
      (λ full runs. stopped-over m.over runs)

  pub submit-took : Took (e ∷ []) m (submitted e m)
  submit-took =
      cond_both (can_add m e) in_log stopped (λ (m' : MemStoreState). Took (e ∷ []) m m')
      (λ can. let runs = takes-runs m.log m.fuse m.over e can in
      inl (record { before = runs; after = runs; grows = grows t.kind m t e submit.begins (sound.told runs).honest }))
      (λ full. inr (record { start = refl; log = refl; over = refl }))

  pub submit-takes : StoreTakes mem_store (e ∷ []) m (submitted e m)
  submit-takes = takes (e ∷ []) m (submitted e m) (omega arith) sound.short submit-took

  pub submit-sound : length (submitted e m).log.entries < 2 ^ 63 → IsSoundMemStore (submitted e m)
  submit-sound short = record {
    size = cond_both (can_add m e) in_log stopped (λ (m' : MemStoreState). length m'.held ≡ length m'.start) (λ can. sound.size) (λ full. sound.size);
    short = short;
    told = λ runs. record {
      numbers = cond_both (can_add m e) in_log stopped (λ (m' : MemStoreState). StillRuns m' → m'.last ≤ length m'.log.entries)
          (λ can now. omega (arith, (sound.told now).numbers, length-append m.log.entries (e ∷ [])))
          (λ full now. stopped-over m.over now) runs;
      honest = (submit-adds runs).honest;
      order = cond_both (can_add m e) in_log stopped (λ (m' : MemStoreState). StillRuns m' → IsInOrder (disk_of m'))
          (λ can now. order-push (disk_of m) e m.held (sound.told now).order (follows t.kind m t e now submit.within submit.begins))
          (λ full now. stopped-over m.over now) runs;
    };
    flight = (t ∷ sound.flight.0, submit-puts sound.flight.0 (t ∷ sound.flight.0) (at_front t sound.flight.0) sound.flight.1);
  }
