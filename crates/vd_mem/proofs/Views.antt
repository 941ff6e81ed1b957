-- What a store in memory is, from its parts.
use Rattle.std.proofs.Common.{◌≡◌, ℕ, ◌+◌, ◌-◌, Bool, true, false, List, Option, length, refl, ap, sym, ◌∙◌, subst, arith}
use Rattle.std.specs.Prelude.{if◌then◌else◌}
use Rattle.std.specs.List.{filter}
use Rattle.vd_law.specs.declared.entry.Sector.{Sector}
use Rattle.vd_law.specs.Entries.{Entry}
use Rattle.vd_device.specs.declared.ticket.Ticket.{Ticket}
use Rattle.vd_device.specs.declared.ticket.Kind.TheVariants.{Read, Write, Flush}
use Rattle.vd_device.specs.Tickets.{IsRange, IsFree}
use Rattle.vd_device.specs.Calls.{next_number, issue_entry, ask_read_entry, ask_flush_entry}
use Rattle.vd_faults.specs.declared.rule.Keep.{Keep}
use Rattle.vd_mem.specs.declared.tickets.Tickets.{Tickets}
use Rattle.vd_faults.specs.Rules.{outlives}
use Rattle.vd_faults.specs.Tapes.{TapeState, takes, taped, lengthened}
use Rattle.vd_mem.specs.StoreState.{MemStoreState, submitted, last_entry, last_held, is_done, ended_by}
use Rattle.vd_mem.specs.Flying.{Flies}
use Rattle.vd_mem.proofs.Submits.{IsSubmit, Begins}

abbrev pub memory : (start held : List Sector) → TapeState → Tickets → MemStoreState
memory start held tape tickets = record {
  start = start;
  held = held;
  log = tape.log;
  fuse = tape.fuse;
  over = tape.over;
  rules = tickets.rules;
  last = tickets.last;
  flying = tickets.flying;
  ended = tickets.ended;
  faults = tickets.faults;
  late = tickets.late;
}

-- both choices of two values that go together
both : {X Y : Type 0} (f : X → Y) (b : Bool) (x x' : X) → f (if b then x else x') ≡ (if b then f x else f x')
both f true x x' = refl
both f false x x' = refl

both-two : {X Y Z : Type 0} (f : X → Y → Z) (b : Bool) (x x' : X) (y y' : Y) → f (if b then x else x') (if b then y else y') ≡ (if b then f x y else f x' y')
both-two f true x x' y y' = refl
both-two f false x x' y y' = refl

pub memory-submitted : (start held : List Sector) (tape tape' : TapeState) (tickets tickets' : Tickets) (e : Entry) (origin : ℕ) → tape' ≡ taped e origin tape → tickets' ≡ record tickets { last = next_number tickets.last; flying = tickets.flying + 1 }
    → memory start held tape' tickets' ≡ submitted e (memory start held tape tickets)
memory-submitted start held tape tape' tickets tickets' e origin on_tape with_tickets =
    let next : Tickets = record tickets { last = next_number tickets.last; flying = tickets.flying + 1 } in
    ap (λ (x : TapeState). memory start held x tickets') on_tape ∙ ap (λ (x : Tickets). memory start held (taped e origin tape) x) with_tickets
    ∙ both (λ (x : TapeState). memory start held x next) (takes tape.log tape.fuse tape.over e) (lengthened e origin tape) (record tape { over = next_number tape.over })

abbrev pub ended_tickets : Ticket → (done : Bool) → Tickets → Tickets
ended_tickets t done tickets = record tickets { flying = tickets.flying - 1; ended = next_number tickets.ended; faults = (if done then tickets.faults else next_number tickets.faults); rules = filter (outlives t) tickets.rules }

pub memory-ended : (start held held' : List Sector) (tape tape' : TapeState) (tickets tickets' : Tickets) (failure : Option Keep) (t : Ticket) (done : Bool) → tape' ≡ taped (last_entry failure t held) t.mark tape
    → held' ≡ (if takes tape.log tape.fuse tape.over (last_entry failure t held) then last_held failure t tape.log.entries held else held)
    → done ≡ is_done failure (takes tape.log tape.fuse tape.over (last_entry failure t held)) → tickets' ≡ ended_tickets t done tickets
    → memory start held' tape' tickets' ≡ ended_by failure t (memory start held tape tickets)
memory-ended start held held' tape tape' tickets tickets' failure t done on_tape in_sectors is_so with_tickets =
    let e = last_entry failure t held in let can = takes tape.log tape.fuse tape.over e in let next = ended_tickets t (is_done failure can) tickets in
    ap (λ (x : TapeState). memory start held' x tickets') on_tape ∙ ap (λ (x : List Sector). memory start x (taped e t.mark tape) tickets') in_sectors
    ∙ ap (λ (x : Tickets). memory start (if can then last_held failure t tape.log.entries held else held) (taped e t.mark tape) x) (with_tickets ∙ ap (λ (b : Bool). ended_tickets t b tickets) is_so)
    ∙ both-two (λ (x : List Sector) (y : TapeState). memory start x y next) can (last_held failure t tape.log.entries held) held (lengthened e t.mark tape) (record tape { over = next_number tape.over })

-- A ticket that is submitted.

pub write-submit : (m : MemStoreState) (t : Ticket) (first : ℕ) (content : List Sector) → t.number ≡ next_number m.last → t.kind ≡ Write → t.first ≡ first → t.count ≡ length content → t.mark ≡ length m.log.entries
    → IsRange (length m.start) first (length content) → IsFree (Flies m) 128 first (length content) → IsSubmit m t (issue_entry t content)
write-submit m t first content number kind from count mark range free =
    let moved : IsRange (length m.start) t.first t.count = rw (from, count) range in
    record {
      number = number;
      mark = mark;
      within = (moved.2, moved.1);
      begins = subst (λ k. Begins k m t (issue_entry t content)) (sym kind) (content, sym count, refl, rw (from, count) free);
    }

pub read-submit : (m : MemStoreState) (t : Ticket) (first count : ℕ) → t.number ≡ next_number m.last → t.kind ≡ Read → t.first ≡ first → t.count ≡ count → t.mark ≡ length m.log.entries
    → IsRange (length m.start) first count → IsSubmit m t (ask_read_entry t)
read-submit m t first count number kind from size mark range =
    let moved : IsRange (length m.start) t.first t.count = rw (from, size) range in
    record {
      number = number;
      mark = mark;
      within = (moved.2, moved.1);
      begins = subst (λ k. Begins k m t (ask_read_entry t)) (sym kind) refl;
    }

pub flush-submit : (m : MemStoreState) (t : Ticket) → t.number ≡ next_number m.last → t.kind ≡ Flush → t.first ≡ 0 → t.count ≡ 0 → t.mark ≡ length m.log.entries → IsSubmit m t (ask_flush_entry t)
flush-submit m t number kind from count mark = record {
  number = number;
  mark = mark;
  within = (omega (arith, from, count), omega (arith, count));
  begins = subst (λ k. Begins k m t (ask_flush_entry t)) (sym kind) refl;
}
