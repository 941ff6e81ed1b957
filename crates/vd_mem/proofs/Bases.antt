-- Reads of a base in memory.
use Rattle.std.proofs.Common.{◌≡◌, ℕ, ◌+◌, ◌-◌, Bool, true, false, List, length, refl, ap, sym, ◌∙◌, subst, arith}
use Rattle.std.specs.Prelude.{slice_range}
use Rattle.std.specs.List.{AllByRecursion}
use Rattle.vd_law.specs.declared.entry.Sector.{Sector}
use Rattle.vd_law.specs.Contents.{sector_in}
use Rattle.vd_device.specs.declared.ticket.Ticket.{Ticket}
use Rattle.vd_device.specs.declared.settled.Settled.{Settled}
use Rattle.vd_device.specs.Tickets.{Puts, Takes, IsInFlight, sectors_read, reads_of}
use Rattle.vd_device.specs.Calls.{Gives}
use Rattle.vd_mem.specs.BaseState.{MemBaseState, IsReadWithin, FliesBase}
use Rattle.vd_mem.proofs.Flights.{all-put, all-take, put-length}
use Rattle.vd_mem.proofs.Sectors.{range-held}
use Rattle.vd_mem.proofs.Ending.{answered}

-- the base after it, as far as flight is concerned
pub base-puts : (b b' : MemBaseState) (t : Ticket) → IsReadWithin (length b.content) t → b'.content ≡ b.content → b'.flying ≡ b.flying + 1 → Puts t (FliesBase b) (FliesBase b')
base-puts b b' t read same count others all among flight = record {
  many = omega (arith, count, flight.many, put-length t others all among);
  reads = subst (λ (c : List Sector). AllByRecursion (IsReadWithin (length c)) all) (sym same) (all-put (IsReadWithin (length b.content)) t others all among flight.reads read);
}

pub base-takes : (b b' : MemBaseState) (t : Ticket) → b'.content ≡ b.content → b'.flying ≡ b.flying - 1 → Takes t (FliesBase b) (FliesBase b')
base-takes b b' t same count others all among flight = record {
  many = omega (arith, count, flight.many, put-length t others all among);
  reads = subst (λ (c : List Sector). AllByRecursion (IsReadWithin (length c)) others) (sym same) (all-take (IsReadWithin (length b.content)) t others all among flight.reads).1;
}

-- a ticket in flight is a read of sectors that are there
pub base-mine : (b : MemBaseState) (t : Ticket) → IsInFlight (FliesBase b) t → IsReadWithin (length b.content) t
base-mine b t mine = (all-take (IsReadWithin (length b.content)) t mine.0 mine.1 mine.2 mine.3.reads).0

pub base-reads : (b : MemBaseState) (t : Ticket) → IsInFlight (FliesBase b) t → sectors_read t ≡ t.count
base-reads b t mine = ap (λ k. reads_of k t.count) (base-mine b t mine).0

pub base-gives : (done : Bool) (answer : Settled) (n : ℕ) (t : Ticket) (out content : List Sector) → answer ≡ answered done n → (done ≡ true → out ≡ slice_range content t.first (t.first + t.count)) → Gives answer t out content
base-gives true answer n t out content is read =
    subst (λ (a : Settled). Gives a t out content) (sym is) (λ kind s v at. range-held t.first t.count content s v (ap (λ (o : List Sector). sector_in t.first o s) (sym (read refl)) ∙ at))
base-gives false answer n t out content is read = subst (λ (a : Settled). Gives a t out content) (sym is) tt
