-- What each step of a pass keeps of the storage that writes have taken, by the step's record.
use Rattle.std.proofs.Common.{ℕ, ◌≡◌, ◌+◌, ◌≤◌, length, Bool, List, ◌++◌, refl, sym, subst, inl, inr, Option}
use Rattle.std.specs.Prelude.{replicate, slice_range, ◌-◌}
use Rattle.vd_law.specs.declared.entry.Sector.{Sector}
use Rattle.vd_law.specs.declared.entry.Room.{Room}
use Rattle.vd_law.specs.declared.entry.Answer.{Answer}
use Rattle.vd_format.specs.declared.map.Entry.{Entry as MapEntry}
use Rattle.vd_law.specs.Entries.{Asked, Issue, Done, Broke, Seen, Reply}
use Rattle.vd_law.specs.Histories.{HistoryState}
use Rattle.vd_table.specs.Tables.{TableState}
use Rattle.vd_device.specs.declared.store.Store as store
use Rattle.vd_device.specs.declared.base.Base as base
use Rattle.vd_device.specs.declared.ticket.Ticket.{Ticket}
use Rattle.vd_device.specs.declared.settled.Settled.{Settled}
use Rattle.vd_device.specs.declared.settled.Settled.TheVariants as settled
use Rattle.vd_passes.specs.declared.shape.Shape.{Shape}
use Rattle.vd_passes.specs.declared.pass.Pass.{Pass}
use Rattle.vd_passes.specs.declared.pass.Fault.{Fault}
use Rattle.vd_passes.specs.declared.pass.Fault.TheVariants as fault
use Rattle.vd_passes.specs.Passes.{call_id as own}
use Rattle.vd_passes.specs.Requests.{RequestState, requests}
use Rattle.vd_passes.specs.Coherent.{IsCoherent}
use Rattle.vd_passes.specs.Steps.{Replies, Issues, WriteSettled, after_write, Sees, EndsRead, LookSettled, BaseLookSettled}
use Rattle.vd_machine.specs.Asking.{ask_state, AskEnds, run_from, run_count}
use Rattle.vd_causes.specs.Storing.{IsStoredBy}
use Rattle.vd_causes.proofs.Storing.{LeavesStorage, answer-leaves, entry-stored}
use Rattle.vd_causes.proofs.StoringFull.{asks-stored, asks_full-stored}
use Rattle.vd_format.specs.Background.{zero_sector}

-- A pass asks, by how that ends.
pub ask_ends-stored : {shape : Shape} {fresh : List Bool} {places : ℕ → Option ℕ} {passes : List Pass} {S B : Type 0} {g : store.Ghosts S} {h : base.Ghosts B} {s : S} {b : B}
    {had : List MapEntry} {table table' : TableState} {history history' : HistoryState} {left : Room} {events i : ℕ} (result : Option Answer) (request : Asked) (passes' : List Pass) (left' : Room)
    → IsCoherent g h (requests shape fresh passes history.log.entries) places s b → run_from shape request + run_count shape request ≤ length table.chunks
    → AskEnds result request events i (ask_state shape table passes history left) (ask_state shape table' passes' history' left') → IsStoredBy shape had table history.log.entries → IsStoredBy shape had table' history'.log.entries
ask_ends-stored {fresh = fresh} result request passes' left' co run ends stored = elim ends [
  | inl room ↦ rw (room.2.table_same, room.2.history_same) stored
  | inr other ↦ elim other [
    | inl full ↦ (let e = full.3 in rw e.table_same (asks_full-stored request co run e.needed_is e.free_is e.fewer (e.asks fresh) stored))
    | inr asked ↦ (let e = asked.1 in asks-stored request co e.claims (e.asks fresh) stored)
  ]
]

-- the ends of a write and of a read
ends-write : {had : List MapEntry} {table : TableState} (i : ℕ) (r r' : RequestState) (answer : Settled) (p : Pass) (ticket : Ticket) → r' ≡ after_write answer p ticket i r → IsStoredBy r.shape had table r.entries → IsStoredBy r'.shape had table r'.entries
ends-write i r r' settled.Done p ticket after stored = rw after (entry-stored (Done (own i p)) tt refl stored)
ends-write i r r' (settled.NotYet same) p ticket after stored = rw after stored
ends-write i r r' (settled.Failed number) p ticket after stored = rw after (entry-stored (Broke (own i p)) tt refl stored)

sees : {had : List MapEntry} {table : TableState} (i : ℕ) (r r' : RequestState) {content out out' : List Sector} → Sees content i r r' out out' → IsStoredBy r.shape had table r.entries → IsStoredBy r'.shape had table r'.entries
sees i r r' {content} step stored = let p = step.pass in rw step.after (entry-stored (Seen (own i p) (p.first + p.done) content) tt refl stored)

ends-read : {had : List MapEntry} {table : TableState} (i : ℕ) (r r' : RequestState) (answer : Settled) (content : List Sector) (why : Fault) (out out' : List Sector) → EndsRead answer content why i r r' out out'
    → IsStoredBy r.shape had table r.entries → IsStoredBy r'.shape had table r'.entries
ends-read i r r' settled.Done content why out out' ends stored = sees i r r' ends stored
ends-read i r r' (settled.NotYet same) content why out out' ends stored = rw ends.0 stored
ends-read i r r' (settled.Failed number) content why out out' ends stored = rw ends.0.after stored

-- no other step takes storage
module _ {had : List MapEntry} {table : TableState} {i : ℕ} {r r' : RequestState} where
  pub replies-stored : {answer : Answer} → Replies answer i r r' → IsStoredBy r.shape had table r.entries → IsStoredBy r'.shape had table r'.entries
  replies-stored {answer} step stored =
      rw step.after (entry-stored (Reply (own i step.pass) answer) (subst (λ (a : Answer). LeavesStorage (Reply (own i step.pass) a)) (sym step.is) (answer-leaves (own i step.pass) step.pass.fault step.pass.done)) refl stored)

  pub issues-stored : {content : List Sector} {S : Type 0} {g : store.Ghosts S} {s s' : S} → Issues g content i r r' s s' → IsStoredBy r.shape had table r.entries → IsStoredBy r'.shape had table r'.entries
  issues-stored {content = content} step stored = let p = step.pass in rw step.after (entry-stored (Issue (own i p) (p.first + p.done) (slice_range content p.done (p.done + p.piece))) tt refl stored)

  pub write_settled-stored : {answer : Settled} {S : Type 0} {g : store.Ghosts S} {s s' : S} → WriteSettled g answer i r r' s s' → IsStoredBy r.shape had table r.entries → IsStoredBy r'.shape had table r'.entries
  write_settled-stored {answer} step = ends-write i r r' answer step.pass step.ticket step.after

  pub sees-stored : {content out out' : List Sector} → Sees content i r r' out out' → IsStoredBy r.shape had table r.entries → IsStoredBy r'.shape had table r'.entries
  sees-stored = sees i r r'

  pub look_settled-stored : {answer : Settled} {out out' : List Sector} {S : Type 0} {g : store.Ghosts S} {s s' : S} → LookSettled g answer i r r' s s' out out' → IsStoredBy r.shape had table r.entries → IsStoredBy r'.shape had table r'.entries
  look_settled-stored {answer} {out} {out'} step = ends-read i r r' answer step.content (fault.Store step.ticket.number) out out' step.effect

  pub base_look_settled-stored : {answer : Settled} {out out' : List Sector} {B : Type 0} {h : base.Ghosts B} {b b' : B} → BaseLookSettled h answer i r r' b b' out out' → IsStoredBy r.shape had table r.entries → IsStoredBy r'.shape had table r'.entries
  base_look_settled-stored {answer} {out} {out'} step = ends-read i r r' answer (step.content ++ replicate (step.pass.piece - step.ticket.count) zero_sector) (fault.Base step.ticket.number) out out' step.effect
