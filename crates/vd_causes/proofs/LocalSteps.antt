-- What each step of a pass keeps of the blocks that are local, by the step's record.
use Rattle.std.proofs.Common.{ℕ, ◌≡◌, ◌+◌, Bool, List, [], ◌∷◌, ◌++◌, refl, sym, ◌∙◌, ap, inl, inr, Option, Some, slice_get}
use Rattle.std.specs.Prelude.{replicate, slice_range, ◌-◌}
use Rattle.vd_law.specs.declared.entry.Sector.{Sector}
use Rattle.vd_law.specs.declared.entry.CallId.{CallId}
use Rattle.vd_law.specs.declared.entry.Room.{Room}
use Rattle.vd_law.specs.declared.entry.Answer.{Answer}
use Rattle.vd_law.specs.declared.entry.Answer.TheVariants.{Full}
use Rattle.vd_format.specs.declared.map.Entry.{Entry as MapEntry}
use Rattle.vd_law.specs.Entries.{Asked, Ask, Issue, Broke, Seen, Reply}
use Rattle.vd_law.specs.Histories.{HistoryState}
use Rattle.vd_table.specs.Tables.{TableState}
use Rattle.vd_device.specs.declared.store.Store as store
use Rattle.vd_device.specs.declared.base.Base as base
use Rattle.vd_device.specs.declared.ticket.Ticket.{Ticket}
use Rattle.vd_device.specs.declared.settled.Settled.{Settled}
use Rattle.vd_device.specs.declared.settled.Settled.TheVariants as settled
use Rattle.vd_passes.specs.declared.shape.Shape.{Shape}
use Rattle.vd_passes.specs.declared.pass.Pass.{Pass}
use Rattle.vd_passes.specs.declared.pass.Phase.TheVariants.{Issuing}
use Rattle.vd_passes.specs.declared.pass.Fault.{Fault}
use Rattle.vd_passes.specs.declared.pass.Fault.TheVariants as fault
use Rattle.vd_passes.specs.Passes.{call_id as own}
use Rattle.vd_passes.specs.Requests.{RequestState}
use Rattle.vd_passes.specs.Coherent.{IsCoherent}
use Rattle.vd_passes.specs.Steps.{IsAt, Replies, Issues, WriteSettled, after_write, Sees, EndsRead, LookSettled, BaseLookSettled}
use Rattle.vd_passes.proofs.Lists.{some-inj}
use Rattle.std.proofs.lemmas.List.{append_assoc}
use Rattle.vd_machine.specs.Asking.{ask_state, AskEnds}
use Rattle.vd_causes.specs.Local.{AreLocalBy}
use Rattle.vd_causes.proofs.Local.{entry-local, same-local, done-local}
use Rattle.vd_format.specs.Background.{zero_sector}

-- A pass asks, by how that ends.
pub ask_ends-local : {shape : Shape} {had : List MapEntry} {fresh : List Bool} {passes passes' : List Pass} {table table' : TableState} {history history' : HistoryState} {left left' : Room} (i events : ℕ) (result : Option Answer) (request : Asked)
    → AskEnds result request events i (ask_state shape table passes history left) (ask_state shape table' passes' history' left') → AreLocalBy shape had fresh history.log.entries → AreLocalBy shape had fresh history'.log.entries
ask_ends-local i events result request (inl room) local = same-local (ap (λ (h : HistoryState). h.log.entries) room.2.history_same) local
ask_ends-local {fresh = fresh} {history = history} {history' = history'} i events result request (inr (inl full)) local =
    let e = full.3.asks fresh in let id : CallId = record { pass = i; call = e.pass.call + 1 } in
    entry-local {history = history.log.entries ++ Ask id request ∷ []} {history' = history'.log.entries} (Reply id (Full full.0 full.1)) tt
    (ap (λ (r : RequestState). r.entries) e.after ∙ sym (append_assoc history.log.entries (Ask id request ∷ []) (Reply id (Full full.0 full.1) ∷ [])))
    (entry-local (Ask id request) tt refl local)
ask_ends-local {fresh = fresh} i events result request (inr (inr asked)) local = let e = asked.1.asks fresh in entry-local (Ask _ request) tt (ap (λ (r : RequestState). r.entries) e.after) local

sees : {had : List MapEntry} (i : ℕ) (r r' : RequestState) {content out out' : List Sector} → Sees content i r r' out out' → AreLocalBy r.shape had r.fresh r.entries → AreLocalBy r'.shape had r'.fresh r'.entries
sees i r r' {content} step local = let p = step.pass in rw step.after (entry-local (Seen (own i p) (p.first + p.done) content) tt refl local)

ends-read : {had : List MapEntry} (i : ℕ) (r r' : RequestState) (answer : Settled) (content : List Sector) (why : Fault) (out out' : List Sector) → EndsRead answer content why i r r' out out'
    → AreLocalBy r.shape had r.fresh r.entries → AreLocalBy r'.shape had r'.fresh r'.entries
ends-read i r r' settled.Done content why out out' ends local = sees i r r' ends local
ends-read i r r' (settled.NotYet same) content why out out' ends local = rw ends.0 local
ends-read i r r' (settled.Failed number) content why out out' ends local = rw ends.0.after local

module _ {had : List MapEntry} {i : ℕ} {r r' : RequestState} where
  pub replies-local : {answer : Answer} → Replies answer i r r' → AreLocalBy r.shape had r.fresh r.entries → AreLocalBy r'.shape had r'.fresh r'.entries
  replies-local {answer} step local = rw step.after (entry-local (Reply (own i step.pass) answer) tt refl local)

  pub issues-local : {content : List Sector} {S : Type 0} {g : store.Ghosts S} {s s' : S} → Issues g content i r r' s s' → AreLocalBy r.shape had r.fresh r.entries → AreLocalBy r'.shape had r'.fresh r'.entries
  issues-local {content} step local = let p = step.pass in rw step.after (entry-local (Issue (own i p) (p.first + p.done) (slice_range content p.done (p.done + p.piece))) tt refl local)

  pub sees-local : {content out out' : List Sector} → Sees content i r r' out out' → AreLocalBy r.shape had r.fresh r.entries → AreLocalBy r'.shape had r'.fresh r'.entries
  sees-local = sees i r r'

  pub look_settled-local : {answer : Settled} {out out' : List Sector} {S : Type 0} {g : store.Ghosts S} {s s' : S} → LookSettled g answer i r r' s s' out out' → AreLocalBy r.shape had r.fresh r.entries → AreLocalBy r'.shape had r'.fresh r'.entries
  look_settled-local {answer} {out} {out'} step = ends-read i r r' answer step.content (fault.Store step.ticket.number) out out' step.effect

  pub base_look_settled-local : {answer : Settled} {out out' : List Sector} {B : Type 0} {h : base.Ghosts B} {b b' : B} → BaseLookSettled h answer i r r' b b' out out' → AreLocalBy r.shape had r.fresh r.entries → AreLocalBy r'.shape had r'.fresh r'.entries
  base_look_settled-local {answer} {out} {out'} step = ends-read i r r' answer (step.content ++ replicate (step.pass.piece - step.ticket.count) zero_sector) (fault.Base step.ticket.number) out out' step.effect

-- A write ends, and where it is done its block is local.
module _ {had : List MapEntry} {places : ℕ → Option ℕ} {r r' : RequestState} {S B : Type 0} {g : store.Ghosts S} {h : base.Ghosts B} {s : S} {b : B}
    (co : IsCoherent g h r places s b) (i : ℕ) (at : IsAt r.passes i (λ p. p.phase ≡ Issuing)) (local : AreLocalBy r.shape had r.fresh r.entries) where
  ends-write : (answer : Settled) (p : Pass) (ticket : Ticket) → slice_get r.passes i ≡ Some p → r' ≡ after_write answer p ticket i r → AreLocalBy r'.shape had r'.fresh r'.entries
  ends-write settled.Done p ticket there after = let issuing = ap (λ (x : Pass). x.phase) (some-inj (sym there ∙ at.1)) ∙ at.2 in rw after (done-local co i p there issuing local)
  ends-write (settled.NotYet same) p ticket there after = rw after local
  ends-write (settled.Failed number) p ticket there after = rw after (entry-local (Broke (own i p)) tt refl local)

  pub write_settled-local : {answer : Settled} {s' : S} → WriteSettled g answer i r r' s s' → AreLocalBy r'.shape had r'.fresh r'.entries
  write_settled-local {answer} step = ends-write answer step.pass step.ticket step.there step.after
