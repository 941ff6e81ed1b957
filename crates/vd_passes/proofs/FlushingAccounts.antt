-- A flush submits a call, settles it and ends: its room, what it is blamed for and what traces its faults.
use Rattle.std.proofs.Common.{◌≡◌, ℕ, ◌≤◌, true, List, [], ◌∷◌, ◌++◌, length, refl, sym, ◌∙◌, ap, inl, inr, arith, Option, Some, None, slice_get, slice_set}
use Rattle.vd_law.specs.declared.entry.Sector.{Sector}
use Rattle.vd_law.specs.declared.entry.CallId.{CallId}
use Rattle.vd_law.specs.Entries.{Asked, Read, Write, Flush, Entry}
use Rattle.vd_device.specs.declared.store.Store as store
use Rattle.vd_device.specs.declared.base.Base as base
use Rattle.vd_device.specs.declared.ticket.Ticket.{Ticket}
use Rattle.vd_device.specs.declared.settled.Settled.{Settled}
use Rattle.vd_device.specs.declared.settled.Settled.TheVariants as settled
use Rattle.vd_device.specs.Disks.{Adds}
use Rattle.vd_device.specs.Calls.{Tells, IsCaused, settle_entries, failed_entry}
use Rattle.vd_passes.specs.Requests.{RequestState}
use Rattle.vd_passes.specs.declared.pass.Pass.{Pass}
use Rattle.vd_passes.specs.declared.pass.Phase.TheVariants.{Idle, Flushing}
use Rattle.vd_passes.specs.declared.pass.Fault.{Fault}
use Rattle.vd_passes.specs.declared.pass.Fault.TheVariants as fault
use Rattle.vd_passes.specs.Needs.{pieces_left, events_needed, HasRoom}
use Rattle.vd_passes.specs.Passes.{call_id, IsRequestOf, after_meta, after_flush, after_fault}
use Rattle.vd_passes.specs.Coherent.{IsCoherent}
use Rattle.vd_passes.specs.Steps.{IsAt, meta_entry, SubmitsMeta, meta_settled, MetaSettled, EndsFlush}
use Rattle.vd_passes.specs.Causes.{Device, OfStore, OfBase, ticket_number, ticket_of_fault, FaultsAddUp, HasNextTicket, AreOfPasses}
use Rattle.vd_passes.specs.Tracing.{IsTicketOf}
use Rattle.vd_passes.specs.Following.{IsFollowed}
use Rattle.vd_passes.proofs.Blaming.{flying-same, kept-untold, numbered-untold, failed-untold}
use Rattle.vd_passes.proofs.BlamingSteps.{numbered-at, faultless}
use Rattle.vd_passes.proofs.Answered.{set-of-passes}
use Rattle.vd_passes.proofs.Tracing.{goes-on, fails-on, failure, traced-now, less-followed, set-followed}
use Rattle.vd_passes.proofs.Flushing.{IsFlushing, flushing-not}

-- The room that is left: a flush needs its Reply alone, and its calls use none.
module _ {block : ℕ} {p : Pass} (room : HasRoom block p) where
  reply-left : IsFlushing p → 1 ≤ p.events
  reply-left (inl asked) = let a = room.events in let e = ap (λ ph. events_needed ph p.write (pieces_left block p)) asked in omega arith
  reply-left (inr flushing) = let a = room.events in let e = ap (λ ph. events_needed ph p.write (pieces_left block p)) flushing in omega arith

  pub room-submits_meta : IsFlushing p → (ticket : Ticket) → HasRoom block (after_meta p ticket)
  room-submits_meta way ticket = record { events = reply-left way; sectors = omega arith; idle = λ is. absurd (cc) }

  pub room-meta_settled : p.phase ≡ Flushing → (answer : Settled) (ticket : Ticket) → HasRoom block (meta_settled answer p ticket)
  room-meta_settled is settled.Done ticket = record { events = room.events; sectors = room.sectors; idle = room.idle }
  room-meta_settled is (settled.NotYet same) ticket = room
  room-meta_settled is (settled.Failed number) ticket = record { events = reply-left (inr is); sectors = omega arith; idle = λ idle. absurd (cc) }

  pub room-ends_flush : IsFlushing p → (why : Option Fault) → HasRoom block (after_flush p why)
  room-ends_flush way why = record { events = reply-left way; sectors = omega arith; idle = λ is. absurd (cc) }

-- the settle leaves the pass its room, and its call
pub meta_settled-same : (answer : Settled) (p : Pass) (ticket : Ticket) → ((meta_settled answer p ticket).events ≡ p.events) × ((meta_settled answer p ticket).sectors ≡ p.sectors) × ((meta_settled answer p ticket).call ≡ p.call)
meta_settled-same settled.Done p ticket = (refl, refl, refl)
meta_settled-same (settled.NotYet same) p ticket = (refl, refl, refl)
meta_settled-same (settled.Failed number) p ticket = (refl, refl, refl)

-- What is told of the devices has its cause.

worn-names : (device : Device) (generation : ℕ) → ticket_of_fault device (Some (fault.Worn generation)) ≡ None
worn-names OfStore generation = refl
worn-names OfBase generation = refl

module _ {passes : List Pass} {history : List Entry} {last faults_at_opening faults : ℕ} (i : ℕ) (p : Pass) (there : slice_get passes i ≡ Some p) (u : Ticket) where
  settled-store : p.ticket ≡ Some u → FaultsAddUp OfStore passes history last faults_at_opening faults → (answer : Settled) (faults' late late' : ℕ) → IsCaused answer faults faults' late late'
      → FaultsAddUp OfStore (slice_set passes i (meta_settled answer p u)) history last faults_at_opening faults'
  settled-store has blamed settled.Done faults' late late' cause = kept-untold blamed i there (record p { ticket = None }) (inr refl) (inl refl) (omega arith) cause.0
  settled-store has blamed (settled.NotYet same) faults' late late' cause = kept-untold blamed i there p (inl refl) (inl refl) (omega arith) cause.0.0
  settled-store has blamed (settled.Failed number) faults' late late' cause = failed-untold blamed i there (after_fault (fault.Store u.number) p) (sym (ap ticket_number has)) refl cause.1

  settled-base : FaultsAddUp OfBase passes history last faults_at_opening faults → (answer : Settled) → FaultsAddUp OfBase (slice_set passes i (meta_settled answer p u)) history last faults_at_opening faults
  settled-base blamed settled.Done = kept-untold blamed i there (record p { ticket = None }) (inl refl) (inl refl) (omega arith) (omega arith)
  settled-base blamed (settled.NotYet same) = kept-untold blamed i there p (inl refl) (inl refl) (omega arith) (omega arith)
  settled-base blamed (settled.Failed number) = kept-untold blamed i there (after_fault (fault.Store u.number) p) (inr refl) (inr refl) (omega arith) (omega arith)

module _ {i : ℕ} {r r' : RequestState} {S : Type 0} {g : store.Ghosts S} {s s' : S} where
  module _ {content : List Sector} (step : SubmitsMeta g content i r r' s s') where
    pub submits_meta-blamed : {device : Device} {last last' faults_at_opening faults faults' : ℕ} → FaultsAddUp device r.passes r.entries last faults_at_opening faults → IsAt r'.passes i (HasNextTicket device last last') → faults ≤ faults'
        → FaultsAddUp device r'.passes r'.entries last' faults_at_opening faults'
    submits_meta-blamed {device} {last} {last'} {faults_at_opening} {faults} {faults'} blamed at rise = let p' = after_meta step.pass step.ticket in
        let next = numbered-at device r.passes r'.passes last last' i step.pass p' step.there (ap (λ (x : RequestState). x.passes) step.after) at in rw step.after (numbered-untold blamed i step.there p' next refl rise)

    pub submits_meta-base_blamed : {last faults_at_opening faults : ℕ} → FaultsAddUp OfBase r.passes r.entries last faults_at_opening faults → FaultsAddUp OfBase r'.passes r'.entries last faults_at_opening faults
    submits_meta-base_blamed {last} {faults_at_opening} {faults} blamed = rw step.after (kept-untold blamed i step.there (after_meta step.pass step.ticket) (inl refl) (inr refl) (omega arith) (omega arith))

    pub submits_meta-of-passes : AreOfPasses r.passes r.entries → AreOfPasses r'.passes r'.entries
    submits_meta-of-passes are = rw step.after (set-of-passes i (after_meta step.pass step.ticket) refl are)

  module _ {answer : Settled} (step : MetaSettled g answer i r r' s s') where
    pub meta_settled-blamed : {faults_at_opening faults faults' : ℕ} → FaultsAddUp OfStore r.passes r.entries (g.last s) faults_at_opening faults → (late late' : ℕ) → IsCaused answer faults faults' late late' → FaultsAddUp OfStore r'.passes r'.entries (g.last s') faults_at_opening faults'
    meta_settled-blamed {faults_at_opening} {faults} {faults'} blamed late late' cause = rw (step.after, step.call.last) (settled-store i step.pass step.there step.ticket step.has blamed answer faults' late late' cause)

    pub meta_settled-base_blamed : {last faults_at_opening faults : ℕ} → FaultsAddUp OfBase r.passes r.entries last faults_at_opening faults → FaultsAddUp OfBase r'.passes r'.entries last faults_at_opening faults
    meta_settled-base_blamed {last} {faults_at_opening} {faults} blamed = rw step.after (settled-base i step.pass step.there step.ticket blamed answer)

    pub meta_settled-of-passes : AreOfPasses r.passes r.entries → AreOfPasses r'.passes r'.entries
    meta_settled-of-passes are = rw step.after (set-of-passes i (meta_settled answer step.pass step.ticket) refl are)

module _ {why : Option Fault} {r r' : RequestState} {i : ℕ} (step : EndsFlush why i r r') where
  ends-names : (device : Device) → ticket_of_fault device why ≡ None
  ends-names device = elim step.cause [
    | inl over ↦ faultless device why over.0
    | inr worn ↦ ap (ticket_of_fault device) worn.1 ∙ worn-names device worn.0
  ]

  pub ends_flush-blamed : {device : Device} {last faults_at_opening faults : ℕ} → FaultsAddUp device r.passes r.entries last faults_at_opening faults → FaultsAddUp device r'.passes r'.entries last faults_at_opening faults
  ends_flush-blamed {device} {last} {faults_at_opening} {faults} blamed = let p' = after_flush step.pass why in
      rw step.after (kept-untold blamed i step.there p' (inl (flying-same device step.pass p' refl refl)) (inr (ends-names device)) (omega arith) (omega arith))

  pub ends_flush-of-passes : AreOfPasses r.passes r.entries → AreOfPasses r'.passes r'.entries
  ends_flush-of-passes are = rw step.after (set-of-passes i (after_flush step.pass why) refl are)

-- What traces the store faults.

-- a flush's ticket is any of the store's
flush-ticket-of : (log history : List Entry) (numbers : List ℕ) (id : CallId) (p : Pass) (ticket : ℕ) → p.flush ≡ true → (request : Asked) → IsRequestOf p request → IsTicketOf request log history numbers id ticket (length history)
flush-ticket-of log history numbers id p ticket serves (Read first count) is = absurd (let f = is.3 in cc)
flush-ticket-of log history numbers id p ticket serves (Write first content) is = absurd (let f = is.3 in cc)
flush-ticket-of log history numbers id p ticket serves Flush is = tt

module _ {passes : List Pass} {history : List Entry} {numbers : List ℕ} {log log' : List Entry} (followed : IsFollowed passes history numbers log) (i : ℕ) (p : Pass) (there : slice_get passes i ≡ Some p)
    (flushing : p.phase ≡ Flushing) (serves : p.flush ≡ true) (u : Ticket) where
  settled-followed : (answer : Settled) → log' ≡ log ++ settle_entries answer u [] → IsFollowed (slice_set passes i (meta_settled answer p u)) history numbers log'
  settled-followed settled.Done told =
      let grown = less-followed followed _ told in
      set-followed grown there (goes-on (grown.each i p there) (λ e. cc) (record p { ticket = None }) refl refl refl refl refl (λ e. cc) (λ e. cc) (λ is. absurd (cc)))
  settled-followed (settled.NotYet same) told = let grown = less-followed followed _ told in set-followed grown there (grown.each i p there)
  settled-followed (settled.Failed number) told =
      let e = failed_entry u.kind u in let grown = less-followed followed (e ∷ []) told in let p' = after_fault (fault.Store u.number) p in
      let traced = traced-now (followed.each i p there) (λ f. cc) u.number e told (failure u.kind u) (flush-ticket-of log history numbers (call_id i p) p u.number serves) in
      set-followed grown there (fails-on (grown.each i p there) (λ f. cc) p' refl refl refl refl refl u.number refl refl traced)

module _ {r r' : RequestState} {numbers : List ℕ} {i : ℕ} where
  pub ends_flush-followed : {why : Option Fault} {log : List Entry} → IsFollowed r.passes r.entries numbers log → EndsFlush why i r r' → IsFollowed r'.passes r'.entries numbers log
  ends_flush-followed {why} {log} followed step =
      let p = step.pass in let way : IsFlushing p = elim step.cause [ inl over ↦ inr over.1 | inr worn ↦ inl worn.2 ] in
      rw step.after (set-followed followed step.there (goes-on (followed.each i p step.there) (flushing-not p Idle way (λ e. cc) (λ e. cc)) (after_flush p why) refl refl refl refl refl (λ e. cc) (λ e. cc)
      (λ is ticket names. elim step.cause [ inl over ↦ let none = over.0 in cc | inr worn ↦ let other = worn.1 in cc ])))

  module _ {S : Type 0} {g : store.Ghosts S} {s s' : S} where
    pub submits_meta-followed : {content : List Sector} → IsFollowed r.passes r.entries numbers (g.disk s).log
        → (step : SubmitsMeta g content i r r' s s') → Adds (meta_entry step.ticket.kind step.ticket content) (g.disk s) (g.disk s') → IsFollowed r'.passes r'.entries numbers (g.disk s').log
    submits_meta-followed {content} followed step told =
        let p = step.pass in let grown = less-followed followed (meta_entry step.ticket.kind step.ticket content ∷ []) told.log in
        rw step.after (set-followed grown step.there (goes-on (grown.each i p step.there) (flushing-not p Idle step.phase (λ e. cc) (λ e. cc)) (after_meta p step.ticket) refl refl refl refl refl (λ e. cc) (λ e. cc) (λ is. absurd (cc))))

    pub meta_settled-followed : {B : Type 0} {h : base.Ghosts B} {places : ℕ → Option ℕ} {b : B} → IsCoherent g h r places s b → {answer : Settled} → IsFollowed r.passes r.entries numbers (g.disk s).log
        → (step : MetaSettled g answer i r r' s s') → Tells answer step.ticket [] (g.disk s) (g.disk s') → IsFollowed r'.passes r'.entries numbers (g.disk s').log
    meta_settled-followed {B} {h} {places} {b} co {answer} followed step told =
        rw step.after (settled-followed followed i step.pass step.there step.phase ((co.each i step.pass step.there).flush step.phase) step.ticket answer told.grows.log)
