-- The write of a pass is settled: it is done, is late, or has failed.
use Rattle.std.proofs.Common.{◌≡◌, ◌≢◌, ℕ, ◌+◌, ◌-◌, ◌*◌, ◌<◌, ◌⊎◌, Bool, true, false, nat_lt, List, [], ◌∷◌, ◌++◌, refl, sym, ◌∙◌, ap, subst, inl, inr, arith, Option, Some, None, slice_get, slice_set}
use Rattle.std.specs.Prelude.{if◌then◌else◌}
use Rattle.std.specs.List.{Contains}
use Rattle.std.proofs.lemmas.Bool.{ltb-true, ltb-false}
use Rattle.vd_law.specs.declared.entry.CallId.{CallId}
use Rattle.vd_law.specs.declared.entry.Sector.{Sector}
use Rattle.vd_law.specs.Entries.{Entry, Done, Broke}
use Rattle.vd_law.specs.Calls.{progress_after}
use Rattle.vd_law.specs.Rules.{IsRegular}
use Rattle.vd_device.specs.declared.ticket.Ticket.{Ticket}
use Rattle.vd_device.specs.declared.ticket.Kind.TheVariants.{Write as WriteKind}
use Rattle.vd_device.specs.declared.settled.Settled.{Settled}
use Rattle.vd_device.specs.declared.settled.Settled.TheVariants as settled
use Rattle.vd_device.specs.Tickets.{ticket_id, Takes, KeepsFlight, IsInFlight}
use Rattle.vd_device.specs.Disks.{Adds, GrowsBy}
use Rattle.vd_device.specs.Calls.{done_entry, failed_entry, settle_entries}
use Rattle.vd_passes.specs.declared.shape.Shape.{Shape}
use Rattle.vd_passes.specs.declared.pass.Pass.{Pass}
use Rattle.vd_passes.specs.declared.pass.Phase.TheVariants.{Idle, Asked as HasAsked, Issuing, Ready}
use Rattle.vd_passes.specs.declared.pass.Fault.TheVariants as fault
use Rattle.vd_passes.specs.Tracks.{Track, track, writes}
use Rattle.vd_passes.specs.Standings.{Standing, standing}
use Rattle.vd_passes.specs.Passes.{has_region, call_id, tickets_of, IsPiece, IsAsHistorySays, HasOutcome, pending_of, after_piece, after_fault, after_spending}
use Rattle.vd_passes.specs.Coherent.{IsCoherent, IsFaithful, IsUnfilled, IsFilled}
use Rattle.vd_passes.specs.Steps.{IsAt, IsWaiting, WriteSettled}
use Rattle.vd_passes.specs.Requests.{RequestState}
use Rattle.vd_passes.proofs.Growing.{AreAlike, alike-store}
use Rattle.vd_passes.proofs.Lists.{some-inj, tickets-taken}
use Rattle.vd_passes.proofs.Standing.{last_of, IsServing, standing-own, regular-done, regular-broke}
use Rattle.vd_passes.proofs.Tracks.{writes-more, disk-same, done-none, done-other, broke-contents}
use Rattle.vd_passes.proofs.Regions.{region-of, write-ticket, alone, request-kept, stands-freshens}
use Rattle.vd_passes.proofs.Closing.{Closes, done-closes, broke-closes, writer, is-write, other-call, close-coherent, close-faithful}
use Rattle.vd_passes.proofs.Written.{next-freshens, done-stands, broke-stands}
use Rattle.vd_device.specs.declared.store.Store.{Ghosts as StoreGhosts}
use Rattle.vd_device.specs.declared.base.Base.{Ghosts as BaseGhosts}
use Rattle.vd_passes.specs.Requests.{requests}

abbrev id-of : ℕ → ℕ → CallId
id-of i call = record { pass = i; call = call }

-- The two ways in which a write ends.
module _ {shape : Shape} {fresh : List Bool} {places : ℕ → Option ℕ} {passes : List Pass} {history : List Entry} {S B : Type 0} {g : StoreGhosts S} {h : BaseGhosts B} {store : S} {base : B}
    (co : IsCoherent g h (requests shape fresh passes history) places store base) (i : ℕ) (p : Pass) (there : slice_get passes i ≡ Some p)
    (issuing : p.phase ≡ Issuing) where
  abbrev now : IsAsHistorySays shape fresh places (standing history i) p
  now = co.each i p there

  not-idle : p.phase ≢ Idle
  not-idle e = cc

  not-ready : p.phase ≢ Ready
  not-ready e = cc

  unbroken : ((standing history i).progress.broken ≡ false) × (p.fault ≡ None)
  unbroken = now.whole not-idle not-ready

  open-write : (standing history i).progress.pending ≡ p.piece
  open-write = now.pending not-idle ∙ ap (λ ph. pending_of ph p.piece) issuing

  piece-of : IsPiece shape p
  piece-of = now.piece (region-of _ Issuing refl issuing)

  no-flush : p.flush ≡ false
  no-flush = now.no_flush (region-of _ Issuing refl issuing)

  some-open : 0 < (standing history i).progress.pending
  some-open = let s = piece-of.some in let w = open-write in omega arith

  last-is : call_id i p ≡ last_of history i
  last-is = ap (id-of i) (sym now.call)

  serves : IsServing history i (now.busy not-idle).0
  serves = record { asked = (now.busy not-idle).1; unanswered = now.unanswered not-idle }

  abbrev after-done : Standing
  after-done = record (standing history i) { progress = progress_after (standing history i).progress (Done (call_id i p)) }

  abbrev after-broke : Standing
  after-broke = record (standing history i) { progress = progress_after (standing history i).progress (Broke (call_id i p)) }

  abbrev piece-next : Bool → Pass
  piece-next b = after_spending 1 0 (record p { phase = if b then HasAsked else Ready; done = p.done + p.piece; ticket = None; fetch = None })

  goes-on : (b : Bool) → nat_lt (p.done + p.piece) p.count ≡ b → IsAsHistorySays shape fresh places after-done (piece-next b)
  goes-on true is = record {
    call = now.call;
    idle = λ e. absurd (cc);
    busy = λ e. let r = now.busy not-idle in (r.0, r.1, request-kept p (piece-next true) r.0 refl refl refl refl r.2);
    unanswered = λ e. now.unanswered not-idle;
    done = λ e. let d = now.done not-idle in let w = open-write in omega arith;
    range = λ e. ((now.range not-idle).0, piece-of.no_more);
    pending = λ e. refl;
    whole = λ e f. unbroken;
    ready = λ e. absurd (cc);
    write = λ e. absurd (cc);
    read = λ e. absurd (cc);
    left = λ e f. ltb-true _ _ is;
    flush = λ e. absurd (cc);
    no_flush = λ e. absurd (cc);
    unstarted = λ e f. absurd (let n = no-flush in cc);
    placed = λ e. now.placed not-idle;
    piece = λ e. absurd (cc);
    at = λ e. absurd (cc);
    ticket = record { ticket = refl; fetch = refl };
    buffer = now.buffer;
  }
  goes-on false is = record {
    call = now.call;
    idle = λ e. absurd (cc);
    busy = λ e. let r = now.busy not-idle in (r.0, r.1, request-kept p (piece-next false) r.0 refl refl refl refl r.2);
    unanswered = λ e. now.unanswered not-idle;
    done = λ e. let d = now.done not-idle in let w = open-write in omega arith;
    range = λ e. ((now.range not-idle).0, piece-of.no_more);
    pending = λ e. refl;
    whole = λ e f. unbroken;
    ready = λ e. subst (HasOutcome (piece-next false) (standing history i).progress.broken) (sym unbroken.1) ((let n = piece-of.no_more in let m = ltb-false _ _ is in omega arith), unbroken.0);
    write = λ e. absurd (cc);
    read = λ e. absurd (cc);
    left = λ e. absurd (cc);
    flush = λ e. absurd (cc);
    no_flush = λ e. absurd (cc);
    unstarted = λ e f. absurd (let n = no-flush in cc);
    placed = λ e. now.placed not-idle;
    piece = λ e. absurd (cc);
    at = λ e. absurd (cc);
    ticket = record { ticket = refl; fetch = refl };
    buffer = now.buffer;
  }

  no-region : (b : Bool) → has_region (piece-next b).phase ≡ false
  no-region true = refl
  no-region false = refl

  abbrev more-left : Bool
  more-left = nat_lt (p.done + p.piece) p.count

  abbrev broken-next : ℕ → Pass
  broken-next number = after_spending 1 0 (after_fault (fault.Store number) p)

  failed : (number : ℕ) → IsAsHistorySays shape fresh places after-broke (broken-next number)
  failed number = record {
    call = now.call;
    idle = λ e. absurd (cc);
    busy = λ e. let r = now.busy not-idle in (r.0, r.1, request-kept p (broken-next number) r.0 refl refl refl refl r.2);
    unanswered = λ e. now.unanswered not-idle;
    done = λ e. now.done not-idle;
    range = λ e. now.range not-idle;
    pending = λ e. refl;
    whole = λ e f. absurd (f refl);
    ready = λ e. (inr (let n = piece-of.no_more in let s = piece-of.some in omega arith), sym (writer co i p there issuing _ (write-ticket now issuing).1));
    write = λ e. absurd (cc);
    read = λ e. absurd (cc);
    left = λ e. absurd (cc);
    flush = λ e. absurd (cc);
    no_flush = λ e. absurd (cc);
    unstarted = λ e f. absurd (let n = no-flush in cc);
    placed = λ e. now.placed not-idle;
    piece = λ e. absurd (cc);
    at = λ e. absurd (cc);
    ticket = record { ticket = refl; fetch = refl };
    buffer = now.buffer;
  }

  abbrev last-write : ℕ → Track
  last-write s = record { contents = []; writes = writes history s }

  module _ (t : Ticket) (has : p.ticket ≡ Some t) where
    pub done-coherent : (store' : S) → AreAlike g h store store' base base → Takes t (g.flight store) (g.flight store') → IsCoherent g h (requests shape (slice_set fresh p.block true) (slice_set passes i (after_spending 1 0 (after_piece p))) (history ++ Done (call_id i p) ∷ [])) places store' base
    done-coherent store' alike takes =
        let more = next-freshens co i p there issuing t has in
        let freed = no-region more-left in
        close-coherent co i p there issuing t has (piece-next more-left) freed (Done (call_id i p)) (slice_set fresh p.block true) store' alike refl
        (subst (λ id. IsRegular (shape.block * shape.blocks) (history ++ Done id ∷ [])) (sym last-is) (regular-done i _ co.regular serves some-open))
        (λ s. subst (λ ws. Closes (call_id i p) (writes history s) ws) (sym (writes-more history (Done (call_id i p)) s (last-write s) refl)) (done-closes s (last-write s) (call_id i p)))
        more.size more.others
        (λ j q at ne. stands-freshens more (λ held same. ne (alone co i p there (region-of _ Issuing refl issuing) (writer co i p there issuing t has) j q at held same)) (co.each j q at))
        (stands-freshens more (λ held. absurd (cc)) (subst (λ h. IsAsHistorySays shape fresh places h (piece-next more-left)) (sym (standing-own history (Done (call_id i p)) i last-is tt)) (goes-on more-left refl)))
        refl refl takes

    pub broke-coherent : (number : ℕ) (store' : S) → AreAlike g h store store' base base → Takes t (g.flight store) (g.flight store') → IsCoherent g h (requests shape fresh (slice_set passes i (after_spending 1 0 (after_fault (fault.Store number) p))) (history ++ Broke (call_id i p) ∷ [])) places store' base
    broke-coherent number store' alike takes =
        close-coherent co i p there issuing t has (broken-next number) refl (Broke (call_id i p)) fresh store' alike refl
        (subst (λ id. IsRegular (shape.block * shape.blocks) (history ++ Broke id ∷ [])) (sym last-is) (regular-broke i _ co.regular serves some-open))
        (λ s. subst (λ ws. Closes (call_id i p) (writes history s) ws) (sym (writes-more history (Broke (call_id i p)) s (last-write s) refl)) (broke-closes s (last-write s) (call_id i p)))
        refl (λ b ne. refl)
        (λ j q at ne. co.each j q at)
        (subst (λ h. IsAsHistorySays shape fresh places h (broken-next number)) (sym (standing-own history (Broke (call_id i p)) i last-is tt)) (failed number))
        refl refl takes

    module _ {start : List Sector} {rest : ℕ → Sector} {store' : S} (fa : IsFaithful g start rest (requests shape fresh passes history) places store) where
      pub done-faithful : g.last store' ≡ g.last store → Adds (Done (ticket_id t)) (g.disk store) (g.disk store') → IsFaithful g start rest (requests shape (slice_set fresh p.block true) (slice_set passes i (after_spending 1 0 (after_piece p))) (history ++ Done (call_id i p) ∷ [])) places store'
      done-faithful same adds = close-faithful co i p there issuing t has fa (piece-next more-left) (no-region more-left) same (Done (call_id i p)) (Done (ticket_id t)) (slice_set fresh p.block true) refl tt adds
          (λ s. done-closes s _ _) (λ a. done-closes a _ _)
          (done-stands co i p there issuing t has fa)
          (λ a w ne v among. elim w.source [
            | inl own ↦ subst (λ cs. Contains cs v) (sym (done-other w.sector _ (call_id i p) (call_id w.by w.pass) w.content own (other-call co i p there issuing t has w.pass w.by ne)).0) among
            | inr fill ↦ subst (λ cs. Contains cs v) (sym (done-none w.sector _ (call_id i p) fill.0).0) among
          ])

      pub broke-faithful : (number : ℕ) → g.last store' ≡ g.last store → Adds (Broke (ticket_id t)) (g.disk store) (g.disk store') → IsFaithful g start rest (requests shape fresh (slice_set passes i (after_spending 1 0 (after_fault (fault.Store number) p))) (history ++ Broke (call_id i p) ∷ [])) places store'
      broke-faithful number same adds = close-faithful co i p there issuing t has fa (broken-next number) refl same (Broke (call_id i p)) (Broke (ticket_id t)) fresh refl tt adds
          (λ s. broke-closes s _ _) (λ a. broke-closes a _ _)
          (broke-stands co i p there issuing t has fa)
          (λ a w ne v among. subst (λ cs. Contains cs v) (sym (broke-contents w.sector _ (call_id i p))) among)

-- A call that is late leaves all as it was.
pub late-coherent : {shape : Shape} {fresh : List Bool} {places : ℕ → Option ℕ} {passes : List Pass} {history : List Entry} {S B : Type 0} {g : StoreGhosts S} {h : BaseGhosts B} {store store' : S} {base base' : B}
    → IsCoherent g h (requests shape fresh passes history) places store base → AreAlike g h store store' base base' → KeepsFlight (g.flight store) (g.flight store') → KeepsFlight (h.flight base) (h.flight base')
    → IsCoherent g h (requests shape fresh passes history) places store' base'
late-coherent co alike keeps base_keeps = record {
  shaped = rw (alike.sectors, alike.base_sectors) co.shaped;
  size = co.size;
  placed = rw alike.sectors co.placed;
  fresh_placed = co.fresh_placed;
  regular = co.regular;
  few = co.few;
  deep = rw alike.depth co.deep;
  base_deep = rw alike.base_depth co.base_deep;
  each = co.each;
  apart = co.apart;
  flight = keeps _ co.flight;
  base_flight = base_keeps _ co.base_flight;
  guest = co.guest;
}

pub late-faithful : {start : List Sector} {rest : ℕ → Sector} {shape : Shape} {fresh : List Bool} {places : ℕ → Option ℕ} {passes : List Pass} {history : List Entry} {S : Type 0} {g : StoreGhosts S} {store store' : S}
    → IsFaithful g start rest (requests shape fresh passes history) places store → g.last store' ≡ g.last store → GrowsBy [] (g.disk store) (g.disk store') → IsFaithful g start rest (requests shape fresh passes history) places store'
late-faithful {start} {rest} {shape} {fresh} {places} {passes} {history} fa same grows = record {
  size = fa.size;
  shown = fa.shown;
  numbers = λ i p t there has. rw same (fa.numbers i p t there has);
  distinct = fa.distinct;
  stands = λ s inside. record {
    local = λ b x in_b is at v among. (fa.stands s inside).local b x in_b is at v (subst (λ (d : Track). Contains d.contents v) (disk-same (x + (s - shape.block * b)) grows) among);
    other = (fa.stands s inside).other;
  };
  filling = λ a low. subst (λ d. IsUnfilled passes a d ⊎ IsFilled shape.block passes a (track start history) d) (sym (disk-same a grows)) (fa.filling a low);
  buffers = fa.buffers;
}

-- the ticket of a pass is in flight
pub in-flight : (passes : List Pass) {flying : List Ticket → Type 0} → flying (tickets_of passes) → (i : ℕ) (p : Pass) (t : Ticket) → slice_get passes i ≡ Some p → p.ticket ≡ Some t → IsInFlight flying t
in-flight passes {flying} flight i p t there has = (tickets_of (slice_set passes i (record p { ticket = None })), tickets_of passes, tickets-taken passes i p (record p { ticket = None }) t there has refl, flight)

pub waiting-write : {shape : Shape} {fresh : List Bool} {places : ℕ → Option ℕ} {passes : List Pass} {history : List Entry} {S B : Type 0} {g : StoreGhosts S} {h : BaseGhosts B} {store : S} {base : B}
    → IsCoherent g h (requests shape fresh passes history) places store base → (i : ℕ) → IsAt passes i (λ p. p.phase ≡ Issuing) → IsAt passes i (IsWaiting g WriteKind shape store)
waiting-write {passes = passes} co i at =
    let stands = co.each i at.0 at.1 in
    let has = write-ticket stands at.2 in (
      at.0,
      at.1,
      record {
        ticket = has.0;
        has = has.1;
        none = has.2;
        is = has.3;
        mine = in-flight passes co.flight i at.0 has.0 at.1 has.1;
        piece = stands.piece (region-of _ Issuing refl at.2);
        end = let r = (stands.range (λ e. absurd (let was = at.2 in cc))).0 in let s = co.shaped.size in omega arith;
      },
    )

module _ {shape : Shape} {fresh : List Bool} {places : ℕ → Option ℕ} {passes : List Pass} {history : List Entry} {i : ℕ} {S B : Type 0} {g : StoreGhosts S} {h : BaseGhosts B} {store store' : S} {base : B} {r' : RequestState}
    (co : IsCoherent g h (requests shape fresh passes history) places store base) (at : IsAt passes i (λ p. p.phase ≡ Issuing)) where
  issues : {answer : Settled} → (step : WriteSettled g answer i (requests shape fresh passes history) r' store store') → step.pass.phase ≡ Issuing
  issues {answer} step = ap (λ (x : Pass). x.phase) (some-inj (sym step.there ∙ at.1)) ∙ at.2

  settled-coherent : (answer : Settled) → WriteSettled g answer i (requests shape fresh passes history) r' store store' → IsCoherent g h r' places store' base
  settled-coherent settled.Done step = rw step.after (done-coherent co i step.pass step.there (issues step) step.ticket step.has store' (alike-store step.call.counts) step.call.settles)
  settled-coherent (settled.NotYet same) step = rw step.after (late-coherent co (alike-store step.call.counts) step.call.settles.2 (λ ts f. f))
  settled-coherent (settled.Failed number) step =
      rw step.after (broke-coherent co i step.pass step.there (issues step) step.ticket step.has step.ticket.number store' (alike-store step.call.counts) step.call.settles.2)

  module _ {start : List Sector} {rest : ℕ → Sector} where
    settled-faithful : (answer : Settled) (step : WriteSettled g answer i (requests shape fresh passes history) r' store store') → IsFaithful g start rest (requests shape fresh passes history) places store
        → GrowsBy (settle_entries answer step.ticket []) (g.disk store) (g.disk store') → IsFaithful g start rest r' places store'
    settled-faithful settled.Done step fa grows = rw step.after (done-faithful co i step.pass step.there (issues step) step.ticket step.has fa step.call.last
        (subst (λ k. Adds (done_entry k step.ticket []) (g.disk store) (g.disk store')) (is-write co i step.pass step.there (issues step) step.ticket step.has) grows))
    settled-faithful (settled.NotYet same) step fa grows = rw step.after (late-faithful fa step.call.last grows)
    settled-faithful (settled.Failed number) step fa grows = rw step.after (broke-faithful co i step.pass step.there (issues step) step.ticket step.has fa step.ticket.number step.call.last
        (subst (λ k. Adds (failed_entry k step.ticket) (g.disk store) (g.disk store')) (is-write co i step.pass step.there (issues step) step.ticket step.has) grows))

    pub write_settled-faithful : {answer : Settled} → WriteSettled g answer i (requests shape fresh passes history) r' store store' → (g.tells store → IsFaithful g start rest (requests shape fresh passes history) places store)
        → g.tells store' → IsFaithful g start rest r' places store'
    write_settled-faithful {answer} step fa told = settled-faithful answer step (fa (step.call.takes.keeps.told_before told)) (step.call.takes.told told)

  pub write_settled-coherent : {answer : Settled} → WriteSettled g answer i (requests shape fresh passes history) r' store store' → IsCoherent g h r' places store' base
  write_settled-coherent {answer} step = settled-coherent answer step
