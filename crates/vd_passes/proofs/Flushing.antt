-- A flush submits a call, settles it and ends: the passes stay coherent.
use Rattle.std.proofs.Common.{◌≡◌, ◌≢◌, ℕ, ◌+◌, ◌<◌, ◌≤◌, ◌⊎◌, Bool, true, false, List, [], map, length, refl, sym, ◌∙◌, ap, subst, inl, inr, arith, Option, Some, None, slice_get, slice_set}
use Rattle.std.proofs.lemmas.Bool.{cases_eq}
use Rattle.vd_law.specs.declared.entry.Sector.{Sector}
use Rattle.vd_law.specs.Entries.{Asked, Read, Write, Flush}
use Rattle.vd_device.specs.declared.store.Store as store
use Rattle.vd_device.specs.declared.base.Base as base
use Rattle.vd_device.specs.declared.ticket.Ticket.{Ticket}
use Rattle.vd_device.specs.declared.ticket.Kind.TheVariants.{Write as WriteKind}
use Rattle.vd_device.specs.declared.settled.Settled.{Settled}
use Rattle.vd_device.specs.declared.settled.Settled.TheVariants as settled
use Rattle.vd_device.specs.Tickets.{IsFree, HasPlace, IsInFlight, AreRangesApart as RangesApart}
use Rattle.vd_device.specs.Calls.{Settles}
use Rattle.vd_passes.specs.declared.shape.Shape.{Shape}
use Rattle.vd_device.specs.Stores.{StoreCountsStand}
use Rattle.vd_passes.specs.Requests.{RequestState, with_pass}
use Rattle.vd_passes.specs.declared.pass.Pass.{Pass}
use Rattle.vd_passes.specs.declared.pass.Phase.{Phase}
use Rattle.vd_passes.specs.declared.pass.Phase.TheVariants.{Idle, Asked as HasAsked, Issuing, Flushing, Ready}
use Rattle.vd_passes.specs.declared.pass.Fault.{Fault}
use Rattle.vd_passes.specs.declared.pass.Fault.TheVariants as fault
use Rattle.vd_passes.specs.Standings.{Standing, standing}
use Rattle.vd_passes.specs.Passes.{has_region, region_of, pending_of, tickets_of, IsRequestOf, IsMeta, HasInFlight, HasOutcome, IsAsHistorySays, after_meta, after_flush, after_fault}
use Rattle.vd_passes.specs.Coherent.{IsCoherent}
use Rattle.vd_passes.specs.Steps.{IsAt, SubmitsMeta, meta_settled, MetaSettled, EndsFlush}
use Rattle.vd_passes.proofs.Lists.{some-inj, tickets-put, tickets-taken, tickets-same, fetches-same, few-tickets, all-tickets}
use Rattle.vd_passes.proofs.Regions.{region-of, issuing-place, request-kept}
use Rattle.vd_passes.proofs.Growing.{alike-store}
use Rattle.vd_passes.proofs.NotIssuing.{quiet-coherent, apart-free}
use Rattle.vd_passes.proofs.Holding.{region-none, regions-kept}
use Rattle.vd_passes.proofs.Settling.{in-flight}
use Rattle.vd_passes.proofs.Ready.{writes-there, stored-in}

-- the pass has asked its flush, or has it under way
abbrev pub IsFlushing : Pass → Type 0
IsFlushing p = (p.phase ≡ HasAsked) ⊎ (p.phase ≡ Flushing)

pub flushing-not : (p : Pass) (phase : Phase) → IsFlushing p → HasAsked ≢ phase → Flushing ≢ phase → p.phase ≢ phase
flushing-not p phase (inl asked) not_asked not_flushing e = not_asked (sym asked ∙ e)
flushing-not p phase (inr flushing) not_asked not_flushing e = not_flushing (sym flushing ∙ e)

pub flushing-region : (p : Pass) → IsFlushing p → has_region p.phase ≡ false
flushing-region p (inl asked) = ap has_region asked
flushing-region p (inr flushing) = ap has_region flushing

flushing-pending : (p : Pass) → IsFlushing p → pending_of p.phase p.piece ≡ 0
flushing-pending p (inl asked) = ap (λ (ph : Phase). pending_of ph p.piece) asked
flushing-pending p (inr flushing) = ap (λ (ph : Phase). pending_of ph p.piece) flushing

-- a flush writes no sector of the guest, and has none
pub flush-empty : (p : Pass) (r : Asked) → IsRequestOf p r → p.flush ≡ true → (p.write ≡ false) × (p.count ≡ 0)
flush-empty p (Read first count) is serves = absurd (let f = is.3 in cc)
flush-empty p (Write first content) is serves = absurd (let f = is.3 in cc)
flush-empty p Flush is serves = (is.0, is.2)

module _ {shape : Shape} {fresh : List Bool} {places : ℕ → Option ℕ} {t : Standing} {p : Pass} (stands : IsAsHistorySays shape fresh places t p) where
  pub flush-ticket : p.phase ≡ Flushing → HasInFlight Flushing shape fresh p
  flush-ticket is = subst (λ ph. HasInFlight ph shape fresh p) is stands.ticket

  pub asked-ticket : p.phase ≡ HasAsked → HasInFlight HasAsked shape fresh p
  asked-ticket is = subst (λ ph. HasInFlight ph shape fresh p) is stands.ticket

  module _ (under_way : IsFlushing p) where
    -- it reads nothing from the base
    pub flush-fetch : p.fetch ≡ None
    flush-fetch = elim under_way [
      | inl asked ↦ (asked-ticket asked).fetch
      | inr flushing ↦ (flush-ticket flushing).0
    ]

    busy : p.phase ≢ Idle
    busy = flushing-not p Idle under_way (λ e. cc) (λ e. cc)

    unready : p.phase ≢ Ready
    unready = flushing-not p Ready under_way (λ e. cc) (λ e. cc)

    module _ (serves : p.flush ≡ true) where
      empty : (p.write ≡ false) × (p.count ≡ 0)
      empty = let b = stands.busy busy in flush-empty p b.0 b.2 serves

      abbrev going : Option Ticket → Pass
      going ticket = record p { phase = Flushing; ticket = ticket }

      -- it goes on with its flush
      pub meta-stands : (ticket : Option Ticket) → ((u : Ticket) → ticket ≡ Some u → IsMeta shape u) → IsAsHistorySays shape fresh places t (going ticket)
      meta-stands ticket metas = record {
        call = stands.call;
        idle = λ e. absurd (cc);
        busy = λ e. let b = stands.busy busy in (b.0, b.1, request-kept p (going ticket) b.0 refl refl refl refl b.2);
        unanswered = λ e. stands.unanswered busy;
        done = λ e. stands.done busy;
        range = λ e. stands.range busy;
        pending = λ e. stands.pending busy ∙ flushing-pending p under_way;
        whole = λ e f. stands.whole busy unready;
        ready = λ e. absurd (cc);
        write = λ e. absurd (cc);
        read = λ e. absurd (cc);
        left = λ e. absurd (cc);
        flush = λ e. serves;
        no_flush = λ e. absurd (cc);
        unstarted = λ e f. stands.unstarted busy serves;
        placed = λ e. stands.placed busy;
        piece = λ e. absurd (cc);
        at = λ e. absurd (cc);
        ticket = (flush-fetch, metas);
        buffer = stands.buffer;
      }

      abbrev ended : Option Fault → (ticket fetch : Option Ticket) → Pass
      ended why ticket fetch = record p { phase = Ready; fault = why; ticket = ticket; fetch = fetch }

      -- why a flush can have ended
      abbrev pub EndsFor : Option Fault → Type 0
      EndsFor why = (why ≡ None) ⊎ ((number : ℕ) × (why ≡ Some (fault.Store number))) ⊎ ((generation : ℕ) × (why ≡ Some (fault.Worn generation)))

      -- its outcome is known
      pub ended-stands : (why : Option Fault) (ticket fetch : Option Ticket) → EndsFor why → ticket ≡ None → fetch ≡ None → IsAsHistorySays shape fresh places t (ended why ticket fetch)
      ended-stands why ticket fetch cause no_ticket no_fetch =
          let p' = ended why ticket fetch in let whole = stands.whole busy unready in
          record {
            call = stands.call;
            idle = λ e. absurd (cc);
            busy = λ e. let b = stands.busy busy in (b.0, b.1, request-kept p p' b.0 refl refl refl refl b.2);
            unanswered = λ e. stands.unanswered busy;
            done = λ e. stands.done busy;
            range = λ e. stands.range busy;
            pending = λ e. stands.pending busy ∙ flushing-pending p under_way;
            whole = λ e f. absurd (f refl);
            ready = λ e. elim cause [
              | inl fine ↦ subst (HasOutcome p' t.progress.broken) (sym fine) ((let range = (stands.range busy).1 in let none = empty.1 in omega arith), whole.0)
              | inr other ↦ elim other [
                | inl failed ↦ subst (HasOutcome p' t.progress.broken) (sym failed.1) (inl serves, whole.0 ∙ sym empty.0)
                | inr worn ↦ subst (HasOutcome p' t.progress.broken) (sym worn.1) (serves, whole.0)
              ]
            ];
            write = λ e. absurd (cc);
            read = λ e. absurd (cc);
            left = λ e. absurd (cc);
            flush = λ e. absurd (cc);
            no_flush = λ e. absurd (cc);
            unstarted = λ e f. stands.unstarted busy serves;
            placed = λ e. stands.placed busy;
            piece = λ e. absurd (cc);
            at = λ e. absurd (cc);
            ticket = record { ticket = no_ticket; fetch = no_fetch };
            buffer = stands.buffer;
          }

module _ {S B : Type 0} {g : store.Ghosts S} {h : base.Ghosts B} {r : RequestState} {places : ℕ → Option ℕ} {s : S} {b : B} (co : IsCoherent g h r places s b) where
  -- nothing was called
  counts-stood : StoreCountsStand g s s
  counts-stood = record { sectors = refl; depth = refl; faults = omega arith; late = omega arith; last = omega arith }

  -- A pass changes that has its flush under way before the step, and neither issues nor has a region after it.
  module _ (i : ℕ) (p : Pass) (there : slice_get r.passes i ≡ Some p) (under_way : IsFlushing p) where
    pub flushing-not-issuing : p.phase ≢ Issuing
    flushing-not-issuing = flushing-not p Issuing under_way (λ e. cc) (λ e. cc)

    flush-coherent : (p' : Pass) {s' : S} → StoreCountsStand g s s' → has_region p'.phase ≡ false → p'.fetch ≡ None → IsAsHistorySays r.shape r.fresh places (standing r.entries i) p' → g.flight s' (tickets_of (slice_set r.passes i p'))
        → IsCoherent g h (with_pass i p' r) places s' b
    flush-coherent p' {s'} counts no_region no_fetch stands flight = quiet-coherent co i p there flushing-not-issuing p' (λ e. absurd (let f = ap has_region e in cc)) s' b (alike-store counts) stands
        (λ k q at ne. apart-free p' q no_region)
        flight
        (subst (h.flight b) (sym (fetches-same r.passes i p p' there (no_fetch ∙ sym (flush-fetch (co.each i p there) under_way)))) co.base_flight)

  -- A call is settled.
  module _ (i : ℕ) (p : Pass) (there : slice_get r.passes i ≡ Some p) (flushing : p.phase ≡ Flushing) (u : Ticket) (has : p.ticket ≡ Some u) where
    stood : IsAsHistorySays r.shape r.fresh places (standing r.entries i) p
    stood = co.each i p there

    settled-coherent : (answer : Settled) {s' : S} (out out' : List Sector) → StoreCountsStand g s s' → Settles answer u out out' (g.flight s) (g.flight s') → IsCoherent g h (with_pass i (meta_settled answer p u) r) places s' b
    settled-coherent settled.Done {s'} out out' counts takes =
        let p' : Pass = record p { ticket = None } in
        flush-coherent i p there (inr flushing) p' counts (ap has_region flushing) (flush-fetch stood (inr flushing))
        (subst (λ (ph : Phase). IsAsHistorySays r.shape r.fresh places (standing r.entries i) (record p { phase = ph; ticket = None })) (sym flushing) (meta-stands stood (inr flushing) (stood.flush flushing) None (λ v is. absurd (cc))))
        (takes _ _ (tickets-taken r.passes i p p' u there has refl) co.flight)
    settled-coherent (settled.NotYet same) {s'} out out' counts keeps =
        flush-coherent i p there (inr flushing) p counts (ap has_region flushing) (flush-fetch stood (inr flushing)) stood
        (keeps.2 _ (subst (g.flight s) (sym (tickets-same r.passes i p p there refl)) co.flight))
    settled-coherent (settled.Failed number) {s'} out out' counts fails =
        let p' = after_fault (fault.Store u.number) p in
        flush-coherent i p there (inr flushing) p' counts refl refl
        (ended-stands stood (inr flushing) (stood.flush flushing) (Some (fault.Store u.number)) None None (inr (inl (u.number, refl))) refl refl)
        (fails.2 _ _ (tickets-taken r.passes i p p' u there has refl) co.flight)

  -- The steps, as their records say them.
  module _ {i : ℕ} {r' : RequestState} where
    module _ {s' : S} where
      pub submits_meta-coherent : {content : List Sector} → SubmitsMeta g content i r r' s s' → IsCoherent g h r' places s' b
      submits_meta-coherent {content} step =
          let p = step.pass in let p' = after_meta p step.ticket in let stands = co.each i p step.there in
          rw step.after (flush-coherent i p step.there step.phase p' step.call.counts refl (flush-fetch stands step.phase)
          (meta-stands stands step.phase step.serves (Some step.ticket) (λ v is. subst (IsMeta r.shape) (some-inj is) step.is_meta))
          (step.call.flight _ _ (tickets-put r.passes i p p' step.ticket step.there step.none refl) co.flight))

      pub meta_settled-coherent : {answer : Settled} → MetaSettled g answer i r r' s s' → IsCoherent g h r' places s' b
      meta_settled-coherent {answer} step = rw step.after (settled-coherent i step.pass step.there step.phase step.ticket step.has answer [] [] step.call.counts step.call.settles)

    ends-way : {why : Option Fault} (step : EndsFlush why i r r') → IsFlushing step.pass
    ends-way {why} step = elim step.cause [ inl over ↦ inr over.1 | inr worn ↦ inl worn.2 ]

    ends-for : {why : Option Fault} (step : EndsFlush why i r r') → (why ≡ None) ⊎ ((number : ℕ) × (why ≡ Some (fault.Store number))) ⊎ ((generation : ℕ) × (why ≡ Some (fault.Worn generation)))
    ends-for {why} step = elim step.cause [ inl over ↦ inl over.0 | inr worn ↦ inr (inr (worn.0, worn.1)) ]

    pub ends_flush-coherent : {why : Option Fault} → EndsFlush why i r r' → IsCoherent g h r' places s b
    ends_flush-coherent {why} step =
        let p = step.pass in let p' = after_flush p why in let stands = co.each i p step.there in let way = ends-way step in let fetch = flush-fetch stands way in
        rw step.after (flush-coherent i p step.there way p' counts-stood refl fetch
        (ended-stands stands way step.serves why p.ticket p.fetch (ends-for step) step.none fetch)
        (subst (g.flight s) (sym (tickets-same r.passes i p p' step.there refl)) co.flight))

  -- There is a place for one more call of the store.
  few-calls : length (tickets_of r.passes) < g.depth s
  few-calls = let few = co.few in let deep = co.deep in omega (arith, few-tickets r.passes)

  pub store-place : HasPlace (g.flight s) (g.depth s)
  store-place = (tickets_of r.passes, co.flight, few-calls)

  module _ (i : ℕ) where
    -- What a flush in flight has there.
    pub flushing-ticket : (at : IsAt r.passes i (λ p. p.phase ≡ Flushing)) (u : Ticket) → at.0.ticket ≡ Some u → IsInFlight (g.flight s) u × IsMeta r.shape u × (at.0.fetch ≡ None)
    flushing-ticket at u has = let its = flush-ticket (co.each i at.0 at.1) at.2 in (in-flight r.passes co.flight i at.0 u at.1 has, its.1 u has, its.0)

    -- Where no other pass flushes, no write in flight touches what lies below the storage.
    module _ (p : Pass) (there : slice_get r.passes i ≡ Some p) (none : p.ticket ≡ None) (alone : (j : ℕ) (q : Pass) → slice_get r.passes j ≡ Some q → j ≢ i → q.phase ≢ Flushing) where
      below-apart : (first count : ℕ) → first + count ≤ r.shape.storage_at → (j : ℕ) (q : Pass) (u : Ticket) → slice_get r.passes j ≡ Some q → q.ticket ≡ Some u → u.kind ≡ WriteKind → RangesApart u.first u.count first count
      below-apart first count low j q u at is kind =
          let theirs = co.each j q at in
          elim (writes-there q.phase q r.shape r.fresh u theirs.ticket is kind) [
            | inl w ↦
                let lies = stored-in q u r.shape r.fresh (theirs.piece (region-of _ Issuing refl w.0)) w.1 in let inside = co.placed.inside q.block q.at (issuing-place theirs w.0) in
                inr (let from = lies.0 in let above = inside.0 in omega arith)
            | inr other ↦ absurd (elim (cases_eq j i) [
              | inl own ↦ let same = ap (λ (x : Pass). x.ticket) (some-inj (sym at ∙ ap (slice_get r.passes) own ∙ there)) in cc
              | inr ne ↦ alone j q at ne other.0
            ])
          ]

      pub below-free : (first count : ℕ) → first + count ≤ r.shape.storage_at → IsFree (g.flight s) (g.depth s) first count
      below-free first count low = (tickets_of r.passes, co.flight, few-calls, all-tickets _ r.passes (below-apart first count low))

-- The regions that the passes hold stay as they are.
kept-none : (passes : List Pass) (i : ℕ) (p p' : Pass) → slice_get passes i ≡ Some p → has_region p.phase ≡ false → has_region p'.phase ≡ false → map region_of (slice_set passes i p') ≡ map region_of passes
kept-none passes i p p' there none none' = regions-kept passes i p' p there (region-none p' none' ∙ sym (region-none p none))

settled-region : (answer : Settled) (p : Pass) (ticket : Ticket) → p.phase ≡ Flushing → has_region (meta_settled answer p ticket).phase ≡ false
settled-region settled.Done p ticket is = ap has_region is
settled-region (settled.NotYet same) p ticket is = ap has_region is
settled-region (settled.Failed number) p ticket is = refl

module _ {i : ℕ} {r r' : RequestState} where
  module _ {S : Type 0} {g : store.Ghosts S} {s s' : S} where
    pub submits_meta-regions : {content : List Sector} → SubmitsMeta g content i r r' s s' → map region_of r'.passes ≡ map region_of r.passes
    submits_meta-regions {content} step = rw step.after (kept-none r.passes i step.pass _ step.there (flushing-region step.pass step.phase) refl)

    pub meta_settled-regions : {answer : Settled} → MetaSettled g answer i r r' s s' → map region_of r'.passes ≡ map region_of r.passes
    meta_settled-regions {answer} step = rw step.after (kept-none r.passes i step.pass _ step.there (ap has_region step.phase) (settled-region answer step.pass step.ticket step.phase))

  pub ends_flush-regions : {why : Option Fault} → EndsFlush why i r r' → map region_of r'.passes ≡ map region_of r.passes
  ends_flush-regions {why} step = rw step.after (kept-none r.passes i step.pass _ step.there (flushing-region step.pass (elim step.cause [ inl over ↦ inr over.1 | inr worn ↦ inl worn.2 ])) refl)
