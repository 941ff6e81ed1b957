-- A write of a pass is settled.
use Rattle.std.proofs.Common.{◌≡◌, ℕ, ◌+◌, ◌<◌, ◌⊎◌, Bool, true, false, List, [], ◌∷◌, ◌++◌, length, refl, sym, ◌∙◌, ap, subst, inl, inr, arith, Option, Some, None, slice_get, slice_set}
use Rattle.std.specs.Prelude.{if◌then◌else◌, nat_lt}
use Rattle.std.proofs.lemmas.Bool.{cases_eq}
use Rattle.vd_law.specs.declared.entry.Sector.{Sector}
use Rattle.vd_law.specs.declared.entry.CallId.{CallId}
use Rattle.vd_law.specs.Entries.{Entry, Done, Broke}
use Rattle.vd_law.specs.Histories.{HistoryState}
use Rattle.vd_device.specs.declared.store.Store as store
use Rattle.vd_device.specs.declared.ticket.Ticket.{Ticket}
use Rattle.vd_device.specs.declared.ticket.Kind.{Kind}
use Rattle.vd_device.specs.declared.ticket.Kind.TheVariants.{Write as WriteKind}
use Rattle.vd_device.specs.declared.settled.Settled.{Settled}
use Rattle.vd_device.specs.declared.settled.Settled.TheVariants as settled
use Rattle.vd_device.specs.Calls.{done_entry, failed_entry}
use Rattle.vd_device.specs.Tickets.{ticket_id}
use Rattle.vd_format.specs.declared.header.Header.{Header}
use Rattle.vd_table.specs.Tables.{TableState}
use Rattle.vd_crash.specs.facts.Safe.{Opening, NumberedEntry}
use Rattle.vd_crash.specs.facts.Words.{IsUpdated, with_blocks}
use Rattle.vd_crash.specs.flushes.Stage.{Flight, Idle as NoFlight, Writing, FlightHolds}
use Rattle.vd_crash.specs.flushes.Moves.{entry_now}
use Rattle.vd_crash.specs.primitives.Primitives.{State, state}
use Rattle.vd_crash.proofs.primitives.Parts.{Ends_local, Ends_whole, Fails_whole}
use Rattle.vd_crash.specs.primitives.Keeping.{KeepsCrashSafety}
use Rattle.vd_crash.proofs.primitives.Keeping.{primitive_keeps}
use Rattle.vd_keeper.specs.Keeping.{KeeperState}
use Rattle.vd_keeper.specs.Moves.{after_owe}
use Rattle.vd_passes.specs.declared.shape.Shape.{Shape}
use Rattle.vd_passes.specs.declared.pass.Pass.{Pass}
use Rattle.vd_passes.specs.declared.pass.Phase.{Phase}
use Rattle.vd_passes.specs.declared.pass.Phase.TheVariants.{Asked, Issuing, Ready}
use Rattle.vd_passes.specs.declared.pass.Fault.{Fault}
use Rattle.vd_passes.specs.declared.pass.Fault.TheVariants as fault
use Rattle.vd_passes.specs.Standings.{standing}
use Rattle.vd_passes.specs.Places.{place_of}
use Rattle.vd_passes.specs.Passes.{has_region, call_id, IsAsHistorySays, HasInFlight, after_piece, after_fault, after_spending}
use Rattle.vd_passes.specs.Requests.{RequestState, requests}
use Rattle.vd_passes.specs.Steps.{IsAt, WriteSettled}
use Rattle.vd_safety.specs.Mirrors.{core_state, bit_of, IsFlightOf, IsPendingOf, IsStageOf, Mirrors, HasSafeMirror}
use Rattle.vd_safety.proofs.Updates.{some-inj, append-nil, bit-set-same, bit-set-other, updated, is-updated, updated-same}
use Rattle.vd_safety.proofs.Surroundings.{Surroundings, owed-size, not-flusher}
use Rattle.vd_safety.proofs.Flying.{flight-ready, flight-of, flights-set, pending-other, pending-none, pending-put}
use Rattle.vd_safety.proofs.Stages.{stage-set, stage-owes}
use Rattle.vd_safety.proofs.Mirroring.{IsHistory, mirrored, was-history, history-more, history-same}
use Rattle.vd_safety.proofs.Knowing.{at-this}
use Rattle.vd_safety.proofs.Owing.{owed-by, owing-is, owed-more, owed-only, owed-own}

-- what a settle makes of the keeper, and of the numbers of the history
abbrev pub IsOwedAfter : Settled → (block : ℕ) → (k k' : KeeperState) → Type 0
IsOwedAfter settled.Done block k k' = k' ≡ after_owe block k
IsOwedAfter (settled.NotYet same) block k k' = k' ≡ k
IsOwedAfter (settled.Failed number) block k k' = k' ≡ k

abbrev pub IsNumberedAfter : Settled → (now : ℕ) → (numbers numbers' : List ℕ) → Type 0
IsNumberedAfter settled.Done now numbers numbers' = numbers' ≡ numbers ++ now ∷ []
IsNumberedAfter (settled.NotYet same) now numbers numbers' = numbers' ≡ numbers ++ []
IsNumberedAfter (settled.Failed number) now numbers numbers' = numbers' ≡ numbers ++ now ∷ []

-- a write that is in flight is to a block that is local, or is being written whole by it
written-by : (o : Opening) (s : State) (i b j n : ℕ) (call ticket : CallId) → KeepsCrashSafety o s → s.flights i ≡ Writing b j n call ticket → (s.memory.fresh b ≡ true) ⊎ (s.memory.pending b ≡ Some n)
unfolding KeepsCrashSafety
written-by o s i b j n call ticket keeps is = (subst (λ (g : Flight). FlightHolds o s.log s.history s.memory g) is (keeps.core.in_flight.each i)).1

-- a pass whose piece has ended has nothing in flight, and owes no answer of a flush
pub piece-flight : (b : Bool) (fault : Option Fault) (i : ℕ) (q : Pass) → q.flush ≡ false → IsFlightOf (if b then Asked else Ready) fault i q NoFlight
piece-flight true fault i q none = refl
piece-flight false fault i q none = flight-ready fault i q none

-- A core that has the same parts is the same.
pub same-secured : {o : Opening} {table : TableState} {fresh fresh' : List Bool} {k k' : KeeperState} {flusher : Option ℕ} {passes passes' : List Pass} {history history' : HistoryState} {log log' : List Entry}
    → fresh' ≡ fresh → k' ≡ k → passes' ≡ passes → history'.log.entries ≡ history.log.entries → history'.numbers ≡ history.numbers → log' ≡ log
    → HasSafeMirror o (core_state table fresh k flusher passes history) log → HasSafeMirror o (core_state table fresh' k' flusher passes' history') log'
same-secured {o} {table} {fresh} {fresh'} {k} {k'} {flusher} {passes} {passes'} {history} {history'} {log} {log'} same_fresh same_k same_passes entries numbers same_log secured =
    let s = secured.state in
    let is = secured.mirrors in
    subst (λ (ps : List Pass). HasSafeMirror o (core_state table fresh' k' flusher ps history') log') (sym same_passes)
    (subst (λ (x : KeeperState). HasSafeMirror o (core_state table fresh' x flusher passes history') log') (sym same_k)
    (subst (λ (bits : List Bool). HasSafeMirror o (core_state table bits k flusher passes history') log') (sym same_fresh)
    (record {
      state = s;
      keeps = secured.keeps;
      mirrors = mirrored o table fresh k flusher passes history log s is table fresh k.owed passes history' log' s.log s.history s.memory.index.table s.memory.fresh s.memory.born s.memory.owed s.memory.pending s.flights
          (is.log_is ∙ sym same_log) (history-same history history' s.history (was-history o table fresh k flusher passes history log s is) entries numbers) is.storage is.fresh_is is.owed is.pending is.flights is.stage;
    })))

-- The pass that has the write in flight.
module _ {h : Header} {o : Opening} {shape : Shape} {table : TableState} {fresh : List Bool} {k : KeeperState} {flusher : Option ℕ} {passes : List Pass} {history : HistoryState} {base : List Sector} {last : ℕ} {log : List Entry}
    (around : Surroundings h o shape (core_state table fresh k flusher passes history) base last) (secured : HasSafeMirror o (core_state table fresh k flusher passes history) log)
    (i : ℕ) (p : Pass) (t : Ticket) (there : slice_get passes i ≡ Some p) (issuing : p.phase ≡ Issuing) (has : p.ticket ≡ Some t) where
  abbrev s : State
  s = secured.state

  mirrors : Mirrors o (core_state table fresh k flusher passes history) log s
  mirrors = secured.mirrors

  stands : IsAsHistorySays shape fresh (place_of shape table.chunks) (standing history.log.entries i) p
  stands = around.each i p there

  region : has_region p.phase ≡ true
  region = ap has_region issuing

  no-flush : p.flush ≡ false
  no-flush = stands.no_flush region

  pub write-kind : t.kind ≡ WriteKind
  write-kind = let w = subst (λ (ph : Phase). HasInFlight ph shape fresh p) issuing stands.ticket in let e : w.0 ≡ t = some-inj (sym w.1 ∙ has) in ap (λ (x : Ticket). x.kind) (sym e) ∙ w.3

  in-fresh : p.block < length fresh
  in-fresh = let w = (stands.piece region).in_disk in let e = around.size in omega arith

  in-owed : p.block < length k.owed
  in-owed = let w = (stands.piece region).in_disk in let e = owed-size around in omega arith

  flight : (j : ℕ) × (n : ℕ) × (s.flights i ≡ Writing p.block j n (call_id i p) (ticket_id t))
  flight =
      let w = flight-of passes s.flights i p Issuing mirrors.flights there issuing in
      let e : w.0 ≡ t = some-inj (sym w.3 ∙ has) in
      (w.1, w.2, w.4 ∙ ap (λ (x : Ticket). Writing p.block w.1 w.2 (call_id i p) (ticket_id x)) e)

  abbrev flights' : ℕ → Flight
  flights' = updated s.flights i NoFlight

  put-flight : IsUpdated s.flights flights' i NoFlight
  put-flight = is-updated s.flights i NoFlight

  -- The state after the end of the write, with these blocks.
  module _ (history' : HistoryState) (p' : Pass) (idle : IsFlightOf p'.phase p'.fault i p' NoFlight) (fresh' owed' : List Bool) (store-end guest-end : Entry) (log' : List Entry)
      (entries : history'.log.entries ≡ history.log.entries ++ guest-end ∷ []) (numbers : history'.numbers ≡ history.numbers ++ length log' ∷ []) (grows : log' ≡ log ++ store-end ∷ [])
      (others-fresh : (c : ℕ) → (c ≡ p.block → ⊥) → bit_of fresh' c ≡ bit_of fresh c) where
    abbrev store' : List Entry
    store' = s.log ++ store-end ∷ []

    abbrev events' : List NumberedEntry
    events' = s.history ++ entry_now (s.log ++ store-end ∷ []) guest-end ∷ []

    log-after : store' ≡ log'
    log-after = ap (λ (es : List Entry). es ++ store-end ∷ []) mirrors.log_is ∙ sym grows

    history-after : IsHistory history' events'
    history-after = history-more history history' s.history store' log' guest-end (was-history o table fresh k flusher passes history log s mirrors) log-after entries numbers

    pending-after : (pending : ℕ → Option ℕ) → IsUpdated s.memory.pending pending p.block None → (c : ℕ) → IsPendingOf fresh' (slice_set passes i p') c (pending c)
    pending-after pending put = pending-put fresh' (slice_set passes i p') s.memory.pending pending p.block None put (inl refl)
        (λ c ne. pending-other fresh fresh' passes i p p' there c (s.memory.pending c) (λ is same. ne (sym same)) (others-fresh c ne) (mirrors.pending c))

    stage-after : IsStageOf flusher o (record k { owed = owed' }) (slice_set passes i p') s.stage
    stage-after = stage-owes owed' flusher o k (slice_set passes i p') s.stage (stage-set flusher o k passes i p' s.stage (not-flusher around i p there (λ is. absurd (cc (issuing)))) mirrors.stage)

    pub after-end : (f : ℕ → Bool) (born : ℕ → ℕ) (w : ℕ → Bool) (pending : ℕ → Option ℕ) → ((c : ℕ) → f c ≡ bit_of fresh' c) → ((c : ℕ) → w c ≡ bit_of owed' c) → IsUpdated s.memory.pending pending p.block None
        → KeepsCrashSafety o (state store' events' (with_blocks s.memory f born w pending) s.marked flights' s.stage)
        → HasSafeMirror o (core_state table fresh' (record k { owed = owed' }) flusher (slice_set passes i p') history') log'
    after-end f born w pending f_is w_is put keeps = record {
      state = state store' events' (with_blocks s.memory f born w pending) s.marked flights' s.stage;
      keeps = keeps;
      mirrors = mirrored o table fresh k flusher passes history log s mirrors table fresh' owed' (slice_set passes i p') history' log' store' events' s.memory.index.table f born w pending flights'
          log-after history-after mirrors.storage f_is w_is (pending-after pending put) (flights-set passes i p p' s.flights flights' NoFlight there mirrors.flights put-flight idle) stage-after;
    }

  -- It is done.
  module _ (history' : HistoryState) (log' : List Entry) (entries : history'.log.entries ≡ history.log.entries ++ Done (call_id i p) ∷ []) (numbers : history'.numbers ≡ history.numbers ++ length log' ∷ [])
      (grows : log' ≡ log ++ Done (ticket_id t) ∷ []) where
    abbrev pass' : Pass
    pass' = after_spending 1 0 (after_piece p)

    abbrev fresh' : List Bool
    fresh' = slice_set fresh p.block true

    abbrev owed' : List Bool
    owed' = owed-by (bit_of k.stale p.block) k.owed p.block

    idle-after : IsFlightOf pass'.phase pass'.fault i pass' NoFlight
    idle-after = piece-flight (nat_lt (p.done + p.piece) p.count) p.fault i pass' no-flush

    fresh-own : bit_of fresh' p.block ≡ true
    fresh-own = bit-set-same fresh p.block true in-fresh

    fresh-others : (c : ℕ) → (c ≡ p.block → ⊥) → bit_of fresh' c ≡ bit_of fresh c
    fresh-others c ne = bit-set-other fresh p.block c true ne

    more : (c : ℕ) → s.memory.owed c ≡ true → bit_of owed' c ≡ true
    more c is = owed-more (bit_of k.stale p.block) k.owed p.block in-owed c (sym (mirrors.owed c) ∙ is)

    only : (c : ℕ) → bit_of owed' c ≡ true → (s.memory.owed c ≡ true) ⊎ (c ≡ p.block)
    only c is = elim (owed-only (bit_of k.stale p.block) k.owed p.block c is) [ inl old ↦ inl (mirrors.owed c ∙ old) | inr own ↦ inr own ]

    logged : (s.memory.index.stale p.block ≡ true) ⊎ (bit_of owed' p.block ≡ true)
    logged = elim (owed-own (bit_of k.stale p.block) k.owed p.block in-owed) [ inl old ↦ inl (mirrors.stale p.block ∙ old) | inr own ↦ inr own ]

    local : bit_of fresh p.block ≡ true → HasSafeMirror o (core_state table fresh' (record k { owed = owed' }) flusher (slice_set passes i pass') history') log'
    local is_fresh = after-end history' pass' idle-after fresh' owed' (Done (ticket_id t)) (Done (call_id i p)) log' entries numbers grows fresh-others
        s.memory.fresh s.memory.born (bit_of owed') s.memory.pending fresh-same (λ c. refl) (updated-same s.memory.pending p.block None none)
        (primitive_keeps o s (state (s.log ++ Done (ticket_id t) ∷ []) (s.history ++ entry_now (s.log ++ Done (ticket_id t) ∷ []) (Done (call_id i p)) ∷ []) (with_blocks s.memory s.memory.fresh s.memory.born (bit_of owed') s.memory.pending) s.marked flights' s.stage)
        (Ends_local s.log s.history s.memory s.marked (bit_of owed') s.flights flights' s.stage i p.block flight.0 flight.1 (call_id i p) (ticket_id t) flight.2 put-flight (mirrors.fresh_is p.block ∙ is_fresh) more only logged) secured.keeps)
      where
        fresh-same : (c : ℕ) → s.memory.fresh c ≡ bit_of fresh' c
        fresh-same c = elim (cases_eq c p.block) [
          | inl e ↦ mirrors.fresh_is c ∙ ap (bit_of fresh) e ∙ is_fresh ∙ sym fresh-own ∙ ap (bit_of fresh') (sym e)
          | inr ne ↦ mirrors.fresh_is c ∙ sym (fresh-others c ne)
        ]

        none : s.memory.pending p.block ≡ None
        none = pending-none fresh passes p.block (s.memory.pending p.block) (λ l q at is same not_fresh. absurd (cc (is_fresh, not_fresh))) (mirrors.pending p.block)

    abbrev pending' : ℕ → Option ℕ
    pending' = updated s.memory.pending p.block None

    abbrev born' : ℕ → ℕ
    born' = updated s.memory.born p.block (length (s.log ++ Done (ticket_id t) ∷ []))

    whole : bit_of fresh p.block ≡ false → HasSafeMirror o (core_state table fresh' (record k { owed = owed' }) flusher (slice_set passes i pass') history') log'
    whole not_fresh = after-end history' pass' idle-after fresh' owed' (Done (ticket_id t)) (Done (call_id i p)) log' entries numbers grows fresh-others
        (bit_of fresh') born' (bit_of owed') pending' (λ c. refl) (λ c. refl) (is-updated s.memory.pending p.block None)
        (primitive_keeps o s (state (s.log ++ Done (ticket_id t) ∷ []) (s.history ++ entry_now (s.log ++ Done (ticket_id t) ∷ []) (Done (call_id i p)) ∷ []) (with_blocks s.memory (bit_of fresh') born' (bit_of owed') pending') s.marked flights' s.stage)
        (Ends_whole s.log s.history s.memory s.marked (bit_of fresh') born' (bit_of owed') pending' s.flights flights' s.stage i p.block flight.0 flight.1 (call_id i p) (ticket_id t) flight.2 put-flight was-pending
        (record { same = fresh-own; other = λ c ne. fresh-others c ne ∙ sym (mirrors.fresh_is c) }) (is-updated s.memory.born p.block (length (s.log ++ Done (ticket_id t) ∷ []))) (is-updated s.memory.pending p.block None) more only logged) secured.keeps)
      where
        was-pending : s.memory.pending p.block ≡ Some flight.1
        was-pending = elim (written-by o s i p.block flight.0 flight.1 (call_id i p) (ticket_id t) secured.keeps flight.2) [
          | inl is_fresh ↦ absurd (let e = mirrors.fresh_is p.block in cc)
          | inr is ↦ is
        ]

    ends : (v : Bool) → bit_of fresh p.block ≡ v → HasSafeMirror o (core_state table fresh' (record k { owed = owed' }) flusher (slice_set passes i pass') history') log'
    ends true is = local is
    ends false is = whole is

    pub ends-done : HasSafeMirror o (core_state table fresh' (after_owe p.block k) flusher (slice_set passes i pass') history') log'
    ends-done = subst (λ (x : KeeperState). HasSafeMirror o (core_state table fresh' x flusher (slice_set passes i pass') history') log') (sym (owing-is p.block k)) (ends (bit_of fresh p.block) refl)

  -- It has failed.
  pub ends-failed : (history' : HistoryState) (log' : List Entry) → history'.log.entries ≡ history.log.entries ++ Broke (call_id i p) ∷ [] → history'.numbers ≡ history.numbers ++ length log' ∷ []
      → log' ≡ log ++ Broke (ticket_id t) ∷ [] → HasSafeMirror o (core_state table fresh k flusher (slice_set passes i (after_spending 1 0 (after_fault (fault.Store t.number) p))) history') log'
  ends-failed history' log' entries numbers grows =
      let pending' = updated s.memory.pending p.block None in
      after-end history' (after_spending 1 0 (after_fault (fault.Store t.number) p)) refl fresh k.owed (Broke (ticket_id t)) (Broke (call_id i p)) log' entries numbers grows (λ c ne. refl)
      s.memory.fresh s.memory.born s.memory.owed pending' mirrors.fresh_is mirrors.owed (is-updated s.memory.pending p.block None)
      (primitive_keeps o s (state (s.log ++ Broke (ticket_id t) ∷ []) (s.history ++ entry_now (s.log ++ Broke (ticket_id t) ∷ []) (Broke (call_id i p)) ∷ []) (with_blocks s.memory s.memory.fresh s.memory.born s.memory.owed pending') s.marked flights' s.stage)
      (Fails_whole s.log s.history s.memory s.marked pending' s.flights flights' s.stage i p.block flight.0 flight.1 (call_id i p) (ticket_id t) flight.2 put-flight (is-updated s.memory.pending p.block None)) secured.keeps)

-- the entry with which a write ends
done-write : (kind : Kind) (t : Ticket) → kind ≡ WriteKind → done_entry kind t [] ≡ Done (ticket_id t)
done-write kind t is = ap (λ (x : Kind). done_entry x t []) is

failed-write : (kind : Kind) (t : Ticket) → kind ≡ WriteKind → failed_entry kind t ≡ Broke (ticket_id t)
failed-write kind t is = ap (λ (x : Kind). failed_entry x t) is

-- A settled write keeps a core secured.
module _ {h : Header} {o : Opening} {shape shape' : Shape} {table : TableState} {fresh fresh' : List Bool} {k k' : KeeperState} {flusher : Option ℕ} {passes passes' : List Pass} {history : HistoryState} {base : List Sector}
    {i last : ℕ} {S : Type 0} {g : store.Ghosts S} {before now : S} where
  pub settle_issue-secured : (answer : Settled) (history' : HistoryState) → Surroundings h o shape (core_state table fresh k flusher passes history) base last → IsAt passes i (λ p. p.phase ≡ Issuing)
      → WriteSettled g answer i (requests shape fresh passes history.log.entries) (requests shape' fresh' passes' history'.log.entries) before now
      → IsAt passes i (λ p. IsOwedAfter answer p.block k k') → IsNumberedAfter answer (length (g.disk now).log) history.numbers history'.numbers → g.tells now
      → HasSafeMirror o (core_state table fresh k flusher passes history) (g.disk before).log → HasSafeMirror o (core_state table fresh' k' flusher passes' history') (g.disk now).log
  settle_issue-secured settled.Done history' around at step owed numbers telling secured =
      let p = step.pass in
      let issuing : p.phase ≡ Issuing = at-this passes i (λ p. p.phase ≡ Issuing) p step.there at in
      let kind = write-kind around secured i p step.ticket step.there issuing step.has in
      same-secured (ap (λ (r : RequestState). r.fresh) step.after) (at-this passes i (λ p. k' ≡ after_owe p.block k) p step.there owed) (ap (λ (r : RequestState). r.passes) step.after) refl refl refl
      (ends-done around secured i p step.ticket step.there issuing step.has history' (g.disk now).log (ap (λ (r : RequestState). r.entries) step.after) numbers
      ((step.call.takes.told telling).log ∙ ap (λ (e : Entry). (g.disk before).log ++ e ∷ []) (done-write step.ticket.kind step.ticket kind)))
  settle_issue-secured (settled.NotYet same) history' around at step owed numbers telling secured =
      same-secured (ap (λ (r : RequestState). r.fresh) step.after) (at-this passes i (λ p. k' ≡ k) step.pass step.there owed) (ap (λ (r : RequestState). r.passes) step.after) (ap (λ (r : RequestState). r.entries) step.after)
      (numbers ∙ append-nil history.numbers) ((step.call.takes.told telling).log ∙ append-nil (g.disk before).log) secured
  settle_issue-secured (settled.Failed number) history' around at step owed numbers telling secured =
      let p = step.pass in
      let issuing : p.phase ≡ Issuing = at-this passes i (λ p. p.phase ≡ Issuing) p step.there at in
      let kind = write-kind around secured i p step.ticket step.there issuing step.has in
      same-secured (ap (λ (r : RequestState). r.fresh) step.after) (at-this passes i (λ p. k' ≡ k) p step.there owed) (ap (λ (r : RequestState). r.passes) step.after) refl refl refl
      (ends-failed around secured i p step.ticket step.there issuing step.has history' (g.disk now).log (ap (λ (r : RequestState). r.entries) step.after) numbers
      ((step.call.takes.told telling).log ∙ ap (λ (e : Entry). (g.disk before).log ++ e ∷ []) (failed-write step.ticket.kind step.ticket kind)))
