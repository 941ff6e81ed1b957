-- Each step of a flush keeps all that a core keeps.
use Rattle.std.proofs.Common.{ℕ, ◌≡◌, ◌+◌, ◌<◌, ◌≤◌, ◌⊎◌, inl, inr, List, [], ◌∷◌, ◌++◌, length, Bool, true, false, arith, refl, sym, subst}
use Rattle.vd_image.specs.Log.{Sector, CallId, Entry, Flush, Fine, Ask, Done, Reply, Covers, IsIssueOf, Flushes, May}
use Rattle.vd_image.specs.Image.{Header}
use Rattle.vd_crash.specs.facts.Safe.{NumberedEntry, Opening}
use Rattle.vd_crash.specs.facts.Facts.{HasEntry, Holds, IsClaimSettled}
use Rattle.vd_crash.specs.flushes.Stage.{Flight, Idle, Answering, FlightHolds, HasTicket, HasWrite, IsPageToPut, IsOtherCall, FlushProgress, IsSoFar, IsLoggedBy}
use Rattle.vd_crash.specs.facts.Words.{WritesNothing, IsUpdated, Sealing, WritesOnly, with_index, sealed_memory}
use Rattle.vd_crash.specs.flushes.Moves.{world, entry_now, Tells, Keeps_contents}
use Rattle.vd_crash.specs.primitives.Core.{IsAsking, Stage, StageHolds, StageTicket, IsCore, Resting, Sending, Working, Putting, Syncing, Puts_next, Has_next, Syncs_next, Is_next, IsNext}
use Rattle.vd_image.proofs.Logs.{at_push, at_end, at_below, at_pushed}
use Rattle.vd_crash.proofs.facts.Moments.{safe_event, safe_entry}
use Rattle.vd_crash.proofs.flushes.Moves.{step_keeps}
use Rattle.vd_crash.proofs.flushes.Flights.{flight_entry, flight_memory, flights_event, flights_memory, owned_entry, distinct_set, each_set}
use Rattle.vd_crash.proofs.primitives.Core.{stage_entry}
use Rattle.vd_crash.proofs.facts.Steps.{next_ordinary, shown_event}
use Rattle.vd_crash.proofs.facts.Writes.{no_ends}
use Rattle.vd_crash.proofs.flushes.Stage.{under_way_event, quiet_follows, so_far_event, so_far_done, so_far_begun, so_far_synced, so_far_sealed, so_far_recycled, so_far_header}
use Rattle.vd_crash.proofs.flushes.Passes.{written_grown}
use Rattle.vd_crash.specs.flushes.Flushing.{Snapshot, snapshot_of, IsOffAfter, IsSealed, IsCaughtUp, IsLogged, flush_ask}
use Rattle.vd_crash.proofs.flushes.Evidence.{putting, put_done}
use Rattle.vd_crash.proofs.primitives.IssueSteps.{issue_no_end, tickets_set}
use Rattle.vd_crash.proofs.primitives.EndSteps.{idle_distinct}
use Rattle.vd_crash.proofs.primitives.PassSteps.{kept}
use Rattle.vd_crash.specs.facts.Memory.{Memory}
use Rattle.vd_crash.specs.facts.Metadata.{IsHeaderLeft}
use Rattle.vd_crash.proofs.flushes.Wanted.{shown_index}
use Rattle.vd_crash.proofs.flushes.Putting.{WritesNoPlace, no_place_follows}
use Rattle.vd_crash.proofs.flushes.Synced.{last_push}
use Rattle.vd_crash.proofs.flushes.Beginning.{begun}
use Rattle.vd_crash.proofs.flushes.Sealing.{flush_answered}
pub use Rattle.vd_crash.specs.primitives.Primitives.{EndsNone, nothing_put}
use Rattle.std.proofs.lemmas.List.{length_push}

ask_ends_none : (flights : ℕ → Flight) (ticket : CallId) → EndsNone flights (Ask ticket Flush)
ask_ends_none flights ticket k t has (inl same) = cc
ask_ends_none flights ticket k t has (inr same) = cc

reply_ends_none : (flights : ℕ → Flight) (ticket : CallId) → EndsNone flights (Reply ticket Fine)
reply_ends_none flights ticket k t has (inl same) = cc
reply_ends_none flights ticket k t has (inr same) = cc

-- the Done of the flush's own put
put_ends_none : (flights : ℕ → Flight) (ticket : CallId) → ((k : ℕ) → HasTicket (flights k) ticket → ⊥) → EndsNone flights (Done ticket)
put_ends_none flights ticket other k t has (inl same) = other k (subst (λ (y : CallId). HasTicket (flights k) y) (one same) has)
  where
    one : Done t ≡ Done ticket → t ≡ ticket
    one h = cc
put_ends_none flights ticket other k t has (inr same) = cc

-- a quiet event by which the stage goes on
quiet_step : (o : Opening) (log : List Entry) (history : List NumberedEntry) (m : Memory) (flights : ℕ → Flight) (old new : Stage) (e : Entry) → IsCore o log history m flights old → WritesNothing e → EndsNone flights e
    → (Holds o (log ++ e ∷ []) history m → StageHolds o (log ++ e ∷ []) history m new) → ((k : ℕ) (t : CallId) → HasTicket (flights k) t → StageTicket new t → ⊥) → IsCore o (log ++ e ∷ []) history m flights new
quiet_step o log history m flights old new e c quiet none next tickets =
    let k = step_keeps o (world log history m) (world (log ++ e ∷ []) history m) (Keeps_contents (Tells e quiet)) (kept o log history m flights old c) in
    record { safe = k.safe; holds = k.holds; in_flight = flights_event o log history m flights e none c.in_flight; so_far = next k.holds; tickets = tickets }

quiet_so_far : (o : Opening) (log : List Entry) (history : List NumberedEntry) (m : Memory) (call : CallId) (a n q : ℕ) (p : FlushProgress) (e : Entry) → Holds o log history m → WritesNothing e → IsSoFar o log history m (flush_ask call a n) q p → IsSoFar o (log ++ e ∷ []) history m (flush_ask call a n) q p
quiet_so_far o log history m call a n q p e holds quiet h = so_far_event o log history m call a n q p e holds.apart (λ s v covers. absurd (quiet s v covers)) (quiet_follows o log history m e quiet) h

flushes_end : (log : List Entry) (q : ℕ) (ticket : CallId) → IsAsking log q ticket → Flushes (log ++ Reply ticket Fine ∷ []) q
flushes_end log q ticket h = record {
  id = ticket;
  reply = length log;
  asked = at_push log (Reply ticket Fine) q (Ask ticket Flush) h.asked;
  replied = at_end log (Reply ticket Fine);
  later = at_below log q (Ask ticket Flush) h.asked;
  next = λ m request after before found. elim (at_pushed log (Reply ticket Fine) m (Ask ticket request) found) [ inl old ↦ h.newest m request after old | inr new ↦ absurd (let same = new.1 in cc) ];
}

asking_end : (log : List Entry) (ticket : CallId) → IsAsking (log ++ Ask ticket Flush ∷ []) (length log) ticket
asking_end log ticket = record {
  asked = at_end log (Ask ticket Flush);
  newest = λ m request after found. let b = at_below (log ++ Ask ticket Flush ∷ []) m (Ask ticket request) found in let l = length_push log (Ask ticket Flush) in omega arith;
}

-- a flush begins: its snapshot is what is owed
pub core_begin : (o : Opening) (log : List Entry) (history : List NumberedEntry) (m : Memory) (flights : ℕ → Flight) (call ticket : CallId) (a n : ℕ) → IsCore o log history m flights Resting → HasEntry history a n (Ask call Flush)
    → IsCore o (log ++ Ask ticket Flush ∷ []) history m flights (Sending call a n (length log) (snapshot_of m history) ticket)
core_begin o log history m flights call ticket a n c asked =
    let h = begun o log history m call a n c.holds asked in
    quiet_step o log history m flights Resting (Sending call a n (length log) (snapshot_of m history) ticket) (Ask ticket Flush) c (λ s v covers. covers) (ask_ends_none flights ticket)
    (λ holds. (under_way_event o log history m (snapshot_of m history) call a n (length log) (Ask ticket Flush) m.index.sure m.index.tried m.index.cursor (quiet_follows o log history m (Ask ticket Flush) (λ s v covers. covers)) h.tried h, asking_end log ticket)) (λ k t has out. out)

-- its data flush is answered well
pub core_data_flushed : (o : Opening) (log : List Entry) (history : List NumberedEntry) (m : Memory) (flights : ℕ → Flight) (call ticket : CallId) (a n q : ℕ) (snapshot : Snapshot) (paged : ℕ → Bool) → IsCore o log history m flights (Sending call a n q snapshot ticket)
    → ((c : ℕ) → paged c ≡ true → (c < o.layout.chunks) × IsCaughtUp o (May o.before (log ++ Reply ticket Fine ∷ [])) (IsClaimSettled o (log ++ Reply ticket Fine ∷ []) history m snapshot.begun) m snapshot c)
    → IsCore o (log ++ Reply ticket Fine ∷ []) history m flights (Working call a n q (nothing_put snapshot m.index.cursor paged))
core_data_flushed o log history m flights call ticket a n q snapshot paged c clean =
    let w = c.so_far.0 in
    quiet_step o log history m flights (Sending call a n q snapshot ticket) (Working call a n q (nothing_put snapshot m.index.cursor paged)) (Reply ticket Fine) c (λ s v covers. covers) (reply_ends_none flights ticket)
    (λ holds. so_far_begun o (log ++ Reply ticket Fine ∷ []) history m call a n q (nothing_put snapshot m.index.cursor paged) holds
    (under_way_event o log history m snapshot call a n q (Reply ticket Fine) m.index.sure m.index.tried m.index.cursor (quiet_follows o log history m (Reply ticket Fine) (λ s v covers. covers)) w.tried w) (flushes_end log q ticket c.so_far.1) refl refl (λ b. (refl, refl, refl)) clean) (λ k t has out. out)

-- any failure ends the flush, and nothing else changes
pub core_fails : (o : Opening) (log : List Entry) (history : List NumberedEntry) (m : Memory) (flights : ℕ → Flight) (stage : Stage) (e : Entry) → IsCore o log history m flights stage → WritesNothing e → EndsNone flights e
    → IsCore o (log ++ e ∷ []) history m flights Resting
core_fails o log history m flights stage e c quiet none = quiet_step o log history m flights stage Resting e c quiet none (λ holds. tt) (λ k t has out. out)

-- a put, whose facts stand
pub core_put : (o : Opening) (log : List Entry) (history : List NumberedEntry) (m : Memory) (flights : ℕ → Flight) (call ticket : CallId) (asked n q : ℕ) (p : FlushProgress) (e : Entry) (a : ℕ) (v : Sector) (cursor : ℕ)
    → IsCore o log history m flights (Working call asked n q p) → Holds o (log ++ e ∷ []) history (with_index m m.index.sure m.index.tried cursor) × IsSoFar o (log ++ e ∷ []) history (with_index m m.index.sure m.index.tried cursor) (flush_ask call asked n) q p → WritesNoPlace o e
    → ((k : ℕ) → HasTicket (flights k) ticket → ⊥) → IsIssueOf e ticket → Covers e a v
    → ((place s : ℕ) → place < o.layout.storage → o.layout.place place s ≡ a → ⊥) → IsPageToPut o (IsClaimSettled o log history m p.snapshot.begun) m p.snapshot a v
    → IsCore o (log ++ e ∷ []) history (with_index m m.index.sure m.index.tried cursor) flights (Putting call asked n q p a (length log) v ticket)
core_put o log history m flights call ticket asked n q p e a v cursor c after none new_ticket issues covers no_place right = record {
  safe = safe_event o log history (with_index m m.index.sure m.index.tried cursor) e c.safe after.0.facts;
  holds = after.0;
  in_flight = flights_memory o (log ++ e ∷ []) history m (with_index m m.index.sure m.index.tried cursor) flights (λ l. record { fresh = λ b has is. is; pending = λ b i has is. is; sealed = λ call a n is. is })
      (flights_event o log history m flights e (λ k t has. issue_no_end e ticket t issues) c.in_flight);
  so_far = (
    after.1,
    putting log e a v ticket covers issues,
    no_place,
    λ d within same. written_grown o (IsClaimSettled o log history m p.snapshot.begun) (IsClaimSettled o (log ++ e ∷ []) history (with_index m m.index.sure m.index.tried cursor) p.snapshot.begun) m (with_index m m.index.sure m.index.tried cursor) p.snapshot d v
        (λ t shown. shown_index o (log ++ e ∷ []) history m m.index.sure m.index.tried cursor p.snapshot.begun t (shown_event o log history m e (no_place_follows o log history m e c.holds.facts.storage_one_to_one none) p.snapshot.begun t shown)) (λ g s given. given) (right d within same),
  );
  tickets = λ k t has out. new_ticket k (subst (λ (y : CallId). HasTicket (flights k) y) (sym out) has);
}

-- a put is done
pub core_put_done : (o : Opening) (log : List Entry) (history : List NumberedEntry) (m : Memory) (flights : ℕ → Flight) (call ticket : CallId) (b_at n q i a : ℕ) (v : Sector) (p : FlushProgress) (recorded written : ℕ → Bool)
    → IsCore o log history m flights (Putting call b_at n q p a i v ticket) → IsLoggedBy o m a v recorded written p
    → IsCore o (log ++ Done ticket ∷ []) history m flights (Working call b_at n q (record { snapshot = p.snapshot; first = p.first; by = length log + 1; recorded = recorded; written = written; slotted = p.slotted; paged = p.paged }))
core_put_done o log history m flights call ticket b_at n q i a v p recorded written c logged =
    quiet_step o log history m flights (Putting call b_at n q p a i v ticket) (Working call b_at n q (record { snapshot = p.snapshot; first = p.first; by = length log + 1; recorded = recorded; written = written; slotted = p.slotted; paged = p.paged })) (Done ticket) c
    (λ s u covers. covers) (put_ends_none flights ticket (λ k has. c.tickets k ticket has refl))
    (λ holds. so_far_done o log history m call ticket b_at n q i a v p recorded written c.holds c.so_far.0 c.so_far.1 c.so_far.3 logged) (λ k t has out. out)

-- a sync is asked
pub core_sync : (o : Opening) (log : List Entry) (history : List NumberedEntry) (m : Memory) (flights : ℕ → Flight) (call ticket : CallId) (a n q : ℕ) (p : FlushProgress) → IsCore o log history m flights (Working call a n q p)
    → IsCore o (log ++ Ask ticket Flush ∷ []) history m flights (Syncing call a n q p (length log) ticket)
core_sync o log history m flights call ticket a n q p c =
    quiet_step o log history m flights (Working call a n q p) (Syncing call a n q p (length log) ticket) (Ask ticket Flush) c (λ s v covers. covers) (ask_ends_none flights ticket)
    (λ holds. (quiet_so_far o log history m call a n q p (Ask ticket Flush) c.holds (λ s v covers. covers) c.so_far, asking_end log ticket, c.so_far.within)) (λ k t has out. out)

-- and answered well: what was put is so in every image
pub core_synced : (o : Opening) (log : List Entry) (history : List NumberedEntry) (m : Memory) (flights : ℕ → Flight) (call ticket : CallId) (a n q r : ℕ) (p : FlushProgress) (slotted paged : ℕ → Bool) → IsCore o log history m flights (Syncing call a n q p r ticket)
    → ((b : ℕ) → slotted b ≡ true → (p.slotted b ≡ true) ⊎ (p.recorded b ≡ true)) → ((c : ℕ) → paged c ≡ true → (p.paged c ≡ true) ⊎ (p.written c ≡ true))
    → IsCore o (log ++ Reply ticket Fine ∷ []) history m flights (Working call a n q (record { snapshot = p.snapshot; first = p.first; by = p.by; recorded = p.recorded; written = p.written; slotted = slotted; paged = paged }))
core_synced o log history m flights call ticket a n q r p slotted paged c slots pages =
    quiet_step o log history m flights (Syncing call a n q p r ticket) (Working call a n q (record { snapshot = p.snapshot; first = p.first; by = p.by; recorded = p.recorded; written = p.written; slotted = slotted; paged = paged })) (Reply ticket Fine) c
    (λ s v covers. covers) (reply_ends_none flights ticket)
    (λ holds. so_far_synced o (log ++ Reply ticket Fine ∷ []) history m call a n q r p slotted paged (quiet_so_far o log history m call a n q p (Reply ticket Fine) c.holds (λ s v covers. covers) c.so_far.0)
    (flushes_end log r ticket c.so_far.1) c.so_far.2 slots pages) (λ k t has out. out)

-- the next header is put
pub core_put_next : (o : Opening) (log : List Entry) (history : List NumberedEntry) (m : Memory) (flights : ℕ → Flight) (call ticket : CallId) (a n q : ℕ) (p : FlushProgress) (e : Entry) (v : Sector) (next : Header) (tried : ℕ → Bool)
    → IsCore o log history m flights (Working call a n q p) → ((k : ℕ) → HasTicket (flights k) ticket → ⊥) → IsIssueOf e ticket → WritesOnly e o.layout.header_at v → Covers e o.layout.header_at v
    → ((b : ℕ) → m.index.tried b ≡ true → tried b ≡ true) → ((b : ℕ) → tried b ≡ true → IsOffAfter o m p.snapshot b)
    → IsHeaderLeft o (May o.before log) (with_index m false tried m.index.cursor).index v → IsNext o (with_index m false tried m.index.cursor) p v next
    → IsCore o (log ++ e ∷ []) history (with_index m false tried m.index.cursor) flights (Puts_next call a n q p (length log) v next ticket)
core_put_next o log history m flights call ticket a n q p e v next tried c new_ticket issues only covers wider wanted left is_next =
    let h = so_far_header o log history m call a n q p e v tried c.holds c.so_far only wider wanted is_next.paged left in
    record {
      safe = safe_event o log history (with_index m false tried m.index.cursor) e c.safe h.0.facts;
      holds = h.0;
      in_flight = flights_memory o (log ++ e ∷ []) history m (with_index m false tried m.index.cursor) flights (λ l. record { fresh = λ b has is. is; pending = λ b i has is. is; sealed = λ call a n is. is })
          (flights_event o log history m flights e (λ k t has. issue_no_end e ticket t issues) c.in_flight);
      so_far = (h.1, putting log e o.layout.header_at v ticket covers issues, is_next);
      tickets = λ k t has out. new_ticket k (subst (λ (y : CallId). HasTicket (flights k) y) (sym out) has);
    }

-- it is done
pub core_next_done : (o : Opening) (log : List Entry) (history : List NumberedEntry) (m : Memory) (flights : ℕ → Flight) (call ticket : CallId) (a n q i : ℕ) (p : FlushProgress) (v : Sector) (next : Header) → IsCore o log history m flights (Puts_next call a n q p i v next ticket)
    → IsCore o (log ++ Done ticket ∷ []) history m flights (Has_next call a n q p (length log + 1) v next)
core_next_done o log history m flights call ticket a n q i p v next c =
    quiet_step o log history m flights (Puts_next call a n q p i v next ticket) (Has_next call a n q p (length log + 1) v next) (Done ticket) c (λ s u covers. covers) (put_ends_none flights ticket (λ k has. c.tickets k ticket has refl))
    (λ holds. (quiet_so_far o log history m call a n q p (Done ticket) c.holds (λ s u covers. covers) c.so_far.0, put_done log o.layout.header_at v ticket i c.so_far.1, c.so_far.2, (let l = length_push log (Done ticket) in omega arith))) (λ k t has out. out)

-- its sync is asked
pub core_sync_next : (o : Opening) (log : List Entry) (history : List NumberedEntry) (m : Memory) (flights : ℕ → Flight) (call ticket : CallId) (a n q by : ℕ) (p : FlushProgress) (v : Sector) (next : Header) → IsCore o log history m flights (Has_next call a n q p by v next)
    → IsCore o (log ++ Ask ticket Flush ∷ []) history m flights (Syncs_next call a n q p by v next (length log) ticket)
core_sync_next o log history m flights call ticket a n q by p v next c =
    quiet_step o log history m flights (Has_next call a n q p by v next) (Syncs_next call a n q p by v next (length log) ticket) (Ask ticket Flush) c (λ s u covers. covers) (ask_ends_none flights ticket)
    (λ holds. (quiet_so_far o log history m call a n q p (Ask ticket Flush) c.holds (λ s u covers. covers) c.so_far.0, last_push log (Ask ticket Flush) o.layout.header_at v by (λ u covers. covers) c.so_far.1, c.so_far.2, asking_end log ticket, c.so_far.3)) (λ k t has out. out)

-- and answered well
pub core_next_synced : (o : Opening) (log : List Entry) (history : List NumberedEntry) (m : Memory) (flights : ℕ → Flight) (call ticket : CallId) (a n q by r : ℕ) (p : FlushProgress) (v : Sector) (next : Header) → IsCore o log history m flights (Syncs_next call a n q p by v next r ticket)
    → IsCore o (log ++ Reply ticket Fine ∷ []) history m flights (Is_next call a n q p by v next r)
core_next_synced o log history m flights call ticket a n q by r p v next c =
    quiet_step o log history m flights (Syncs_next call a n q p by v next r ticket) (Is_next call a n q p by v next r) (Reply ticket Fine) c (λ s u covers. covers) (reply_ends_none flights ticket)
    (λ holds. (quiet_so_far o log history m call a n q p (Reply ticket Fine) c.holds (λ s u covers. covers) c.so_far.0, last_push log (Reply ticket Fine) o.layout.header_at v by (λ u covers. covers) c.so_far.1, c.so_far.2, flushes_end log r ticket c.so_far.3, c.so_far.4)) (λ k t has out. out)

-- the end of a flush: pass k, which asked for it, owes its answer
seal_core : (o : Opening) (log : List Entry) (history : List NumberedEntry) (m : Memory) (generation tracked : ℕ) (sure : Bool) (tried : ℕ → Bool) (cursor : ℕ) (z : Sealing) (flights new : ℕ → Flight) (stage : Stage) (k : ℕ) (call : CallId) (a n : ℕ) (p : Snapshot) → IsCore o log history m flights stage → flights k ≡ Idle → IsUpdated flights new k (Answering call a n)
    → IsLogged o history m p z → m.discards.reach ≤ p.begun
    → Holds o log history (sealed_memory m generation tracked sure tried cursor z) → IsSealed o log history m.discards.drops z.stale z.off_base z.reach (flush_ask call a n) → IsCore o log history (sealed_memory m generation tracked sure tried cursor z) new Resting
seal_core o log history m generation tracked sure tried cursor z flights new stage k call a n p c idle put logged further holds over = record {
  safe = c.safe;
  holds = holds;
  in_flight = record {
    each = each_set o log history (sealed_memory m generation tracked sure tried cursor z) flights new k (Answering call a n) put
        (λ l other. flight_memory o log history m (sealed_memory m generation tracked sure tried cursor z) (flights l) (record { fresh = λ b has is. is; pending = λ b i has is. is; sealed = λ id b i was. more id b i was }) (c.in_flight.each l)) over;
    distinct = distinct_set flights new k (Answering call a n) c.in_flight.distinct put (λ l t other has mine. mine) (λ l b other has mine. mine) (λ l d other has mine. mine);
    owned = λ j d flight. let has = c.in_flight.owned j d flight in
        (has.0, subst (λ (g : Flight). HasWrite g j) (sym (put.other has.0 (λ same. subst (λ (g : Flight). HasWrite g j) idle (subst (λ (y : ℕ). HasWrite (flights y) j) same has.1)))) has.1);
  };
  so_far = tt;
  tickets = λ l t has out. out;
}
  where
    more : (id : CallId) (b i : ℕ) → IsSealed o log history m.discards.drops m.index.stale m.index.off_base m.discards.reach (flush_ask id b i) → IsSealed o log history m.discards.drops z.stale z.off_base z.reach (flush_ask id b i)
    more id b i was = record {
      asked = was.asked;
      flushed = was.flushed;
      reached = let r = was.reached in let e = logged.reach in omega arith;
      logged = λ d j w. let g = was.logged d j w in ((logged.off_is d).1 (inl g.0), elim g.1 [ inl stale ↦ inl (logged.stale_still d stale) | inr dropped ↦ inr dropped ]);
    }

pub core_seal_records : (o : Opening) (log : List Entry) (history : List NumberedEntry) (m : Memory) (flights new : ℕ → Flight) (k : ℕ) (call : CallId) (a n q : ℕ) (p : FlushProgress) (z : Sealing)
    → IsCore o log history m flights (Working call a n q p) → flights k ≡ Idle → IsUpdated flights new k (Answering call a n) → IsLogged o history m p.snapshot z → m.index.sure ≡ true
    → ((b : ℕ) → p.snapshot.blocks b ≡ true → p.slotted b ≡ true) → ((b : ℕ) → p.snapshot.lost (o.layout.chunk_of b) ≡ true → p.slotted b ≡ true)
    → IsCore o log history (sealed_memory m m.index.generation m.index.tracked m.index.sure m.index.tried m.index.cursor z) new Resting
core_seal_records o log history m flights new k call a n q p z c idle put logged sure all lost =
    let h = so_far_sealed o log history m call a n q p z c.holds c.so_far logged sure all lost in
    seal_core o log history m m.index.generation m.index.tracked m.index.sure m.index.tried m.index.cursor z flights new (Working call a n q p) k call a n p.snapshot c idle put logged c.so_far.way.reach h.0 h.1

pub core_seal_recycle : (o : Opening) (log : List Entry) (history : List NumberedEntry) (m : Memory) (flights new : ℕ → Flight) (k : ℕ) (call : CallId) (a n q by r : ℕ) (p : FlushProgress) (v : Sector) (next : Header) (z : Sealing) (none : ℕ → Bool)
    → IsCore o log history m flights (Is_next call a n q p by v next r) → flights k ≡ Idle → IsUpdated flights new k (Answering call a n) → IsLogged o history m p.snapshot z → ((b : ℕ) → none b ≡ false)
    → IsCore o log history (sealed_memory m (m.index.generation + 1) next.tracked true none 0 z) new Resting
core_seal_recycle o log history m flights new k call a n q by r p v next z none c idle put logged empty =
    let h = so_far_recycled o log history m call a n q r by p z none v next c.holds c.so_far.0 logged c.so_far.1 c.so_far.3 c.so_far.4 c.so_far.2.reads c.so_far.2.generation c.so_far.2.background c.so_far.2.paged empty in
    seal_core o log history m (m.index.generation + 1) next.tracked true none 0 z flights new (Is_next call a n q p by v next r) k call a n p.snapshot c idle put logged c.so_far.0.way.reach h.0 h.1

-- the good answer of a flush that is over
pub core_answer : (o : Opening) (log : List Entry) (history : List NumberedEntry) (m : Memory) (flights new : ℕ → Flight) (stage : Stage) (k : ℕ) (call : CallId) (a n : ℕ) → IsCore o log history m flights stage → flights k ≡ Answering call a n → IsUpdated flights new k Idle
    → ((b i : ℕ) → HasEntry history b i (Ask call Flush) → b ≡ a)
    → IsCore o log (history ++ entry_now log (Reply call Fine) ∷ []) m new stage
core_answer o log history m flights new stage k call a n c is put one =
    let over : IsSealed o log history m.discards.drops m.index.stale m.index.off_base m.discards.reach (flush_ask call a n) = subst (λ (g : Flight). FlightHolds o log history m g) is (c.in_flight.each k) in
    let holds = flush_answered o log history m call a n c.holds over one in
    let x = entry_now log (Reply call Fine) in
    record {
      safe = safe_entry o log history m x c.safe (omega arith) holds.facts;
      holds = holds;
      in_flight = record {
        each = each_set o log (history ++ x ∷ []) m flights new k Idle put (λ l other. flight_entry o log history m (flights l) x (λ d has. no_end d) (c.in_flight.each l)) tt;
        distinct = idle_distinct flights new k c.in_flight.distinct put;
        owned = λ j d flight. let has = owned_entry history flights x (λ e issue. issue) c.in_flight.owned j d flight in
            (has.0, subst (λ (g : Flight). HasWrite g j) (sym (put.other has.0 (λ same. subst (λ (g : Flight). HasWrite g j) is (subst (λ (y : ℕ). HasWrite (flights y) j) same has.1)))) has.1);
      };
      so_far = stage_entry o log history m stage x (next_ordinary o m.discards.drops history c.holds.facts.discards) c.holds.facts.opening.within refl (λ b q given. no_ends o log history m.discards.drops x (λ id same. absurd cc) b q) c.so_far;
      tickets = tickets_set flights new stage k Idle put c.tickets (λ t mine out. mine);
    }
  where
    no_end : (d : CallId) → IsOtherCall (entry_now log (Reply call Fine)) d
    no_end d (inl same) = cc
    no_end d (inr (inl same)) = cc
    no_end d (inr (inr issue)) = issue
