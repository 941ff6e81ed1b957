-- Each issue, and each copy that is put, keeps all that a core keeps.
use Rattle.std.proofs.Common.{ℕ, ◌≡◌, ◌<◌, ◌⊎◌, inl, inr, List, [], ◌∷◌, ◌++◌, length, Some, None, Option, true, false, arith, refl, sym, subst, ◌∙◌}
use Rattle.std.proofs.lemmas.Bool.{cases_eq}
use Rattle.vd_image.specs.Log.{Asked, Sector, CallId, Entry, Ask, Issue, Done, Broke, At, Covers, IsIssueOf, IsWriteInFlight}
use Rattle.vd_crash.specs.facts.Safe.{NumberedEntry, events, Opening}
use Rattle.vd_crash.specs.flushes.Passes.{IsPieceInFlight}
use Rattle.vd_crash.specs.flushes.Stage.{Flight, Idle, Writing, Copying, HasTicket, HasBlock, HasCall, HasWrite, AreFlights, FlightHolds, Answering, IsOtherCall}
use Rattle.vd_crash.specs.facts.Words.{with_blocks, IsSameWrite, IsUpdated, IsWholeWrite, no_write}
use Rattle.vd_crash.specs.flushes.Moves.{world, entry_now, Writes_local, Writes_whole, Copies, Moves_block}
use Rattle.vd_crash.specs.primitives.Core.{Stage, StageTicket, IsCore}
use Rattle.vd_image.proofs.Logs.{at_push, at_end, at_below, at_pushed, at_one}
use Rattle.vd_crash.proofs.facts.Metadata.{WritesPlaces}
use Rattle.vd_crash.proofs.flushes.Moves.{step_keeps}
use Rattle.vd_crash.proofs.flushes.Flights.{KeepsFor, flight_event, flight_entry, flight_memory, distinct_set, each_set}
use Rattle.vd_crash.proofs.primitives.Core.{stage_event, stage_entry, stage_blocks}
use Rattle.vd_crash.specs.primitives.Primitives.{MayIssue}
use Rattle.vd_crash.proofs.primitives.PassSteps.{kept}
use Rattle.vd_crash.proofs.flushes.Passes.{issue_one}
use Rattle.vd_crash.proofs.facts.Steps.{next_ordinary}
use Rattle.vd_crash.proofs.facts.Writes.{no_done, no_ends, same_follows, issue_whole, put_copy}
use Rattle.vd_crash.specs.facts.Memory.{Memory}
use Rattle.vd_crash.proofs.facts.HistoryGrowth.{events_push, length_events}
use Rattle.std.proofs.lemmas.List.{length_push}

pub issue_no_ask : (e : Entry) (ticket t : CallId) (request : Asked) → IsIssueOf e ticket → e ≡ Ask t request → ⊥
issue_no_ask e ticket t request issues same = subst (λ (x : Entry). IsIssueOf x ticket) same issues

pub end_no_ask : (e : Entry) (ticket t : CallId) (request : Asked) → (Done ticket ≡ e) ⊎ (Broke ticket ≡ e) → e ≡ Ask t request → ⊥
end_no_ask e ticket t request (inl done) same = cc
end_no_ask e ticket t request (inr broke) same = cc

pub issue_no_end : (e : Entry) (ticket t : CallId) → IsIssueOf e ticket → (Done t ≡ e) ⊎ (Broke t ≡ e) → ⊥
issue_no_end e ticket t issues (inl same) = subst (λ (x : Entry). IsIssueOf x ticket) (sym same) issues
issue_no_end e ticket t issues (inr same) = subst (λ (x : Entry). IsIssueOf x ticket) (sym same) issues

-- the new event of a log is in flight
issued_now : (log : List Entry) (e : Entry) (call : CallId) → IsIssueOf e call → IsWriteInFlight (log ++ e ∷ []) (length log) call
issued_now log e call issues = record { event = e; stands = at_end log e; issues = issues; running = λ m after found. past m after (below m found) }
  where
    past : (m : ℕ) → length log < m → m < length (log ++ e ∷ []) → ⊥
    past m after less = let l = length_push log e in omega arith

    below : (m : ℕ) → At (log ++ e ∷ []) m (Done call) ⊎ At (log ++ e ∷ []) m (Broke call) → m < length (log ++ e ∷ [])
    below m (inl h) = at_below (log ++ e ∷ []) m (Done call) h
    below m (inr h) = at_below (log ++ e ∷ []) m (Broke call) h

-- a write in flight was so before, or is the new one
in_flight_cases : (log : List Entry) (e : Entry) (j : ℕ) (call : CallId) → IsWriteInFlight (log ++ e ∷ []) j call → IsWriteInFlight log j call ⊎ (j ≡ length log)
in_flight_cases log e j call h = elim (at_pushed log e j h.event h.stands) [
  | inl k ↦ inl (record { event = h.event; stands = k; issues = h.issues; running = λ m after found. h.running m after (grown m found) })
  | inr k ↦ inr k.0
]
  where
    grown : (m : ℕ) → At log m (Done call) ⊎ At log m (Broke call) → At (log ++ e ∷ []) m (Done call) ⊎ At (log ++ e ∷ []) m (Broke call)
    grown m (inl a) = inl (at_push log e m (Done call) a)
    grown m (inr a) = inr (at_push log e m (Broke call) a)

pub tickets_set : (flights new : ℕ → Flight) (stage : Stage) (k : ℕ) (f : Flight) → IsUpdated flights new k f → ((l : ℕ) (t : CallId) → HasTicket (flights l) t → StageTicket stage t → ⊥)
    → ((t : CallId) → HasTicket f t → StageTicket stage t → ⊥) → (l : ℕ) (t : CallId) → HasTicket (new l) t → StageTicket stage t → ⊥
tickets_set flights new stage k f put old mine l t has out = elim (cases_eq l k) [
  | inl same ↦ mine t (subst (λ (g : Flight). HasTicket g t) put.same (subst (λ (i : ℕ). HasTicket (new i) t) same has)) out
  | inr other ↦ old l t (subst (λ (g : Flight). HasTicket g t) (put.other l other) has) out
]

-- the new write of pass k, and all others' as before
issue_owned : (o : Opening) (log : List Entry) (history : List NumberedEntry) (m : Memory) (flights new : ℕ → Flight) (k b n : ℕ) (call ticket : CallId) (x : NumberedEntry) → AreFlights o log history m flights → flights k ≡ Idle
    → IsUpdated flights new k (Writing b (length history) n call ticket)
    → (j : ℕ) (c : CallId) → IsWriteInFlight (events (history ++ x ∷ [])) j c → (l : ℕ) × HasWrite (new l) j
issue_owned o log history m flights new k b n call ticket x h idle put j c flight =
    elim (in_flight_cases (events history) x.event j c (subst (λ (l : List Entry). IsWriteInFlight l j c) (events_push history x) flight)) [
      | inl old ↦
          (let has = h.owned j c old in
          elim (cases_eq has.0 k) [
            | inl same ↦ absurd (subst (λ (g : Flight). HasWrite g j) idle (subst (λ (i : ℕ). HasWrite (flights i) j) same has.1))
            | inr other ↦ (has.0, subst (λ (g : Flight). HasWrite g j) (sym (put.other has.0 other)) has.1)
          ])
      | inr now ↦ (k, subst (λ (g : Flight). HasWrite g j) (sym put.same) (sym (length_events history) ∙ sym now))
    ]

-- a pass's open write is its call's
pub write_call : (o : Opening) (log : List Entry) (history : List NumberedEntry) (m : Memory) (f : Flight) (j : ℕ) (call : CallId) → FlightHolds o log history m f → HasWrite f j → IsWriteInFlight (events history) j call → HasCall f call
write_call o log history m Idle j call h has flight = has
write_call o log history m (Copying b n ticket) j call h has flight = has
write_call o log history m (Answering id a n) j call h has flight = has
write_call o log history m (Writing b k n id ticket) j call h has flight =
    let there : At (events history) j h.0.guest.event = subst (λ (y : ℕ). At (events history) y h.0.guest.event) has h.0.guest.stands in
    let same : h.0.guest.event ≡ flight.event = at_one (events history) j h.0.guest.event flight.event there flight.stands in
    issue_one flight.event id call (subst (λ (y : Entry). IsIssueOf y id) same h.0.guest.issues) flight.issues

-- a call that no pass has a write of has none open
pub none_open : (o : Opening) (log : List Entry) (history : List NumberedEntry) (m : Memory) (flights : ℕ → Flight) (call : CallId) (j : ℕ) → AreFlights o log history m flights → ((l : ℕ) → HasCall (flights l) call → ⊥) → IsWriteInFlight (events history) j call → ⊥
none_open o log history m flights call j h new flight = let has = h.owned j call flight in new has.0 (write_call o log history m (flights has.0) j call (h.each has.0) has.1 flight)

-- the facts on the write that pass k has issued
issue_writing : (o : Opening) (log : List Entry) (history : List NumberedEntry) (m : Memory) (flights : ℕ → Flight) (stage : Stage) (k b : ℕ) (id ticket : CallId) (first : ℕ) (content : List Sector) (e : Entry)
    → AreFlights o log history m flights → MayIssue flights stage k b id ticket → IsIssueOf e ticket → ((s : ℕ) (v : Sector) → Covers (Issue id first content) s v → o.layout.block_of s ≡ b)
    → IsPieceInFlight o (log ++ e ∷ []) (history ++ entry_now log (Issue id first content) ∷ []) b id ticket (length history) (length log)
issue_writing o log history m flights stage k b id ticket first content e all may issues block = record {
  event = Issue id first content;
  stands = at_end history (entry_now log (Issue id first content));
  block = block;
  guest = subst (λ (l : List Entry). IsWriteInFlight l (length history) id) (sym (events_push history (entry_now log (Issue id first content))))
      (subst (λ (i : ℕ). IsWriteInFlight (events history ++ Issue id first content ∷ []) i id) (length_events history) (issued_now (events history) (Issue id first content) id refl));
  store = issued_now log e ticket issues;
  only = λ j flight. elim (in_flight_cases (events history) (Issue id first content) j id (subst (λ (l : List Entry). IsWriteInFlight l j id) (events_push history (entry_now log (Issue id first content))) flight)) [
    | inl old ↦ absurd (none_open o log history m flights id j all may.call_new old)
    | inr now ↦ now ∙ length_events history
  ];
}

-- a write to a local block
pub core_issue : (o : Opening) (log : List Entry) (history : List NumberedEntry) (m : Memory) (flights new : ℕ → Flight) (stage : Stage) (k b p : ℕ) (id ticket : CallId) (first : ℕ) (content : List Sector) (e : Entry)
    → IsCore o log history m flights stage → MayIssue flights stage k b id ticket → IsUpdated flights new k (Writing b (length history) (length log) id ticket) → IsIssueOf e ticket
    → m.fresh b ≡ true → m.index.table (o.layout.chunk_of b) ≡ Some p → IsSameWrite o (Issue id first content) e b p
    → IsCore o (log ++ e ∷ []) (history ++ entry_now log (Issue id first content) ∷ []) m new stage
core_issue o log history m flights new stage k b p id ticket first content e c may put issues fresh given same =
    let k2 = step_keeps o (world log history m) (world (log ++ e ∷ []) (history ++ x ∷ []) m) (Moves_block (Writes_local (record { call = id; first = first; content = content; event = e; block = b; storage = p }) (record { local = fresh; given = given; same = same }))) (kept o log history m flights stage c) in
    record {
      safe = k2.safe;
      holds = k2.holds;
      in_flight = record {
        each = each_set o (log ++ e ∷ []) (history ++ x ∷ []) m flights new k (Writing b (length history) (length log) id ticket) put
            (λ l other. flight_entry o (log ++ e ∷ []) history m (flights l) x (other_call l) (flight_event o log history m (flights l) e (λ t has. issue_no_end e ticket t issues) (c.in_flight.each l)))
            (issue_writing o log history m flights stage k b id ticket first content e c.in_flight may issues (λ s v covers. (same.forward s v covers).0), inl fresh);
        distinct = distinct_set flights new k (Writing b (length history) (length log) id ticket) c.in_flight.distinct put
            (λ l t other has mine. may.ticket_new l (subst (λ (y : CallId). HasTicket (flights l) y) (sym mine) has))
            (λ l d other has mine. may.block l (subst (λ (y : ℕ). HasBlock (flights l) y) (sym mine) has))
            (λ l d other has mine. may.call_new l (subst (λ (y : CallId). HasCall (flights l) y) (sym mine) has));
        owned = issue_owned o log history m flights new k b (length log) id ticket x c.in_flight may.idle put;
      };
      so_far = stage_event o log (history ++ x ∷ []) m stage e c.holds.apart places (same_follows o log history m id first content e b p c.holds given same) (λ t out. issue_no_end e ticket t issues) (λ t request out. issue_no_ask e ticket t request issues)
          (stage_entry o log history m stage x (next_ordinary o m.discards.drops history c.holds.facts.discards) c.holds.facts.opening.within refl (λ d q also. no_ends o log history m.discards.drops x (λ call. no_done id call first content) d q) c.so_far);
      tickets = tickets_set flights new stage k (Writing b (length history) (length log) id ticket) put c.tickets (λ t mine out. may.stage_new (subst (λ (y : CallId). StageTicket stage y) (sym mine) out));
    }
  where
    x : NumberedEntry
    x = entry_now log (Issue id first content)

    places : WritesPlaces o e
    places t v covers = let r = same.back t v covers in (p, r.0, c.holds.facts.storage_one_to_one.within (o.layout.chunk_of b) p given, r.2)

    other_call : (l : ℕ) (d : CallId) → HasCall (flights l) d → IsOtherCall x d
    other_call l d has (inl done) = cc
    other_call l d has (inr (inl broke)) = cc
    other_call l d has (inr (inr same_call)) = may.call_new l (subst (λ (y : CallId). HasCall (flights l) y) (sym same_call) has)

-- a write to a block that isn't local
pub core_issue_whole : (o : Opening) (log : List Entry) (history : List NumberedEntry) (m : Memory) (pending : ℕ → Option ℕ) (flights new : ℕ → Flight) (stage : Stage) (k b p : ℕ) (id ticket : CallId) (first : ℕ) (content : List Sector) (e : Entry)
    → IsCore o log history m flights stage → MayIssue flights stage k b id ticket → IsUpdated flights new k (Writing b (length history) (length log) id ticket) → IsIssueOf e ticket
    → m.fresh b ≡ false → m.pending b ≡ None → b < o.layout.blocks → m.index.table (o.layout.chunk_of b) ≡ Some p → IsUpdated m.pending pending b (Some (length log)) → IsWholeWrite o m.discards (Issue id first content) e b p
    → IsCore o (log ++ e ∷ []) (history ++ entry_now log (Issue id first content) ∷ []) (with_blocks m m.fresh m.born m.owed pending) new stage
core_issue_whole o log history m pending flights new stage k b p id ticket first content e c may put issues not_fresh none in_range given put_pending write =
    let k2 = step_keeps o (world log history m) (world (log ++ e ∷ []) (history ++ x ∷ []) n) (Moves_block (Writes_whole (record { call = id; first = first; content = content; event = e; block = b; storage = p })
    (record { pending = pending; not_local = not_fresh; none = none; in_range = in_range; given = given; put = put_pending; whole = write }))) (kept o log history m flights stage c) in
    record {
      safe = k2.safe;
      holds = k2.holds;
      in_flight = record {
        each = each_set o (log ++ e ∷ []) (history ++ x ∷ []) n flights new k (Writing b (length history) (length log) id ticket) put
            (λ l other. flight_memory o (log ++ e ∷ []) (history ++ x ∷ []) m n (flights l) (keeps l)
            (flight_entry o (log ++ e ∷ []) history m (flights l) x (other_call l) (flight_event o log history m (flights l) e (λ t has. issue_no_end e ticket t issues) (c.in_flight.each l))))
            (issue_writing o log history m flights stage k b id ticket first content e c.in_flight may issues write.guest_block, inr put_pending.same);
        distinct = distinct_set flights new k (Writing b (length history) (length log) id ticket) c.in_flight.distinct put
            (λ l t other has mine. may.ticket_new l (subst (λ (y : CallId). HasTicket (flights l) y) (sym mine) has))
            (λ l d other has mine. may.block l (subst (λ (y : ℕ). HasBlock (flights l) y) (sym mine) has))
            (λ l d other has mine. may.call_new l (subst (λ (y : CallId). HasCall (flights l) y) (sym mine) has));
        owned = issue_owned o log history m flights new k b (length log) id ticket x c.in_flight may.idle put;
      };
      so_far = stage_blocks o (log ++ e ∷ []) (history ++ x ∷ []) m stage m.fresh m.born m.owed pending c.holds.blocks.owed_local (λ d is. is) (λ d is. is) (λ d is. refl)
          (stage_event o log (history ++ x ∷ []) m stage e c.holds.apart places (issue_whole o log history m pending id first content e b p c.holds not_fresh none in_range given put_pending write).2 (λ t out. issue_no_end e ticket t issues) (λ t request out. issue_no_ask e ticket t request issues)
          (stage_entry o log history m stage x (next_ordinary o m.discards.drops history c.holds.facts.discards) c.holds.facts.opening.within refl (λ d q also. no_ends o log history m.discards.drops x (λ call. no_done id call first content) d q) c.so_far));
      tickets = tickets_set flights new stage k (Writing b (length history) (length log) id ticket) put c.tickets (λ t mine out. may.stage_new (subst (λ (y : CallId). StageTicket stage y) (sym mine) out));
    }
  where
    x : NumberedEntry
    x = entry_now log (Issue id first content)

    n : Memory
    n = with_blocks m m.fresh m.born m.owed pending

    places : WritesPlaces o e
    places t v covers = let r = write.back t v covers in (p, r.0, c.holds.facts.storage_one_to_one.within (o.layout.chunk_of b) p given, r.2)

    other_call : (l : ℕ) (d : CallId) → HasCall (flights l) d → IsOtherCall x d
    other_call l d has (inl done) = cc
    other_call l d has (inr (inl broke)) = cc
    other_call l d has (inr (inr same_call)) = may.call_new l (subst (λ (y : CallId). HasCall (flights l) y) (sym same_call) has)

    keeps : (l : ℕ) → KeepsFor o (log ++ e ∷ []) (history ++ x ∷ []) m n (flights l)
    keeps l = record {
      fresh = λ d has is. is;
      sealed = λ call a i is. is;
      pending = λ d i has is. put_pending.other d (λ same. may.block l (subst (λ (y : ℕ). HasBlock (flights l) y) same has)) ∙ is;
    }

-- a copy of a block
pub core_copy : (o : Opening) (log : List Entry) (history : List NumberedEntry) (m : Memory) (pending : ℕ → Option ℕ) (flights new : ℕ → Flight) (stage : Stage) (k b p : ℕ) (ticket : CallId) (e : Entry)
    → IsCore o log history m flights stage → flights k ≡ Idle → ((l : ℕ) → HasBlock (flights l) b → ⊥) → ((l : ℕ) → HasTicket (flights l) ticket → ⊥) → (StageTicket stage ticket → ⊥)
    → IsUpdated flights new k (Copying b (length log) ticket) → IsIssueOf e ticket
    → m.fresh b ≡ false → m.pending b ≡ None → b < o.layout.blocks → m.index.table (o.layout.chunk_of b) ≡ Some p → IsUpdated m.pending pending b (Some (length log)) → IsWholeWrite o m.discards no_write e b p
    → IsCore o (log ++ e ∷ []) history (with_blocks m m.fresh m.born m.owed pending) new stage
core_copy o log history m pending flights new stage k b p ticket e c idle block ticket_new stage_new put issues not_fresh none in_range given put_pending write =
    let k2 = step_keeps o (world log history m) (world (log ++ e ∷ []) history n) (Moves_block (Copies e b p (record { pending = pending; not_local = not_fresh; none = none; in_range = in_range; given = given; put = put_pending; whole = write }))) (kept o log history m flights stage c) in
    record {
      safe = k2.safe;
      holds = k2.holds;
      in_flight = record {
        each = each_set o (log ++ e ∷ []) history n flights new k (Copying b (length log) ticket) put
            (λ l other. flight_memory o (log ++ e ∷ []) history m n (flights l) (keeps l) (flight_event o log history m (flights l) e (λ t has. issue_no_end e ticket t issues) (c.in_flight.each l)))
            (issued_now log e ticket issues, put_pending.same);
        distinct = distinct_set flights new k (Copying b (length log) ticket) c.in_flight.distinct put
            (λ l t other has mine. ticket_new l (subst (λ (y : CallId). HasTicket (flights l) y) (sym mine) has))
            (λ l d other has mine. block l (subst (λ (y : ℕ). HasBlock (flights l) y) (sym mine) has))
            (λ l d other has mine. mine);
        owned = λ j d flight. let has = c.in_flight.owned j d flight in
            (has.0, subst (λ (g : Flight). HasWrite g j) (sym (put.other has.0 (λ same. subst (λ (g : Flight). HasWrite g j) idle (subst (λ (i : ℕ). HasWrite (flights i) j) same has.1)))) has.1);
      };
      so_far = stage_blocks o (log ++ e ∷ []) history m stage m.fresh m.born m.owed pending c.holds.blocks.owed_local (λ d is. is) (λ d is. is) (λ d is. refl)
          (stage_event o log history m stage e c.holds.apart places (put_copy o log history m pending e b p c.holds not_fresh none in_range given put_pending write).1 (λ t out. issue_no_end e ticket t issues) (λ t request out. issue_no_ask e ticket t request issues) c.so_far);
      tickets = tickets_set flights new stage k (Copying b (length log) ticket) put c.tickets (λ t mine out. stage_new (subst (λ (y : CallId). StageTicket stage y) (sym mine) out));
    }
  where
    n : Memory
    n = with_blocks m m.fresh m.born m.owed pending

    places : WritesPlaces o e
    places t v covers = let r = write.back t v covers in (p, r.0, c.holds.facts.storage_one_to_one.within (o.layout.chunk_of b) p given, r.2)

    keeps : (l : ℕ) → KeepsFor o (log ++ e ∷ []) history m n (flights l)
    keeps l = record { fresh = λ d has is. is; sealed = λ call a i is. is; pending = λ d i has is. put_pending.other d (λ same. block l (subst (λ (y : ℕ). HasBlock (flights l) y) same has)) ∙ is }
