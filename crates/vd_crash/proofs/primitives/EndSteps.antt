-- Each end of a write and of a copy keeps all that a core keeps.
use Rattle.std.proofs.Common.{ℕ, ◌≡◌, ◌<◌, ◌⊎◌, inl, inr, List, [], ◌∷◌, ◌++◌, length, Some, None, Option, Bool, true, false, arith, refl, ap, sym, subst, ◌∙◌}
use Rattle.std.proofs.lemmas.Bool.{cases_eq}
use Rattle.vd_image.specs.Log.{Sector, CallId, Entry, Done, Broke, At, Covers, IsIssueOf, IsOpen, IsWriteInFlight}
use Rattle.vd_crash.specs.facts.Safe.{NumberedEntry, events, Opening, IsSafe}
use Rattle.vd_crash.specs.facts.Facts.{HasEntry, GuestWrites, OwnWrites, Holds}
use Rattle.vd_crash.proofs.facts.Steps.{next_ordinary}
use Rattle.vd_crash.proofs.facts.Writes.{no_ends}
use Rattle.vd_crash.proofs.flushes.Stage.{quiet_follows}
use Rattle.vd_crash.proofs.flushes.Passes.{writing_mirrored, in_flight_pushed, in_flight_ends, open_in_flight, writing_done, writing_broke}
use Rattle.vd_crash.specs.flushes.Stage.{Flight, Idle, Writing, Copying, Answering, FlightHolds, HasTicket, HasBlock, HasCall, HasWrite, AreDistinct, AreFlights, IsOtherCall}
use Rattle.vd_crash.specs.facts.Words.{WritesNothing, with_blocks, IsUpdated}
use Rattle.vd_crash.specs.flushes.Moves.{world, entry_now, Tells, Notes, Keeps_contents}
use Rattle.vd_crash.specs.primitives.Core.{Stage, StageTicket, IsCore}
use Rattle.vd_image.proofs.Logs.{at_end, at_below, at_one}
use Rattle.vd_crash.proofs.facts.Growth.{EndsMirrored}
use Rattle.vd_crash.proofs.facts.Moments.{safe_entry}
use Rattle.vd_crash.proofs.flushes.Moves.{step_keeps}
use Rattle.vd_crash.proofs.facts.Ends.{born, given_up}
use Rattle.vd_crash.proofs.flushes.Flights.{flight_event, flight_entry, flight_memory, distinct_set, each_set}
use Rattle.vd_crash.proofs.primitives.Core.{stage_event, stage_entry, stage_blocks}
use Rattle.vd_crash.proofs.primitives.PassSteps.{kept, quiet_places}
use Rattle.vd_crash.proofs.primitives.IssueSteps.{end_no_ask, tickets_set, write_call}
use Rattle.vd_crash.specs.facts.Memory.{Memory}
use Rattle.vd_crash.proofs.facts.HistoryGrowth.{events_push}
use Rattle.std.proofs.lemmas.List.{length_push}

-- a pass's open write is to its block, and its call's
pub write_block : (o : Opening) (log : List Entry) (history : List NumberedEntry) (m : Memory) (f : Flight) (j i s : ℕ) (v : Sector) → FlightHolds o log history m f → HasWrite f j → GuestWrites history j i s v → HasBlock f (o.layout.block_of s)
write_block o log history m Idle j i s v h has w = has
write_block o log history m (Copying b n ticket) j i s v h has w = absurd has
write_block o log history m (Answering call a n) j i s v h has w = has
write_block o log history m (Writing b k n call ticket) j i s v h has w =
    let here : HasEntry history k i w.event = subst (λ (y : ℕ). HasEntry history y i w.event) (sym has) w.stands in
    let same : record { event = w.event; number = i } ≡ record { event = h.0.event; number = n } = at_one history k (record { event = w.event; number = i }) (record { event = h.0.event; number = n }) here h.0.stands in
    sym (h.0.block s v (subst (λ (y : Entry). Covers y s v) (ap (λ (y : NumberedEntry). y.event) same) w.covers))

-- pass k's facts
mine_of : (o : Opening) (log : List Entry) (history : List NumberedEntry) (m : Memory) (flights : ℕ → Flight) (k : ℕ) (f : Flight) → AreFlights o log history m flights → flights k ≡ f → FlightHolds o log history m f
mine_of o log history m flights k f h same = subst (λ (g : Flight). FlightHolds o log history m g) same (h.each k)

-- after the end of pass k's write no open write is its own
end_owned : (o : Opening) (log : List Entry) (history : List NumberedEntry) (m : Memory) (flights new : ℕ → Flight) (k b j n : ℕ) (call ticket : CallId) (x : NumberedEntry) → AreFlights o log history m flights → flights k ≡ Writing b j n call ticket
    → IsUpdated flights new k Idle → (Done call ≡ x.event) ⊎ (Broke call ≡ x.event) → ((c : CallId) → IsIssueOf x.event c → ⊥)
    → (i : ℕ) (c : CallId) → IsWriteInFlight (events (history ++ x ∷ [])) i c → (l : ℕ) × HasWrite (new l) i
end_owned o log history m flights new k b j n call ticket x h is put ends no_issue i c flight =
    let longer : IsWriteInFlight (events history ++ x.event ∷ []) i c = subst (λ (l : List Entry). IsWriteInFlight l i c) (events_push history x) flight in
    let old : IsWriteInFlight (events history) i c = in_flight_pushed (events history) x.event i c (no_issue c) longer in
    let has = h.owned i c old in
    elim (cases_eq has.0 k) [
      | inl same ↦
          (let mine : HasWrite (Writing b j n call ticket) i = subst (λ (g : Flight). HasWrite g i) is (subst (λ (y : ℕ). HasWrite (flights y) i) same has.1) in
          let id : call ≡ c = write_call o log history m (Writing b j n call ticket) i c (mine_of o log history m flights k (Writing b j n call ticket) h is) mine old in
          let below : i < length (events history) = at_below (events history) i old.event old.stands in
          absurd (longer.running (length (events history)) below (last (subst (λ (y : CallId). (Done y ≡ x.event) ⊎ (Broke y ≡ x.event)) id ends))))
      | inr other ↦ (has.0, subst (λ (g : Flight). HasWrite g i) (sym (put.other has.0 other)) has.1)
    ]
  where
    last : (Done c ≡ x.event) ⊎ (Broke c ≡ x.event) → At (events history ++ x.event ∷ []) (length (events history)) (Done c) ⊎ At (events history ++ x.event ∷ []) (length (events history)) (Broke c)
    last (inl same) = inl (subst (λ (y : Entry). At (events history ++ x.event ∷ []) (length (events history)) y) (sym same) (at_end (events history) x.event))
    last (inr same) = inr (subst (λ (y : Entry). At (events history ++ x.event ∷ []) (length (events history)) y) (sym same) (at_end (events history) x.event))

pub idle_distinct : (flights new : ℕ → Flight) (k : ℕ) → AreDistinct flights → IsUpdated flights new k Idle → AreDistinct new
idle_distinct flights new k h put = distinct_set flights new k Idle h put (λ l t other has mine. mine) (λ l b other has mine. mine) (λ l c other has mine. mine)

-- an end of another ticket, or of another call
other_ticket : (flights : ℕ → Flight) (k l : ℕ) (ticket t : CallId) (e : Entry) → AreDistinct flights → (l ≡ k → ⊥) → HasTicket (flights k) ticket → (Done ticket ≡ e) ⊎ (Broke ticket ≡ e)
    → HasTicket (flights l) t → (Done t ≡ e) ⊎ (Broke t ≡ e) → ⊥
other_ticket flights k l ticket t e distinct other mine first has second = other (distinct.tickets l k t has (subst (λ (y : CallId). HasTicket (flights k) y) (one first second) mine))
  where
    one : (Done ticket ≡ e) ⊎ (Broke ticket ≡ e) → (Done t ≡ e) ⊎ (Broke t ≡ e) → ticket ≡ t
    one (inl a) (inl b) = cc
    one (inl a) (inr b) = absurd cc
    one (inr a) (inl b) = absurd cc
    one (inr a) (inr b) = cc

other_call : (flights : ℕ → Flight) (k l : ℕ) (call c : CallId) (x : NumberedEntry) → AreDistinct flights → (l ≡ k → ⊥) → HasCall (flights k) call → (Done call ≡ x.event) ⊎ (Broke call ≡ x.event) → ((d : CallId) → IsIssueOf x.event d → ⊥)
    → HasCall (flights l) c → IsOtherCall x c
other_call flights k l call c x distinct other mine ends no_issue has found = other (distinct.calls l k c has (subst (λ (y : CallId). HasCall (flights k) y) (one ends found) mine))
  where
    one : (Done call ≡ x.event) ⊎ (Broke call ≡ x.event) → (Done c ≡ x.event) ⊎ (Broke c ≡ x.event) ⊎ IsIssueOf x.event c → call ≡ c
    one (inl a) (inl b) = cc
    one (inl a) (inr (inl b)) = absurd cc
    one (inr a) (inl b) = absurd cc
    one (inr a) (inr (inl b)) = cc
    one a (inr (inr b)) = absurd (no_issue c b)

stage_ticket : (stage : Stage) (ticket t : CallId) (e : Entry) → (StageTicket stage ticket → ⊥) → (Done ticket ≡ e) ⊎ (Broke ticket ≡ e) → StageTicket stage t → (Done t ≡ e) ⊎ (Broke t ≡ e) → ⊥
stage_ticket stage ticket t e none first out second = none (subst (λ (y : CallId). StageTicket stage y) (sym (one first second)) out)
  where
    one : (Done ticket ≡ e) ⊎ (Broke ticket ≡ e) → (Done t ≡ e) ⊎ (Broke t ≡ e) → ticket ≡ t
    one (inl a) (inl b) = cc
    one (inl a) (inr b) = absurd cc
    one (inr a) (inl b) = absurd cc
    one (inr a) (inr b) = cc

-- what is left to show once the logs and the memory have all facts: the other passes and the flush
end_core : (o : Opening) (log : List Entry) (history : List NumberedEntry) (m : Memory) (flights new : ℕ → Flight) (stage : Stage) (k b j n : ℕ) (call ticket : CallId) (e event : Entry) (fresh : ℕ → Bool) (born_at : ℕ → ℕ) (owed : ℕ → Bool) (pending : ℕ → Option ℕ)
    → IsCore o log history m flights stage → flights k ≡ Writing b j n call ticket → IsUpdated flights new k Idle → WritesNothing e → ((d q : ℕ) → m.index.table (o.layout.chunk_of d) ≡ Some q → EndsMirrored o (log ++ e ∷ []) history m.discards.drops d q (entry_now (log ++ e ∷ []) event))
    → (Done ticket ≡ e) ⊎ (Broke ticket ≡ e) → (Done call ≡ event) ⊎ (Broke call ≡ event) → ((c : CallId) → IsIssueOf event c → ⊥)
    → ((d : ℕ) → m.fresh d ≡ true → fresh d ≡ true) → ((d : ℕ) → m.owed d ≡ true → owed d ≡ true) → ((d : ℕ) → m.fresh d ≡ true → born_at d ≡ m.born d) → ((d : ℕ) → (d ≡ b → ⊥) → pending d ≡ m.pending d)
    → IsSafe o (log ++ e ∷ []) (history ++ entry_now (log ++ e ∷ []) event ∷ []) → Holds o (log ++ e ∷ []) (history ++ entry_now (log ++ e ∷ []) event ∷ []) (with_blocks m fresh born_at owed pending)
    → IsCore o (log ++ e ∷ []) (history ++ entry_now (log ++ e ∷ []) event ∷ []) (with_blocks m fresh born_at owed pending) new stage
end_core o log history m flights new stage k b j n call ticket e event fresh born_at owed pending c is put quiet ends ticket_end call_end no_issue more_fresh more_owed same_born other_pending safe holds = record {
  safe = safe;
  holds = holds;
  in_flight = record {
    each = each_set o (log ++ e ∷ []) (history ++ x ∷ []) (with_blocks m fresh born_at owed pending) flights new k Idle put
        (λ l other. flight_memory o (log ++ e ∷ []) (history ++ x ∷ []) m (with_blocks m fresh born_at owed pending) (flights l)
        (record {
          fresh = λ d has known. more_fresh d known;
          sealed = λ id a i known. known;
          pending = λ d i has known. other_pending d (λ same. other (c.in_flight.distinct.blocks l k d has (subst (λ (y : ℕ). HasBlock (flights k) y) (sym same) has_block))) ∙ known;
        })
        (flight_entry o (log ++ e ∷ []) history m (flights l) x (λ d has. other_call flights k l call d x c.in_flight.distinct other has_call call_end no_issue has)
        (flight_event o log history m (flights l) e (λ t has. other_ticket flights k l ticket t e c.in_flight.distinct other has_ticket ticket_end has) (c.in_flight.each l))))
        tt;
    distinct = idle_distinct flights new k c.in_flight.distinct put;
    owned = end_owned o log history m flights new k b j n call ticket x c.in_flight is put call_end no_issue;
  };
  so_far = stage_blocks o (log ++ e ∷ []) (history ++ x ∷ []) m stage fresh born_at owed pending c.holds.blocks.owed_local more_fresh more_owed same_born
      (stage_entry o (log ++ e ∷ []) history m stage x (next_ordinary o m.discards.drops history c.holds.facts.discards) (let w = c.holds.facts.opening.within in let l = length_push log e in omega arith) refl ends
      (stage_event o log history m stage e c.holds.apart (quiet_places o e quiet) (quiet_follows o log history m e quiet) (λ t out. stage_ticket stage ticket t e (c.tickets k ticket has_ticket) ticket_end out) (λ d request out. end_no_ask e ticket d request ticket_end) c.so_far));
  tickets = tickets_set flights new stage k Idle put c.tickets (λ t mine out. mine);
}
  where
    x : NumberedEntry
    x = entry_now (log ++ e ∷ []) event

    has_ticket : HasTicket (flights k) ticket
    has_ticket = subst (λ (g : Flight). HasTicket g ticket) (sym is) refl

    has_block : HasBlock (flights k) b
    has_block = subst (λ (g : Flight). HasBlock g b) (sym is) refl

    has_call : HasCall (flights k) call
    has_call = subst (λ (g : Flight). HasCall g call) (sym is) refl

-- a write to a local block is done
pub core_done : (o : Opening) (log : List Entry) (history : List NumberedEntry) (m : Memory) (owed : ℕ → Bool) (flights new : ℕ → Flight) (stage : Stage) (k b j n : ℕ) (call ticket : CallId)
    → IsCore o log history m flights stage → flights k ≡ Writing b j n call ticket → IsUpdated flights new k Idle → m.fresh b ≡ true
    → ((c : ℕ) → m.owed c ≡ true → owed c ≡ true) → ((c : ℕ) → owed c ≡ true → (m.owed c ≡ true) ⊎ (c ≡ b)) → (m.index.stale b ≡ true) ⊎ (owed b ≡ true)
    → IsCore o (log ++ Done ticket ∷ []) (history ++ entry_now (log ++ Done ticket ∷ []) (Done call) ∷ []) (with_blocks m m.fresh m.born owed m.pending) new stage
core_done o log history m owed flights new stage k b j n call ticket c is put fresh more only logged =
    let w = mine_of o log history m flights k (Writing b j n call ticket) c.in_flight is in
    let one = step_keeps o (world log history m) (world (log ++ Done ticket ∷ []) history m) (Keeps_contents (Tells (Done ticket) (λ s v covers. covers))) (kept o log history m flights stage c) in
    let holds = writing_done o log history m owed b call ticket j n w.0 one.holds fresh more only logged in
    end_core o log history m flights new stage k b j n call ticket (Done ticket) (Done call) m.fresh m.born owed m.pending c is put (λ s v covers. covers) (writing_mirrored o log history m b call ticket j n w.0 one.holds) (inl refl) (inl refl) (λ d issue. issue)
    (λ d known. known) more (λ d known. refl) (λ d other. refl)
    (safe_entry o (log ++ Done ticket ∷ []) history (with_blocks m m.fresh m.born owed m.pending) (entry_now (log ++ Done ticket ∷ []) (Done call)) one.safe (omega arith) holds.facts) holds

-- a write of a whole block is done
pub core_done_whole : (o : Opening) (log : List Entry) (history : List NumberedEntry) (m : Memory) (fresh : ℕ → Bool) (born_at : ℕ → ℕ) (owed : ℕ → Bool) (pending : ℕ → Option ℕ) (flights new : ℕ → Flight) (stage : Stage) (k b j n : ℕ) (call ticket : CallId)
    → IsCore o log history m flights stage → flights k ≡ Writing b j n call ticket → IsUpdated flights new k Idle → m.pending b ≡ Some n
    → IsUpdated m.fresh fresh b true → IsUpdated m.born born_at b (length (log ++ Done ticket ∷ [])) → IsUpdated m.pending pending b None
    → ((c : ℕ) → m.owed c ≡ true → owed c ≡ true) → ((c : ℕ) → owed c ≡ true → (m.owed c ≡ true) ⊎ (c ≡ b)) → (m.index.stale b ≡ true) ⊎ (owed b ≡ true)
    → IsCore o (log ++ Done ticket ∷ []) (history ++ entry_now (log ++ Done ticket ∷ []) (Done call) ∷ []) (with_blocks m fresh born_at owed pending) new stage
core_done_whole o log history m fresh born_at owed pending flights new stage k b j n call ticket c is put at put_fresh put_born put_pending more only logged =
    let w = mine_of o log history m flights k (Writing b j n call ticket) c.in_flight is in
    let one = step_keeps o (world log history m) (world (log ++ Done ticket ∷ []) history m) (Keeps_contents (Tells (Done ticket) (λ s v covers. covers))) (kept o log history m flights stage c) in
    let two = born o (log ++ Done ticket ∷ []) history m fresh born_at pending b n (length log) one.holds at (in_flight_ends log n ticket w.0.store) put_fresh put_born put_pending in
    let holds = writing_done o log history (with_blocks m fresh born_at m.owed pending) owed b call ticket j n w.0 two put_fresh.same more only logged in
    end_core o log history m flights new stage k b j n call ticket (Done ticket) (Done call) fresh born_at owed pending c is put (λ s v covers. covers) (writing_mirrored o log history m b call ticket j n w.0 one.holds) (inl refl) (inl refl) (λ d issue. issue)
    more_fresh more (λ d known. put_born.other d (not_b d known)) put_pending.other
    (safe_entry o (log ++ Done ticket ∷ []) history (with_blocks m fresh born_at owed pending) (entry_now (log ++ Done ticket ∷ []) (Done call)) one.safe (omega arith) holds.facts) holds
  where
    not_b : (d : ℕ) → m.fresh d ≡ true → d ≡ b → ⊥
    not_b d known same =
        let set : m.fresh b ≡ true = subst (λ (y : ℕ). m.fresh y ≡ true) same known in
        let unset : m.fresh b ≡ false = (c.holds.blocks.pending b n at).0 in cc

    more_fresh : (d : ℕ) → m.fresh d ≡ true → fresh d ≡ true
    more_fresh d known = put_fresh.other d (not_b d known) ∙ known

-- a write fails: to a local block
pub core_broke : (o : Opening) (log : List Entry) (history : List NumberedEntry) (m : Memory) (flights new : ℕ → Flight) (stage : Stage) (k b j n : ℕ) (call ticket : CallId)
    → IsCore o log history m flights stage → flights k ≡ Writing b j n call ticket → IsUpdated flights new k Idle
    → IsCore o (log ++ Broke ticket ∷ []) (history ++ entry_now (log ++ Broke ticket ∷ []) (Broke call) ∷ []) (with_blocks m m.fresh m.born m.owed m.pending) new stage
core_broke o log history m flights new stage k b j n call ticket c is put =
    let one = step_keeps o (world log history m) (world (log ++ Broke ticket ∷ []) history m) (Keeps_contents (Tells (Broke ticket) (λ s v covers. covers))) (kept o log history m flights stage c) in
    let two = step_keeps o (world (log ++ Broke ticket ∷ []) history m) (world (log ++ Broke ticket ∷ []) (history ++ entry_now (log ++ Broke ticket ∷ []) (Broke call) ∷ []) m)
    (Keeps_contents (Notes (Broke call) (record { writes_nothing = λ s v covers. covers; no_done = λ id same. cc; answers = λ id a i asked same. absurd cc }))) one in
    end_core o log history m flights new stage k b j n call ticket (Broke ticket) (Broke call) m.fresh m.born m.owed m.pending c is put (λ s v covers. covers) (λ d q given. no_ends o (log ++ Broke ticket ∷ []) history m.discards.drops (entry_now (log ++ Broke ticket ∷ []) (Broke call)) (λ id same. absurd cc) d q) (inr refl) (inr refl) (λ d issue. issue)
    (λ d known. known) (λ d known. known) (λ d known. refl) (λ d other. refl) two.safe two.holds

-- a write fails: of a whole block
pub core_broke_whole : (o : Opening) (log : List Entry) (history : List NumberedEntry) (m : Memory) (pending : ℕ → Option ℕ) (flights new : ℕ → Flight) (stage : Stage) (k b j n : ℕ) (call ticket : CallId)
    → IsCore o log history m flights stage → flights k ≡ Writing b j n call ticket → IsUpdated flights new k Idle → IsUpdated m.pending pending b None
    → IsCore o (log ++ Broke ticket ∷ []) (history ++ entry_now (log ++ Broke ticket ∷ []) (Broke call) ∷ []) (with_blocks m m.fresh m.born m.owed pending) new stage
core_broke_whole o log history m pending flights new stage k b j n call ticket c is put put_pending =
    let one = step_keeps o (world log history m) (world (log ++ Broke ticket ∷ []) history m) (Keeps_contents (Tells (Broke ticket) (λ s v covers. covers))) (kept o log history m flights stage c) in
    let two = step_keeps o (world (log ++ Broke ticket ∷ []) history m) (world (log ++ Broke ticket ∷ []) (history ++ entry_now (log ++ Broke ticket ∷ []) (Broke call) ∷ []) m)
    (Keeps_contents (Notes (Broke call) (record { writes_nothing = λ s v covers. covers; no_done = λ id same. cc; answers = λ id a i asked same. absurd cc }))) one in
    let three = given_up o (log ++ Broke ticket ∷ []) (history ++ entry_now (log ++ Broke ticket ∷ []) (Broke call) ∷ []) m pending b two.holds put_pending
    (writing_broke o log history m.discards.drops b call (length (log ++ Broke ticket ∷ [])) mine) in
    end_core o log history m flights new stage k b j n call ticket (Broke ticket) (Broke call) m.fresh m.born m.owed pending c is put (λ s v covers. covers) (λ d q given. no_ends o (log ++ Broke ticket ∷ []) history m.discards.drops (entry_now (log ++ Broke ticket ∷ []) (Broke call)) (λ id same. absurd cc) d q) (inr refl) (inr refl) (λ d issue. issue)
    (λ d known. known) (λ d known. known) (λ d known. refl) put_pending.other two.safe three
  where
    has_block : HasBlock (flights k) b
    has_block = subst (λ (g : Flight). HasBlock g b) (sym is) refl

    mine : (l i s : ℕ) (v : Sector) → o.layout.block_of s ≡ b → OwnWrites m.discards.drops history l i s v → (is_open : IsOpen (events history) l) → is_open.id ≡ call
    mine l i s v block w is_open =
        let flight = open_in_flight (events history) l is_open in
        let has = c.in_flight.owned l is_open.id flight in
        let there : HasBlock (flights has.0) b = subst (λ (y : ℕ). HasBlock (flights has.0) y) block (write_block o log history m (flights has.0) l i s v (c.in_flight.each has.0) has.1 w.0) in
        let same : has.0 ≡ k = c.in_flight.distinct.blocks has.0 k b there has_block in
        let its : HasCall (flights has.0) is_open.id = write_call o log history m (flights has.0) l is_open.id (c.in_flight.each has.0) has.1 flight in
        sym (subst (λ (g : Flight). HasCall g is_open.id) is (subst (λ (y : ℕ). HasCall (flights y) is_open.id) same its))

-- the end of a copy: what is left to show
copy_core : (o : Opening) (log : List Entry) (history : List NumberedEntry) (m : Memory) (flights new : ℕ → Flight) (stage : Stage) (k b i : ℕ) (ticket : CallId) (e : Entry) (fresh : ℕ → Bool) (born_at : ℕ → ℕ) (pending : ℕ → Option ℕ)
    → IsCore o log history m flights stage → flights k ≡ Copying b i ticket → IsUpdated flights new k Idle → WritesNothing e → (Done ticket ≡ e) ⊎ (Broke ticket ≡ e)
    → ((d : ℕ) → m.fresh d ≡ true → fresh d ≡ true) → ((d : ℕ) → m.fresh d ≡ true → born_at d ≡ m.born d) → ((d : ℕ) → (d ≡ b → ⊥) → pending d ≡ m.pending d)
    → IsSafe o (log ++ e ∷ []) history → Holds o (log ++ e ∷ []) history (with_blocks m fresh born_at m.owed pending)
    → IsCore o (log ++ e ∷ []) history (with_blocks m fresh born_at m.owed pending) new stage
copy_core o log history m flights new stage k b i ticket e fresh born_at pending c is put quiet ticket_end more_fresh same_born other_pending safe holds = record {
  safe = safe;
  holds = holds;
  in_flight = record {
    each = each_set o (log ++ e ∷ []) history (with_blocks m fresh born_at m.owed pending) flights new k Idle put
        (λ l other. flight_memory o (log ++ e ∷ []) history m (with_blocks m fresh born_at m.owed pending) (flights l)
        (record {
          fresh = λ d has known. more_fresh d known;
          sealed = λ id a i known. known;
          pending = λ d n has known. other_pending d (λ same. other (c.in_flight.distinct.blocks l k d has (subst (λ (y : ℕ). HasBlock (flights k) y) (sym same) has_block))) ∙ known;
        })
        (flight_event o log history m (flights l) e (λ t has. other_ticket flights k l ticket t e c.in_flight.distinct other has_ticket ticket_end has) (c.in_flight.each l)))
        tt;
    distinct = idle_distinct flights new k c.in_flight.distinct put;
    owned = λ j d flight. let has = c.in_flight.owned j d flight in
        (has.0, subst (λ (g : Flight). HasWrite g j) (sym (put.other has.0 (λ same. subst (λ (g : Flight). HasWrite g j) is (subst (λ (y : ℕ). HasWrite (flights y) j) same has.1)))) has.1);
  };
  so_far = stage_blocks o (log ++ e ∷ []) history m stage fresh born_at m.owed pending c.holds.blocks.owed_local more_fresh (λ d known. known) same_born
      (stage_event o log history m stage e c.holds.apart (quiet_places o e quiet) (quiet_follows o log history m e quiet) (λ t out. stage_ticket stage ticket t e (c.tickets k ticket has_ticket) ticket_end out) (λ d request out. end_no_ask e ticket d request ticket_end) c.so_far);
  tickets = tickets_set flights new stage k Idle put c.tickets (λ t mine out. mine);
}
  where
    has_ticket : HasTicket (flights k) ticket
    has_ticket = subst (λ (g : Flight). HasTicket g ticket) (sym is) refl

    has_block : HasBlock (flights k) b
    has_block = subst (λ (g : Flight). HasBlock g b) (sym is) refl

-- a copy is done
pub core_copied : (o : Opening) (log : List Entry) (history : List NumberedEntry) (m : Memory) (fresh : ℕ → Bool) (born_at : ℕ → ℕ) (pending : ℕ → Option ℕ) (flights new : ℕ → Flight) (stage : Stage) (k b i : ℕ) (ticket : CallId)
    → IsCore o log history m flights stage → flights k ≡ Copying b i ticket → IsUpdated flights new k Idle
    → IsUpdated m.fresh fresh b true → IsUpdated m.born born_at b (length (log ++ Done ticket ∷ [])) → IsUpdated m.pending pending b None
    → IsCore o (log ++ Done ticket ∷ []) history (with_blocks m fresh born_at m.owed pending) new stage
core_copied o log history m fresh born_at pending flights new stage k b i ticket c is put put_fresh put_born put_pending =
    let w = mine_of o log history m flights k (Copying b i ticket) c.in_flight is in
    let one = step_keeps o (world log history m) (world (log ++ Done ticket ∷ []) history m) (Keeps_contents (Tells (Done ticket) (λ s v covers. covers))) (kept o log history m flights stage c) in
    let two = born o (log ++ Done ticket ∷ []) history m fresh born_at pending b i (length log) one.holds w.1 (in_flight_ends log i ticket w.0) put_fresh put_born put_pending in
    copy_core o log history m flights new stage k b i ticket (Done ticket) fresh born_at pending c is put (λ s v covers. covers) (inl refl)
    (more_fresh w.1) (λ d known. put_born.other d (not_b w.1 d known)) put_pending.other one.safe two
  where
    not_b : m.pending b ≡ Some i → (d : ℕ) → m.fresh d ≡ true → d ≡ b → ⊥
    not_b at d known same =
        let set : m.fresh b ≡ true = subst (λ (y : ℕ). m.fresh y ≡ true) same known in
        let unset : m.fresh b ≡ false = (c.holds.blocks.pending b i at).0 in cc

    more_fresh : m.pending b ≡ Some i → (d : ℕ) → m.fresh d ≡ true → fresh d ≡ true
    more_fresh at d known = put_fresh.other d (not_b at d known) ∙ known

-- a copy fails
pub core_copy_broke : (o : Opening) (log : List Entry) (history : List NumberedEntry) (m : Memory) (pending : ℕ → Option ℕ) (flights new : ℕ → Flight) (stage : Stage) (k b i : ℕ) (ticket : CallId)
    → IsCore o log history m flights stage → flights k ≡ Copying b i ticket → IsUpdated flights new k Idle → IsUpdated m.pending pending b None
    → IsCore o (log ++ Broke ticket ∷ []) history (with_blocks m m.fresh m.born m.owed pending) new stage
core_copy_broke o log history m pending flights new stage k b i ticket c is put put_pending =
    let one = step_keeps o (world log history m) (world (log ++ Broke ticket ∷ []) history m) (Keeps_contents (Tells (Broke ticket) (λ s v covers. covers))) (kept o log history m flights stage c) in
    let two = given_up o (log ++ Broke ticket ∷ []) history m pending b one.holds put_pending closed in
    copy_core o log history m flights new stage k b i ticket (Broke ticket) m.fresh m.born pending c is put (λ s v covers. covers) (inr refl) (λ d known. known) (λ d known. refl) put_pending.other one.safe two
  where
    has_block : HasBlock (flights k) b
    has_block = subst (λ (g : Flight). HasBlock g b) (sym is) refl

    closed : (l n s : ℕ) (v : Sector) → o.layout.block_of s ≡ b → OwnWrites m.discards.drops history l n s v → IsOpen (events history) l → ⊥
    closed l n s v block w is_open =
        let flight = open_in_flight (events history) l is_open in
        let has = c.in_flight.owned l is_open.id flight in
        let there : HasBlock (flights has.0) b = subst (λ (y : ℕ). HasBlock (flights has.0) y) block (write_block o log history m (flights has.0) l n s v (c.in_flight.each has.0) has.1 w.0) in
        let same : has.0 ≡ k = c.in_flight.distinct.blocks has.0 k b there has_block in
        subst (λ (g : Flight). HasWrite g l) is (subst (λ (y : ℕ). HasWrite (flights y) l) same has.1)
