-- What each step leaves of the passes that have something in flight.
use Rattle.std.proofs.Common.{◌∙◌, ℕ, ◌≡◌, ◌≤◌, ◌⊎◌, length, Option, inl, inr, List, [], ◌∷◌, ◌++◌, Some, Bool, true, arith, refl, ap, sym, subst}
use Rattle.vd_image.specs.Log.{Sector, CallId, Entry, Ask, Flush, Done, Broke, At, IsIssueOf, IsWriteInFlight}
use Rattle.vd_crash.specs.facts.Safe.{NumberedEntry, Opening, events}
use Rattle.vd_crash.specs.flushes.Flushing.{IsSealed, flush_ask}
use Rattle.std.proofs.lemmas.Bool.{cases_eq}
use Rattle.vd_crash.specs.facts.Words.{IsUpdated, IsDiscarded, discarded_memory}
use Rattle.vd_crash.specs.flushes.Stage.{IsOtherCall, AreDistinct, Answering, HasWrite, Flight, Idle, Writing, Copying, FlightHolds, HasTicket, HasBlock, HasCall, AreFlights}
use Rattle.vd_image.proofs.Logs.{at_push, at_pushed, at_end, at_below, flushes_push}
use Rattle.vd_crash.proofs.facts.Growth.{behind_push, written_before_old}
use Rattle.vd_crash.proofs.facts.Drops.{drop_entry}
use Rattle.vd_crash.proofs.flushes.Beside.{sealed_beside, beside_drop}
use Rattle.vd_crash.proofs.flushes.Passes.{in_flight_pushed, in_flight_push, writing_event, writing_entry}
use Rattle.vd_crash.specs.facts.Memory.{Discards, Memory}
use Rattle.vd_crash.proofs.facts.HistoryGrowth.{events_push, same_drops}
use Rattle.std.proofs.lemmas.List.{length_push}

-- a flush that is over, beside more events and entries
pub sealed_event : (o : Opening) (log : List Entry) (history : List NumberedEntry) (drops : ℕ → Option ℕ) (stale off_base : ℕ → Bool) (reach : ℕ) (call : CallId) (a n : ℕ) (e : Entry) → IsSealed o log history drops stale off_base reach (flush_ask call a n) → IsSealed o (log ++ e ∷ []) history drops stale off_base reach (flush_ask call a n)
sealed_event o log history drops stale off_base reach call a n e h = record { asked = h.asked; logged = h.logged; reached = h.reached; flushed = (h.flushed.0, flushes_push log e h.flushed.0 h.flushed.1, h.flushed.2) }

pub sealed_below : (o : Opening) (log : List Entry) (history : List NumberedEntry) (drops : ℕ → Option ℕ) (stale off_base : ℕ → Bool) (reach : ℕ) (call : CallId) (a n : ℕ) → IsSealed o log history drops stale off_base reach (flush_ask call a n) → a ≤ length history
sealed_below o log history drops stale off_base reach call a n h = let l = at_below history a (record { event = Ask call Flush; number = n }) h.asked in omega arith

pub sealed_entry : (o : Opening) (log : List Entry) (history : List NumberedEntry) (drops : ℕ → Option ℕ) (stale off_base : ℕ → Bool) (reach : ℕ) (call : CallId) (a n : ℕ) (x : NumberedEntry) → IsSealed o log history drops stale off_base reach (flush_ask call a n) → IsSealed o log (history ++ x ∷ []) drops stale off_base reach (flush_ask call a n)
sealed_entry o log history drops stale off_base reach call a n x h = record {
  asked = at_push history x a (record { event = Ask call Flush; number = n }) h.asked;
  flushed = h.flushed;
  reached = h.reached;
  logged = λ b j w. behind_push o drops drops history stale off_base x b j (same_drops drops (length history))
      (h.logged b j (written_before_old o drops drops history x a b j (same_drops drops (length history)) (sealed_below o log history drops stale off_base reach call a n h) w));
}

-- passes in flight

pub flight_event : (o : Opening) (log : List Entry) (history : List NumberedEntry) (m : Memory) (f : Flight) (e : Entry) → ((t : CallId) → HasTicket f t → (Done t ≡ e) ⊎ (Broke t ≡ e) → ⊥)
    → FlightHolds o log history m f → FlightHolds o (log ++ e ∷ []) history m f
flight_event o log history m Idle e other h = tt
flight_event o log history m (Writing b j n call ticket) e other h = (writing_event o log history b call ticket j n e (λ k. other ticket refl (inl k)) (λ k. other ticket refl (inr k)) h.0, h.1)
flight_event o log history m (Copying b i ticket) e other h = (in_flight_push log e i ticket (λ k. other ticket refl (inl k)) (λ k. other ticket refl (inr k)) h.0, h.1)
flight_event o log history m (Answering call a n) e other h = sealed_event o log history m.discards.drops m.index.stale m.index.off_base m.discards.reach call a n e h

pub flight_entry : (o : Opening) (log : List Entry) (history : List NumberedEntry) (m : Memory) (f : Flight) (x : NumberedEntry) → ((c : CallId) → HasCall f c → IsOtherCall x c)
    → FlightHolds o log history m f → FlightHolds o log (history ++ x ∷ []) m f
flight_entry o log history m Idle x other h = tt
flight_entry o log history m (Writing b j n call ticket) x other h =
    (writing_entry o log history b call ticket j n x (λ k. other call refl (inl k)) (λ k. other call refl (inr (inl k))) (λ k. other call refl (inr (inr k))) h.0, h.1)
flight_entry o log history m (Copying b i ticket) x other h = h
flight_entry o log history m (Answering call a n) x other h = sealed_entry o log history m.discards.drops m.index.stale m.index.off_base m.discards.reach call a n x h

-- memory keeps what a pass with these blocks needs
pub record KeepsFor (o : Opening) (log : List Entry) (history : List NumberedEntry) (old new : Memory) (f : Flight) : Type 0 where
  pub fresh : (b : ℕ) → HasBlock f b → old.fresh b ≡ true → new.fresh b ≡ true
  pub pending : (b n : ℕ) → HasBlock f b → old.pending b ≡ Some n → new.pending b ≡ Some n
  pub sealed : (call : CallId) (a n : ℕ) → IsSealed o log history old.discards.drops old.index.stale old.index.off_base old.discards.reach (flush_ask call a n) → IsSealed o log history new.discards.drops new.index.stale new.index.off_base new.discards.reach (flush_ask call a n)

pub flight_memory : (o : Opening) (log : List Entry) (history : List NumberedEntry) (old new : Memory) (f : Flight) → KeepsFor o log history old new f
    → FlightHolds o log history old f → FlightHolds o log history new f
flight_memory o log history old new Idle keeps h = tt
flight_memory o log history old new (Writing b j n call ticket) keeps h = (h.0, elim h.1 [ inl fresh ↦ inl (keeps.fresh b refl fresh) | inr pending ↦ inr (keeps.pending b n refl pending) ])
flight_memory o log history old new (Copying b i ticket) keeps h = (h.0, keeps.pending b i refl h.1)
flight_memory o log history old new (Answering call a n) keeps h = keeps.sealed call a n h

-- all passes, after an event that ends none of their writes
pub flights_event : (o : Opening) (log : List Entry) (history : List NumberedEntry) (m : Memory) (flights : ℕ → Flight) (e : Entry) → ((k : ℕ) (t : CallId) → HasTicket (flights k) t → (Done t ≡ e) ⊎ (Broke t ≡ e) → ⊥)
    → AreFlights o log history m flights → AreFlights o (log ++ e ∷ []) history m flights
flights_event o log history m flights e other h = record { each = λ k. flight_event o log history m (flights k) e (other k) (h.each k); distinct = h.distinct; owned = h.owned }

-- no write is opened by an entry that is no issue
pub owned_entry : (history : List NumberedEntry) (flights : ℕ → Flight) (x : NumberedEntry) → ((c : CallId) → IsIssueOf x.event c → ⊥)
    → ((j : ℕ) (c : CallId) → IsWriteInFlight (events history) j c → (k : ℕ) × HasWrite (flights k) j)
    → (j : ℕ) (c : CallId) → IsWriteInFlight (events (history ++ x ∷ [])) j c → (k : ℕ) × HasWrite (flights k) j
owned_entry history flights x no_issue h j c flight = h j c (in_flight_pushed (events history) x.event j c (no_issue c) (subst (λ (l : List Entry). IsWriteInFlight l j c) (events_push history x) flight))

pub flights_entry : (o : Opening) (log : List Entry) (history : List NumberedEntry) (m : Memory) (flights : ℕ → Flight) (x : NumberedEntry) → ((c : CallId) → IsIssueOf x.event c → ⊥) → ((k : ℕ) (c : CallId) → HasCall (flights k) c → IsOtherCall x c)
    → AreFlights o log history m flights → AreFlights o log (history ++ x ∷ []) m flights
flights_entry o log history m flights x no_issue other h = record {
  each = λ k. flight_entry o log history m (flights k) x (other k) (h.each k);
  distinct = h.distinct;
  owned = owned_entry history flights x no_issue h.owned;
}

pub flights_memory : (o : Opening) (log : List Entry) (history : List NumberedEntry) (old new : Memory) (flights : ℕ → Flight) → ((k : ℕ) → KeepsFor o log history old new (flights k))
    → AreFlights o log history old flights → AreFlights o log history new flights
flights_memory o log history old new flights keeps h = record { each = λ k. flight_memory o log history old new (flights k) (keeps k) (h.each k); distinct = h.distinct; owned = h.owned }

-- one pass has another flight, which has nothing in common with those of the others
pub distinct_set : (flights new : ℕ → Flight) (k : ℕ) (f : Flight) → AreDistinct flights → IsUpdated flights new k f
    → ((l : ℕ) (t : CallId) → (l ≡ k → ⊥) → HasTicket (flights l) t → HasTicket f t → ⊥)
    → ((l b : ℕ) → (l ≡ k → ⊥) → HasBlock (flights l) b → HasBlock f b → ⊥)
    → ((l : ℕ) (c : CallId) → (l ≡ k → ⊥) → HasCall (flights l) c → HasCall f c → ⊥) → AreDistinct new
distinct_set flights new k f h put tickets blocks calls = record {
  tickets = λ a b t. pair (λ (g : Flight). HasTicket g t) (λ l other x y. tickets l t other x y) (λ i j x y. h.tickets i j t x y) a b;
  blocks = λ a b c. pair (λ (g : Flight). HasBlock g c) (λ l other x y. blocks l c other x y) (λ i j x y. h.blocks i j c x y) a b;
  calls = λ a b c. pair (λ (g : Flight). HasCall g c) (λ l other x y. calls l c other x y) (λ i j x y. h.calls i j c x y) a b;
}
  where
    old : (P : Flight → Type 0) (l : ℕ) → (l ≡ k → ⊥) → P (new l) → P (flights l)
    old P l other x = subst P (put.other l other) x

    now : (P : Flight → Type 0) (l : ℕ) → l ≡ k → P (new l) → P f
    now P l same x = subst P put.same (subst (λ (i : ℕ). P (new i)) same x)

    pair : (P : Flight → Type 0) → ((l : ℕ) → (l ≡ k → ⊥) → P (flights l) → P f → ⊥) → ((i j : ℕ) → P (flights i) → P (flights j) → i ≡ j) → (a b : ℕ) → P (new a) → P (new b) → a ≡ b
    pair P apart one a b x y = elim (cases_eq a k) [
      | inl a_is ↦ elim (cases_eq b k) [ inl b_is ↦ a_is ∙ sym b_is | inr b_not ↦ absurd (apart b b_not (old P b b_not y) (now P a a_is x)) ]
      | inr a_not ↦ elim (cases_eq b k) [ inl b_is ↦ absurd (apart a a_not (old P a a_not x) (now P b b_is y)) | inr b_not ↦ one a b (old P a a_not x) (old P b b_not y) ]
    ]

pub each_set : (o : Opening) (log : List Entry) (history : List NumberedEntry) (m : Memory) (flights new : ℕ → Flight) (k : ℕ) (f : Flight) → IsUpdated flights new k f
    → ((l : ℕ) → (l ≡ k → ⊥) → FlightHolds o log history m (flights l)) → FlightHolds o log history m f → (l : ℕ) → FlightHolds o log history m (new l)
each_set o log history m flights new k f put others mine l = elim (cases_eq l k) [
  | inl same ↦ subst (λ (i : ℕ). FlightHolds o log history m (new i)) (sym same) (subst (λ (g : Flight). FlightHolds o log history m g) (sym put.same) mine)
  | inr other ↦ subst (λ (g : Flight). FlightHolds o log history m g) (sym (put.other l other)) (others l other)
]

-- The discard of a chunk, whose call and whose blocks are none of the pass's.
pub flight_drop : (o : Opening) (log : List Entry) (history : List NumberedEntry) (m : Memory) (id : CallId) (first : ℕ) (content : List Sector) (c : ℕ) (fresh stale owed : ℕ → Bool) (d : Discards) (f : Flight)
    → IsDiscarded o m (length history) c fresh stale owed d → o.opened ≤ length log → (HasCall f id → ⊥) → ((b : ℕ) → HasBlock f b → o.layout.chunk_of b ≡ c → ⊥)
    → FlightHolds o log history m f → FlightHolds o log (history ++ drop_entry log id first content ∷ []) (discarded_memory m fresh stale owed d) f
flight_drop o log history m id first content c fresh stale owed d Idle is opened call block h = tt
flight_drop o log history m id first content c fresh stale owed d (Writing b j n other ticket) is opened call block h = (
  writing_entry o log history b other ticket j n (drop_entry log id first content) (λ same. absurd cc) (λ same. absurd cc) (λ same. call (sym same)) h.0,
  elim h.1 [ inl known ↦ inl ((is.fresh_others b).1 (known, block b refl)) | inr pending ↦ inr pending ],
)
flight_drop o log history m id first content c fresh stale owed d (Copying b i ticket) is opened call block h = h
flight_drop o log history m id first content c fresh stale owed d (Answering other a n) is opened call block h =
    sealed_beside o log history (history ++ drop_entry log id first content ∷ []) m m.index.table stale fresh m.born owed d other a n (beside_drop o log history m id first content c fresh stale owed d is opened)
    (sealed_below o log history m.discards.drops m.index.stale m.index.off_base m.discards.reach other a n h) h

-- of all passes, after its Done
pub flights_drop : (o : Opening) (log : List Entry) (history : List NumberedEntry) (m : Memory) (flights : ℕ → Flight) (id : CallId) (first : ℕ) (content : List Sector) (c number : ℕ) (fresh stale owed : ℕ → Bool) (d : Discards)
    → IsDiscarded o m (length history) c fresh stale owed d → o.opened ≤ length log → ((k : ℕ) → HasCall (flights k) id → ⊥) → ((k b : ℕ) → HasBlock (flights k) b → o.layout.chunk_of b ≡ c → ⊥)
    → AreFlights o log history m flights → AreFlights o log ((history ++ drop_entry log id first content ∷ []) ++ record { event = Done id; number = number } ∷ []) (discarded_memory m fresh stale owed d) flights
flights_drop o log history m flights id first content c number fresh stale owed d is opened calls blocks h = record {
  each = λ k. flight_entry o log (history ++ x ∷ []) (discarded_memory m fresh stale owed d) (flights k) y (other k)
      (flight_drop o log history m id first content c fresh stale owed d (flights k) is opened (calls k) (blocks k) (h.each k));
  distinct = h.distinct;
  owned = λ j e flight. owned j e (subst (λ (l : List Entry). IsWriteInFlight l j e) (events_push (history ++ x ∷ []) y ∙ sym (twice history)) flight);
}
  where
    x : NumberedEntry
    x = drop_entry log id first content

    y : NumberedEntry
    y = record { event = Done id; number = number }

    -- the discard is at its end
    twice : (l : List NumberedEntry) → (events l ++ x.event ∷ []) ++ y.event ∷ [] ≡ events (l ++ x ∷ []) ++ y.event ∷ []
    twice l = ap (λ (z : List Entry). z ++ y.event ∷ []) (sym (events_push l x))

    owned : (j : ℕ) (e : CallId) → IsWriteInFlight ((events history ++ x.event ∷ []) ++ y.event ∷ []) j e → (k : ℕ) × HasWrite (flights k) j
    owned j e flight = elim (at_pushed (events history ++ x.event ∷ []) y.event j flight.event flight.stands) [
      | inr now ↦ absurd (let issue : IsIssueOf y.event e = subst (λ (z : Entry). IsIssueOf z e) (sym now.1) flight.issues in issue)
      | inl before ↦ elim (at_pushed (events history) x.event j flight.event before) [
        | inl was ↦ h.owned j e (record { event = flight.event; stands = was; issues = flight.issues; running = λ i after found. flight.running i after (longer i e found) })
        | inr drop ↦
            let same : id ≡ e = subst (λ (z : Entry). IsIssueOf z e) (sym drop.1) flight.issues in
            let end : At ((events history ++ x.event ∷ []) ++ y.event ∷ []) (length (events history ++ x.event ∷ [])) (Done e) = subst (λ (z : CallId). At ((events history ++ x.event ∷ []) ++ y.event ∷ []) (length (events history ++ x.event ∷ [])) (Done z)) same (at_end (events history ++ x.event ∷ []) y.event) in
            absurd (flight.running (length (events history ++ x.event ∷ [])) (let l = length_push (events history) x.event in omega (arith, drop.0)) (inl end))
      ]
    ]
      where
        longer : (i : ℕ) (g : CallId) → At (events history) i (Done g) ⊎ At (events history) i (Broke g) → At ((events history ++ x.event ∷ []) ++ y.event ∷ []) i (Done g) ⊎ At ((events history ++ x.event ∷ []) ++ y.event ∷ []) i (Broke g)
        longer i g (inl found) = inl (at_push (events history ++ x.event ∷ []) y.event i (Done g) (at_push (events history) x.event i (Done g) found))
        longer i g (inr found) = inr (at_push (events history ++ x.event ∷ []) y.event i (Broke g) (at_push (events history) x.event i (Broke g) found))

    other : (k : ℕ) (e : CallId) → HasCall (flights k) e → IsOtherCall y e
    other k e has (inl same) = calls k (subst (λ (z : CallId). HasCall (flights k) z) (let g : Done e ≡ Done id = same in cc) has)
    other k e has (inr (inl same)) = absurd cc
    other k e has (inr (inr issue)) = issue
