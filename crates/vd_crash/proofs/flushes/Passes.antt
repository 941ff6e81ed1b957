-- What the facts on a pass in flight give, and what other events leave of them and of a flush under way.
use Rattle.std.proofs.Common.{ℕ, ◌≡◌, ◌<◌, ◌⊎◌, inl, inr, List, [], ◌∷◌, ◌++◌, length, Some, Option, Bool, true, arith, ap, sym, subst, ◌∙◌}
use Rattle.vd_image.specs.Log.{Sector, CallId, Entry, Ask, Issue, Done, Broke, Seen, Reply, At, Covers, IsIssueOf, Ends, IsOpen, IsWriteInFlight}
use Rattle.vd_crash.specs.facts.Safe.{NumberedEntry, events, Opening}
use Rattle.vd_crash.specs.facts.Facts.{HasEntry, OwnWrites, IsClaimSettled, Holds}
use Rattle.vd_image.proofs.Logs.{at_one, at_push, at_end, at_pushed, ends_end}
use Rattle.vd_crash.proofs.facts.Growth.{EndsMirrored}
use Rattle.vd_crash.proofs.facts.Steps.{with_blocks}
use Rattle.vd_crash.specs.flushes.Flushing.{Snapshot, IsRecorded, IsWrittenPage, HasPage}
use Rattle.vd_crash.proofs.facts.Metadata.{right_more}
use Rattle.vd_crash.specs.facts.Words.{Grows}
use Rattle.vd_crash.specs.flushes.Passes.{IsPieceInFlight}
use Rattle.vd_crash.proofs.facts.Ends.{write_done, done_mirrored}
use Rattle.vd_crash.specs.facts.Memory.{Memory}
use Rattle.vd_crash.specs.facts.Metadata.{Claim}
use Rattle.vd_crash.proofs.facts.HistoryGrowth.{events_push, length_events, guest_writes_below, guest_open_pushed, same_drops, own_pushed}
use Rattle.vd_crash.proofs.flushes.Synced.{last_push}

pub issue_one : (e : Entry) (x y : CallId) → IsIssueOf e x → IsIssueOf e y → x ≡ y
issue_one (Issue id first content) x y h k = sym h ∙ k
issue_one (Ask id request) x y h k = absurd h
issue_one (Done id) x y h k = absurd h
issue_one (Broke id) x y h k = absurd h
issue_one (Seen id first content) x y h k = absurd h
issue_one (Reply id answer) x y h k = absurd h

-- an event that isn't the call's end leaves its write in flight
pub in_flight_push : (log : List Entry) (e : Entry) (i : ℕ) (call : CallId) → (Done call ≡ e → ⊥) → (Broke call ≡ e → ⊥) → IsWriteInFlight log i call → IsWriteInFlight (log ++ e ∷ []) i call
in_flight_push log e i call no_done no_broke h = record {
  event = h.event;
  stands = at_push log e i h.event h.stands;
  issues = h.issues;
  running = λ m after found. go m after found;
}
  where
    go : (m : ℕ) → i < m → At (log ++ e ∷ []) m (Done call) ⊎ At (log ++ e ∷ []) m (Broke call) → ⊥
    go m after (inl a) = elim (at_pushed log e m (Done call) a) [ inl k ↦ h.running m after (inl k) | inr k ↦ no_done (sym k.1) ]
    go m after (inr a) = elim (at_pushed log e m (Broke call) a) [ inl k ↦ h.running m after (inr k) | inr k ↦ no_broke (sym k.1) ]

-- a write in flight of the longer log, whose event isn't its issue, was in flight in the shorter
pub in_flight_pushed : (log : List Entry) (e : Entry) (i : ℕ) (call : CallId) → (IsIssueOf e call → ⊥) → IsWriteInFlight (log ++ e ∷ []) i call → IsWriteInFlight log i call
in_flight_pushed log e i call no_issue h = elim (at_pushed log e i h.event h.stands) [
  | inl k ↦ record { event = h.event; stands = k; issues = h.issues; running = λ m after found. h.running m after (grown m found) }
  | inr k ↦ absurd (no_issue (subst (λ (y : Entry). IsIssueOf y call) (sym k.1) h.issues))
]
  where
    grown : (m : ℕ) → At log m (Done call) ⊎ At log m (Broke call) → At (log ++ e ∷ []) m (Done call) ⊎ At (log ++ e ∷ []) m (Broke call)
    grown m (inl a) = inl (at_push log e m (Done call) a)
    grown m (inr a) = inr (at_push log e m (Broke call) a)

pub open_in_flight : (log : List Entry) (i : ℕ) (h : IsOpen log i) → IsWriteInFlight log i h.id
open_in_flight log i h = record { event = h.event; stands = h.stands; issues = h.issues; running = h.open_still }

pub in_flight_ends : (log : List Entry) (i : ℕ) (call : CallId) → IsWriteInFlight log i call → Ends (log ++ Done call ∷ []) i (length log)
in_flight_ends log i call h = ends_end log i (record { event = h.event; id = call; stands = h.stands; issues = h.issues; open_still = h.running })

-- other events of the store leave a pass's write in flight, and so do other calls' entries
pub writing_event : (o : Opening) (log : List Entry) (history : List NumberedEntry) (b : ℕ) (call ticket : CallId) (j n : ℕ) (e : Entry) → (Done ticket ≡ e → ⊥) → (Broke ticket ≡ e → ⊥)
    → IsPieceInFlight o log history b call ticket j n → IsPieceInFlight o (log ++ e ∷ []) history b call ticket j n
writing_event o log history b call ticket j n e no_done no_broke h = record {
  event = h.event;
  stands = h.stands;
  block = h.block;
  guest = h.guest;
  only = h.only;
  store = in_flight_push log e n ticket no_done no_broke h.store;
}

pub writing_entry : (o : Opening) (log : List Entry) (history : List NumberedEntry) (b : ℕ) (call ticket : CallId) (j n : ℕ) (x : NumberedEntry) → (Done call ≡ x.event → ⊥) → (Broke call ≡ x.event → ⊥) → (IsIssueOf x.event call → ⊥)
    → IsPieceInFlight o log history b call ticket j n → IsPieceInFlight o log (history ++ x ∷ []) b call ticket j n
writing_entry o log history b call ticket j n x no_done no_broke no_issue h = record {
  event = h.event;
  block = h.block;
  store = h.store;
  stands = at_push history x j (record { event = h.event; number = n }) h.stands;
  guest = subst (λ (l : List Entry). IsWriteInFlight l j call) (sym (events_push history x)) (in_flight_push (events history) x.event j call no_done no_broke h.guest);
  only = λ k other. h.only k (in_flight_pushed (events history) x.event k call no_issue (subst (λ (l : List Entry). IsWriteInFlight l k call) (events_push history x) other));
}

-- the call's open write is this one
pub writing_mine : (o : Opening) (log : List Entry) (history : List NumberedEntry) (drops : ℕ → Option ℕ) (b : ℕ) (call ticket : CallId) (j n : ℕ) → IsPieceInFlight o log history b call ticket j n
    → (k i s : ℕ) (v : Sector) → OwnWrites drops history k i s v → (is_open : IsOpen (events history) k) → is_open.id ≡ call → (o.layout.block_of s ≡ b) × ((d : ℕ) × Ends (log ++ Done ticket ∷ []) i d)
writing_mine o log history drops b call ticket j n w k i s v g is_open same =
    let k_is : k ≡ j = w.only k (subst (λ (y : CallId). IsWriteInFlight (events history) k y) same (open_in_flight (events history) k is_open)) in
    let entry : record { event = g.0.event; number = i } ≡ record { event = w.event; number = n } = at_one history j (record { event = g.0.event; number = i }) (record { event = w.event; number = n }) (subst (λ (y : ℕ). HasEntry history y i g.0.event) k_is g.0.stands) w.stands in
    let event : g.0.event ≡ w.event = ap (λ (y : NumberedEntry). y.event) entry in
    let number : i ≡ n = ap (λ (y : NumberedEntry). y.number) entry in (
      w.block s v (subst (λ (y : Entry). Covers y s v) event g.0.covers),
      (length log, subst (λ (y : ℕ). Ends (log ++ Done ticket ∷ []) y (length log)) (sym number) (in_flight_ends log n ticket w.store)),
    )

-- The store's Done of a pass's write, and then the guest's: the block is local (it was, or became so in between).
pub writing_done : (o : Opening) (log : List Entry) (history : List NumberedEntry) (m : Memory) (owed : ℕ → Bool) (b : ℕ) (call ticket : CallId) (j n : ℕ)
    → IsPieceInFlight o log history b call ticket j n
    → Holds o (log ++ Done ticket ∷ []) history m → m.fresh b ≡ true
    → ((c : ℕ) → m.owed c ≡ true → owed c ≡ true) → ((c : ℕ) → owed c ≡ true → (m.owed c ≡ true) ⊎ (c ≡ b)) → (m.index.stale b ≡ true) ⊎ (owed b ≡ true)
    → Holds o (log ++ Done ticket ∷ []) (history ++ record { event = Done call; number = length (log ++ Done ticket ∷ []) } ∷ []) (with_blocks m m.fresh m.born owed m.pending)
writing_done o log history m owed b call ticket j n w h fresh more only logged =
    write_done o (log ++ Done ticket ∷ []) history m owed call b h fresh (writing_mine o log history m.discards.drops b call ticket j n w) more only logged

pub writing_mirrored : (o : Opening) (log : List Entry) (history : List NumberedEntry) (m : Memory) (b : ℕ) (call ticket : CallId) (j n : ℕ) → IsPieceInFlight o log history b call ticket j n → Holds o (log ++ Done ticket ∷ []) history m
    → (c q : ℕ) → m.index.table (o.layout.chunk_of c) ≡ Some q → EndsMirrored o (log ++ Done ticket ∷ []) history m.discards.drops c q (record { event = Done call; number = length (log ++ Done ticket ∷ []) })
writing_mirrored o log history m b call ticket j n w h = done_mirrored o (log ++ Done ticket ∷ []) history m call b h (writing_mine o log history m.discards.drops b call ticket j n w)

-- After the Broke of a pass's write no guest write to its block is open, where each open one is the call's.
pub writing_broke : (o : Opening) (log : List Entry) (history : List NumberedEntry) (drops : ℕ → Option ℕ) (b : ℕ) (call : CallId) (number : ℕ)
    → ((k i s : ℕ) (v : Sector) → o.layout.block_of s ≡ b → OwnWrites drops history k i s v → (is_open : IsOpen (events history) k) → is_open.id ≡ call)
    → (k i s : ℕ) (v : Sector) → o.layout.block_of s ≡ b → OwnWrites drops (history ++ record { event = Broke call; number = number } ∷ []) k i s v → IsOpen (events (history ++ record { event = Broke call; number = number } ∷ [])) k → ⊥
writing_broke o log history drops b call number mine k i s v block w is_open =
    elim (own_pushed drops drops history (record { event = Broke call; number = number }) k i s v (same_drops drops (length history)) w) [
      | inl old ↦
          let below = guest_writes_below history k i s v old.0 in
          let was = guest_open_pushed history (record { event = Broke call; number = number }) k below is_open in
          let id_was : was.id ≡ call = mine k i s v block old was in
          let there : At (events history ++ Broke call ∷ []) k is_open.event = subst (λ (l : List Entry). At l k is_open.event) (events_push history (record { event = Broke call; number = number })) is_open.stands in
          let here : At (events history ++ Broke call ∷ []) k was.event = at_push (events history) (Broke call) k was.event was.stands in
          let same : is_open.event ≡ was.event = at_one (events history ++ Broke call ∷ []) k is_open.event was.event there here in
          let id_is : is_open.id ≡ call = issue_one was.event is_open.id call (subst (λ (y : Entry). IsIssueOf y is_open.id) same is_open.issues) (subst (λ (y : CallId). IsIssueOf was.event y) id_was was.issues) in
          let end : At (events (history ++ record { event = Broke call; number = number } ∷ [])) (length (events history)) (Broke call) =
          subst (λ (l : List Entry). At l (length (events history)) (Broke call)) (sym (events_push history (record { event = Broke call; number = number }))) (at_end (events history) (Broke call)) in
          is_open.open_still (length (events history)) (let l = length_events history in omega arith) (inr (subst (λ (y : CallId). At (events (history ++ record { event = Broke call; number = number } ∷ [])) (length (events history)) (Broke y)) (sym id_is) end))
      | inr new ↦ absurd new.2
    ]

-- what was put stays the last of its sector while other sectors are written
pub recorded_push : (o : Opening) (log : List Entry) (m : Memory) (e : Entry) (first by b : ℕ) → ((k : ℕ) (u : Sector) → k < m.index.cursor → k < o.layout.slots → Covers e (o.layout.slot_at k) u → ⊥)
    → IsRecorded o log m first by b → IsRecorded o (log ++ e ∷ []) m first by b
recorded_push o log m e first by b other h = record {
  slot = h.slot;
  value = h.value;
  since = h.since;
  below = h.below;
  within = h.within;
  names = h.names;
  last = last_push log e (o.layout.slot_at h.slot) h.value by (λ u covers. other h.slot u h.below h.within covers) h.last;
}

-- a page that was written is so where more is settled and more storage is given
pub written_grown : (o : Opening) (settled more : Claim → Type 0) (m n : Memory) (snapshot : Snapshot) (c : ℕ) (v : Sector) → ((t : Claim) → settled t → more t) → Grows m.index.table n.index.table
    → IsWrittenPage o settled m snapshot c v → IsWrittenPage o more n snapshot c v
written_grown o settled more m n snapshot c v better grows h = record {
  right = record { mapping = h.right.mapping; reads = h.right.reads; right = right_more o settled more m.index.table n.index.table c h.right.mapping better grows h.right.right };
  has = h.has;
  only = h.only;
}

pub page_push : (o : Opening) (log : List Entry) (history : List NumberedEntry) (m : Memory) (snapshot : Snapshot) (e : Entry) (by c : ℕ) → ((u : Sector) → Covers e (o.layout.map_at c) u → ⊥) → ((t : Claim) → IsClaimSettled o log history m snapshot.begun t → IsClaimSettled o (log ++ e ∷ []) history m snapshot.begun t)
    → HasPage o log history m snapshot by c → HasPage o (log ++ e ∷ []) history m snapshot by c
page_push o log history m snapshot e by c other still h = record {
  value = h.value;
  last = last_push log e (o.layout.map_at c) h.value by other h.last;
  written = written_grown o (IsClaimSettled o log history m snapshot.begun) (IsClaimSettled o (log ++ e ∷ []) history m snapshot.begun) m m snapshot c h.value still (λ d p given. given) h.written;
}
