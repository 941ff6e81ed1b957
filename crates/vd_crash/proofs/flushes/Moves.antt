-- Each step keeps safety and all facts, and so does each run.
use Rattle.std.proofs.Common.{ℕ, ◌≡◌, ◌<◌, ◌⊎◌, inl, inr, List, [], ◌∷◌, ◌++◌, length, None, Bool, true, arith, refl, subst}
use Rattle.vd_image.specs.Log.{Sector, CallId, Entry, Issue, Done, Broke, At, IsOpen, IsWriteInFlight}
use Rattle.vd_crash.specs.facts.Safe.{NumberedEntry, events, Opening, IsSafe}
use Rattle.vd_crash.specs.facts.Facts.{OwnWrites, CrashFacts, Holds}
use Rattle.vd_crash.specs.facts.Opened.{IsAtOpening}
use Rattle.vd_crash.specs.facts.Words.{with_blocks, with_table, IsDropWrite, IsDiscarded, discarded_memory}
use Rattle.vd_image.proofs.Logs.{at_push, at_pushed}
use Rattle.vd_crash.proofs.facts.Drops.{drops_same, drop_issued}
use Rattle.vd_crash.specs.flushes.Blocks.{issue_of, with_owed, with_pending}
use Rattle.vd_crash.specs.flushes.Moves.{World, world, Keeps, entry_now, IsQuietStep, Tells, Notes, Takes, Adopts, IsBlockStep, Writes_local, Writes_whole, Copies, Becomes_local, Gives_up, Ends_write, Drops, IsFlushStep, Puts_record, Puts_page, Puts_header, Seals_records, Seals_recycle, IsStep, Keeps_contents, Moves_block, Flushes_on, Runs, Stays, Goes_on}
use Rattle.vd_crash.proofs.facts.Moments.{safe_event, safe_entry, last_safe}
use Rattle.vd_crash.proofs.facts.Steps.{EndsNoOwn, quiet_event, quiet_entry, no_done_ends}
use Rattle.vd_crash.proofs.facts.Writes.{issue_fresh, issue_whole, put_copy, facts_same}
use Rattle.vd_crash.proofs.facts.Ends.{born, given_up, write_done, storage_taken}
use Rattle.vd_crash.proofs.facts.Opened.{holds_at_opening}
use Rattle.vd_crash.specs.facts.Memory.{Discards, Memory}
use Rattle.vd_crash.proofs.facts.HistoryGrowth.{events_push, length_events, guest_writes_below, own_pushed}
use Rattle.vd_crash.proofs.flushes.Putting.{put_record, put_page, put_header}
use Rattle.vd_crash.proofs.flushes.Sealing.{seal_records, seal_recycle}

after_event : (o : Opening) (log : List Entry) (history : List NumberedEntry) (m n : Memory) (e : Entry) → Keeps o (world log history m) → Holds o (log ++ e ∷ []) history n → Keeps o (world (log ++ e ∷ []) history n)
after_event o log history m n e k h = record { safe = safe_event o log history n e k.safe h.facts; holds = h }

after_entry : (o : Opening) (log : List Entry) (history : List NumberedEntry) (m n : Memory) (event : Entry) → Keeps o (world log history m) → Holds o log (history ++ entry_now log event ∷ []) n → Keeps o (world log (history ++ entry_now log event ∷ []) n)
after_entry o log history m n event k h = record { safe = safe_entry o log history n (entry_now log event) k.safe (omega arith) h.facts; holds = h }

after_both : (o : Opening) (log : List Entry) (history : List NumberedEntry) (m n : Memory) (event e : Entry) → Keeps o (world log history m) → CrashFacts o log (history ++ entry_now log event ∷ []) m
    → Holds o (log ++ e ∷ []) (history ++ entry_now log event ∷ []) n → Keeps o (world (log ++ e ∷ []) (history ++ entry_now log event ∷ []) n)
after_both o log history m n event e k facts h = record {
  safe = safe_event o log (history ++ entry_now log event ∷ []) n e (safe_entry o log history m (entry_now log event) k.safe (omega arith) facts) h.facts;
  holds = h;
}

same_logs : (o : Opening) (log : List Entry) (history : List NumberedEntry) (m n : Memory) → Keeps o (world log history m) → Holds o log history n → Keeps o (world log history n)
same_logs o log history m n k h = record { safe = k.safe; holds = h }

-- more blocks are owed
pub adopted : (o : Opening) (log : List Entry) (history : List NumberedEntry) (m : Memory) (owed : ℕ → Bool) → Holds o log history m
    → ((c : ℕ) → m.owed c ≡ true → owed c ≡ true) → ((c : ℕ) → owed c ≡ true → m.fresh c ≡ true) → Holds o log history (with_blocks m m.fresh m.born owed m.pending)
adopted o log history m owed h more local = record {
  apart = h.apart;
  facts = facts_same o log history m owed m.pending h.facts;
  blocks = record {
    born = h.blocks.born;
    stale_settled = h.blocks.stale_settled;
    stale_off = h.blocks.stale_off;
    off_base_known = h.blocks.off_base_known;
    dropped = h.blocks.dropped;
    zeros_off = h.blocks.zeros_off;
    lost_zeros = h.blocks.lost_zeros;
    reach = h.blocks.reach;
    owed_local = local;
    background_same = h.blocks.background_same;
    issues_stored = h.blocks.issues_stored;
    pending = h.blocks.pending;
    idle = h.blocks.idle;
    tried = λ b t. elim (h.blocks.tried b t) [ inl off ↦ inl off | inr (inl is) ↦ inr (inl (more b is)) | inr (inr lost) ↦ inr (inr lost) ];
    unlogged_untouched = λ b j w. elim (h.blocks.unlogged_untouched b j w) [ inl is ↦ inl (elim is [ inl stale ↦ inl stale | inr also ↦ inr (more b also) ]) | inr dropped ↦ inr dropped ];
  };
}

-- what is in flight in the longer log was so before, of an event that stood there
in_flight_old : (log : List Entry) (e : Entry) (i : ℕ) (call : CallId) → i < length log → IsWriteInFlight (log ++ e ∷ []) i call → IsWriteInFlight log i call
in_flight_old log e i call below h = elim (at_pushed log e i h.event h.stands) [
  | inl was ↦ record { event = h.event; stands = was; issues = h.issues; running = λ m after found. h.running m after (longer m found) }
  | inr now ↦ absurd (omega (arith, now.0, below))
]
  where
    longer : (m : ℕ) → At log m (Done call) ⊎ At log m (Broke call) → At (log ++ e ∷ []) m (Done call) ⊎ At (log ++ e ∷ []) m (Broke call)
    longer m (inl found) = inl (at_push log e m (Done call) found)
    longer m (inr found) = inr (at_push log e m (Broke call) found)

-- the Done of a discard ends no ordinary write
pub drop_ends : {o : Opening} (log : List Entry) (history : List NumberedEntry) (m : Memory) (id : CallId) (first : ℕ) (content : List Sector) (c : ℕ) (fresh stale owed : ℕ → Bool) (d : Discards)
    → IsDiscarded o m (length history) c fresh stale owed d → ((j n s : ℕ) (v : Sector) → OwnWrites m.discards.drops history j n s v → IsWriteInFlight (events history) j id → ⊥)
    → EndsNoOwn d.drops (history ++ entry_now log (Issue id first content) ∷ []) (entry_now log (Done id))
drop_ends log history m id first content c fresh stale owed d is none j i s v w h done = elim (own_pushed m.discards.drops d.drops history x j i s v (drops_same m.discards.drops d.drops (length history) c is.drops) w) [
  | inl was ↦
      let below = guest_writes_below history j i s v was.0 in
      let same : h.id ≡ id = cc in
      let flight : IsWriteInFlight (events (history ++ x ∷ [])) j id = subst (λ (y : CallId). IsWriteInFlight (events (history ++ x ∷ [])) j y) same (record { event = h.event; stands = h.stands; issues = h.issues; running = h.open_still }) in
      none j i s v was (in_flight_old (events history) x.event j id (let l = length_events history in omega arith) (subst (λ (l : List Entry). IsWriteInFlight l j id) (events_push history x) flight))
  | inr now ↦ (let put = is.drops.same in let unset = now.3 in cc)
]
  where
    x : NumberedEntry
    x = entry_now log (Issue id first content)

-- a discard: its issue and its Done
pub drop_keeps : (o : Opening) (log : List Entry) (history : List NumberedEntry) (m : Memory) (id : CallId) (first : ℕ) (content : List Sector) (c : ℕ) (fresh stale owed : ℕ → Bool) (d : Discards) → Keeps o (world log history m)
    → c < o.layout.chunks → IsDropWrite o c (Issue id first content) → IsDiscarded o m (length history) c fresh stale owed d
    → ((b : ℕ) → o.layout.chunk_of b ≡ c → m.pending b ≡ None)
    → ((j n s : ℕ) (v : Sector) → OwnWrites m.discards.drops history j n s v → o.layout.chunk_of (o.layout.block_of s) ≡ c → IsOpen (events history) j → ⊥)
    → ((j n s : ℕ) (v : Sector) → OwnWrites m.discards.drops history j n s v → IsWriteInFlight (events history) j id → ⊥)
    → Keeps o (world log ((history ++ entry_now log (Issue id first content) ∷ []) ++ entry_now log (Done id) ∷ []) (discarded_memory m fresh stale owed d))
drop_keeps o log history m id first content c fresh stale owed d k within writes is calm closed none =
    after_entry o log (history ++ x ∷ []) n n (Done id) (after_entry o log history m n (Issue id first content) k issued)
    (quiet_entry o log (history ++ x ∷ []) n (entry_now log (Done id)) refl (λ s v covers. covers) ends (λ call a i asked same. absurd cc) issued)
  where
    x : NumberedEntry
    x = entry_now log (Issue id first content)

    n : Memory
    n = discarded_memory m fresh stale owed d

    issued : Holds o log (history ++ x ∷ []) n
    issued = drop_issued o log history m id first content c fresh stale owed d k.holds within writes is calm closed

    ends : EndsNoOwn d.drops (history ++ x ∷ []) (entry_now log (Done id))
    ends = drop_ends log history m id first content c fresh stale owed d is none

quiet_keeps : (o : Opening) (u v : World) → IsQuietStep o u v → Keeps o u → Keeps o v
quiet_keeps o u v (Tells e quiet) k = after_event o u.log u.history u.memory u.memory e k (quiet_event o u.log u.history u.memory e quiet k.holds)
quiet_keeps o u v (Notes event h) k =
    after_entry o u.log u.history u.memory u.memory event k (quiet_entry o u.log u.history u.memory (entry_now u.log event) refl h.writes_nothing (no_done_ends u.memory.discards.drops u.history (entry_now u.log event) h.no_done) h.answers k.holds)
quiet_keeps o u v (Takes table grows is_table) k = same_logs o u.log u.history u.memory (with_table u.memory table) k (storage_taken o u.log u.history u.memory table k.holds grows is_table)
quiet_keeps o u v (Adopts owed h) k = same_logs o u.log u.history u.memory (with_owed u.memory owed) k (adopted o u.log u.history u.memory owed k.holds h.still h.local)

block_keeps : (o : Opening) (u v : World) → IsBlockStep o u v → Keeps o u → Keeps o v
block_keeps o u v (Writes_local g h) k =
    let after = issue_fresh o u.log u.history u.memory g.call g.first g.content g.event g.block g.storage k.holds h.local h.given h.same in
    after_both o u.log u.history u.memory u.memory (issue_of g) g.event k after.0 after.1
block_keeps o u v (Writes_whole g h) k =
    let after = issue_whole o u.log u.history u.memory h.pending g.call g.first g.content g.event g.block g.storage k.holds h.not_local h.none h.in_range h.given h.put h.whole in
    after_both o u.log u.history u.memory (with_pending u.memory h.pending) (issue_of g) g.event k after.0 after.1
block_keeps o u v (Copies e b p h) k =
    after_event o u.log u.history u.memory (with_pending u.memory h.pending) e k (put_copy o u.log u.history u.memory h.pending e b p k.holds h.not_local h.none h.in_range h.given h.put h.whole).0
block_keeps o u v (Becomes_local b i d is ends h) k =
    same_logs o u.log u.history u.memory (with_blocks u.memory h.fresh h.born u.memory.owed h.pending) k (born o u.log u.history u.memory h.fresh h.born h.pending b i d k.holds is ends h.put_fresh h.put_born h.put_pending)
block_keeps o u v (Gives_up pending b h) k = same_logs o u.log u.history u.memory (with_pending u.memory pending) k (given_up o u.log u.history u.memory pending b k.holds h.put h.closed)
block_keeps o u v (Ends_write call b owed h w) k =
    after_entry o u.log u.history u.memory (with_owed u.memory owed) (Done call) k (write_done o u.log u.history u.memory owed call b k.holds h.local h.mine w.still w.only w.logged)
block_keeps o u v (Drops h) k =
    let d = h.drop in
    drop_keeps o u.log u.history u.memory d.call d.first d.content d.chunk d.fresh d.stale d.owed d.discards k d.within d.writes d.discarded d.none_pending h.closed h.no_write

flush_keeps : (o : Opening) (u v : World) → IsFlushStep o u v → Keeps o u → Keeps o v
flush_keeps o u v (Puts_record h) k =
    let f = h.flush in
    let after = put_record o u.log u.history u.memory f.snapshot f.ask.call f.ask.entry f.ask.number f.data_at h.event h.value h.item k.holds f.way h.flushes h.room h.only h.reads h.wanted in
    record { safe = safe_event o u.log u.history _ h.event k.safe after.facts; holds = after }
flush_keeps o u v (Puts_page h) k =
    let f = h.flush in
    let after = put_page o u.log u.history u.memory f.snapshot f.ask.call f.ask.entry f.ask.number f.data_at h.event h.value h.page k.holds f.way h.flushes h.within h.only h.wanted in
    record { safe = safe_event o u.log u.history _ h.event k.safe after.facts; holds = after }
flush_keeps o u v (Puts_header h) k =
    let f = h.flush in
    let after = put_header o u.log u.history u.memory f.snapshot f.ask.call f.ask.entry f.ask.number f.data_at h.event h.value h.tried k.holds f.way h.only h.wider h.wanted h.caught_up h.header in
    record { safe = safe_event o u.log u.history _ h.event k.safe after.facts; holds = after }
flush_keeps o u v (Seals_records h) k = record {
  safe = k.safe;
  holds = (seal_records o u.log u.history u.memory h.ask.call h.ask.entry h.ask.number h.data_at h.progress h.sealing k.holds h.so_far h.logged h.sure h.slotted h.lost_slotted).0;
}
flush_keeps o u v (Seals_recycle h) k =
    let f = h.flush in
    record {
      safe = k.safe;
      holds = (seal_recycle o u.log u.history u.memory f.snapshot f.ask.call f.ask.entry f.ask.number f.data_at h.sealing h.tried h.value h.next k.holds f.way h.flushes h.logged h.only h.new_header.reads h.new_header.generation h.new_header.background h.caught_up h.none_tried).0;
    }

pub step_keeps : (o : Opening) (u v : World) → IsStep o u v → Keeps o u → Keeps o v
step_keeps o u v (Keeps_contents step) k = quiet_keeps o u v step k
step_keeps o u v (Moves_block step) k = block_keeps o u v step k
step_keeps o u v (Flushes_on step) k = flush_keeps o u v step k

pub run_keeps : (o : Opening) (u w : World) → Runs o u w → Keeps o u → Keeps o w
run_keeps o u w (Stays x) k = k
run_keeps o u w (Goes_on x y z run step) k = step_keeps o y z step (run_keeps o x y run k)

pub opening_keeps : (o : Opening) (log : List Entry) (m : Memory) → IsAtOpening o log m → Keeps o (world log [] m)
opening_keeps o log m h =
    let holds = holds_at_opening o log m h in
    record { holds = holds; safe = λ k opened within. last_safe o log [] m holds.facts k (let e = h.opened in omega arith) }

-- every image at every moment of every run from an opening is safe
pub every_run : (o : Opening) (log : List Entry) (m : Memory) (w : World) → IsAtOpening o log m → Runs o (world log [] m) w → IsSafe o w.log w.history
every_run o log m w opening run = (run_keeps o (world log [] m) w run (opening_keeps o log m opening)).safe
