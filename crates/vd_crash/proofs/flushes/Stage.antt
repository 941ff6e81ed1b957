-- What each step leaves of the flush under way.
use Rattle.std.proofs.Common.{ℕ, ◌≡◌, ◌+◌, ◌<◌, ◌≤◌, ◌⊎◌, inl, inr, List, [], ◌∷◌, ◌++◌, length, Some, Option, Bool, true, false, arith, sym, subst, Ok}
use Rattle.vd_image.specs.Log.{Sector, CallId, Entry, Done, At, Covers, Flushes, May}
use Rattle.vd_image.specs.Image.{Header, Fact, Record, IsCurrent, IsApart}
use Rattle.vd_crash.specs.facts.Safe.{NumberedEntry, Opening}
use Rattle.vd_crash.specs.facts.Facts.{IsClaimSettled, Holds}
use Rattle.vd_crash.specs.flushes.Flushing.{IsLast, Snapshot, IsWanted, IsOffAfter, IsFlushUnderWay, IsWantedRecord, IsWantedPage, IsWrittenPage, IsSealed, IsCaughtUp, IsLogged, flush_ask}
use Rattle.vd_crash.specs.flushes.Passes.{IsPutting}
use Rattle.vd_crash.specs.flushes.Stage.{IsLoggedBy, FlushProgress, IsSoFar, IsPageToPut}
use Rattle.vd_crash.specs.facts.Words.{Sealing, with_index, sealed_memory}
use Rattle.vd_image.proofs.Logs.{flushes_push}
use Rattle.vd_crash.proofs.facts.Growth.{FollowsGuest, kept_event}
use Rattle.vd_crash.proofs.facts.Metadata.{NoMore, right_more, slots_have_less, named_less, no_more_metadata, WritesPlaces}
use Rattle.vd_crash.proofs.facts.Steps.{shown_event}
use Rattle.vd_crash.proofs.flushes.Puts.{OneMore, WritesOnly, one_more, slots_have_put, named_put}
use Rattle.vd_crash.proofs.flushes.Passes.{recorded_push, written_grown, page_push}
use Rattle.vd_crash.proofs.flushes.Evidence.{has_put_push, put_done, last_later}
use Rattle.vd_crash.proofs.flushes.Beside.{IsBeside, beside_memory, shown_beside, under_way_beside}
use Rattle.vd_crash.specs.facts.Memory.{Discards, Memory}
use Rattle.vd_crash.specs.facts.Metadata.{Claim, IsRight, Need, FactsHave, IsHeaderLeft}
use Rattle.vd_crash.proofs.flushes.Wanted.{shown_index, wanted_left, wanted_facts, wanted_written}
use Rattle.vd_crash.proofs.flushes.Putting.{WritesNoPlace, no_place_follows, only_no_place, put_record, put_page, put_header}
use Rattle.vd_crash.proofs.flushes.Synced.{only_last, in_slots, caught_up}
use Rattle.vd_crash.proofs.flushes.Sealing.{seal_records, seal_recycle}
use Rattle.vd_format.specs.Background.{background}
use Rattle.std.proofs.lemmas.List.{length_push}

-- the flush goes on after an event that puts into each block's place what stands in the block
pub under_way_event : (o : Opening) (log : List Entry) (history : List NumberedEntry) (m : Memory) (p : Snapshot) (call : CallId) (a n q : ℕ) (e : Entry) (sure : Bool) (tried : ℕ → Bool) (cursor : ℕ)
    → ((b s : ℕ) → m.index.table (o.layout.chunk_of b) ≡ Some s → FollowsGuest o log history m.discards.drops b s e) → ((b : ℕ) → tried b ≡ true → IsOffAfter o m p b)
    → IsFlushUnderWay o log history m p (flush_ask call a n) q → IsFlushUnderWay o (log ++ e ∷ []) history (with_index m sure tried cursor) p (flush_ask call a n) q
under_way_event o log history m p call a n q e sure tried cursor follows after way = record {
  asked = way.asked;
  order = way.order;
  after = way.after;
  begun = way.begun;
  reach = way.reach;
  kept = λ b wanted. kept_event o log history m.discards.drops e m.index.table b p.begun q (λ s given. follows b s given) (way.kept b wanted);
  zeros = way.zeros;
  dropped = way.dropped;
  lost_zeros = way.lost_zeros;
  still_lost = way.still_lost;
  stale_wanted = way.stale_wanted;
  wanted_was = way.wanted_was;
  zeros_off = way.zeros_off;
  lost_since = way.lost_since;
  blocks_wanted = way.blocks_wanted;
  off_wanted = way.off_wanted;
  owed = way.owed;
  covered = way.covered;
  covered_off = way.covered_off;
  tried = after;
}

-- after an event that leaves the metadata
pub so_far_event : (o : Opening) (log : List Entry) (history : List NumberedEntry) (m : Memory) (call : CallId) (a n q : ℕ) (p : FlushProgress) (e : Entry) → IsApart o.layout
    → WritesPlaces o e → ((b s : ℕ) → m.index.table (o.layout.chunk_of b) ≡ Some s → FollowsGuest o log history m.discards.drops b s e) → IsSoFar o log history m (flush_ask call a n) q p → IsSoFar o (log ++ e ∷ []) history m (flush_ask call a n) q p
so_far_event o log history m call a n q p e apart places follows h = record {
  way = under_way_event o log history m p.snapshot call a n q e m.index.sure m.index.tried m.index.cursor follows h.way.tried h.way;
  flushes = flushes_push log e q h.flushes;
  within = let l = length_push log e in let b = h.within in omega arith;
  first = h.first;
  in_range = h.in_range;
  since = λ t wanted. slots_have_less o (May o.before (log ++ e ∷ [])) (May o.before log) m.index.generation p.first t less (h.since t wanted);
  since_right = λ k v item place fact after within left reads current stands.
      let s = h.since_right k v item place fact after within (less.slots k v within left) reads current stands in
      (right_more o (IsClaimSettled o log history m p.snapshot.begun) (IsClaimSettled o (log ++ e ∷ []) history m p.snapshot.begun) m.index.table m.index.table fact.chunk fact.mapping still (λ d g given. given) s.0, s.1);
  puts_done = has_put_push o log history m e p apart (λ c is. h.in_range c (inl is)) places still h.puts_done;
  slotted = λ b is. named_less o (May o.before (log ++ e ∷ [])) (May o.before log) m.index.generation m.index.cursor p.first (o.layout.chunk_of b) less (h.slotted b is);
  paged = λ c is v left. written_grown o (IsClaimSettled o log history m p.snapshot.begun) (IsClaimSettled o (log ++ e ∷ []) history m p.snapshot.begun) m m p.snapshot c v still (λ d g given. given) (h.paged c is v (less.map c v (h.in_range c (inr is)) left));
}
  where
    less : NoMore o (May o.before (log ++ e ∷ [])) (May o.before log)
    less = no_more_metadata o log e apart places

    still : (t : Claim) → IsClaimSettled o log history m p.snapshot.begun t → IsClaimSettled o (log ++ e ∷ []) history m p.snapshot.begun t
    still = shown_event o log history m e follows p.snapshot.begun

-- after a step of another pass that leaves the store's log
pub so_far_beside : (o : Opening) (log : List Entry) (history later : List NumberedEntry) (m : Memory) (table : ℕ → Option ℕ) (stale fresh : ℕ → Bool) (born : ℕ → ℕ) (owed : ℕ → Bool) (pending : ℕ → Option ℕ) (d : Discards) (call : CallId) (a n q : ℕ) (p : FlushProgress)
    → IsBeside o log history later m table stale fresh born owed d → IsSoFar o log history m (flush_ask call a n) q p → IsSoFar o log later (beside_memory m table stale fresh born owed pending d) (flush_ask call a n) q p
so_far_beside o log history later m table stale fresh born owed pending d call a n q p beside h = record {
  way = under_way_beside o log history later m table stale fresh born owed pending d p.snapshot call a n q beside h.way;
  flushes = h.flushes;
  within = h.within;
  first = h.first;
  in_range = h.in_range;
  since = h.since;
  since_right = λ k v item place fact after within left reads current stands.
      let s = h.since_right k v item place fact after within left reads current stands in
      (right_more o (IsClaimSettled o log history m p.snapshot.begun) (IsClaimSettled o log later new p.snapshot.begun) m.index.table table fact.chunk fact.mapping still beside.grows s.0, s.1);
  puts_done = record {
    records = λ b is. let r = h.puts_done.records b is in record { slot = r.slot; value = r.value; since = r.since; below = r.below; within = r.within; last = r.last; names = r.names };
    pages = λ c is. let t = h.puts_done.pages c is in record { value = t.value; last = t.last; written = written_grown o (IsClaimSettled o log history m p.snapshot.begun) (IsClaimSettled o log later new p.snapshot.begun) m new p.snapshot c t.value still beside.grows t.written };
  };
  slotted = h.slotted;
  paged = λ c is v left. written_grown o (IsClaimSettled o log history m p.snapshot.begun) (IsClaimSettled o log later new p.snapshot.begun) m new p.snapshot c v still beside.grows (h.paged c is v left);
}
  where
    new : Memory
    new = beside_memory m table stale fresh born owed pending d

    still : (t : Claim) → IsClaimSettled o log history m p.snapshot.begun t → IsClaimSettled o log later new p.snapshot.begun t
    still = shown_beside o log history later m table stale fresh born owed pending d beside p.snapshot.begun h.way.begun

-- After a sync that was asked at r, which is answered well now: what was put is so in every image.
pub so_far_synced : (o : Opening) (log : List Entry) (history : List NumberedEntry) (m : Memory) (call : CallId) (a n q r : ℕ) (p : FlushProgress) (slotted paged : ℕ → Bool)
    → IsSoFar o log history m (flush_ask call a n) q p → Flushes log r → p.by ≤ r
    → ((b : ℕ) → slotted b ≡ true → (p.slotted b ≡ true) ⊎ (p.recorded b ≡ true))
    → ((c : ℕ) → paged c ≡ true → (p.paged c ≡ true) ⊎ (p.written c ≡ true))
    → IsSoFar o log history m (flush_ask call a n) q (record { snapshot = p.snapshot; first = p.first; by = p.by; recorded = p.recorded; written = p.written; slotted = slotted; paged = paged })
so_far_synced o log history m call a n q r p slotted paged h flushes order slots pages = record {
  way = h.way;
  flushes = h.flushes;
  within = h.within;
  first = h.first;
  since = h.since;
  since_right = h.since_right;
  puts_done = record { records = h.puts_done.records; pages = h.puts_done.pages };
  in_range = λ c is. in_range c is;
  slotted = λ b is. elim (slots b is) [ inl was ↦ h.slotted b was | inr now ↦ in_slots o log m p.first p.by r b (h.puts_done.records b now) flushes order ];
  paged = λ c is. elim (pages c is) [ inl was ↦ h.paged c was | inr now ↦ caught_up o log history m p.snapshot p.by r c (h.puts_done.pages c now) flushes order ];
}
  where
    in_range : (c : ℕ) → (p.written c ≡ true) ⊎ (paged c ≡ true) → c < o.layout.chunks
    in_range c (inl k) = h.in_range c (inl k)
    in_range c (inr k) = elim (pages c k) [ inl was ↦ h.in_range c (inr was) | inr now ↦ h.in_range c (inl now) ]

-- what the put of v into sector a must be, where that is a slot: each fact of its record has what is wanted, and is right
pub record IsRecordToPut (o : Opening) (settled : Claim → Type 0) (m : Memory) (p : Snapshot) (a : ℕ) (v : Sector) : Type 0 where
  pub facts : (t : Need) (k : ℕ) (r : Record) → IsWanted o p t → k < o.layout.slots → o.layout.slot_at k ≡ a → o.format.record_of v ≡ Some r → IsCurrent r m.index.generation → FactsHave o t r
  pub right : (k : ℕ) (r : Record) (place : ℕ) (fact : Fact) → k < o.layout.slots → o.layout.slot_at k ≡ a → o.format.record_of v ≡ Some r → IsCurrent r m.index.generation → At r.facts place fact
      → IsRight o settled m.index.table fact.chunk fact.mapping × ((b : ℕ) → fact.mapping.has b ≡ true → p.wanted b ≡ true)

-- A put of v into sector a: it touches no slot before the cursor, a record has the wanted blocks of its chunks, a page is
-- right and has the wanted blocks of its chunks, and nothing is put twice.
pub so_far_put : (o : Opening) (log : List Entry) (history : List NumberedEntry) (m : Memory) (call : CallId) (asked n q : ℕ) (p : FlushProgress) (e : Entry) (a : ℕ) (v : Sector) (sure : Bool) (tried : ℕ → Bool) (cursor : ℕ)
    → Holds o log history m → IsSoFar o log history m (flush_ask call asked n) q p → WritesOnly e a v → WritesNoPlace o e → m.index.cursor ≤ cursor
    → ((b : ℕ) → tried b ≡ true → IsOffAfter o m p.snapshot b)
    → ((k : ℕ) → k < m.index.cursor → k < o.layout.slots → o.layout.slot_at k ≡ a → ⊥)
    → IsRecordToPut o (IsClaimSettled o log history m p.snapshot.begun) m p.snapshot a v
    → ((c : ℕ) → c < o.layout.chunks → o.layout.map_at c ≡ a → IsWrittenPage o (IsClaimSettled o log history m p.snapshot.begun) m p.snapshot c v)
    → ((c : ℕ) → p.written c ≡ true → o.layout.map_at c ≡ a → ⊥)
    → IsSoFar o (log ++ e ∷ []) history (with_index m sure tried cursor) (flush_ask call asked n) q p
so_far_put o log history m call asked n q p e a v sure tried cursor holds h only no_place further wanted slot item page once = record {
  way = under_way_event o log history m p.snapshot call asked n q e sure tried cursor follows wanted h.way;
  flushes = flushes_push log e q h.flushes;
  within = let l = length_push log e in let b = h.within in omega arith;
  first = let b = h.first in omega arith;
  in_range = h.in_range;
  since = λ t is. slots_have_put o (May o.before (log ++ e ∷ [])) (May o.before log) a v m.index.generation p.first t one (λ k r within same reads current. item.facts t k r is within same reads current) (h.since t is);
  since_right = λ k u r place fact after within left reads current stands. elim (one (o.layout.slot_at k) u left) [
    | inl was ↦ (let s = h.since_right k u r place fact after within was reads current stands in (righter fact s.0, s.1))
    | inr now ↦ (let s = item.right k r place fact within now.0 (subst (λ (y : Sector). o.format.record_of y ≡ Some r) now.1 reads) current stands in (righter fact s.0, s.1))
  ];
  puts_done = record {
    records = λ b is.
        let r = recorded_push o log m e p.first p.by b (λ k u below within covers. slot k below within (only (o.layout.slot_at k) u covers).0) (h.puts_done.records b is) in
        record { slot = r.slot; value = r.value; since = r.since; within = r.within; last = r.last; names = r.names; below = let l = r.below in omega arith };
    pages = λ c is.
        let t = page_push o log history m p.snapshot e p.by c (λ u covers. once c is (only (o.layout.map_at c) u covers).0) still (h.puts_done.pages c is) in
        record { value = t.value; last = t.last; written = same c t.value t.written };
  };
  slotted = λ b is. named_put o (May o.before (log ++ e ∷ [])) (May o.before log) a v m.index.generation m.index.cursor cursor p.first (o.layout.chunk_of b) one further slot (h.slotted b is);
  paged = λ c is u left. elim (one (o.layout.map_at c) u left) [
    | inl was ↦ same c u (written_grown o (IsClaimSettled o log history m p.snapshot.begun) (IsClaimSettled o (log ++ e ∷ []) history m p.snapshot.begun) m m p.snapshot c u still (λ d g given. given) (h.paged c is u was))
    | inr now ↦ same c u (written_grown o (IsClaimSettled o log history m p.snapshot.begun) (IsClaimSettled o (log ++ e ∷ []) history m p.snapshot.begun) m m p.snapshot c u still (λ d g given. given)
        (subst (λ (y : Sector). IsWrittenPage o (IsClaimSettled o log history m p.snapshot.begun) m p.snapshot c y) (sym now.1) (page c (h.in_range c (inr is)) now.0)))
  ];
}
  where
    follows : (b s : ℕ) → m.index.table (o.layout.chunk_of b) ≡ Some s → FollowsGuest o log history m.discards.drops b s e
    follows = no_place_follows o log history m e holds.facts.storage_one_to_one no_place

    still : (t : Claim) → IsClaimSettled o log history m p.snapshot.begun t → IsClaimSettled o (log ++ e ∷ []) history m p.snapshot.begun t
    still = shown_event o log history m e follows p.snapshot.begun

    one : OneMore (May o.before (log ++ e ∷ [])) (May o.before log) a v
    one = one_more o log e a v only

    righter : (fact : Fact) → IsRight o (IsClaimSettled o log history m p.snapshot.begun) m.index.table fact.chunk fact.mapping → IsRight o (IsClaimSettled o (log ++ e ∷ []) history (with_index m sure tried cursor) p.snapshot.begun) m.index.table fact.chunk fact.mapping
    righter fact r = right_more o (IsClaimSettled o log history m p.snapshot.begun) (IsClaimSettled o (log ++ e ∷ []) history (with_index m sure tried cursor) p.snapshot.begun) m.index.table m.index.table fact.chunk fact.mapping
        (λ t shown. shown_index o (log ++ e ∷ []) history m sure tried cursor p.snapshot.begun t (still t shown)) (λ d g given. given) r

    same : (c : ℕ) (u : Sector) → IsWrittenPage o (IsClaimSettled o (log ++ e ∷ []) history m p.snapshot.begun) m p.snapshot c u → IsWrittenPage o (IsClaimSettled o (log ++ e ∷ []) history (with_index m sure tried cursor) p.snapshot.begun) (with_index m sure tried cursor) p.snapshot c u
    same c u w = written_grown o (IsClaimSettled o (log ++ e ∷ []) history m p.snapshot.begun) (IsClaimSettled o (log ++ e ∷ []) history (with_index m sure tried cursor) p.snapshot.begun) m (with_index m sure tried cursor) p.snapshot c u
        (shown_index o (log ++ e ∷ []) history m sure tried cursor p.snapshot.begun) (λ d g given. given) w

-- an event that writes nothing
pub nothing_places : (o : Opening) (e : Entry) → ((s : ℕ) (u : Sector) → Covers e s u → ⊥) → WritesPlaces o e
nothing_places o e quiet = λ s u covers. absurd (quiet s u covers)

pub quiet_follows : (o : Opening) (log : List Entry) (history : List NumberedEntry) (m : Memory) (e : Entry) → ((s : ℕ) (u : Sector) → Covers e s u → ⊥) → (b s : ℕ) → m.index.table (o.layout.chunk_of b) ≡ Some s → FollowsGuest o log history m.discards.drops b s e
quiet_follows o log history m e quiet b p given s u block covers = absurd (quiet (o.layout.place p s) u covers)

-- a put is done
pub so_far_done : (o : Opening) (log : List Entry) (history : List NumberedEntry) (m : Memory) (call ticket : CallId) (asked n q i a : ℕ) (v : Sector) (p : FlushProgress) (recorded written : ℕ → Bool)
    → Holds o log history m → IsSoFar o log history m (flush_ask call asked n) q p → IsPutting log a v ticket i → IsPageToPut o (IsClaimSettled o log history m p.snapshot.begun) m p.snapshot a v → IsLoggedBy o m a v recorded written p
    → IsSoFar o (log ++ Done ticket ∷ []) history m (flush_ask call asked n) q (record { snapshot = p.snapshot; first = p.first; by = length log + 1; recorded = recorded; written = written; slotted = p.slotted; paged = p.paged })
so_far_done o log history m call ticket asked n q i a v p recorded written holds h put right logged = record {
  way = now.way;
  flushes = now.flushes;
  first = now.first;
  since = now.since;
  since_right = now.since_right;
  slotted = now.slotted;
  paged = now.paged;
  within = let l = length_push log (Done ticket) in omega arith;
  in_range = λ c is. in_range c is;
  puts_done = record {
    records = λ b is. elim (logged.records b is) [
      | inl was ↦ (let r = now.puts_done.records b was in record {
        slot = r.slot;
        value = r.value;
        since = r.since;
        below = r.below;
        within = r.within;
        names = r.names;
        last = last_later (log ++ Done ticket ∷ []) (o.layout.slot_at r.slot) r.value p.by (length log + 1) order r.last;
      })
      | inr new ↦ record { slot = new.0; value = v; since = new.2; below = new.3; within = new.4; names = new.5; last = subst (λ (s : ℕ). IsLast (log ++ Done ticket ∷ []) s v (length log + 1)) new.1 last }
    ];
    pages = λ c is. elim (logged.pages c is) [
      | inl was ↦ (let t = now.puts_done.pages c was in record { value = t.value; written = t.written; last = last_later (log ++ Done ticket ∷ []) (o.layout.map_at c) t.value p.by (length log + 1) order t.last })
      | inr new ↦ record {
        value = v;
        written = written_grown o (IsClaimSettled o log history m p.snapshot.begun) (IsClaimSettled o (log ++ Done ticket ∷ []) history m p.snapshot.begun) m m p.snapshot c v
            (shown_event o log history m (Done ticket) (quiet_follows o log history m (Done ticket) (λ s u covers. covers)) p.snapshot.begun) (λ d g given. given) (right c new.1 (sym new.0));
        last = subst (λ (s : ℕ). IsLast (log ++ Done ticket ∷ []) s v (length log + 1)) new.0 last;
      }
    ];
  };
}
  where
    now : IsSoFar o (log ++ Done ticket ∷ []) history m (flush_ask call asked n) q p
    now = so_far_event o log history m call asked n q p (Done ticket) holds.apart (λ s u covers. absurd covers) (quiet_follows o log history m (Done ticket) (λ s u covers. covers)) h

    order : p.by ≤ length log + 1
    order = let k = h.within in omega arith

    last : IsLast (log ++ Done ticket ∷ []) a v (length log + 1)
    last = put_done log a v ticket i put

    in_range : (c : ℕ) → (written c ≡ true) ⊎ (p.paged c ≡ true) → c < o.layout.chunks
    in_range c (inl k) = elim (logged.pages c k) [ inl was ↦ h.in_range c (inl was) | inr new ↦ new.1 ]
    in_range c (inr k) = h.in_range c (inr k)

-- the beginning, once the data flush is answered well: nothing is put yet
pub so_far_begun : (o : Opening) (log : List Entry) (history : List NumberedEntry) (m : Memory) (call : CallId) (a n q : ℕ) (p : FlushProgress) → Holds o log history m
    → IsFlushUnderWay o log history m p.snapshot (flush_ask call a n) q → Flushes log q → p.by ≡ 0 → p.first ≡ m.index.cursor
    → ((b : ℕ) → (p.recorded b ≡ false) × (p.written b ≡ false) × (p.slotted b ≡ false))
    → ((c : ℕ) → p.paged c ≡ true → (c < o.layout.chunks) × IsCaughtUp o (May o.before log) (IsClaimSettled o log history m p.snapshot.begun) m p.snapshot c)
    → IsSoFar o log history m (flush_ask call a n) q p
so_far_begun o log history m call a n q p holds way flushes by first empty clean = record {
  way = way;
  flushes = flushes;
  within = omega arith;
  first = omega arith;
  in_range = in_range;
  since = λ t wanted k v item after within left reads current. absurd (holds.facts.metadata.none_beyond k v item (omega arith) within left reads current);
  since_right = λ k v item place fact after within left reads current stands. absurd (holds.facts.metadata.none_beyond k v item (omega arith) within left reads current);
  puts_done = record { records = λ b is. absurd (let e = (empty b).0 in cc); pages = λ b is. absurd (let e = (empty b).1 in cc) };
  slotted = λ b is. absurd (let e = (empty b).2 in cc);
  paged = λ c is. (clean c is).1;
}
  where
    in_range : (c : ℕ) → (p.written c ≡ true) ⊎ (p.paged c ≡ true) → c < o.layout.chunks
    in_range c (inl k) = absurd (let e = (empty c).1 in cc)
    in_range c (inr k) = (clean c k).0

-- the put of a record
pub so_far_record : (o : Opening) (log : List Entry) (history : List NumberedEntry) (m : Memory) (call : CallId) (a n q : ℕ) (p : FlushProgress) (e : Entry) (v : Sector) (r : Record)
    → Holds o log history m → IsSoFar o log history m (flush_ask call a n) q p → m.index.cursor < o.layout.slots → WritesOnly e (o.layout.slot_at m.index.cursor) v
    → o.format.record_of v ≡ Some r → IsWantedRecord o m p.snapshot r
    → Holds o (log ++ e ∷ []) history (with_index m m.index.sure m.index.tried (m.index.cursor + 1)) × IsSoFar o (log ++ e ∷ []) history (with_index m m.index.sure m.index.tried (m.index.cursor + 1)) (flush_ask call a n) q p
so_far_record o log history m call a n q p e v r holds h room only reads is = (
  put_record o log history m p.snapshot call a n q e v r holds h.way h.flushes room only reads is,
  so_far_put o log history m call a n q p e (o.layout.slot_at m.index.cursor) v m.index.sure m.index.tried (m.index.cursor + 1) holds h only
      (only_no_place o e (o.layout.slot_at m.index.cursor) v only (λ s t within same. holds.apart.place_slot s t m.index.cursor within room same)) (omega arith) h.way.tried
      (λ k below within same. let at : k ≡ m.index.cursor = holds.apart.slots k m.index.cursor within room same in omega arith)
      (record {
        facts = λ t k s wanted within same also current. subst (λ (y : Record). FactsHave o t y) (one s also) (wanted_facts o m p.snapshot r t is wanted);
        right = λ k s place fact within same also current stands.
            let f = (is.facts place fact (subst (λ (y : Record). At y.facts place fact) (sym (one s also)) stands)).1 in
            (wanted_left o log history m p.snapshot call a n q fact.chunk fact.mapping holds h.way h.flushes f, λ b has. ((f.blocks b).0 has).1);
      })
      (λ c within same. absurd (holds.apart.map_slot c m.index.cursor within room same))
      (λ c written same. holds.apart.map_slot c m.index.cursor (h.in_range c (inl written)) room same),
)
  where
    one : (s : Record) → o.format.record_of v ≡ Some s → r ≡ s
    one s also = cc (reads, also)

-- the put of a page of the map that isn't put yet
pub so_far_page : (o : Opening) (log : List Entry) (history : List NumberedEntry) (m : Memory) (call : CallId) (a n q : ℕ) (p : FlushProgress) (e : Entry) (v : Sector) (page : ℕ)
    → Holds o log history m → IsSoFar o log history m (flush_ask call a n) q p → page < o.layout.chunks → WritesOnly e (o.layout.map_at page) v
    → ((c : ℕ) → c < o.layout.chunks → o.layout.map_at c ≡ o.layout.map_at page → IsWantedPage o m p.snapshot c v)
    → ((c : ℕ) → p.written c ≡ true → o.layout.map_at c ≡ o.layout.map_at page → ⊥)
    → Holds o (log ++ e ∷ []) history (with_index m m.index.sure m.index.tried m.index.cursor) × IsSoFar o (log ++ e ∷ []) history (with_index m m.index.sure m.index.tried m.index.cursor) (flush_ask call a n) q p
so_far_page o log history m call a n q p e v page holds h room only is once = (
  put_page o log history m p.snapshot call a n q e v page holds h.way h.flushes room only is,
  so_far_put o log history m call a n q p e (o.layout.map_at page) v m.index.sure m.index.tried m.index.cursor holds h only
      (only_no_place o e (o.layout.map_at page) v only (λ s t within same. holds.apart.place_map s t page within room same)) (omega arith) h.way.tried
      (λ k below within same. holds.apart.map_slot page k room within (sym same))
      (record {
        facts = λ t k r wanted within same. absurd (holds.apart.map_slot page k room within (sym same));
        right = λ k r place fact within same. absurd (holds.apart.map_slot page k room within (sym same));
      })
      (λ c within same. wanted_written o log history m p.snapshot call a n q c v holds h.way h.flushes (is c within same))
      once,
)

-- the end of a flush by records
pub so_far_sealed : (o : Opening) (log : List Entry) (history : List NumberedEntry) (m : Memory) (call : CallId) (a n q : ℕ) (p : FlushProgress) (z : Sealing)
    → Holds o log history m → IsSoFar o log history m (flush_ask call a n) q p → IsLogged o history m p.snapshot z → m.index.sure ≡ true
    → ((b : ℕ) → p.snapshot.blocks b ≡ true → p.slotted b ≡ true) → ((b : ℕ) → p.snapshot.lost (o.layout.chunk_of b) ≡ true → p.slotted b ≡ true)
    → Holds o log history (sealed_memory m m.index.generation m.index.tracked m.index.sure m.index.tried m.index.cursor z) × IsSealed o log history m.discards.drops z.stale z.off_base z.reach (flush_ask call a n)
so_far_sealed o log history m call a n q p z holds h logged sure slots lost_slots = seal_records o log history m call a n q p z holds h logged sure slots lost_slots

-- the end of a recycle: the header that was put last, and synced, is the only one
pub so_far_recycled : (o : Opening) (log : List Entry) (history : List NumberedEntry) (m : Memory) (call : CallId) (a n q r by : ℕ) (p : FlushProgress) (z : Sealing) (none : ℕ → Bool) (v : Sector) (next : Header)
    → Holds o log history m → IsSoFar o log history m (flush_ask call a n) q p → IsLogged o history m p.snapshot z
    → IsLast log o.layout.header_at v by → Flushes log r → by ≤ r
    → o.format.header_of v ≡ Ok next → next.generation ≡ m.index.generation + 1
    → ((s : ℕ) → s < o.layout.size → m.index.off_base (o.layout.block_of s) ≡ false → (background o.base o.zeros next.tracked s ≡ o.disk s) ⊎ (m.index.tried (o.layout.block_of s) ≡ true))
    → ((c : ℕ) → c < o.layout.chunks → p.paged c ≡ true) → ((b : ℕ) → none b ≡ false)
    → Holds o log history (sealed_memory m (m.index.generation + 1) next.tracked true none 0 z) × IsSealed o log history m.discards.drops z.stale z.off_base z.reach (flush_ask call a n)
so_far_recycled o log history m call a n q r by p z none v next holds h logged last flushes order reads generation next_background all empty =
    seal_recycle o log history m p.snapshot call a n q z none v next holds h.way h.flushes logged
    (λ u left. only_last o.before log o.layout.header_at v u by r last flushes order left) reads generation next_background (λ c within. h.paged c (all c within)) empty

-- the put of the next header in a recycle that is so far
pub so_far_header : (o : Opening) (log : List Entry) (history : List NumberedEntry) (m : Memory) (call : CallId) (a n q : ℕ) (p : FlushProgress) (e : Entry) (v : Sector) (tried : ℕ → Bool)
    → Holds o log history m → IsSoFar o log history m (flush_ask call a n) q p → WritesOnly e o.layout.header_at v
    → ((b : ℕ) → m.index.tried b ≡ true → tried b ≡ true) → ((b : ℕ) → tried b ≡ true → IsOffAfter o m p.snapshot b)
    → ((c : ℕ) → c < o.layout.chunks → p.paged c ≡ true)
    → IsHeaderLeft o (May o.before log) (with_index m false tried m.index.cursor).index v
    → Holds o (log ++ e ∷ []) history (with_index m false tried m.index.cursor) × IsSoFar o (log ++ e ∷ []) history (with_index m false tried m.index.cursor) (flush_ask call a n) q p
so_far_header o log history m call a n q p e v tried holds h only wider wanted all next = (
  put_header o log history m p.snapshot call a n q e v tried holds h.way only wider wanted (λ c within. h.paged c (all c within)) next,
  so_far_put o log history m call a n q p e o.layout.header_at v false tried m.index.cursor holds h only
      (only_no_place o e o.layout.header_at v only (λ s t within same. holds.apart.place_header s t within same)) (omega arith) wanted
      (λ k below within same. holds.apart.header_slot k within (sym same))
      (record {
        facts = λ t k r is within same. absurd (holds.apart.header_slot k within (sym same));
        right = λ k r place fact within same. absurd (holds.apart.header_slot k within (sym same));
      })
      (λ c within same. absurd (holds.apart.header_map c within (sym same)))
      (λ c written same. holds.apart.header_map c (h.in_range c (inl written)) (sym same)),
)
