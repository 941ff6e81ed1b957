-- What one more store event, or one more entry, leaves of the facts on blocks.
use Rattle.std.proofs.Common.{ℕ, ◌≡◌, ◌+◌, ◌<◌, ◌≤◌, inl, inr, List, [], ◌∷◌, ◌++◌, length, Some, Option, Bool, true, arith, sym, subst}
use Rattle.std.proofs.lemmas.List.{length_push}
use Rattle.vd_image.specs.Log.{Sector, Entry, Flush, Ask, Done, Covers, IsSure, IsOpen}
use Rattle.vd_crash.specs.facts.Safe.{NumberedEntry, events, Opening}
use Rattle.vd_crash.specs.facts.Facts.{IsDrop, OwnWrites, IsOpened, IsMirrored, IsFill, IsContent, Stands, IsWhole, Origin, IsSureBy, IsKept, IsDoneBefore, IsFlushedSince, IsWrittenBefore, IsBehind, AreAnswered}
use Rattle.vd_image.proofs.Logs.{at_below, writes_push, writes_pushed, writes_below, sure_push, ends_push, flushes_push, none_sure_pushed}
use Rattle.vd_crash.specs.facts.Words.{AnswersWell}
use Rattle.vd_crash.proofs.facts.HistoryGrowth.{guest_writes_below, guest_ends_pushed, guest_open_pushed, guest_flushes_pushed, SameDrops, drop_push, drop_pushed, own_push, own_pushed, dropped_after_push, dropped_before_push, live_pushed, ends_below, open_below, own_writes_old}
use Rattle.vd_crash.specs.facts.Memory.{Memory}

-- opening

pub opened_event : (o : Opening) (log : List Entry) (e : Entry) → IsOpened o log → IsOpened o (log ++ e ∷ [])
opened_event o log e h = record {
  within = let l = length_push log e in let b = h.within in omega arith;
  untouched = λ s v u. h.untouched s v (record { value = u.value; newest = none_sure_pushed log e 0 s u.newest });
  early = λ i s v less w newest. elim (writes_pushed log e i s v w) [
    | inl k ↦ h.early i s v less k (none_sure_pushed log e (i + 1) s newest)
    | inr k ↦ absurd (let b = h.within in omega (arith, k.0))
  ];
}

-- a block's storage

pub mirrored_event : (o : Opening) (log : List Entry) (e : Entry) (n d p s : ℕ) (v : Sector) → IsMirrored o log n d p s v → IsMirrored o (log ++ e ∷ []) n d p s v
mirrored_event o log e n d p s v h = record {
  writes = writes_push log e n (o.layout.place p s) v h.writes;
  done = h.done;
  ends = ends_push log e n h.done h.ends;
  before = h.before;
}

-- the new event writes to the place only what stands in the block: a guest's write at that number, or what a block has that isn't local
abbrev pub FollowsGuest : Opening → List Entry → List NumberedEntry → (ℕ → Option ℕ) → ℕ → ℕ → Entry → Type 0
FollowsGuest o log history drops b p e = (s : ℕ) (v : Sector) → o.layout.block_of s ≡ b → Covers e (o.layout.place p s) v → IsContent o drops history (length log) s v

pub stands_event : (o : Opening) (log : List Entry) (history : List NumberedEntry) (drops : ℕ → Option ℕ) (e : Entry) (b p since : ℕ)
    → Stands o log history drops b p since → FollowsGuest o log history drops b p e → Stands o (log ++ e ∷ []) history drops b p since
stands_event o log history drops e b p since h follows = record {
  later = λ i s v block from w. elim (writes_pushed log e i (o.layout.place p s) v w) [
    | inl k ↦ h.later i s v block from k
    | inr k ↦ subst (λ (n : ℕ). IsContent o drops history n s v) (sym k.0) (follows s v block k.1)
  ];
  mirrored = λ j x n d s v block w ends. elim (h.mirrored j x n d s v block w ends) [
    | inl k ↦ inl (k.0, mirrored_event o log e n d p s v k.1)
    | inr k ↦ inr k
  ];
  running = h.running;
}

-- the new entry is done only of an ordinary write that is mirrored
abbrev pub EndsMirrored : Opening → List Entry → List NumberedEntry → (ℕ → Option ℕ) → ℕ → ℕ → NumberedEntry → Type 0
EndsMirrored o log history drops b p x = (j n s : ℕ) (v : Sector) (h : IsOpen (events history) j) → o.layout.block_of s ≡ b → OwnWrites drops history j n s v → x.event ≡ Done h.id → IsMirrored o log n x.number p s v

pub fill_push : (o : Opening) (old new : ℕ → Option ℕ) (history : List NumberedEntry) (x : NumberedEntry) (i s : ℕ) (v : Sector) → SameDrops old new (length history) → i < x.number → IsFill o old history i s v → IsFill o new (history ++ x ∷ []) i s v
fill_push o old new history x i s v same less h = record {
  from = h.from;
  value = elim h.value [ inl k ↦ inl k | inr k ↦ inr (k.0, k.1, drop_push old new history x k.0 k.1 (o.layout.chunk_of (o.layout.block_of s)) same k.2, k.3, k.4) ];
  writes = λ k n u from w live. elim (own_pushed old new history x k n s u same w) [
    | inl was ↦ h.writes k n u from was (live_pushed history x k (guest_writes_below history k n s u was.0) live)
    | inr now ↦ omega (arith, now.1)
  ];
  later = λ k n from drop. elim (drop_pushed old new history x k n (o.layout.chunk_of (o.layout.block_of s)) same drop) [
    | inl was ↦ h.later k n from was
    | inr now ↦ omega (arith, now.1)
  ];
}

pub content_push : (o : Opening) (old new : ℕ → Option ℕ) (history : List NumberedEntry) (x : NumberedEntry) (i s : ℕ) (v : Sector) → SameDrops old new (length history) → i < x.number → IsContent o old history i s v → IsContent o new (history ++ x ∷ []) i s v
content_push o old new history x i s v same less (inl g) = inl (g.0, own_push old new history x g.0 i s v same g.1)
content_push o old new history x i s v same less (inr f) = inr (fill_push o old new history x i s v same less f)

pub stands_entry : (o : Opening) (log : List Entry) (history : List NumberedEntry) (old new : ℕ → Option ℕ) (x : NumberedEntry) (b p since : ℕ) → SameDrops old new (length history) → length log ≤ x.number
    → Stands o log history old b p since → EndsMirrored o log history old b p x
    → ((s : ℕ) (v : Sector) → o.layout.block_of s ≡ b → Covers x.event s v → since ≤ x.number + 1)
    → Stands o log (history ++ x ∷ []) new b p since
stands_entry o log history old new x b p since same number h ends issue = record {
  later = λ i s v block from w. content_push o old new history x i s v same (let l = writes_below log i (o.layout.place p s) v w in omega arith) (h.later i s v block from w);
  mirrored = λ j e n d s v block w end. elim (guest_ends_pushed history x j e d end) [
    | inl k ↦ elim (h.mirrored j e n d s v block (own_writes_old old new history x j n s v same (ends_below history j e d k) w) k) [
      | inl m ↦ inl m
      | inr m ↦ inr (dropped_before_push old new history x j (o.layout.chunk_of b) since same m)
    ]
    | inr k ↦
        let was = own_writes_old old new history x j n s v same (open_below history j k.2.0) w in inl (
          h.running j n s v block was k.2.0,
          subst (λ (i : ℕ). IsMirrored o log n i p s v) k.1 (ends j n s v k.2.0 block was k.2.1),
        )
  ];
  running = λ j n s v block w is_open. elim (own_pushed old new history x j n s v same w) [
    | inl k ↦ h.running j n s v block k (guest_open_pushed history x j (guest_writes_below history j n s v k.0) is_open)
    | inr k ↦ let l = issue s v block k.2 in omega (arith, k.1)
  ];
}

pub whole_event : (o : Opening) (log : List Entry) (history : List NumberedEntry) (drops : ℕ → Option ℕ) (e : Entry) (b p w : ℕ) → IsWhole o log history drops b p w → IsWhole o (log ++ e ∷ []) history drops b p w
whole_event o log history drops e b p w h = λ s block. let k = h s block in (k.0, writes_push log e w (o.layout.place p s) k.0 k.1, k.2)

pub whole_entry : (o : Opening) (log : List Entry) (history : List NumberedEntry) (old new : ℕ → Option ℕ) (x : NumberedEntry) (b p w : ℕ) → SameDrops old new (length history) → w < x.number → IsWhole o log history old b p w → IsWhole o log (history ++ x ∷ []) new b p w
whole_entry o log history old new x b p w same less h = λ s block. let k = h s block in (k.0, k.1, content_push o old new history x w s k.0 same less k.2)

pub done_below : (log : List Entry) (w by : ℕ) → IsDoneBefore log by w → w < length log
done_below log w by h = at_below log w h.1.event h.1.stands

pub sure_below_end : (log : List Entry) (w : ℕ) → IsSure log w → w < length log
sure_below_end log w h = at_below log w h.ends.event h.ends.stands

pub sure_by_below : (log : List Entry) (by w : ℕ) → IsSureBy log by w → w < length log
sure_by_below log by w (inl h) = sure_below_end log w h
sure_by_below log by w (inr h) = done_below log w by h

pub done_push : (log : List Entry) (e : Entry) (by w : ℕ) → IsDoneBefore log by w → IsDoneBefore (log ++ e ∷ []) by w
done_push log e by w h = (h.0, ends_push log e w h.0 h.1, h.2)

pub sure_by_push : (log : List Entry) (e : Entry) (by w : ℕ) → IsSureBy log by w → IsSureBy (log ++ e ∷ []) by w
sure_by_push log e by w (inl h) = inl (sure_push log e w h)
sure_by_push log e by w (inr h) = inr (done_push log e by w h)

pub kept_event : (o : Opening) (log : List Entry) (history : List NumberedEntry) (drops : ℕ → Option ℕ) (e : Entry) (table : ℕ → Option ℕ) (b reach by : ℕ)
    → ((p : ℕ) → table (o.layout.chunk_of b) ≡ Some p → FollowsGuest o log history drops b p e) → IsKept o log history drops table b reach by → IsKept o (log ++ e ∷ []) history drops table b reach by
kept_event o log history drops e table b reach by follows h = record {
  storage = h.storage;
  since = h.since;
  given = h.given;
  in_range = h.in_range;
  newest = h.newest;
  stands = stands_event o log history drops e b h.storage h.since h.stands (follows h.storage h.given);
  origin = origin h.origin;
}
  where
    origin : Origin o log history drops b h.storage h.since (IsSureBy log by) → Origin o (log ++ e ∷ []) history drops b h.storage h.since (IsSureBy (log ++ e ∷ []) by)
    origin (inl k) = inl k
    origin (inr k) = inr (k.0, k.1, whole_event o log history drops e b h.storage k.0 k.2, sure_by_push log e by k.0 k.3)

pub kept_entry : (o : Opening) (log : List Entry) (history : List NumberedEntry) (old new : ℕ → Option ℕ) (x : NumberedEntry) (table : ℕ → Option ℕ) (b reach by : ℕ) → SameDrops old new (length history) → o.opened ≤ length log → x.number ≡ length log
    → ((p : ℕ) → table (o.layout.chunk_of b) ≡ Some p → EndsMirrored o log history old b p x) → (new (length history) ≡ Some (o.layout.chunk_of b) → reach ≤ length history)
    → IsKept o log history old table b reach by → IsKept o log (history ++ x ∷ []) new table b reach by
kept_entry o log history old new x table b reach by same opened number ends limit h = record {
  storage = h.storage;
  since = h.since;
  given = h.given;
  in_range = h.in_range;
  stands = stands_entry o log history old new x b h.storage h.since same (omega arith) h.stands (ends h.storage h.given) (λ s v block covers. early h.origin);
  origin = origin h.origin;
  newest = λ j n drop less. elim (drop_pushed old new history x j n (o.layout.chunk_of b) same drop) [
    | inl was ↦ h.newest j n was less
    | inr now ↦ absurd (let l = limit now.2 in omega (arith, now.0))
  ];
}
  where
    early : Origin o log history old b h.storage h.since (IsSureBy log by) → h.since ≤ x.number + 1
    early (inl k) = omega (arith, k.1)
    early (inr k) = let l = sure_by_below log by k.0 k.3 in omega (arith, k.1)

    origin : Origin o log history old b h.storage h.since (IsSureBy log by) → Origin o log (history ++ x ∷ []) new b h.storage h.since (IsSureBy log by)
    origin (inl k) = inl k
    origin (inr k) = inr (k.0, k.1, whole_entry o log history old new x b h.storage k.0 same (let l = sure_by_below log by k.0 k.3 in omega arith) k.2, k.3)

-- where the chunk's storage stays, a higher bound on the write and fewer discards are counted
pub kept_grown : (o : Opening) (log : List Entry) (history : List NumberedEntry) (drops : ℕ → Option ℕ) (old new : ℕ → Option ℕ) (b reach less by more : ℕ)
    → ((p : ℕ) → old (o.layout.chunk_of b) ≡ Some p → new (o.layout.chunk_of b) ≡ Some p) → ((j n : ℕ) → IsDrop drops history j n (o.layout.chunk_of b) → j < less → (j < reach)) → ((w : ℕ) → IsSureBy log by w → IsSureBy log more w)
    → IsKept o log history drops old b reach by → IsKept o log history drops new b less more
kept_grown o log history drops old new b reach less by more grows fewer better h = record {
  storage = h.storage;
  since = h.since;
  given = grows h.storage h.given;
  in_range = h.in_range;
  stands = h.stands;
  origin = origin h.origin;
  newest = λ j n drop below. h.newest j n drop (fewer j n drop below);
}
  where
    origin : Origin o log history drops b h.storage h.since (IsSureBy log by) → Origin o log history drops b h.storage h.since (IsSureBy log more)
    origin (inl k) = inl k
    origin (inr k) = inr (k.0, k.1, k.2, better k.0 k.3)

pub flushed_push : (log : List Entry) (e : Entry) (born : ℕ) → IsFlushedSince log born → IsFlushedSince (log ++ e ∷ []) born
flushed_push log e born h = (h.0, flushes_push log e h.0 h.1, h.2)

-- answers

pub answered_event : (o : Opening) (log : List Entry) (drops : ℕ → Option ℕ) (history : List NumberedEntry) (stale off_base : ℕ → Bool) (reach : ℕ) (e : Entry) → AreAnswered o log drops history stale off_base reach → AreAnswered o (log ++ e ∷ []) drops history stale off_base reach
answered_event o log drops history stale off_base reach e h = record {
  flushed = λ a n f. let k = h.flushed a n f in (k.0, flushes_push log e k.0 k.1, k.2);
  logged = h.logged;
  reached = h.reached;
}

pub behind_push : (o : Opening) (old new : ℕ → Option ℕ) (history : List NumberedEntry) (stale off_base : ℕ → Bool) (x : NumberedEntry) (b j : ℕ) → SameDrops old new (length history) → IsBehind o old history stale off_base b j → IsBehind o new (history ++ x ∷ []) stale off_base b j
behind_push o old new history stale off_base x b j same h = (h.0, elim h.1 [ inl k ↦ inl k | inr k ↦ inr (dropped_after_push old new history x j (o.layout.chunk_of b) same k) ])

pub written_before_old : (o : Opening) (old new : ℕ → Option ℕ) (history : List NumberedEntry) (x : NumberedEntry) (a b j : ℕ) → SameDrops old new (length history) → a ≤ length history → IsWrittenBefore o new (history ++ x ∷ []) a b j → IsWrittenBefore o old history a b j
written_before_old o old new history x a b j same within h = elim (guest_ends_pushed history x j h.end h.end_number h.ends) [
  | inl k ↦ record {
    end = h.end;
    number = h.number;
    end_number = h.end_number;
    sector = h.sector;
    value = h.value;
    block = h.block;
    before = h.before;
    ends = k;
    writes = own_writes_old old new history x j h.number h.sector h.value same (ends_below history j h.end h.end_number k) h.writes;
  }
  | inr k ↦ absurd (let l = h.before in omega (arith, k.0))
]

pub answered_entry : (o : Opening) (log : List Entry) (history : List NumberedEntry) (m : Memory) (drops : ℕ → Option ℕ) (x : NumberedEntry) → SameDrops m.discards.drops drops (length history)
    → AreAnswered o log m.discards.drops history m.index.stale m.index.off_base m.discards.reach → AnswersWell o log history m x → AreAnswered o log drops (history ++ x ∷ []) m.index.stale m.index.off_base m.discards.reach
answered_entry o log history m drops x same h answers = record {
  flushed = λ a n f. elim (guest_flushes_pushed history x a n f) [
    | inl k ↦ h.flushed a n k
    | inr k ↦ (answers k.0 a n k.1 k.2).0
  ];
  logged = λ a n b j f w. behind_push o m.discards.drops drops history m.index.stale m.index.off_base x b j same (elim (guest_flushes_pushed history x a n f) [
    | inl k ↦ h.logged a n b j k (written_before_old o m.discards.drops drops history x a b j same (let l = at_below history a (record { event = k.event; number = n }) k.numbered in omega arith) w)
    | inr k ↦ (answers k.0 a n k.1 k.2).1 b j (written_before_old o m.discards.drops drops history x a b j same (let l = at_below history a (record { event = Ask k.0 Flush; number = n }) k.1 in omega arith) w)
  ]);
  reached = λ a n f. elim (guest_flushes_pushed history x a n f) [
    | inl k ↦ h.reached a n k
    | inr k ↦ (answers k.0 a n k.1 k.2).2
  ];
}

-- more blocks are stale, or no image takes more blocks from the base
pub answered_more : (o : Opening) (log : List Entry) (drops : ℕ → Option ℕ) (history : List NumberedEntry) (old new old_off new_off : ℕ → Bool) (reach more : ℕ) → AreAnswered o log drops history old old_off reach
    → ((b : ℕ) → old b ≡ true → new b ≡ true) → ((b : ℕ) → old_off b ≡ true → new_off b ≡ true) → reach ≤ more → AreAnswered o log drops history new new_off more
answered_more o log drops history old new old_off new_off reach more h stale off further = record {
  flushed = h.flushed;
  logged = λ a n b j f w. let k = h.logged a n b j f w in (off b k.0, elim k.1 [ inl is ↦ inl (stale b is) | inr is ↦ inr is ]);
  reached = λ a n f. let k = h.reached a n f in omega arith;
}
