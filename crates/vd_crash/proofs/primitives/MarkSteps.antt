-- What each primitive leaves of what the marks of pages say.
use Rattle.std.proofs.Common.{ℕ, ◌≡◌, ◌<◌, ◌⊎◌, inl, inr, List, [], ◌∷◌, ◌++◌, length, Some, Option, Bool, true, false, refl}
use Rattle.vd_image.specs.Log.{Sector, CallId, Entry, May}
use Rattle.vd_image.specs.Image.{IsApart}
use Rattle.vd_crash.specs.facts.Safe.{NumberedEntry, Opening}
use Rattle.vd_crash.specs.facts.Facts.{IsClaimSettled, Holds}
use Rattle.vd_crash.specs.facts.Words.{WritesNothing, WritesOnly, with_blocks, with_index, Sealing, sealed_memory, Grows}
use Rattle.vd_crash.specs.flushes.Flushing.{IsWanted, IsLogged, IsWantedPage, IsWrittenPage, AreMarks, flush_ask}
use Rattle.vd_crash.specs.flushes.Stage.{FlushProgress, IsSoFar}
use Rattle.vd_crash.specs.primitives.Primitives.{with_table}
use Rattle.vd_crash.proofs.facts.Growth.{FollowsGuest, EndsMirrored}
use Rattle.vd_crash.proofs.facts.Metadata.{WritesPlaces, no_more_metadata, right_page_more}
use Rattle.vd_crash.proofs.facts.Steps.{next_ordinary, shown_event, shown_entry}
use Rattle.vd_crash.proofs.facts.Writes.{shown_blocks}
use Rattle.vd_crash.proofs.facts.Ends.{shown_taken}
use Rattle.vd_crash.proofs.flushes.Puts.{is_due, one_more}
use Rattle.vd_crash.proofs.flushes.Marks.{marks_less, marks_put, marks_taken, marks_flushed, caught_page}
use Rattle.vd_crash.proofs.flushes.Stage.{nothing_places, quiet_follows}
use Rattle.vd_crash.specs.facts.Memory.{Memory, IsTable}
use Rattle.vd_crash.specs.facts.Metadata.{Claim, Need, Local, Off_base, chunk_in, IsDue}
use Rattle.vd_crash.proofs.flushes.Wanted.{shown_index, shown_less, wanted_written, off_after_wanted, due_wanted}
use Rattle.vd_crash.proofs.flushes.Putting.{WritesNoPlace, no_place_follows, only_no_place}
use Rattle.vd_crash.proofs.flushes.Sealing.{right_sealed}

-- what the marks of a memory's pages say after these logs
abbrev pub MarksHold : Opening → List Entry → List NumberedEntry → Memory → (ℕ → Bool) → Type 0
MarksHold o log history m marked = AreMarks o (May o.before log) (IsClaimSettled o log history m m.discards.reach) m.index marked

-- an event that puts into each block's place what stands in the block, and writes to places of storage alone
pub marks_event : (o : Opening) (log : List Entry) (history : List NumberedEntry) (m : Memory) (marked : ℕ → Bool) (e : Entry) → IsApart o.layout → WritesPlaces o e → ((b q : ℕ) → m.index.table (o.layout.chunk_of b) ≡ Some q → FollowsGuest o log history m.discards.drops b q e)
    → MarksHold o log history m marked → MarksHold o (log ++ e ∷ []) history m marked
marks_event o log history m marked e apart places follows h =
    marks_less o (May o.before (log ++ e ∷ [])) (May o.before log) (IsClaimSettled o log history m m.discards.reach) (IsClaimSettled o (log ++ e ∷ []) history m m.discards.reach) m.index marked (no_more_metadata o log e apart places) (shown_event o log history m e follows m.discards.reach) h

pub marks_quiet : (o : Opening) (log : List Entry) (history : List NumberedEntry) (m : Memory) (marked : ℕ → Bool) (e : Entry) → IsApart o.layout → WritesNothing e → MarksHold o log history m marked → MarksHold o (log ++ e ∷ []) history m marked
marks_quiet o log history m marked e apart quiet h = marks_event o log history m marked e apart (nothing_places o e quiet) (quiet_follows o log history m e quiet) h

-- an entry that is no discard, and no Done but of a write that is mirrored
pub marks_entry : (o : Opening) (log : List Entry) (history : List NumberedEntry) (m : Memory) (marked : ℕ → Bool) (x : NumberedEntry) → Holds o log history m → x.number ≡ length log
    → ((b q : ℕ) → m.index.table (o.layout.chunk_of b) ≡ Some q → EndsMirrored o log history m.discards.drops b q x) → MarksHold o log history m marked → MarksHold o log (history ++ x ∷ []) m marked
marks_entry o log history m marked x holds number ends h =
    marks_taken o (May o.before log) (IsClaimSettled o log history m m.discards.reach) (IsClaimSettled o log (history ++ x ∷ []) m m.discards.reach) m.index m.index marked (λ c p given. given)
    (shown_entry o log history m x (next_ordinary o m.discards.drops history holds.facts.discards) holds.facts.opening.within number ends m.discards.reach) (λ t due. due) h

-- a change of blocks
pub marks_blocks : (o : Opening) (log : List Entry) (history : List NumberedEntry) (m : Memory) (marked fresh : ℕ → Bool) (born : ℕ → ℕ) (owed : ℕ → Bool) (pending : ℕ → Option ℕ) → ((b : ℕ) → m.fresh b ≡ true → fresh b ≡ true) → MarksHold o log history m marked → MarksHold o log history (with_blocks m fresh born owed pending) marked
marks_blocks o log history m marked fresh born owed pending more h =
    marks_taken o (May o.before log) (IsClaimSettled o log history m m.discards.reach) (IsClaimSettled o log history (with_blocks m fresh born owed pending) m.discards.reach) m.index m.index marked (λ c p given. given)
    (shown_blocks o log history m fresh born owed pending more m.discards.reach) (λ t due. due) h

-- chunks take storage
pub marks_table : (o : Opening) (log : List Entry) (history : List NumberedEntry) (m : Memory) (marked : ℕ → Bool) (table : ℕ → Option ℕ) → Grows m.index.table table → MarksHold o log history m marked → MarksHold o log history (with_table m table) marked
marks_table o log history m marked table grows h =
    marks_taken o (May o.before log) (IsClaimSettled o log history m m.discards.reach) (IsClaimSettled o log history (with_table m table) m.discards.reach) m.index (with_table m table).index marked grows
    (shown_taken o log history m table grows m.discards.reach) due h
  where
    due : (t : Need) → IsDue (with_table m table).index t → IsDue m.index t
    due (Local b) is = is
    due (Off_base b) is = is

index_due : (m : Memory) (sure : Bool) (tried : ℕ → Bool) (cursor : ℕ) (t : Need) → IsDue (with_index m sure tried cursor).index t → IsDue m.index t
index_due m sure tried cursor (Local b) is = is
index_due m sure tried cursor (Off_base b) is = is

-- what is shown after a put, by the memory of then
put_shown : (o : Opening) (log : List Entry) (history : List NumberedEntry) (m : Memory) (e : Entry) (sure : Bool) (tried : ℕ → Bool) (cursor : ℕ) → IsTable o.layout.storage m.index.table → WritesNoPlace o e
    → (t : Claim) → IsClaimSettled o log history m m.discards.reach t → IsClaimSettled o (log ++ e ∷ []) history (with_index m sure tried cursor) m.discards.reach t
put_shown o log history m e sure tried cursor table none t shown =
    shown_index o (log ++ e ∷ []) history m sure tried cursor m.discards.reach t (shown_event o log history m e (no_place_follows o log history m e table none) m.discards.reach t shown)

-- a put into a slot or the header
pub marks_elsewhere : (o : Opening) (log : List Entry) (history : List NumberedEntry) (m : Memory) (marked : ℕ → Bool) (e : Entry) (a : ℕ) (v : Sector) (sure : Bool) (tried : ℕ → Bool) (cursor : ℕ) → Holds o log history m
    → ((p s : ℕ) → p < o.layout.storage → o.layout.place p s ≡ a → ⊥) → ((c : ℕ) → c < o.layout.chunks → o.layout.map_at c ≡ a → ⊥) → WritesOnly e a v → MarksHold o log history m marked → MarksHold o (log ++ e ∷ []) history (with_index m sure tried cursor) marked
marks_elsewhere o log history m marked e a v sure tried cursor holds no_place no_page only h =
    marks_taken o (May o.before (log ++ e ∷ [])) (IsClaimSettled o (log ++ e ∷ []) history (with_index m sure tried cursor) m.discards.reach) (IsClaimSettled o (log ++ e ∷ []) history (with_index m sure tried cursor) m.discards.reach) m.index (with_index m sure tried cursor).index marked
    (λ c p given. given) (λ t shown. shown) (index_due m sure tried cursor)
    (marks_put o (May o.before (log ++ e ∷ [])) (May o.before log) (IsClaimSettled o log history m m.discards.reach) (IsClaimSettled o (log ++ e ∷ []) history (with_index m sure tried cursor) m.discards.reach) a v m.index marked (one_more o log e a v only)
    (put_shown o log history m e sure tried cursor holds.facts.storage_one_to_one (only_no_place o e a v only no_place))
    (λ c within same. absurd (no_page c within same)) (λ t within due same. absurd (no_page (chunk_in o t) within same)) h)

-- a put of a page
pub marks_page : (o : Opening) (log : List Entry) (history : List NumberedEntry) (m : Memory) (marked : ℕ → Bool) (call : CallId) (a n q : ℕ) (p : FlushProgress) (e : Entry) (v : Sector) (page : ℕ) → Holds o log history m
    → IsSoFar o log history m (flush_ask call a n) q p → page < o.layout.chunks → WritesOnly e (o.layout.map_at page) v → ((c : ℕ) → c < o.layout.chunks → o.layout.map_at c ≡ o.layout.map_at page → IsWantedPage o m p.snapshot c v)
    → MarksHold o log history m marked → MarksHold o (log ++ e ∷ []) history (with_index m m.index.sure m.index.tried m.index.cursor) marked
marks_page o log history m marked call a n q p e v page holds so_far room only pages h =
    marks_put o (May o.before (log ++ e ∷ [])) (May o.before log) (IsClaimSettled o log history m m.discards.reach) (IsClaimSettled o (log ++ e ∷ []) history new m.discards.reach) (o.layout.map_at page) v m.index marked (one_more o log e (o.layout.map_at page) v only) still
    (λ c within same. right_page_more o (IsClaimSettled o log history m p.snapshot.begun) (IsClaimSettled o (log ++ e ∷ []) history new m.discards.reach) m.index.table m.index.table c v
    (λ t shown. still t (shown_less o log history m p.snapshot.begun m.discards.reach so_far.way.reach t shown)) (λ d s given. given) (written c within same).right)
    (λ t within due same. (written (chunk_in o t) within same).has t refl (due_wanted o log history m p.snapshot call a n q t holds so_far.way (is_due m.index t due)).1) h
  where
    new : Memory
    new = with_index m m.index.sure m.index.tried m.index.cursor

    still : (t : Claim) → IsClaimSettled o log history m m.discards.reach t → IsClaimSettled o (log ++ e ∷ []) history new m.discards.reach t
    still = put_shown o log history m e m.index.sure m.index.tried m.index.cursor holds.facts.storage_one_to_one (only_no_place o e (o.layout.map_at page) v only (λ s t within same. holds.apart.place_map s t page within room same))

    written : (c : ℕ) → c < o.layout.chunks → o.layout.map_at c ≡ o.layout.map_at page → IsWrittenPage o (IsClaimSettled o log history m p.snapshot.begun) m p.snapshot c v
    written c within same = wanted_written o log history m p.snapshot call a n q c v holds so_far.way so_far.flushes (pages c within same)

-- a sync: pages that are caught up may lose their marks
pub marks_synced : (o : Opening) (log : List Entry) (history : List NumberedEntry) (m : Memory) (marked now : ℕ → Bool) (call : CallId) (a n q : ℕ) (p : FlushProgress) → Holds o log history m → IsSoFar o log history m (flush_ask call a n) q p
    → ((c : ℕ) → c < o.layout.chunks → now (o.layout.map_at c) ≡ false → (marked (o.layout.map_at c) ≡ false) ⊎ (p.paged c ≡ true)) → MarksHold o log history m marked → MarksHold o log history m now
marks_synced o log history m marked now call a n q p holds so_far cleared h =
    marks_flushed o (May o.before log) (IsClaimSettled o log history m m.discards.reach) m.index marked now
    (λ c within unmarked. elim (cleared c within unmarked) [
      | inl was ↦ inl was
      | inr paged ↦ inr (λ v left. right_page_more o (IsClaimSettled o log history m p.snapshot.begun) (IsClaimSettled o log history m m.discards.reach) m.index.table m.index.table c v (shown_less o log history m p.snapshot.begun m.discards.reach so_far.way.reach) (λ d s given. given) (so_far.paged c paged v left).right)
    ])
    (λ t due unmarked.
    let wanted = due_wanted o log history m p.snapshot call a n q t holds so_far.way (is_due m.index t due) in
    elim (cleared (chunk_in o t) wanted.0 unmarked) [ inl was ↦ inl was | inr paged ↦ inr (caught_page o log history m call a n q p t so_far paged wanted.0 wanted.1) ])
    h

-- a seal of a recycle: no page needs a mark
pub marks_recycled : (o : Opening) (log : List Entry) (history : List NumberedEntry) (m : Memory) (now : ℕ → Bool) (call : CallId) (a n q generation tracked : ℕ) (p : FlushProgress) (z : Sealing) (none : ℕ → Bool) → Holds o log history m → IsSoFar o log history m (flush_ask call a n) q p
    → IsLogged o history m p.snapshot z → ((c : ℕ) → c < o.layout.chunks → p.paged c ≡ true) → MarksHold o log history (sealed_memory m generation tracked true none 0 z) now
marks_recycled o log history m now call a n q generation tracked p z none holds so_far logged all = record {
  right = λ c v within unmarked left.
      let w = so_far.paged c (all c within) v left in
      record { mapping = w.right.mapping; reads = w.right.reads; right = right_sealed o log history m p.snapshot generation tracked true none 0 z c w.right.mapping logged w.only w.right.right };
  due = λ t due unmarked. let wanted = wanted t due in caught_page o log history m call a n q p t so_far (all (chunk_in o t) wanted.0) wanted.0 wanted.1;
}
  where
    wanted : (t : Need) → IsDue (sealed_memory m generation tracked true none 0 z).index t → (chunk_in o t < o.layout.chunks) × IsWanted o p.snapshot t
    wanted (Local b) due = elim (logged.stale_was b due) [
      | inl stale ↦ due_wanted o log history m p.snapshot call a n q (Local b) holds so_far.way stale
      | inr block ↦ (holds.apart.chunks b (so_far.way.kept b (so_far.way.blocks_wanted b block.0)).in_range, so_far.way.blocks_wanted b block.0)
    ]
    wanted (Off_base b) due = off_after_wanted o log history m p.snapshot call a n q b holds so_far.way ((logged.off_is b).0 due)
