-- What each pass's step leaves of a flush's stage, whatever it is.
use Rattle.std.proofs.Common.{ℕ, ◌≡◌, ◌≤◌, ◌⊎◌, inl, inr, List, [], ◌∷◌, ◌++◌, length, Some, None, Option, Bool, true, arith, refl}
use Rattle.vd_image.specs.Log.{Asked, Sector, CallId, Entry, Flush, Ask, Done, Broke, Covers}
use Rattle.vd_image.specs.Image.{Header, IsApart}
use Rattle.vd_crash.specs.facts.Safe.{NumberedEntry, Opening}
use Rattle.vd_crash.specs.facts.Facts.{IsClaimSettled}
use Rattle.vd_crash.specs.flushes.Stage.{FlushProgress}
use Rattle.vd_crash.specs.facts.Words.{Grows, with_blocks, IsDiscarded, discarded_memory}
use Rattle.vd_crash.specs.primitives.Core.{IsAsking, AsksNone, Stage, Resting, Sending, Working, Putting, Syncing, Puts_next, Has_next, Syncs_next, Is_next, IsNext, StageHolds, StageTicket}
use Rattle.vd_image.proofs.Logs.{at_push, at_pushed, flushes_push}
use Rattle.vd_crash.proofs.facts.Growth.{FollowsGuest, EndsMirrored}
use Rattle.vd_crash.proofs.facts.Metadata.{WritesPlaces}
use Rattle.vd_crash.proofs.facts.Steps.{shown_event}
use Rattle.vd_crash.proofs.facts.Drops.{drop_entry}
use Rattle.vd_crash.proofs.flushes.Passes.{written_grown}
use Rattle.vd_crash.proofs.flushes.Evidence.{putting_push}
use Rattle.vd_crash.proofs.flushes.Stage.{under_way_event, so_far_event, so_far_beside}
use Rattle.vd_crash.proofs.flushes.Beside.{IsBeside, beside_memory, shown_beside, under_way_beside, beside_entry, beside_blocks, beside_storage, beside_drop}
use Rattle.vd_crash.specs.facts.Memory.{Discards, Memory}
use Rattle.vd_crash.proofs.flushes.Synced.{last_push}
pub use Rattle.vd_crash.specs.primitives.Primitives.{with_table}
use Rattle.std.proofs.lemmas.List.{length_push}

-- the header is no place
no_header : (o : Opening) (e : Entry) → IsApart o.layout → WritesPlaces o e → (u : Sector) → Covers e o.layout.header_at u → ⊥
no_header o e apart places u covers = let p = places o.layout.header_at u covers in apart.place_header p.0 p.1 p.2 p.3

-- what is asked stays asked
pub asking_push : (log : List Entry) (e : Entry) (q : ℕ) (ticket : CallId) → ((request : Asked) → e ≡ Ask ticket request → ⊥) → IsAsking log q ticket → IsAsking (log ++ e ∷ []) q ticket
asking_push log e q ticket none h = record {
  asked = at_push log e q (Ask ticket Flush) h.asked;
  newest = λ m request after found. elim (at_pushed log e m (Ask ticket request) found) [ inl old ↦ h.newest m request after old | inr new ↦ none request new.1 ];
}

-- after an event of another pass
pub stage_event : (o : Opening) (log : List Entry) (history : List NumberedEntry) (m : Memory) (stage : Stage) (e : Entry) → IsApart o.layout → WritesPlaces o e → ((b q : ℕ) → m.index.table (o.layout.chunk_of b) ≡ Some q → FollowsGuest o log history m.discards.drops b q e)
    → ((t : CallId) → StageTicket stage t → (Done t ≡ e) ⊎ (Broke t ≡ e) → ⊥) → AsksNone stage e → StageHolds o log history m stage → StageHolds o (log ++ e ∷ []) history m stage
stage_event o log history m Resting e apart places follows other asks h = tt
stage_event o log history m (Sending call a n q snapshot ticket) e apart places follows other asks h =
    (under_way_event o log history m snapshot call a n q e m.index.sure m.index.tried m.index.cursor follows h.0.tried h.0, asking_push log e q ticket (λ request. asks ticket request refl) h.1)
stage_event o log history m (Working call a n q p) e apart places follows other asks h = so_far_event o log history m call a n q p e apart places follows h
stage_event o log history m (Putting call a n q p sector i v ticket) e apart places follows other asks h = (
  so_far_event o log history m call a n q p e apart places follows h.0,
  putting_push log e sector v ticket i (λ k. other ticket refl (inl k)) (λ k. other ticket refl (inr k)) (λ u covers. let w = places sector u covers in h.2 w.0 w.1 w.2 w.3) h.1,
  h.2,
  λ c within same. written_grown o (IsClaimSettled o log history m p.snapshot.begun) (IsClaimSettled o (log ++ e ∷ []) history m p.snapshot.begun) m m p.snapshot c v (shown_event o log history m e follows p.snapshot.begun) (λ d s given. given) (h.3 c within same),
)
stage_event o log history m (Syncing call a n q p r ticket) e apart places follows other asks h = (so_far_event o log history m call a n q p e apart places follows h.0, asking_push log e r ticket (λ request. asks ticket request refl) h.1, h.2)
stage_event o log history m (Puts_next call a n q p i v next ticket) e apart places follows other asks h = (
  so_far_event o log history m call a n q p e apart places follows h.0,
  putting_push log e o.layout.header_at v ticket i (λ k. other ticket refl (inl k)) (λ k. other ticket refl (inr k)) (no_header o e apart places) h.1,
  h.2,
)
stage_event o log history m (Has_next call a n q p by v next) e apart places follows other asks h =
    (so_far_event o log history m call a n q p e apart places follows h.0, last_push log e o.layout.header_at v by (no_header o e apart places) h.1, h.2, (let l = length_push log e in let k = h.3 in omega arith))
stage_event o log history m (Syncs_next call a n q p by v next r ticket) e apart places follows other asks h =
    (so_far_event o log history m call a n q p e apart places follows h.0, last_push log e o.layout.header_at v by (no_header o e apart places) h.1, h.2, asking_push log e r ticket (λ request. asks ticket request refl) h.3, h.4)
stage_event o log history m (Is_next call a n q p by v next r) e apart places follows other asks h =
    (so_far_event o log history m call a n q p e apart places follows h.0, last_push log e o.layout.header_at v by (no_header o e apart places) h.1, h.2, flushes_push log e r h.3, h.4)

next_beside : (o : Opening) (m : Memory) (table : ℕ → Option ℕ) (stale fresh : ℕ → Bool) (born : ℕ → ℕ) (owed : ℕ → Bool) (pending : ℕ → Option ℕ) (d : Discards) (p : FlushProgress) (v : Sector) (next : Header) → IsNext o m p v next → IsNext o (beside_memory m table stale fresh born owed pending d) p v next
next_beside o m table stale fresh born owed pending d p v next h = record { reads = h.reads; generation = h.generation; background = h.background; paged = h.paged }

-- after a step of another pass that leaves the store's log
pub stage_beside : (o : Opening) (log : List Entry) (history later : List NumberedEntry) (m : Memory) (stage : Stage) (table : ℕ → Option ℕ) (stale fresh : ℕ → Bool) (born : ℕ → ℕ) (owed : ℕ → Bool) (pending : ℕ → Option ℕ) (d : Discards)
    → IsBeside o log history later m table stale fresh born owed d → StageHolds o log history m stage → StageHolds o log later (beside_memory m table stale fresh born owed pending d) stage
stage_beside o log history later m Resting table stale fresh born owed pending d beside h = tt
stage_beside o log history later m (Sending call a n q snapshot ticket) table stale fresh born owed pending d beside h = (under_way_beside o log history later m table stale fresh born owed pending d snapshot call a n q beside h.0, h.1)
stage_beside o log history later m (Working call a n q p) table stale fresh born owed pending d beside h = so_far_beside o log history later m table stale fresh born owed pending d call a n q p beside h
stage_beside o log history later m (Putting call a n q p sector i v ticket) table stale fresh born owed pending d beside h = (
  so_far_beside o log history later m table stale fresh born owed pending d call a n q p beside h.0,
  h.1,
  h.2,
  λ c within same. written_grown o (IsClaimSettled o log history m p.snapshot.begun) (IsClaimSettled o log later (beside_memory m table stale fresh born owed pending d) p.snapshot.begun) m (beside_memory m table stale fresh born owed pending d) p.snapshot c v
      (shown_beside o log history later m table stale fresh born owed pending d beside p.snapshot.begun h.0.way.begun) beside.grows (h.3 c within same),
)
stage_beside o log history later m (Syncing call a n q p r ticket) table stale fresh born owed pending d beside h = (so_far_beside o log history later m table stale fresh born owed pending d call a n q p beside h.0, h.1, h.2)
stage_beside o log history later m (Puts_next call a n q p i v next ticket) table stale fresh born owed pending d beside h =
    (so_far_beside o log history later m table stale fresh born owed pending d call a n q p beside h.0, h.1, next_beside o m table stale fresh born owed pending d p v next h.2)
stage_beside o log history later m (Has_next call a n q p by v next) table stale fresh born owed pending d beside h =
    (so_far_beside o log history later m table stale fresh born owed pending d call a n q p beside h.0, h.1, next_beside o m table stale fresh born owed pending d p v next h.2, h.3)
stage_beside o log history later m (Syncs_next call a n q p by v next r ticket) table stale fresh born owed pending d beside h =
    (so_far_beside o log history later m table stale fresh born owed pending d call a n q p beside h.0, h.1, next_beside o m table stale fresh born owed pending d p v next h.2, h.3, h.4)
stage_beside o log history later m (Is_next call a n q p by v next r) table stale fresh born owed pending d beside h =
    (so_far_beside o log history later m table stale fresh born owed pending d call a n q p beside h.0, h.1, next_beside o m table stale fresh born owed pending d p v next h.2, h.3, h.4)

-- after an entry that is no discard, and no Done but of a write that is mirrored
pub stage_entry : (o : Opening) (log : List Entry) (history : List NumberedEntry) (m : Memory) (stage : Stage) (x : NumberedEntry) → m.discards.drops (length history) ≡ None → o.opened ≤ length log → x.number ≡ length log
    → ((b q : ℕ) → m.index.table (o.layout.chunk_of b) ≡ Some q → EndsMirrored o log history m.discards.drops b q x) → StageHolds o log history m stage → StageHolds o log (history ++ x ∷ []) m stage
stage_entry o log history m stage x none opened number ends h =
    stage_beside o log history (history ++ x ∷ []) m stage m.index.table m.index.stale m.fresh m.born m.owed m.pending m.discards (beside_entry o log history m x none opened number ends) h

-- after a change of blocks
pub stage_blocks : (o : Opening) (log : List Entry) (history : List NumberedEntry) (m : Memory) (stage : Stage) (fresh : ℕ → Bool) (born : ℕ → ℕ) (owed : ℕ → Bool) (pending : ℕ → Option ℕ)
    → ((b : ℕ) → m.owed b ≡ true → m.fresh b ≡ true) → ((b : ℕ) → m.fresh b ≡ true → fresh b ≡ true) → ((b : ℕ) → m.owed b ≡ true → owed b ≡ true) → ((b : ℕ) → m.fresh b ≡ true → born b ≡ m.born b)
    → StageHolds o log history m stage → StageHolds o log history (with_blocks m fresh born owed pending) stage
stage_blocks o log history m stage fresh born owed pending local more_fresh more same h =
    stage_beside o log history history m stage m.index.table m.index.stale fresh born owed pending m.discards (beside_blocks o log history m fresh born owed more_fresh more (λ b is. same b (local b is))) h

pub stage_storage : (o : Opening) (log : List Entry) (history : List NumberedEntry) (m : Memory) (stage : Stage) (table : ℕ → Option ℕ) → Grows m.index.table table
    → StageHolds o log history m stage → StageHolds o log history (with_table m table) stage
stage_storage o log history m stage table grows h = stage_beside o log history history m stage table m.index.stale m.fresh m.born m.owed m.pending m.discards (beside_storage o log history m table grows) h

-- after the issue of a discard
pub stage_drop : (o : Opening) (log : List Entry) (history : List NumberedEntry) (m : Memory) (stage : Stage) (id : CallId) (first : ℕ) (content : List Sector) (c : ℕ) (fresh stale owed : ℕ → Bool) (d : Discards)
    → IsDiscarded o m (length history) c fresh stale owed d → o.opened ≤ length log → StageHolds o log history m stage → StageHolds o log (history ++ drop_entry log id first content ∷ []) (discarded_memory m fresh stale owed d) stage
stage_drop o log history m stage id first content c fresh stale owed d is opened h =
    stage_beside o log history (history ++ drop_entry log id first content ∷ []) m stage m.index.table stale fresh m.born owed m.pending d (beside_drop o log history m id first content c fresh stale owed d is opened) h
