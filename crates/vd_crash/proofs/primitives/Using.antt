-- What a core may take out of the word that it keeps.
use Rattle.std.proofs.Common.{ℕ, ◌≡◌, ◌+◌, ◌<◌, ◌⊎◌, inl, inr, List, length, Bool, true, false, Some, Ok, refl, subst}
use Rattle.vd_image.specs.Log.{Sector, CallId, Entry}
use Rattle.vd_image.specs.Image.{Header, geometry_of}
use Rattle.vd_crash.specs.facts.Safe.{NumberedEntry, Opening}
use Rattle.vd_crash.specs.facts.Facts.{NoDropFrom, IsLastDrop, IsDroppedAfter, IsWrittenBefore}
use Rattle.vd_crash.specs.flushes.Flushing.{IsDroppedFrom}
use Rattle.vd_crash.specs.flushes.Stage.{Flight, FlushProgress}
use Rattle.vd_crash.specs.primitives.Core.{Stage, Working}
use Rattle.vd_crash.specs.primitives.FlushSteps.{IsWorking, IsRecycleHeader, MayLowerTracked}
use Rattle.vd_crash.specs.primitives.Primitives.{State, state, IsNextHeader}
use Rattle.vd_crash.specs.primitives.Keeping.{KeepsCrashSafety}
use Rattle.vd_crash.proofs.primitives.Retrack.{same_tracked, lower_tracked}
use Rattle.vd_crash.specs.facts.Memory.{Memory}
use Rattle.vd_format.specs.Background.{background}
use Rattle.std.proofs.lemmas.Bool.{false_from_ne_true}

-- a block that isn't local of a chunk that isn't zeros has the content that it had at opening
pub kept_background : (o : Opening) (s : State) (t : ℕ) → KeepsCrashSafety o s → t < o.layout.size → s.memory.fresh (o.layout.block_of t) ≡ false → s.memory.discards.zeros (o.layout.chunk_of (o.layout.block_of t)) ≡ false
    → background o.base o.zeros s.memory.index.tracked t ≡ o.disk t
unfolding KeepsCrashSafety
kept_background o s t kept within not_fresh base = kept.core.holds.blocks.background_same t within (false_from_ne_true (s.memory.index.off_base (o.layout.block_of t)) not_off)
  where
    not_off : s.memory.index.off_base (o.layout.block_of t) ≡ true → ⊥
    not_off off = elim (kept.core.holds.blocks.off_base_known (o.layout.block_of t) off).1 [
      | inl stale ↦ (let fresh = (kept.core.holds.blocks.stale_settled (o.layout.block_of t) stale).0 in cc)
      | inr zeros ↦ cc
    ]

-- where the chunk is zeros, it was discarded, or it was never and the block's sectors were zeros at opening
pub kept_zeros : (o : Opening) (s : State) (t : ℕ) → KeepsCrashSafety o s → s.memory.fresh (o.layout.block_of t) ≡ false → s.memory.discards.zeros (o.layout.chunk_of (o.layout.block_of t)) ≡ true
    → IsLastDrop s.memory.discards.drops s.history (o.layout.chunk_of (o.layout.block_of t)) ⊎ (NoDropFrom s.memory.discards.drops s.history 0 (o.layout.chunk_of (o.layout.block_of t)) × (o.disk t ≡ o.zeros))
unfolding KeepsCrashSafety
kept_zeros o s t kept not_fresh zeros = elim (kept.core.holds.facts.zeros.from (o.layout.chunk_of (o.layout.block_of t)) zeros) [
  | inl dropped ↦ inl dropped
  | inr never ↦ inr (never.0, never.1 t refl (false_from_ne_true (s.memory.index.stale (o.layout.block_of t)) not_stale))
]
  where
    not_stale : s.memory.index.stale (o.layout.block_of t) ≡ true → ⊥
    not_stale stale = let fresh = (kept.core.holds.blocks.stale_settled (o.layout.block_of t) stale).0 in cc

-- each ordinary write that is done to a block that isn't local was before a discard of its chunk
pub kept_unwritten : (o : Opening) (s : State) (b j : ℕ) → KeepsCrashSafety o s → s.memory.fresh b ≡ false → IsWrittenBefore o s.memory.discards.drops s.history (length s.history) b j → IsDroppedAfter s.memory.discards.drops s.history j (o.layout.chunk_of b)
unfolding KeepsCrashSafety
kept_unwritten o s b j kept not_fresh written = elim (kept.core.holds.blocks.unlogged_untouched b j written) [
  | inr dropped ↦ dropped
  | inl known ↦ absurd (elim known [
    | inl stale ↦ (let fresh = (kept.core.holds.blocks.stale_settled b stale).0 in cc)
    | inr owed ↦ (let fresh = kept.core.holds.blocks.owed_local b owed in cc)
  ])
]

-- a local block exists, and its chunk has storage
pub kept_local : (o : Opening) (s : State) (b : ℕ) → KeepsCrashSafety o s → s.memory.fresh b ≡ true → (b < o.layout.blocks) × ((p : ℕ) × (s.memory.index.table (o.layout.chunk_of b) ≡ Some p))
unfolding KeepsCrashSafety
kept_local o s b kept fresh = let k = kept.core.holds.facts.contents_allowed b fresh 0 in (k.in_range, (k.storage, k.given))

-- a core whose flush has nothing in flight, with its stage written out
kept_at : (o : Opening) (s : State) (w : IsWorking s) → KeepsCrashSafety o s → KeepsCrashSafety o (state s.log s.history s.memory s.marked s.flights (Working w.call w.entry w.number w.data_at w.progress))
kept_at o s w kept = subst (λ (x : Stage). KeepsCrashSafety o (state s.log s.history s.memory s.marked s.flights x)) w.stage kept

-- What a flush has set out to write exists, its chunk has storage, and it is local unless its chunk was discarded since.
pub kept_wanted : (o : Opening) (s : State) (w : IsWorking s) (b : ℕ) → KeepsCrashSafety o s → w.progress.snapshot.wanted b ≡ true
    → (b < o.layout.blocks) × ((p : ℕ) × (s.memory.index.table (o.layout.chunk_of b) ≡ Some p)) × ((s.memory.fresh b ≡ true) ⊎ IsDroppedFrom s.memory.discards.drops s.history w.progress.snapshot.begun (o.layout.chunk_of b))
unfolding KeepsCrashSafety
kept_wanted o s w b was wanted =
    let kept = kept_at o s w was in
    let way = kept.core.so_far.way in
    let k = way.kept b wanted in (
      k.in_range,
      (k.storage, k.given),
      elim (way.wanted_was b wanted) [
        | inl is ↦ elim is [
          | inl stale ↦ inl (kept.core.holds.blocks.stale_settled b stale).0
          | inr block ↦ elim (way.owed b block) [ inl owed ↦ inl (kept.core.holds.blocks.owed_local b owed.0) | inr dropped ↦ inr dropped ]
        ]
        | inr dropped ↦ inr dropped
      ],
    )

-- the next header of a recycle that leaves the tracked part
pub kept_same_tracked : (o : Opening) (log : List Entry) (history : List NumberedEntry) (m : Memory) (marked : ℕ → Bool) (flights : ℕ → Flight) (call : CallId) (a n q : ℕ) (p : FlushProgress) (v : Sector) (next : Header)
    → KeepsCrashSafety o (state log history m marked flights (Working call a n q p)) → o.format.header_of v ≡ Ok next → geometry_of next ≡ o.layout.geometry → next.generation ≡ m.index.generation + 1 → next.tracked ≡ m.index.tracked
    → ((c : ℕ) → c < o.layout.chunks → p.paged c ≡ true) → IsNextHeader o m p v next m.index.tried
unfolding KeepsCrashSafety
kept_same_tracked o log history m marked flights call a n q p v next kept reads geometry generation tracked paged =
    same_tracked o log history m p v next kept.core.holds reads geometry generation tracked kept.core.so_far.way.tried paged

-- the same, of any core whose flush has nothing in flight
pub kept_recycle : (o : Opening) (s : State) (w : IsWorking s) (v : Sector) (next : Header) → KeepsCrashSafety o s → IsRecycleHeader o s.memory w.progress v next → next.tracked ≡ s.memory.index.tracked
    → IsNextHeader o s.memory w.progress v next s.memory.index.tried
kept_recycle o s w v next kept h tracked =
    kept_same_tracked o s.log s.history s.memory s.marked s.flights w.call w.entry w.number w.data_at w.progress v next (kept_at o s w kept) h.reads h.geometry h.generation tracked h.paged

-- and that of one which lowers it over sectors that are zero in the base or whose block is logged
pub kept_lower_tracked : (o : Opening) (s : State) (w : IsWorking s) (v : Sector) (next : Header) (tried : ℕ → Bool) → KeepsCrashSafety o s → IsRecycleHeader o s.memory w.progress v next
    → MayLowerTracked o s.memory w.progress.snapshot next tried → IsNextHeader o s.memory w.progress v next tried
unfolding KeepsCrashSafety
kept_lower_tracked o s w v next tried kept h may =
    lower_tracked o s.log s.history s.memory w.progress v next tried kept.core.holds h.reads h.geometry h.generation may.lower may.zero may.wider may.all may.wanted h.paged
