-- The discard of a chunk keeps all that a core keeps.
use Rattle.std.proofs.Common.{ℕ, ◌≡◌, ◌<◌, List, [], ◌∷◌, ◌++◌, length, Some, None, Bool, refl, sym, subst}
use Rattle.vd_image.specs.Log.{Sector, CallId, Entry, Issue, Done, IsOpen, May}
use Rattle.vd_crash.specs.facts.Safe.{NumberedEntry, events, Opening}
use Rattle.vd_crash.specs.facts.Facts.{OwnWrites, IsClaimSettled, Holds}
use Rattle.vd_crash.specs.facts.Words.{IsDropWrite, IsDiscarded, discarded_memory}
use Rattle.vd_crash.proofs.facts.Growth.{EndsMirrored}
use Rattle.vd_crash.proofs.facts.Steps.{next_ordinary, shown_entry}
use Rattle.vd_crash.proofs.facts.Drops.{drops_same, updated_more, shown_drop, drop_known, drop_issued}
use Rattle.vd_crash.specs.flushes.Stage.{Flight, HasBlock, HasCall}
use Rattle.vd_crash.specs.flushes.Moves.{entry_now}
use Rattle.vd_crash.proofs.flushes.Passes.{open_in_flight}
use Rattle.vd_crash.proofs.flushes.Flights.{flights_drop}
use Rattle.vd_crash.proofs.flushes.Marks.{marks_taken}
use Rattle.vd_crash.proofs.flushes.Moves.{drop_ends, drop_keeps}
use Rattle.vd_crash.specs.primitives.Core.{Stage, IsCore}
use Rattle.vd_crash.proofs.primitives.Core.{stage_entry, stage_drop}
use Rattle.vd_crash.proofs.primitives.PassSteps.{kept}
use Rattle.vd_crash.proofs.primitives.IssueSteps.{none_open}
use Rattle.vd_crash.proofs.primitives.EndSteps.{write_block}
use Rattle.vd_crash.proofs.primitives.MarkSteps.{MarksHold}
use Rattle.vd_crash.specs.facts.Memory.{Discards, Memory}
use Rattle.vd_crash.specs.facts.Metadata.{Claim, Need, Local, Off_base, IsDue}

-- no ordinary write to the chunk is open, where no pass has a block of it
none_in_chunk : (o : Opening) (log : List Entry) (history : List NumberedEntry) (m : Memory) (flights : ℕ → Flight) (stage : Stage) (c : ℕ) → IsCore o log history m flights stage → ((k b : ℕ) → HasBlock (flights k) b → o.layout.chunk_of b ≡ c → ⊥)
    → (j n s : ℕ) (v : Sector) → OwnWrites m.discards.drops history j n s v → o.layout.chunk_of (o.layout.block_of s) ≡ c → IsOpen (events history) j → ⊥
none_in_chunk o log history m flights stage c core blocks j n s v w chunk is_open =
    let flight = open_in_flight (events history) j is_open in
    let has = core.in_flight.owned j is_open.id flight in
    blocks has.0 (o.layout.block_of s) (write_block o log history m (flights has.0) j n s v (core.in_flight.each has.0) has.1 w.0) chunk

-- what follows of the discard's own facts
pub record IsAfterDrop (o : Opening) (log : List Entry) (history : List NumberedEntry) (n : Memory) (x y : NumberedEntry) : Type 0 where
  pub issued : Holds o log (history ++ x ∷ []) n
  pub ends : (b q : ℕ) → n.index.table (o.layout.chunk_of b) ≡ Some q → EndsMirrored o log (history ++ x ∷ []) n.discards.drops b q y

after_drop : (o : Opening) (log : List Entry) (history : List NumberedEntry) (m : Memory) (flights : ℕ → Flight) (stage : Stage) (id : CallId) (first : ℕ) (content : List Sector) (c : ℕ) (fresh stale owed : ℕ → Bool) (d : Discards)
    → IsCore o log history m flights stage → c < o.layout.chunks → IsDropWrite o c (Issue id first content) → IsDiscarded o m (length history) c fresh stale owed d
    → ((k : ℕ) → HasCall (flights k) id → ⊥) → ((k b : ℕ) → HasBlock (flights k) b → o.layout.chunk_of b ≡ c → ⊥) → ((b : ℕ) → o.layout.chunk_of b ≡ c → m.pending b ≡ None)
    → IsAfterDrop o log history (discarded_memory m fresh stale owed d) (entry_now log (Issue id first content)) (entry_now log (Done id))
after_drop o log history m flights stage id first content c fresh stale owed d core within writes is calls blocks calm = record {
  issued = drop_issued o log history m id first content c fresh stale owed d core.holds within writes is calm (none_in_chunk o log history m flights stage c core blocks);
  ends = λ b q given j i s v is_open block w done. absurd (drop_ends log history m id first content c fresh stale owed d is (λ k l t u own flight. none_open o log history m flights id k core.in_flight calls flight) j i s v w is_open done);
}

pub core_drop : (o : Opening) (log : List Entry) (history : List NumberedEntry) (m : Memory) (flights : ℕ → Flight) (stage : Stage) (id : CallId) (first : ℕ) (content : List Sector) (c : ℕ) (fresh stale owed : ℕ → Bool) (d : Discards)
    → IsCore o log history m flights stage → c < o.layout.chunks → IsDropWrite o c (Issue id first content) → IsDiscarded o m (length history) c fresh stale owed d
    → ((k : ℕ) → HasCall (flights k) id → ⊥) → ((k b : ℕ) → HasBlock (flights k) b → o.layout.chunk_of b ≡ c → ⊥) → ((b : ℕ) → o.layout.chunk_of b ≡ c → m.pending b ≡ None)
    → IsCore o log ((history ++ entry_now log (Issue id first content) ∷ []) ++ entry_now log (Done id) ∷ []) (discarded_memory m fresh stale owed d) flights stage
core_drop o log history m flights stage id first content c fresh stale owed d core within writes is calls blocks calm =
    let after = after_drop o log history m flights stage id first content c fresh stale owed d core within writes is calls blocks calm in
    let k = drop_keeps o log history m id first content c fresh stale owed d (kept o log history m flights stage core) within writes is calm (none_in_chunk o log history m flights stage c core blocks)
    (λ j i s v own flight. none_open o log history m flights id j core.in_flight calls flight) in
    record {
      safe = k.safe;
      holds = k.holds;
      in_flight = flights_drop o log history m flights id first content c (length log) fresh stale owed d is core.holds.facts.opening.within calls blocks core.in_flight;
      so_far = stage_entry o log (history ++ entry_now log (Issue id first content) ∷ []) (discarded_memory m fresh stale owed d) stage (entry_now log (Done id))
          (next_ordinary o d.drops (history ++ entry_now log (Issue id first content) ∷ []) after.issued.facts.discards) core.holds.facts.opening.within refl after.ends
          (stage_drop o log history m stage id first content c fresh stale owed d is core.holds.facts.opening.within core.so_far);
      tickets = core.tickets;
    }

-- its marks stay: nothing more is due
pub marks_drop : (o : Opening) (log : List Entry) (history : List NumberedEntry) (m : Memory) (marked : ℕ → Bool) (flights : ℕ → Flight) (stage : Stage) (id : CallId) (first : ℕ) (content : List Sector) (c : ℕ) (fresh stale owed : ℕ → Bool) (d : Discards)
    → IsCore o log history m flights stage → c < o.layout.chunks → IsDropWrite o c (Issue id first content) → IsDiscarded o m (length history) c fresh stale owed d
    → ((k : ℕ) → HasCall (flights k) id → ⊥) → ((k b : ℕ) → HasBlock (flights k) b → o.layout.chunk_of b ≡ c → ⊥) → ((b : ℕ) → o.layout.chunk_of b ≡ c → m.pending b ≡ None)
    → MarksHold o log history m marked → MarksHold o log ((history ++ entry_now log (Issue id first content) ∷ []) ++ entry_now log (Done id) ∷ []) (discarded_memory m fresh stale owed d) marked
marks_drop o log history m marked flights stage id first content c fresh stale owed d core within writes is calls blocks calm h =
    marks_taken o (May o.before log) (IsClaimSettled o log history m m.discards.reach) (IsClaimSettled o log ((history ++ entry_now log (Issue id first content) ∷ []) ++ entry_now log (Done id) ∷ []) n d.reach) m.index n.index marked (λ e p given. given) shown fewer h
  where
    n : Memory
    n = discarded_memory m fresh stale owed d

    shown : (t : Claim) → IsClaimSettled o log history m m.discards.reach t → IsClaimSettled o log ((history ++ entry_now log (Issue id first content) ∷ []) ++ entry_now log (Done id) ∷ []) n d.reach t
    shown t before =
        let after = after_drop o log history m flights stage id first content c fresh stale owed d core within writes is calls blocks calm in
        let issued : IsClaimSettled o log (history ++ entry_now log (Issue id first content) ∷ []) n m.discards.reach t = shown_drop o log history m n id first content (drops_same m.discards.drops d.drops (length history) c is.drops) (λ e p given. given)
        (λ e zeros. updated_more m.discards.zeros d.zeros c e is.zeros zeros) (drop_known o log history m id first content c fresh stale owed d is) core.holds.facts.opening.within m.discards.reach core.holds.blocks.reach t before in
        subst (λ (r : ℕ). IsClaimSettled o log ((history ++ entry_now log (Issue id first content) ∷ []) ++ entry_now log (Done id) ∷ []) n r t) (sym is.reach)
        (shown_entry o log (history ++ entry_now log (Issue id first content) ∷ []) n (entry_now log (Done id)) (next_ordinary o d.drops (history ++ entry_now log (Issue id first content) ∷ []) after.issued.facts.discards) core.holds.facts.opening.within refl after.ends m.discards.reach t issued)

    fewer : (t : Need) → IsDue n.index t → IsDue m.index t
    fewer (Local b) due = ((is.stale_others b).0 due).0
    fewer (Off_base b) due = due
