-- What an event of the store's log, or an entry of the history, leaves of all facts.
use Rattle.std.proofs.Common.{ℕ, ◌≡◌, ◌+◌, ◌<◌, ◌≤◌, ◌⊎◌, inl, inr, List, [], ◌∷◌, ◌++◌, length, Some, None, Option, Bool, arith}
use Rattle.vd_image.specs.Log.{Sector, CallId, Entry, Done, Covers, IsOpen, May}
use Rattle.vd_image.specs.Image.{IsApart}
use Rattle.vd_crash.specs.facts.Safe.{NumberedEntry, events, Opening}
use Rattle.vd_crash.specs.facts.Facts.{OwnWrites, NoDropFrom, AreDrops, AreZeros, IsKnown, IsClaimSettled, IsSettled, IsWrittenBefore, CrashFacts, IsPending, IsIssued, Holds}
use Rattle.vd_image.proofs.Logs.{at_below, writes_push, writes_pushed}
use Rattle.vd_crash.proofs.facts.Growth.{opened_event, FollowsGuest, EndsMirrored, whole_event, whole_entry, kept_event, kept_entry, flushed_push, answered_event, answered_entry}
use Rattle.vd_crash.proofs.facts.Metadata.{metadata_less, metadata_same, WritesPlaces, no_more_metadata}
use Rattle.vd_crash.specs.facts.Memory.{Discards, Memory}
use Rattle.vd_crash.specs.facts.Metadata.{Claim, Stored, Zero}
use Rattle.vd_crash.proofs.facts.HistoryGrowth.{length_events, guest_writes_push, guest_writes_below, guest_ends_pushed, guest_open_pushed, SameDrops, same_drops, drop_below, drop_push, drop_pushed, drop_old, own_pushed, dropped_after_push, numbers_event, numbers_entry, ends_below, open_below, guest_writes_old, own_writes_old}
use Rattle.vd_crash.specs.facts.Words.{AnswersWell}
pub use Rattle.vd_crash.specs.facts.Words.{WritesNothing, with_blocks}
use Rattle.std.proofs.lemmas.List.{length_push}
use Rattle.vd_lists.proofs.Options.{cases_option}

-- the next entry is no discard, as long as nothing is said of it
pub next_ordinary : (o : Opening) (drops : ℕ → Option ℕ) (history : List NumberedEntry) → AreDrops o drops history → drops (length history) ≡ None
next_ordinary o drops history h = elim (cases_option (drops (length history))) [ inl none ↦ none | inr is ↦ absurd (let l = (h.within (length history) is.0 is.1).0 in omega arith) ]

-- what is known stays so
pub known_push : (o : Opening) (old new : ℕ → Option ℕ) (history : List NumberedEntry) (x : NumberedEntry) (fresh : ℕ → Bool) (b : ℕ) → SameDrops old new (length history) → IsKnown o history old fresh b → IsKnown o (history ++ x ∷ []) new fresh b
known_push o old new history x fresh b same (inl is) = inl is
known_push o old new history x fresh b same (inr dropped) = inr (dropped.0, dropped.1, drop_push old new history x dropped.0 dropped.1 (o.layout.chunk_of b) same dropped.2)

-- What is shown stays so after an event that puts into each block's place what stands in the block.
pub shown_event : (o : Opening) (log : List Entry) (history : List NumberedEntry) (m : Memory) (e : Entry)
    → ((b p : ℕ) → m.index.table (o.layout.chunk_of b) ≡ Some p → FollowsGuest o log history m.discards.drops b p e)
    → (reach : ℕ) (t : Claim) → IsClaimSettled o log history m reach t → IsClaimSettled o (log ++ e ∷ []) history m reach t
shown_event o log history m e follows reach (Stored b) h = (kept_event o log history m.discards.drops e m.index.table b reach 0 (λ p given. follows b p given) h.0, h.1)
shown_event o log history m e follows reach (Zero c) h = h

-- and after an entry that is no discard, and no Done but of a write that is mirrored
pub shown_entry : (o : Opening) (log : List Entry) (history : List NumberedEntry) (m : Memory) (x : NumberedEntry) → m.discards.drops (length history) ≡ None → o.opened ≤ length log → x.number ≡ length log
    → ((b p : ℕ) → m.index.table (o.layout.chunk_of b) ≡ Some p → EndsMirrored o log history m.discards.drops b p x)
    → (reach : ℕ) (t : Claim) → IsClaimSettled o log history m reach t → IsClaimSettled o log (history ++ x ∷ []) m reach t
shown_entry o log history m x none opened number ends reach (Stored b) h = (
  kept_entry o log history m.discards.drops m.discards.drops x m.index.table b reach 0 (same_drops m.discards.drops (length history)) opened number (λ p given. ends b p given) (λ is. absurd cc) h.0,
  known_push o m.discards.drops m.discards.drops history x m.fresh b (same_drops m.discards.drops (length history)) h.1,
)
shown_entry o log history m x none opened number ends reach (Zero c) h = h

-- a store event that writes to places alone, and to those of blocks what stands in them
pub facts_event : (o : Opening) (log : List Entry) (history : List NumberedEntry) (m : Memory) (e : Entry) → IsApart o.layout → CrashFacts o log history m → WritesPlaces o e
    → ((b p : ℕ) → m.index.table (o.layout.chunk_of b) ≡ Some p → FollowsGuest o log history m.discards.drops b p e)
    → CrashFacts o (log ++ e ∷ []) history m
facts_event o log history m e apart h places follows = record {
  numbers = numbers_event o.opened log m.discards.drops history e h.numbers;
  opening = opened_event o log e h.opening;
  discards = h.discards;
  answered = answered_event o log m.discards.drops history m.index.stale m.index.off_base m.discards.reach e h.answered;
  zeros = h.zeros;
  storage_one_to_one = h.storage_one_to_one;
  contents_allowed = λ b fresh reach. kept_event o log history m.discards.drops e m.index.table b reach (m.born b) (λ p given. follows b p given) (h.contents_allowed b fresh reach);
  metadata = metadata_less o (May o.before (log ++ e ∷ [])) (May o.before log) (IsClaimSettled o log history m m.discards.reach) (IsClaimSettled o (log ++ e ∷ []) history m m.discards.reach) m.index (no_more_metadata o log e apart places)
      (shown_event o log history m e follows m.discards.reach) h.metadata;
}

pub pending_event : (o : Opening) (log : List Entry) (history : List NumberedEntry) (drops : ℕ → Option ℕ) (table : ℕ → Option ℕ) (e : Entry) (b i : ℕ) → IsPending o log history drops table b i
    → ((s p : ℕ) (v : Sector) → o.layout.block_of s ≡ b → table (o.layout.chunk_of b) ≡ Some p → Covers e (o.layout.place p s) v → ⊥)
    → IsPending o (log ++ e ∷ []) history drops table b i
pending_event o log history drops table e b i h quiet = record {
  storage = h.storage;
  given = h.given;
  in_range = h.in_range;
  opened = h.opened;
  running = h.running;
  newest = h.newest;
  within = let l = length_push log e in let k = h.within in omega arith;
  whole = whole_event o log history drops e b h.storage i h.whole;
  quiet = λ k s v block after w. elim (writes_pushed log e k (o.layout.place h.storage s) v w) [
    | inl old ↦ h.quiet k s v block after old
    | inr new ↦ quiet s h.storage v block h.given new.1
  ];
}

pub issued_event : (o : Opening) (log : List Entry) (history : List NumberedEntry) (table : ℕ → Option ℕ) (e : Entry) (j n s : ℕ) (v : Sector) → (n < length log) × IsIssued o log history table j n s v → (n < length (log ++ e ∷ [])) × IsIssued o (log ++ e ∷ []) history table j n s v
issued_event o log history table e j n s v h = (
  let l = length_push log e in omega (arith, h.0),
  record { storage = h.1.storage; given = h.1.given; writes = writes_push log e n (o.layout.place h.1.storage s) v h.1.writes },
)

pub issued_entry : (o : Opening) (log : List Entry) (history : List NumberedEntry) (table : ℕ → Option ℕ) (x : NumberedEntry) (j n s : ℕ) (v : Sector) → j < length history → (n < length log) × IsIssued o log history table j n s v → (n < length log) × IsIssued o log (history ++ x ∷ []) table j n s v
issued_entry o log history table x j n s v below h = (h.0, record { storage = h.1.storage; given = λ is_open. h.1.given (guest_open_pushed history x j below is_open); writes = h.1.writes })

-- settled blocks stay settled
pub settled_push : (log : List Entry) (m : Memory) (e : Entry) (b : ℕ) → IsSettled log m b → IsSettled (log ++ e ∷ []) m b
settled_push log m e b h = (h.0, flushed_push log e (m.born b) h.1)

-- a store event that writes nothing
pub quiet_event : (o : Opening) (log : List Entry) (history : List NumberedEntry) (m : Memory) (e : Entry) → WritesNothing e → Holds o log history m → Holds o (log ++ e ∷ []) history m
quiet_event o log history m e quiet h = record {
  apart = h.apart;
  facts = facts_event o log history m e h.apart h.facts (λ s v covers. absurd (quiet s v covers)) (λ b p given s v block covers. absurd (quiet (o.layout.place p s) v covers));
  blocks = record {
    born = λ b fresh. let k = h.blocks.born b fresh in let l = length_push log e in omega arith;
    stale_settled = λ b stale. settled_push log m e b (h.blocks.stale_settled b stale);
    stale_off = h.blocks.stale_off;
    owed_local = h.blocks.owed_local;
    off_base_known = h.blocks.off_base_known;
    background_same = h.blocks.background_same;
    tried = h.blocks.tried;
    unlogged_untouched = h.blocks.unlogged_untouched;
    issues_stored = λ j n s v w. issued_event o log history m.index.table e j n s v (h.blocks.issues_stored j n s v w);
    pending = λ b i is. let k = h.blocks.pending b i is in (k.0, pending_event o log history m.discards.drops m.index.table e b i k.1 (λ s p v block given covers. quiet (o.layout.place p s) v covers));
    idle = h.blocks.idle;
    dropped = h.blocks.dropped;
    lost_zeros = h.blocks.lost_zeros;
    zeros_off = h.blocks.zeros_off;
    reach = h.blocks.reach;
  };
}

-- the facts after an entry that is no discard, with other blocks in memory

pub discards_entry : (o : Opening) (drops : ℕ → Option ℕ) (history : List NumberedEntry) (x : NumberedEntry) → AreDrops o drops history → AreDrops o drops (history ++ x ∷ [])
discards_entry o drops history x h = record {
  within = λ j c is. let k = h.within j c is in let l = length_push history x in (omega (arith, k.0), k.1);
  covers = λ j n m c s v drop w. let old = drop_old drops history x j n c (next_ordinary o drops history h) drop in h.covers j n m c s v old (guest_writes_old history x j m s v (drop_below drops history j n c old) w);
  whole = λ j n c s drop within chunk. guest_writes_push history x j n s o.zeros (h.whole j n c s (drop_old drops history x j n c (next_ordinary o drops history h) drop) within chunk);
}

pub no_drop_push : (drops : ℕ → Option ℕ) (history : List NumberedEntry) (x : NumberedEntry) (from c : ℕ) → drops (length history) ≡ None → NoDropFrom drops history from c → NoDropFrom drops (history ++ x ∷ []) from c
no_drop_push drops history x from c none h k n after drop = h k n after (drop_old drops history x k n c none drop)

pub zeros_entry : (o : Opening) (history : List NumberedEntry) (stale off_base : ℕ → Bool) (d : Discards) (x : NumberedEntry) → d.drops (length history) ≡ None → AreZeros o history stale off_base d → AreZeros o (history ++ x ∷ []) stale off_base d
zeros_entry o history stale off_base d x none h = record {
  from = λ c is. elim (h.from c is) [
    | inl last ↦ inl (record { at = last.at; number = last.number; is = drop_push d.drops d.drops history x last.at last.number c (same_drops d.drops (length history)) last.is; last = no_drop_push d.drops history x (last.at + 1) c none last.last })
    | inr never ↦ inr (no_drop_push d.drops history x 0 c none never.0, never.1)
  ];
  sealed_off = λ j n b drop less. h.sealed_off j n b (drop_old d.drops history x j n (o.layout.chunk_of b) none drop) less;
}

pub facts_entry : (o : Opening) (log : List Entry) (history : List NumberedEntry) (m : Memory) (owed : ℕ → Bool) (x : NumberedEntry)
    → CrashFacts o log history m → x.number ≡ length log
    → ((s : ℕ) (v : Sector) → Covers x.event s v → (j n t : ℕ) (u : Sector) → OwnWrites m.discards.drops history j n t u → n < length log)
    → ((b p : ℕ) → m.index.table (o.layout.chunk_of b) ≡ Some p → EndsMirrored o log history m.discards.drops b p x)
    → AnswersWell o log history m x
    → CrashFacts o log (history ++ x ∷ []) (with_blocks m m.fresh m.born owed m.pending)
facts_entry o log history m owed x h number issues ends answers = record {
  numbers = numbers_entry o.opened log m.discards.drops m.discards.drops history x same h.numbers h.opening.within number issues;
  opening = h.opening;
  discards = discards_entry o m.discards.drops history x h.discards;
  answered = answered_entry o log history m m.discards.drops x same h.answered answers;
  zeros = zeros_entry o history m.index.stale m.index.off_base m.discards x none h.zeros;
  storage_one_to_one = h.storage_one_to_one;
  contents_allowed = λ b fresh reach. kept_entry o log history m.discards.drops m.discards.drops x m.index.table b reach (m.born b) same h.opening.within number (λ p given. ends b p given) (λ is. absurd (let n = none in cc)) (h.contents_allowed b fresh reach);
  metadata = metadata_same o (May o.before log) (IsClaimSettled o log history m m.discards.reach) (IsClaimSettled o log (history ++ x ∷ []) (with_blocks m m.fresh m.born owed m.pending) m.discards.reach) m.index
      (λ t shown. as_blocks t (shown_entry o log history m x none h.opening.within number ends m.discards.reach t shown)) h.metadata;
}
  where
    none : m.discards.drops (length history) ≡ None
    none = next_ordinary o m.discards.drops history h.discards

    same : (j : ℕ) → j < length history → m.discards.drops j ≡ m.discards.drops j
    same = same_drops m.discards.drops (length history)

    as_blocks : (t : Claim) → IsClaimSettled o log (history ++ x ∷ []) m m.discards.reach t → IsClaimSettled o log (history ++ x ∷ []) (with_blocks m m.fresh m.born owed m.pending) m.discards.reach t
    as_blocks (Stored b) k = k
    as_blocks (Zero c) k = k

-- the entry ends no ordinary write
abbrev pub EndsNoOwn : (ℕ → Option ℕ) → List NumberedEntry → NumberedEntry → Type 0
EndsNoOwn drops history x = (j n s : ℕ) (v : Sector) → OwnWrites drops history j n s v → (h : IsOpen (events history) j) → x.event ≡ Done h.id → ⊥

pub no_done_ends : (drops : ℕ → Option ℕ) (history : List NumberedEntry) (x : NumberedEntry) → ((id : CallId) → x.event ≡ Done id → ⊥) → EndsNoOwn drops history x
no_done_ends drops history x none j n s v w is_open done = none is_open.id done

-- no ordinary write is done by an entry that ends none
pub written_push : (o : Opening) (old new : ℕ → Option ℕ) (history : List NumberedEntry) (x : NumberedEntry) (b j : ℕ) → SameDrops old new (length history) → EndsNoOwn old history x
    → IsWrittenBefore o new (history ++ x ∷ []) (length (history ++ x ∷ [])) b j → IsWrittenBefore o old history (length history) b j
written_push o old new history x b j same ends_none h = elim (guest_ends_pushed history x j h.end h.end_number h.ends) [
  | inl k ↦
      let below : h.end < length (events history) = at_below (events history) h.end (Done k.ends.id) k.ends.done in
      record {
        end = h.end;
        number = h.number;
        end_number = h.end_number;
        sector = h.sector;
        value = h.value;
        block = h.block;
        before = let l = length_events history in omega arith;
        ends = k;
        writes = own_writes_old old new history x j h.number h.sector h.value same (ends_below history j h.end h.end_number k) h.writes;
      }
  | inr k ↦ absurd (ends_none j h.number h.sector h.value (own_writes_old old new history x j h.number h.sector h.value same (open_below history j k.2.0) h.writes) k.2.0 k.2.1)
]

pub written_same : (o : Opening) (drops : ℕ → Option ℕ) (history : List NumberedEntry) (x : NumberedEntry) (b j : ℕ) → ((id : CallId) → x.event ≡ Done id → ⊥)
    → IsWrittenBefore o drops (history ++ x ∷ []) (length (history ++ x ∷ [])) b j → IsWrittenBefore o drops history (length history) b j
written_same o drops history x b j no_done h = written_push o drops drops history x b j (same_drops drops (length history)) (no_done_ends drops history x no_done) h

pub pending_push : (o : Opening) (log : List Entry) (history : List NumberedEntry) (old new : ℕ → Option ℕ) (table : ℕ → Option ℕ) (x : NumberedEntry) (b i : ℕ) → SameDrops old new (length history) → (new (length history) ≡ Some (o.layout.chunk_of b) → ⊥)
    → IsPending o log history old table b i → length log ≤ x.number → IsPending o log (history ++ x ∷ []) new table b i
pending_push o log history old new table x b i same other h number = record {
  storage = h.storage;
  given = h.given;
  in_range = h.in_range;
  opened = h.opened;
  within = h.within;
  quiet = h.quiet;
  newest = λ j n drop. elim (drop_pushed old new history x j n (o.layout.chunk_of b) same drop) [ inl was ↦ h.newest j n was | inr now ↦ absurd (other now.2) ];
  whole = whole_entry o log history old new x b h.storage i same (let k = h.within in omega arith) h.whole;
  running = λ j n s v block w is_open. elim (own_pushed old new history x j n s v same w) [
    | inl was ↦ h.running j n s v block was (guest_open_pushed history x j (guest_writes_below history j n s v was.0) is_open)
    | inr now ↦ let k = h.within in omega (arith, now.1)
  ];
}

pub pending_entry : (o : Opening) (log : List Entry) (history : List NumberedEntry) (drops : ℕ → Option ℕ) (table : ℕ → Option ℕ) (x : NumberedEntry) (b i : ℕ) → drops (length history) ≡ None → IsPending o log history drops table b i → length log ≤ x.number
    → IsPending o log (history ++ x ∷ []) drops table b i
pending_entry o log history drops table x b i none h number = pending_push o log history drops drops table x b i (same_drops drops (length history)) (λ is. absurd cc) h number

-- an entry that is no issue, ends no ordinary write, and answers no flush well but one that is due
pub quiet_entry : (o : Opening) (log : List Entry) (history : List NumberedEntry) (m : Memory) (x : NumberedEntry) → x.number ≡ length log → WritesNothing x.event
    → EndsNoOwn m.discards.drops history x → AnswersWell o log history m x → Holds o log history m → Holds o log (history ++ x ∷ []) m
quiet_entry o log history m x number quiet no_end answers h = record {
  apart = h.apart;
  facts = facts_entry o log history m m.owed x h.facts number (λ s v covers. absurd (quiet s v covers)) ends answers;
  blocks = record {
    born = h.blocks.born;
    stale_settled = h.blocks.stale_settled;
    stale_off = h.blocks.stale_off;
    owed_local = h.blocks.owed_local;
    off_base_known = h.blocks.off_base_known;
    background_same = h.blocks.background_same;
    tried = h.blocks.tried;
    unlogged_untouched = λ b j w. elim (h.blocks.unlogged_untouched b j (written_push o m.discards.drops m.discards.drops history x b j same no_end w)) [ inl is ↦ inl is | inr is ↦ inr (dropped_after_push m.discards.drops m.discards.drops history x j (o.layout.chunk_of b) same is) ];
    issues_stored = λ j n s v w. let was = old j n s v (own_pushed m.discards.drops m.discards.drops history x j n s v same w) in
        issued_entry o log history m.index.table x j n s v (guest_writes_below history j n s v was.0) (h.blocks.issues_stored j n s v was);
    pending = λ b i is. let k = h.blocks.pending b i is in (k.0, pending_entry o log history m.discards.drops m.index.table x b i none k.1 (omega arith));
    idle = λ b j n s v fresh pending block w is_open.
        let w_old = old j n s v (own_pushed m.discards.drops m.discards.drops history x j n s v same w) in
        h.blocks.idle b j n s v fresh pending block w_old (guest_open_pushed history x j (guest_writes_below history j n s v w_old.0) is_open);
    dropped = λ j n c drop. h.blocks.dropped j n c (drop_old m.discards.drops history x j n c none drop);
    lost_zeros = h.blocks.lost_zeros;
    zeros_off = h.blocks.zeros_off;
    reach = let l = length_push history x in let k = h.blocks.reach in omega arith;
  };
}
  where
    none : m.discards.drops (length history) ≡ None
    none = next_ordinary o m.discards.drops history h.facts.discards

    same : (j : ℕ) → j < length history → m.discards.drops j ≡ m.discards.drops j
    same = same_drops m.discards.drops (length history)

    ends : (b p : ℕ) → m.index.table (o.layout.chunk_of b) ≡ Some p → EndsMirrored o log history m.discards.drops b p x
    ends b p given j n s v is_open block w done = absurd (no_end j n s v w is_open done)

    old : (j n s : ℕ) (v : Sector) → OwnWrites m.discards.drops history j n s v ⊎ ((j ≡ length history) × (x.number ≡ n) × Covers x.event s v × (m.discards.drops (length history) ≡ None)) → OwnWrites m.discards.drops history j n s v
    old j n s v (inl k) = k
    old j n s v (inr k) = absurd (quiet s v k.2)
