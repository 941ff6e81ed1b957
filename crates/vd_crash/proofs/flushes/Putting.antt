-- What the puts of a flush leave of all facts: of a record, of a page of the map, of the next header.
use Rattle.std.proofs.Common.{ℕ, ◌≡◌, ◌+◌, ◌<◌, ◌⊎◌, inl, inr, List, [], ◌∷◌, ◌++◌, Some, Bool, true, false, arith}
use Rattle.vd_image.specs.Log.{Sector, CallId, Entry, Covers, Flushes, May}
use Rattle.vd_image.specs.Image.{Mapping, Record}
use Rattle.vd_crash.specs.facts.Safe.{NumberedEntry, Opening}
use Rattle.vd_crash.specs.facts.Facts.{IsClaimSettled, Holds}
use Rattle.vd_crash.proofs.facts.Growth.{opened_event, answered_event, FollowsGuest, kept_event}
use Rattle.vd_crash.proofs.facts.Steps.{shown_event, pending_event, issued_event, settled_push}
use Rattle.vd_crash.proofs.facts.Metadata.{right_more, right_page_more, metadata_same}
use Rattle.vd_crash.specs.flushes.Flushing.{Snapshot, IsOffAfter, IsFlushUnderWay, IsWantedMapping, IsWantedRecord, IsWantedPage, IsCaughtUp, flush_ask}
use Rattle.vd_crash.proofs.flushes.Puts.{WritesOnly, is_due, one_more, slot_put, map_put, next_header_put}
use Rattle.vd_crash.specs.facts.Words.{with_index}
use Rattle.vd_crash.proofs.flushes.Wanted.{shown_index, shown_less, wanted_left, wanted_facts, wanted_page, wanted_written, due_wanted, caught_in_page}
use Rattle.vd_crash.specs.facts.Memory.{Memory, IsTable}
use Rattle.vd_crash.specs.facts.Metadata.{Claim, IsRight, IsRightPage, IsRecordLeft, chunk_in, IsHeaderLeft, IsMetadata}
use Rattle.vd_crash.proofs.facts.HistoryGrowth.{numbers_event}
use Rattle.std.proofs.lemmas.List.{length_push}

-- an event that writes to no place
abbrev pub WritesNoPlace : Opening → Entry → Type 0
WritesNoPlace o e = (p s : ℕ) (u : Sector) → p < o.layout.storage → Covers e (o.layout.place p s) u → ⊥

pub no_place_follows : (o : Opening) (log : List Entry) (history : List NumberedEntry) (m : Memory) (e : Entry) → IsTable o.layout.storage m.index.table → WritesNoPlace o e → (b p : ℕ) → m.index.table (o.layout.chunk_of b) ≡ Some p → FollowsGuest o log history m.discards.drops b p e
no_place_follows o log history m e table none b p given s u block covers = absurd (none p s u (table.within (o.layout.chunk_of b) p given) covers)

pub only_no_place : (o : Opening) (e : Entry) (a : ℕ) (v : Sector) → WritesOnly e a v → ((p s : ℕ) → p < o.layout.storage → o.layout.place p s ≡ a → ⊥) → WritesNoPlace o e
only_no_place o e a v only no_place p s u within covers = no_place p s within (only (o.layout.place p s) u covers).0

-- a put, whatever it leaves of the metadata
pub put_event : (o : Opening) (log : List Entry) (history : List NumberedEntry) (m : Memory) (e : Entry) (a : ℕ) (v : Sector) (sure : Bool) (tried : ℕ → Bool) (cursor : ℕ)
    → Holds o log history m → WritesOnly e a v → ((p s : ℕ) → p < o.layout.storage → o.layout.place p s ≡ a → ⊥)
    → ((b : ℕ) → tried b ≡ true → (m.index.off_base b ≡ true) ⊎ (m.owed b ≡ true) ⊎ (m.discards.lost (o.layout.chunk_of b) ≡ true))
    → IsMetadata o (May o.before (log ++ e ∷ [])) (IsClaimSettled o (log ++ e ∷ []) history m m.discards.reach) (with_index m sure tried cursor).index
    → Holds o (log ++ e ∷ []) history (with_index m sure tried cursor)
put_event o log history m e a v sure tried cursor h only no_place logged metadata = record {
  apart = h.apart;
  facts = record {
    numbers = numbers_event o.opened log m.discards.drops history e h.facts.numbers;
    opening = opened_event o log e h.facts.opening;
    discards = h.facts.discards;
    answered = answered_event o log m.discards.drops history m.index.stale m.index.off_base m.discards.reach e h.facts.answered;
    zeros = h.facts.zeros;
    storage_one_to_one = h.facts.storage_one_to_one;
    contents_allowed = λ b fresh reach. kept_event o log history m.discards.drops e m.index.table b reach (m.born b) (λ p given. follows b p given) (h.facts.contents_allowed b fresh reach);
    metadata = metadata_same o (May o.before (log ++ e ∷ [])) (IsClaimSettled o (log ++ e ∷ []) history m m.discards.reach) (IsClaimSettled o (log ++ e ∷ []) history (with_index m sure tried cursor) m.discards.reach) (with_index m sure tried cursor).index
        (shown_index o (log ++ e ∷ []) history m sure tried cursor m.discards.reach) metadata;
  };
  blocks = record {
    born = λ b fresh. let k = h.blocks.born b fresh in let l = length_push log e in omega arith;
    stale_settled = λ b stale. settled_push log m e b (h.blocks.stale_settled b stale);
    stale_off = h.blocks.stale_off;
    owed_local = h.blocks.owed_local;
    off_base_known = h.blocks.off_base_known;
    background_same = h.blocks.background_same;
    tried = logged;
    unlogged_untouched = h.blocks.unlogged_untouched;
    idle = h.blocks.idle;
    dropped = h.blocks.dropped;
    lost_zeros = h.blocks.lost_zeros;
    zeros_off = h.blocks.zeros_off;
    reach = h.blocks.reach;
    issues_stored = λ j n s u w. issued_event o log history m.index.table e j n s u (h.blocks.issues_stored j n s u w);
    pending = λ b i is. let k = h.blocks.pending b i is in (k.0, pending_event o log history m.discards.drops m.index.table e b i k.1 (λ s p u block given covers. none p s u (h.facts.storage_one_to_one.within (o.layout.chunk_of b) p given) covers));
  };
}
  where
    none : WritesNoPlace o e
    none = only_no_place o e a v only no_place

    follows : (b p : ℕ) → m.index.table (o.layout.chunk_of b) ≡ Some p → FollowsGuest o log history m.discards.drops b p e
    follows = no_place_follows o log history m e h.facts.storage_one_to_one none

-- the put of a record
pub put_record : (o : Opening) (log : List Entry) (history : List NumberedEntry) (m : Memory) (p : Snapshot) (call : CallId) (a n q : ℕ) (e : Entry) (v : Sector) (r : Record)
    → Holds o log history m → IsFlushUnderWay o log history m p (flush_ask call a n) q → Flushes log q → m.index.cursor < o.layout.slots → WritesOnly e (o.layout.slot_at m.index.cursor) v
    → o.format.record_of v ≡ Some r → IsWantedRecord o m p r
    → Holds o (log ++ e ∷ []) history (with_index m m.index.sure m.index.tried (m.index.cursor + 1))
put_record o log history m p call a n q e v r h way flushes room only reads is =
    put_event o log history m e (o.layout.slot_at m.index.cursor) v m.index.sure m.index.tried (m.index.cursor + 1) h only (λ s t within same. h.apart.place_slot s t m.index.cursor within room same) h.blocks.tried
    (slot_put o (May o.before (log ++ e ∷ [])) (May o.before log) (IsClaimSettled o log history m m.discards.reach) (IsClaimSettled o (log ++ e ∷ []) history m m.discards.reach) m.index v r h.apart room (one_more o log e (o.layout.slot_at m.index.cursor) v only)
    reads is.current item (λ t due. wanted_facts o m p r t is (due_wanted o log history m p call a n q t h way (is_due m.index t due)).1) still h.facts.metadata)
  where
    none : WritesNoPlace o e
    none = only_no_place o e (o.layout.slot_at m.index.cursor) v only (λ s t within same. h.apart.place_slot s t m.index.cursor within room same)

    still : (t : Claim) → IsClaimSettled o log history m m.discards.reach t → IsClaimSettled o (log ++ e ∷ []) history m m.discards.reach t
    still = shown_event o log history m e (no_place_follows o log history m e h.facts.storage_one_to_one none) m.discards.reach

    left : (c : ℕ) (w : Mapping) → IsWantedMapping o m p c w → IsRight o (IsClaimSettled o log history m p.begun) m.index.table c w
    left c w wanted = wanted_left o log history m p call a n q c w h way flushes wanted

    item : IsRecordLeft o (May o.before (log ++ e ∷ [])) (IsClaimSettled o (log ++ e ∷ []) history m m.discards.reach) (record m.index { cursor = m.index.cursor + 1 }) m.index.cursor r
    item = record {
      grammar = record {
        well_formed = is.well_formed;
        rising = is.rising;
        facts = λ place fact stands. let f = is.facts place fact stands in (f.0, (left fact.chunk fact.mapping f.1).grammar);
      };
      right = λ place fact stands. inl (right_more o (IsClaimSettled o log history m p.begun) (IsClaimSettled o (log ++ e ∷ []) history m m.discards.reach) m.index.table m.index.table fact.chunk fact.mapping
          (λ t shown. still t (shown_less o log history m p.begun m.discards.reach way.reach t shown)) (λ d s given. given) (left fact.chunk fact.mapping (is.facts place fact stands).1));
    }

-- the put of a page of the map
pub put_page : (o : Opening) (log : List Entry) (history : List NumberedEntry) (m : Memory) (p : Snapshot) (call : CallId) (a n q : ℕ) (e : Entry) (v : Sector) (page : ℕ)
    → Holds o log history m → IsFlushUnderWay o log history m p (flush_ask call a n) q → Flushes log q → page < o.layout.chunks → WritesOnly e (o.layout.map_at page) v
    → ((c : ℕ) → c < o.layout.chunks → o.layout.map_at c ≡ o.layout.map_at page → IsWantedPage o m p c v)
    → Holds o (log ++ e ∷ []) history (with_index m m.index.sure m.index.tried m.index.cursor)
put_page o log history m p call a n q e v page h way flushes room only is =
    put_event o log history m e (o.layout.map_at page) v m.index.sure m.index.tried m.index.cursor h only (λ s t within same. h.apart.place_map s t page within room same) h.blocks.tried
    (map_put o (May o.before (log ++ e ∷ [])) (May o.before log) (IsClaimSettled o log history m m.discards.reach) (IsClaimSettled o (log ++ e ∷ []) history m m.discards.reach) m.index v page h.apart room (one_more o log e (o.layout.map_at page) v only)
    (λ c within same. right_page_more o (IsClaimSettled o log history m p.begun) (IsClaimSettled o (log ++ e ∷ []) history m m.discards.reach) m.index.table m.index.table c v (λ t shown. still t (shown_less o log history m p.begun m.discards.reach way.reach t shown)) (λ d s given. given) (right c within same))
    (λ t within same kept. wanted_page o m p t v (is (chunk_in o t) within same) (due_wanted o log history m p call a n q t h way kept).1)
    still h.facts.metadata)
  where
    none : WritesNoPlace o e
    none = only_no_place o e (o.layout.map_at page) v only (λ s t within same. h.apart.place_map s t page within room same)

    still : (t : Claim) → IsClaimSettled o log history m m.discards.reach t → IsClaimSettled o (log ++ e ∷ []) history m m.discards.reach t
    still = shown_event o log history m e (no_place_follows o log history m e h.facts.storage_one_to_one none) m.discards.reach

    right : (c : ℕ) → c < o.layout.chunks → o.layout.map_at c ≡ o.layout.map_at page → IsRightPage o (IsClaimSettled o log history m p.begun) m.index.table c v
    right c within same = (wanted_written o log history m p call a n q c v h way flushes (is c within same)).right

-- the put of a header of the next generation
pub put_header : (o : Opening) (log : List Entry) (history : List NumberedEntry) (m : Memory) (p : Snapshot) (call : CallId) (a n q : ℕ) (e : Entry) (v : Sector) (tried : ℕ → Bool)
    → Holds o log history m → IsFlushUnderWay o log history m p (flush_ask call a n) q → WritesOnly e o.layout.header_at v
    → ((b : ℕ) → m.index.tried b ≡ true → tried b ≡ true) → ((b : ℕ) → tried b ≡ true → IsOffAfter o m p b)
    → ((c : ℕ) → c < o.layout.chunks → IsCaughtUp o (May o.before log) (IsClaimSettled o log history m p.begun) m p c)
    → IsHeaderLeft o (May o.before log) (with_index m false tried m.index.cursor).index v
    → Holds o (log ++ e ∷ []) history (with_index m false tried m.index.cursor)
put_header o log history m p call a n q e v tried h way only wider wanted caught next =
    put_event o log history m e o.layout.header_at v false tried m.index.cursor h only (λ s t within same. h.apart.place_header s t within same) (λ b t. logged b (wanted b t))
    (next_header_put o (May o.before (log ++ e ∷ [])) (May o.before log) (IsClaimSettled o log history m m.discards.reach) (IsClaimSettled o (log ++ e ∷ []) history m m.discards.reach) m.index v tried h.apart (one_more o log e o.layout.header_at v only)
    (λ c u within left. right_page_more o (IsClaimSettled o log history m p.begun) (IsClaimSettled o log history m m.discards.reach) m.index.table m.index.table c u (shown_less o log history m p.begun m.discards.reach way.reach) (λ d s given. given) (caught c within u left).right)
    (λ t due. caught_in_page o log history m p t caught (due_wanted o log history m p call a n q t h way (is_due m.index t due))) wider next still h.facts.metadata)
  where
    none : WritesNoPlace o e
    none = only_no_place o e o.layout.header_at v only (λ s t within same. h.apart.place_header s t within same)

    still : (t : Claim) → IsClaimSettled o log history m m.discards.reach t → IsClaimSettled o (log ++ e ∷ []) history m m.discards.reach t
    still = shown_event o log history m e (no_place_follows o log history m e h.facts.storage_one_to_one none) m.discards.reach

    logged : (b : ℕ) → IsOffAfter o m p b → (m.index.off_base b ≡ true) ⊎ (m.owed b ≡ true) ⊎ (m.discards.lost (o.layout.chunk_of b) ≡ true)
    logged b (inl off) = inl off
    logged b (inr (inl block)) = elim (way.owed b block) [
      | inl still_owed ↦ inr (inl still_owed.0)
      | inr dropped ↦ elim (h.blocks.dropped dropped.0 dropped.1 (o.layout.chunk_of b) dropped.2).1 [ inl sealed ↦ absurd (let r = way.reach in omega (arith, dropped.3)) | inr lost ↦ inr (inr lost) ]
    ]
    logged b (inr (inr lost)) = inr (inr (way.still_lost (o.layout.chunk_of b) lost))
