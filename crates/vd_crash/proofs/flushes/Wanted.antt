-- What a flush has set out to write is right, shown once its data flush is answered well, and due.
use Rattle.std.proofs.Common.{ℕ, ◌≡◌, ◌<◌, ◌≤◌, inl, inr, List, Some, Bool, true, arith, refl, sym, subst, ◌∙◌}
use Rattle.vd_image.specs.Log.{Sector, CallId, Entry, Flushes, May}
use Rattle.vd_image.specs.Image.{Mapping, Record}
use Rattle.vd_crash.specs.facts.Safe.{NumberedEntry, Opening}
use Rattle.vd_crash.specs.facts.Facts.{IsClaimSettled, IsSureBy, Holds}
use Rattle.vd_crash.proofs.facts.Growth.{kept_grown}
use Rattle.vd_crash.specs.flushes.Flushing.{Snapshot, IsWanted, IsOffAfter, IsFlushUnderWay, IsWantedMapping, IsWantedRecord, IsWantedPage, IsWrittenPage, IsCaughtUp, flush_ask}
use Rattle.vd_image.proofs.Logs.{sure_by}
use Rattle.vd_crash.proofs.flushes.Puts.{IsDueOrTried}
use Rattle.vd_crash.specs.facts.Words.{with_index}
use Rattle.vd_crash.specs.facts.Memory.{Memory, IsTable}
use Rattle.vd_crash.specs.facts.Metadata.{Claim, Stored, Zero, IsRight, Need, Local, Off_base, Says, chunk_in, PageHas, IsInPage, FactsHave}

-- what is shown doesn't depend on the header and the cursor
pub shown_index : (o : Opening) (log : List Entry) (history : List NumberedEntry) (m : Memory) (sure : Bool) (tried : ℕ → Bool) (cursor reach : ℕ) (t : Claim) → IsClaimSettled o log history m reach t → IsClaimSettled o log history (with_index m sure tried cursor) reach t
shown_index o log history m sure tried cursor reach (Stored b) h = h
shown_index o log history m sure tried cursor reach (Zero c) h = h

-- what is shown though more discards count is shown
pub shown_less : (o : Opening) (log : List Entry) (history : List NumberedEntry) (m : Memory) (reach less : ℕ) → less ≤ reach → (t : Claim) → IsClaimSettled o log history m reach t → IsClaimSettled o log history m less t
shown_less o log history m reach less order (Stored b) h = (kept_grown o log history m.discards.drops m.index.table m.index.table b reach less 0 0 (λ p given. given) (λ j n drop below. omega arith) (λ w good. good) h.0, h.1)
shown_less o log history m reach less order (Zero c) h = h

-- What a flush has set out to write is shown, once the data flush is answered well, though each discard of before its snapshot counts.
pub wanted_shown : (o : Opening) (log : List Entry) (history : List NumberedEntry) (m : Memory) (p : Snapshot) (call : CallId) (a n q b : ℕ)
    → Holds o log history m → IsFlushUnderWay o log history m p (flush_ask call a n) q → Flushes log q → p.wanted b ≡ true → IsClaimSettled o log history m p.begun (Stored b)
wanted_shown o log history m p call a n q b h way flushes wanted = (
  kept_grown o log history m.discards.drops m.index.table m.index.table b p.begun p.begun q 0 (λ s given. given) (λ j k drop less. less) sure (way.kept b wanted),
  elim (way.wanted_was b wanted) [
    | inl is ↦ elim is [
      | inl stale ↦ inl (h.blocks.stale_settled b stale).0
      | inr block ↦ elim (way.owed b block) [ inl owed ↦ inl (h.blocks.owed_local b owed.0) | inr dropped ↦ inr (dropped.0, dropped.1, dropped.2) ]
    ]
    | inr dropped ↦ inr (dropped.0, dropped.1, dropped.2)
  ],
)
  where
    sure : (w : ℕ) → IsSureBy log q w → IsSureBy log 0 w
    sure w (inl k) = inl k
    sure w (inr k) = inl (sure_by log w k.0 q k.1 k.2 flushes)

-- the mapping of shown wanted blocks is right, and in the grammar: no block that doesn't exist is in the mask
pub wanted_right : (o : Opening) (log : List Entry) (history : List NumberedEntry) (m : Memory) (p : Snapshot) (reach c : ℕ) (w : Mapping)
    → IsTable o.layout.storage m.index.table → ((b : ℕ) → p.wanted b ≡ true → IsClaimSettled o log history m reach (Stored b)) → ((d : ℕ) → p.zeros d ≡ true → m.discards.zeros d ≡ true)
    → IsWantedMapping o m p c w → IsRight o (IsClaimSettled o log history m reach) m.index.table c w
wanted_right o log history m p reach c w table all zeros is = record {
  grammar = record {
    within = λ s has. table.within c s ((is.storage s).0 has).0;
    kind = is.in_grammar;
    blocks = λ b has. ((shown b has).0.in_range, ((is.blocks b).0 has).0);
    has_storage = λ b has.
        let kept = (shown b has).0 in
        let given : m.index.table c ≡ Some kept.storage = subst (λ (d : ℕ). m.index.table d ≡ Some kept.storage) ((is.blocks b).0 has).0 kept.given in
        (kept.storage, (is.storage kept.storage).1 (given, (b, has)));
    has_block = λ s has. ((is.storage s).0 has).1;
  };
  storage_agrees = λ s has. ((is.storage s).0 has).0;
  blocks_settled = shown;
  kind_settled = λ kind. zeros c (sym is.kind ∙ kind);
}
  where
    shown : (b : ℕ) → w.has b ≡ true → IsClaimSettled o log history m reach (Stored b)
    shown b has = all b ((is.blocks b).0 has).1

-- what a flush writes of a chunk is right
pub wanted_left : (o : Opening) (log : List Entry) (history : List NumberedEntry) (m : Memory) (p : Snapshot) (call : CallId) (a n q c : ℕ) (w : Mapping)
    → Holds o log history m → IsFlushUnderWay o log history m p (flush_ask call a n) q → Flushes log q → IsWantedMapping o m p c w → IsRight o (IsClaimSettled o log history m p.begun) m.index.table c w
wanted_left o log history m p call a n q c w h way flushes is = wanted_right o log history m p p.begun c w h.facts.storage_one_to_one (λ b wanted. wanted_shown o log history m p call a n q b h way flushes wanted) way.zeros is

-- each fact that a flush writes has what is wanted of its chunk
pub wanted_says : (o : Opening) (m : Memory) (p : Snapshot) (t : Need) (w : Mapping) → IsWantedMapping o m p (chunk_in o t) w → IsWanted o p t → Says t w
wanted_says o m p (Local b) w is wanted = (is.blocks b).1 (refl, wanted)
wanted_says o m p (Off_base b) w is (inl wanted) = inl ((is.blocks b).1 (refl, wanted))
wanted_says o m p (Off_base b) w is (inr zeros) = inr (is.kind ∙ zeros)

pub wanted_facts : (o : Opening) (m : Memory) (p : Snapshot) (r : Record) (t : Need) → IsWantedRecord o m p r → IsWanted o p t → FactsHave o t r
wanted_facts o m p r t is wanted = λ place fact stands chunk. wanted_says o m p t fact.mapping (subst (λ (c : ℕ). IsWantedMapping o m p c fact.mapping) chunk (is.facts place fact stands).1) wanted

-- and so has each page
pub wanted_page : (o : Opening) (m : Memory) (p : Snapshot) (t : Need) (v : Sector) → IsWantedPage o m p (chunk_in o t) v → IsWanted o p t → PageHas o t v
wanted_page o m p t v is wanted = record { mapping = is.mapping; reads = is.reads; has = wanted_says o m p t is.mapping is.wanted wanted }

-- what a flush writes of a page is right
pub wanted_written : (o : Opening) (log : List Entry) (history : List NumberedEntry) (m : Memory) (p : Snapshot) (call : CallId) (a n q c : ℕ) (v : Sector)
    → Holds o log history m → IsFlushUnderWay o log history m p (flush_ask call a n) q → Flushes log q → IsWantedPage o m p c v → IsWrittenPage o (IsClaimSettled o log history m p.begun) m p c v
wanted_written o log history m p call a n q c v h way flushes is = record {
  right = record { mapping = is.mapping; reads = is.reads; right = wanted_left o log history m p call a n q c is.mapping h way flushes is.wanted };
  has = λ t chunk wanted. wanted_page o m p t v (subst (λ (d : ℕ). IsWantedPage o m p d v) (sym chunk) is) wanted;
  only = λ lost b has. ((is.wanted.blocks b).0 has).1;
}

-- what every image must have, once the flush is over, is wanted, and its chunk exists
pub off_after_wanted : (o : Opening) (log : List Entry) (history : List NumberedEntry) (m : Memory) (p : Snapshot) (call : CallId) (a n q b : ℕ)
    → Holds o log history m → IsFlushUnderWay o log history m p (flush_ask call a n) q → IsOffAfter o m p b → (o.layout.chunk_of b < o.layout.chunks) × IsWanted o p (Off_base b)
off_after_wanted o log history m p call a n q b h way (inl off) = ((h.blocks.off_base_known b off).0, way.off_wanted b off)
off_after_wanted o log history m p call a n q b h way (inr (inl block)) = (h.apart.chunks b (way.kept b (way.blocks_wanted b block)).in_range, inl (way.blocks_wanted b block))
off_after_wanted o log history m p call a n q b h way (inr (inr lost)) = let k = way.lost_zeros (o.layout.chunk_of b) lost in (k.0, inr k.1)

-- so is what it must have already
pub due_wanted : (o : Opening) (log : List Entry) (history : List NumberedEntry) (m : Memory) (p : Snapshot) (call : CallId) (a n q : ℕ) (t : Need)
    → Holds o log history m → IsFlushUnderWay o log history m p (flush_ask call a n) q → IsDueOrTried m.index t → (chunk_in o t < o.layout.chunks) × IsWanted o p t
due_wanted o log history m p call a n q (Local b) h way stale = (h.apart.chunks b (way.kept b (way.stale_wanted b stale)).in_range, way.stale_wanted b stale)
due_wanted o log history m p call a n q (Off_base b) h way (inl off) = off_after_wanted o log history m p call a n q b h way (inl off)
due_wanted o log history m p call a n q (Off_base b) h way (inr tried) = off_after_wanted o log history m p call a n q b h way (way.tried b tried)

-- what is wanted is in its page, once that is caught up
pub caught_in_page : (o : Opening) (log : List Entry) (history : List NumberedEntry) (m : Memory) (p : Snapshot) (t : Need)
    → ((c : ℕ) → c < o.layout.chunks → IsCaughtUp o (May o.before log) (IsClaimSettled o log history m p.begun) m p c)
    → (chunk_in o t < o.layout.chunks) × IsWanted o p t → IsInPage o (May o.before log) t
caught_in_page o log history m p t caught wanted = record { within = wanted.0; page = λ v left. (caught (chunk_in o t) wanted.0 v left).has t refl wanted.1 }
