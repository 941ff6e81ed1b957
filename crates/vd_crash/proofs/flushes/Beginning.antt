-- A flush begins: what its snapshot takes is kept.
use Rattle.std.proofs.Common.{ℕ, ◌≡◌, ◌≤◌, ◌⊎◌, inl, inr, List, length, true, arith}
use Rattle.vd_image.specs.Log.{CallId, Entry, Flush, Ask}
use Rattle.vd_crash.specs.facts.Safe.{NumberedEntry, Opening}
use Rattle.vd_crash.specs.facts.Facts.{HasEntry, IsKept, IsSureBy, IsWrittenBefore, Holds}
use Rattle.vd_image.proofs.Logs.{at_below}
use Rattle.vd_crash.proofs.facts.Growth.{kept_grown}
use Rattle.vd_crash.proofs.facts.Recovered.{settled_kept}
use Rattle.vd_crash.specs.flushes.Flushing.{snapshot_of, IsFlushUnderWay, flush_ask}
use Rattle.vd_crash.specs.facts.Memory.{Memory}
use Rattle.std.proofs.lemmas.Bool.{or_cases, or_left, or_right}

-- the beginning of a flush: the data flush is asked next
pub begun : (o : Opening) (log : List Entry) (history : List NumberedEntry) (m : Memory) (call : CallId) (a n : ℕ)
    → Holds o log history m → HasEntry history a n (Ask call Flush) → IsFlushUnderWay o log history m (snapshot_of m history) (flush_ask call a n) (length log)
begun o log history m call a n h asked = record {
  asked = asked;
  order = h.facts.numbers.none_above a n (Ask call Flush) asked;
  after = let l = at_below history a (record { event = Ask call Flush; number = n }) asked in omega arith;
  begun = omega arith;
  reach = h.blocks.reach;
  kept = λ b wanted. kept b (or_cases (m.index.stale b) (m.owed b) wanted);
  zeros = λ c is. is;
  dropped = λ j k c drop less. (h.blocks.dropped j k c drop).1;
  lost_zeros = h.blocks.lost_zeros;
  still_lost = λ c is. is;
  wanted_was = λ b wanted. inl (or_cases (m.index.stale b) (m.owed b) wanted);
  zeros_off = h.blocks.zeros_off;
  lost_since = λ c is. inl is;
  stale_wanted = λ b stale. or_left (m.index.stale b) (m.owed b) stale;
  blocks_wanted = λ b owed. or_right (m.index.stale b) (m.owed b) owed;
  off_wanted = λ b off. elim (h.blocks.off_base_known b off).1 [ inl stale ↦ inl (or_left (m.index.stale b) (m.owed b) stale) | inr zeros ↦ inr zeros ];
  owed = λ b owed. inl (owed, h.blocks.born b (h.blocks.owed_local b owed));
  covered = λ b j w. h.blocks.unlogged_untouched b j (whole b j w);
  covered_off = λ b j w. elim (h.blocks.unlogged_untouched b j (whole b j w)) [
    | inl logged ↦ elim logged [ inl stale ↦ inl (h.blocks.stale_off b stale) | inr owed ↦ inr (inl owed) ]
    | inr dropped ↦ elim (h.blocks.dropped dropped.0 dropped.1 (o.layout.chunk_of b) dropped.2).1 [
      | inl sealed ↦ inl (h.facts.zeros.sealed_off dropped.0 dropped.1 b dropped.2 sealed)
      | inr lost ↦ inr (inr lost)
    ]
  ];
  tried = h.blocks.tried;
}
  where
    whole : (b j : ℕ) → IsWrittenBefore o m.discards.drops history a b j → IsWrittenBefore o m.discards.drops history (length history) b j
    whole b j w = record {
      end = w.end;
      number = w.number;
      end_number = w.end_number;
      sector = w.sector;
      value = w.value;
      block = w.block;
      writes = w.writes;
      ends = w.ends;
      before = let l = at_below history a (record { event = Ask call Flush; number = n }) asked in let k = w.before in omega arith;
    }

    later : (w by : ℕ) → by ≤ length log → IsSureBy log by w → IsSureBy log (length log) w
    later w by order (inl k) = inl k
    later w by order (inr k) = inr (k.0, k.1, omega (arith, k.2))

    kept : (b : ℕ) → (m.index.stale b ≡ true) ⊎ (m.owed b ≡ true) → IsKept o log history m.discards.drops m.index.table b (length history) (length log)
    kept b (inl stale) =
        let s = h.blocks.stale_settled b stale in
        kept_grown o log history m.discards.drops m.index.table m.index.table b (length history) (length history) 0 (length log) (λ p given. given) (λ j k drop less. less) (λ w good. later w 0 (omega arith) good)
        (settled_kept o log history m.discards.drops m.index.table b (m.born b) (length history) (h.facts.contents_allowed b s.0) s.1)
    kept b (inr owed) =
        let fresh = h.blocks.owed_local b owed in
        kept_grown o log history m.discards.drops m.index.table m.index.table b (length history) (length history) (m.born b) (length log) (λ p given. given) (λ j k drop less. less) (λ w good. later w (m.born b) (h.blocks.born b fresh) good)
        (h.facts.contents_allowed b fresh (length history))
