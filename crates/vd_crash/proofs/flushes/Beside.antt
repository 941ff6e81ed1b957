-- What a step of another pass does to the history and to memory, as a flush under way sees it, and that it leaves the flush.
use Rattle.std.proofs.Common.{ℕ, ◌≡◌, ◌<◌, ◌≤◌, ◌⊎◌, inl, inr, List, [], ◌∷◌, ◌++◌, length, Some, None, Option, Bool, true, arith, refl, sym, subst, ◌∙◌}
use Rattle.std.proofs.lemmas.Bool.{cases_eq}
use Rattle.vd_image.specs.Log.{Sector, CallId, Entry, Issue}
use Rattle.vd_crash.specs.facts.Safe.{NumberedEntry, Opening}
use Rattle.vd_crash.specs.facts.Facts.{HasEntry, IsDrop, IsWrittenBefore, IsKept, IsClaimSettled}
use Rattle.vd_crash.specs.facts.Words.{Grows, IsDiscarded}
use Rattle.vd_image.proofs.Logs.{at_push, at_end}
use Rattle.vd_crash.proofs.facts.Growth.{EndsMirrored, kept_entry, kept_grown, written_before_old}
use Rattle.vd_crash.proofs.facts.Drops.{drop_entry, drops_same, updated_more}
use Rattle.vd_crash.proofs.facts.Writes.{no_ends, no_done}
use Rattle.vd_crash.specs.flushes.Flushing.{Snapshot, IsDroppedFrom, IsFlushUnderWay, IsSealed, flush_ask}
use Rattle.vd_crash.specs.facts.Memory.{Discards, Memory}
use Rattle.vd_crash.specs.facts.Metadata.{Claim, Stored, Zero}
use Rattle.vd_crash.proofs.facts.HistoryGrowth.{same_drops, drop_push, drop_pushed}
use Rattle.std.proofs.lemmas.List.{length_push}

abbrev pub beside_memory : Memory → (table : ℕ → Option ℕ) → (stale fresh : ℕ → Bool) → (born : ℕ → ℕ) → (owed : ℕ → Bool) → (pending : ℕ → Option ℕ) → Discards → Memory
beside_memory m table stale fresh born owed pending d = record {
  index = record { generation = m.index.generation; tracked = m.index.tracked; sure = m.index.sure; table = table; stale = stale; off_base = m.index.off_base; tried = m.index.tried; cursor = m.index.cursor };
  fresh = fresh;
  born = born;
  owed = owed;
  pending = pending;
  discards = d;
}

pub record IsBeside (o : Opening) (log : List Entry) (history later : List NumberedEntry) (m : Memory) (table : ℕ → Option ℕ) (stale fresh : ℕ → Bool) (born : ℕ → ℕ) (owed : ℕ → Bool) (d : Discards) : Type 0 where
  pub kept : (b reach by : ℕ) → reach ≤ length history → IsKept o log history m.discards.drops m.index.table b reach by → IsKept o log later d.drops table b reach by
  pub zeros : (c : ℕ) → m.discards.zeros c ≡ true → d.zeros c ≡ true
  pub lost : (c : ℕ) → m.discards.lost c ≡ true → d.lost c ≡ true
  pub grows : Grows m.index.table table
  pub was_stale : (b : ℕ) → stale b ≡ true → m.index.stale b ≡ true
  pub reach : d.reach ≡ m.discards.reach
  pub longer : length history ≤ length later
  pub entries : (a n : ℕ) (event : Entry) → HasEntry history a n event → HasEntry later a n event
  pub lost_new : (c : ℕ) → d.lost c ≡ true → (m.discards.lost c ≡ true) ⊎ IsDroppedFrom d.drops later (length history) c
  pub drop_stays : (j n c : ℕ) → IsDrop m.discards.drops history j n c → IsDrop d.drops later j n c
  pub drop_was : (j n c : ℕ) → IsDrop d.drops later j n c → IsDrop m.discards.drops history j n c ⊎ (length history ≤ j)
  pub written : (a b j : ℕ) → a ≤ length history → IsWrittenBefore o d.drops later a b j → IsWrittenBefore o m.discards.drops history a b j
  pub stale_still : (b : ℕ) → m.index.stale b ≡ true → (stale b ≡ true) ⊎ IsDroppedFrom d.drops later (length history) (o.layout.chunk_of b)
  pub fresh_still : (b : ℕ) → m.fresh b ≡ true → (fresh b ≡ true) ⊎ IsDroppedFrom d.drops later (length history) (o.layout.chunk_of b)
  pub owed_still : (b : ℕ) → m.owed b ≡ true → ((owed b ≡ true) × (born b ≡ m.born b)) ⊎ IsDroppedFrom d.drops later (length history) (o.layout.chunk_of b)

pub shown_beside : (o : Opening) (log : List Entry) (history later : List NumberedEntry) (m : Memory) (table : ℕ → Option ℕ) (stale fresh : ℕ → Bool) (born : ℕ → ℕ) (owed : ℕ → Bool) (pending : ℕ → Option ℕ) (d : Discards) → IsBeside o log history later m table stale fresh born owed d
    → (reach : ℕ) → reach ≤ length history → (t : Claim) → IsClaimSettled o log history m reach t → IsClaimSettled o log later (beside_memory m table stale fresh born owed pending d) reach t
shown_beside o log history later m table stale fresh born owed pending d h reach limit (Stored b) shown = (
  h.kept b reach 0 limit shown.0,
  elim shown.1 [
    | inl is ↦ elim (h.fresh_still b is) [ inl still ↦ inl still | inr dropped ↦ inr (dropped.0, dropped.1, dropped.2) ]
    | inr dropped ↦ inr (dropped.0, dropped.1, h.drop_stays dropped.0 dropped.1 (o.layout.chunk_of b) dropped.2)
  ],
)
shown_beside o log history later m table stale fresh born owed pending d h reach limit (Zero c) shown = h.zeros c shown

-- the flush goes on
pub under_way_beside : (o : Opening) (log : List Entry) (history later : List NumberedEntry) (m : Memory) (table : ℕ → Option ℕ) (stale fresh : ℕ → Bool) (born : ℕ → ℕ) (owed : ℕ → Bool) (pending : ℕ → Option ℕ) (d : Discards) (p : Snapshot) (call : CallId) (a n q : ℕ)
    → IsBeside o log history later m table stale fresh born owed d → IsFlushUnderWay o log history m p (flush_ask call a n) q → IsFlushUnderWay o log later (beside_memory m table stale fresh born owed pending d) p (flush_ask call a n) q
under_way_beside o log history later m table stale fresh born owed pending d p call a n q h way = record {
  asked = h.entries a n _ way.asked;
  order = way.order;
  after = way.after;
  begun = let k = way.begun in let l = h.longer in omega arith;
  reach = let k = way.reach in let e = h.reach in omega arith;
  kept = λ b wanted. h.kept b p.begun q way.begun (way.kept b wanted);
  zeros = λ c is. h.zeros c (way.zeros c is);
  dropped = λ j k c drop less. elim (h.drop_was j k c drop) [
    | inl was ↦ elim (way.dropped j k c was less) [ inl sealed ↦ inl (let e = h.reach in omega arith) | inr lost ↦ inr lost ]
    | inr new ↦ absurd (let l = way.begun in omega arith)
  ];
  lost_zeros = way.lost_zeros;
  still_lost = λ c is. h.lost c (way.still_lost c is);
  wanted_was = λ b wanted. elim (way.wanted_was b wanted) [
    | inl is ↦ elim is [
      | inl was_stale ↦ elim (h.stale_still b was_stale) [ inl still ↦ inl (inl still) | inr dropped ↦ inr (dropped.0, dropped.1, dropped.2, let l = way.begun in omega (arith, dropped.3)) ]
      | inr block ↦ inl (inr block)
    ]
    | inr dropped ↦ inr (dropped.0, dropped.1, h.drop_stays dropped.0 dropped.1 (o.layout.chunk_of b) dropped.2, dropped.3)
  ];
  zeros_off = way.zeros_off;
  lost_since = λ c lost. elim (h.lost_new c lost) [
    | inl was ↦ elim (way.lost_since c was) [ inl is ↦ inl is | inr dropped ↦ inr (dropped.0, dropped.1, h.drop_stays dropped.0 dropped.1 c dropped.2, dropped.3) ]
    | inr dropped ↦ inr (dropped.0, dropped.1, dropped.2, let l = way.begun in omega (arith, dropped.3))
  ];
  stale_wanted = λ b is. way.stale_wanted b (h.was_stale b is);
  blocks_wanted = way.blocks_wanted;
  off_wanted = way.off_wanted;
  owed = λ b block. elim (way.owed b block) [
    | inl is ↦ elim (h.owed_still b is.0) [
      | inl still ↦ inl (still.0, omega (arith, still.1, is.1))
      | inr dropped ↦ inr (dropped.0, dropped.1, dropped.2, let l = way.begun in omega (arith, dropped.3))
    ]
    | inr dropped ↦ inr (dropped.0, dropped.1, h.drop_stays dropped.0 dropped.1 (o.layout.chunk_of b) dropped.2, dropped.3)
  ];
  covered = λ b j w. let was = h.written a b j (let k = way.after in let l = way.begun in omega arith) w in
      elim (way.covered b j was) [
        | inl is ↦ elim is [
          | inl was_stale ↦ elim (h.stale_still b was_stale) [
            | inl still ↦ inl (inl still)
            | inr dropped ↦ inr (dropped.0, dropped.1, dropped.2, let e = was.ends.ends.later in let k = was.before in let g = way.after in let l = way.begun in omega (arith, dropped.3))
          ]
          | inr block ↦ inl (inr block)
        ]
        | inr dropped ↦ inr (dropped.0, dropped.1, h.drop_stays dropped.0 dropped.1 (o.layout.chunk_of b) dropped.2, dropped.3)
      ];
  covered_off = λ b j w. way.covered_off b j (h.written a b j (let k = way.after in let l = way.begun in omega arith) w);
  tried = way.tried;
}

-- a flush that is over stays so
pub sealed_beside : (o : Opening) (log : List Entry) (history later : List NumberedEntry) (m : Memory) (table : ℕ → Option ℕ) (stale fresh : ℕ → Bool) (born : ℕ → ℕ) (owed : ℕ → Bool) (d : Discards) (call : CallId) (a n : ℕ)
    → IsBeside o log history later m table stale fresh born owed d → a ≤ length history → IsSealed o log history m.discards.drops m.index.stale m.index.off_base m.discards.reach (flush_ask call a n) → IsSealed o log later d.drops stale m.index.off_base d.reach (flush_ask call a n)
sealed_beside o log history later m table stale fresh born owed d call a n h within is = record {
  asked = h.entries a n _ is.asked;
  flushed = is.flushed;
  reached = let r = is.reached in let e = h.reach in omega arith;
  logged = λ b j w. let was = h.written a b j within w in let k = is.logged b j was in (
    k.0,
    elim k.1 [
      | inl was_stale ↦ elim (h.stale_still b was_stale) [
        | inl still ↦ inl still
        | inr dropped ↦ inr (dropped.0, dropped.1, dropped.2, let e = was.ends.ends.later in let l = was.before in omega (arith, dropped.3))
      ]
      | inr dropped ↦ inr (dropped.0, dropped.1, h.drop_stays dropped.0 dropped.1 (o.layout.chunk_of b) dropped.2, dropped.3)
    ],
  );
}

-- an entry that is no discard, and no Done but of a write that is mirrored
pub beside_entry : (o : Opening) (log : List Entry) (history : List NumberedEntry) (m : Memory) (x : NumberedEntry) → m.discards.drops (length history) ≡ None → o.opened ≤ length log → x.number ≡ length log
    → ((b p : ℕ) → m.index.table (o.layout.chunk_of b) ≡ Some p → EndsMirrored o log history m.discards.drops b p x)
    → IsBeside o log history (history ++ x ∷ []) m m.index.table m.index.stale m.fresh m.born m.owed m.discards
beside_entry o log history m x none opened number ends = record {
  kept = λ b reach by limit h. kept_entry o log history m.discards.drops m.discards.drops x m.index.table b reach by same opened number (λ p given. ends b p given) (λ is. absurd cc) h;
  zeros = λ c is. is;
  lost = λ c is. is;
  lost_new = λ c is. inl is;
  grows = λ c p given. given;
  was_stale = λ b is. is;
  reach = refl;
  longer = let l = length_push history x in omega arith;
  entries = λ a n event stands. at_push history x a (record { event = event; number = n }) stands;
  drop_stays = λ j n c drop. drop_push m.discards.drops m.discards.drops history x j n c same drop;
  drop_was = λ j n c drop. elim (drop_pushed m.discards.drops m.discards.drops history x j n c same drop) [ inl was ↦ inl was | inr now ↦ inr (omega (arith, now.0)) ];
  written = λ a b j within w. written_before_old o m.discards.drops m.discards.drops history x a b j same within w;
  stale_still = λ b is. inl is;
  fresh_still = λ b is. inl is;
  owed_still = λ b is. inl (is, refl);
}
  where
    same : (j : ℕ) → j < length history → m.discards.drops j ≡ m.discards.drops j
    same = same_drops m.discards.drops (length history)

-- a change of blocks: what is owed stays so, since the same moment
pub beside_blocks : (o : Opening) (log : List Entry) (history : List NumberedEntry) (m : Memory) (fresh : ℕ → Bool) (born : ℕ → ℕ) (owed : ℕ → Bool) → ((b : ℕ) → m.fresh b ≡ true → fresh b ≡ true) → ((b : ℕ) → m.owed b ≡ true → owed b ≡ true) → ((b : ℕ) → m.owed b ≡ true → born b ≡ m.born b)
    → IsBeside o log history history m m.index.table m.index.stale fresh born owed m.discards
beside_blocks o log history m fresh born owed more_fresh more same = record {
  fresh_still = λ b is. inl (more_fresh b is);
  kept = λ b reach by limit h. h;
  zeros = λ c is. is;
  lost = λ c is. is;
  lost_new = λ c is. inl is;
  grows = λ c p given. given;
  was_stale = λ b is. is;
  reach = refl;
  longer = omega arith;
  entries = λ a n event stands. stands;
  drop_stays = λ j n c drop. drop;
  drop_was = λ j n c drop. inl drop;
  written = λ a b j within w. w;
  stale_still = λ b is. inl is;
  owed_still = λ b is. inl (more b is, same b is);
}

-- more storage is given
pub beside_storage : (o : Opening) (log : List Entry) (history : List NumberedEntry) (m : Memory) (table : ℕ → Option ℕ) → Grows m.index.table table
    → IsBeside o log history history m table m.index.stale m.fresh m.born m.owed m.discards
beside_storage o log history m table grows = record {
  kept = λ b reach by limit h. kept_grown o log history m.discards.drops m.index.table table b reach reach by by (λ p given. grows (o.layout.chunk_of b) p given) (λ j n drop less. less) (λ w good. good) h;
  zeros = λ c is. is;
  lost = λ c is. is;
  lost_new = λ c is. inl is;
  grows = grows;
  was_stale = λ b is. is;
  reach = refl;
  longer = omega arith;
  entries = λ a n event stands. stands;
  drop_stays = λ j n c drop. drop;
  drop_was = λ j n c drop. inl drop;
  written = λ a b j within w. w;
  stale_still = λ b is. inl is;
  fresh_still = λ b is. inl is;
  owed_still = λ b is. inl (is, refl);
}

-- the discard of a chunk
pub beside_drop : (o : Opening) (log : List Entry) (history : List NumberedEntry) (m : Memory) (id : CallId) (first : ℕ) (content : List Sector) (c : ℕ) (fresh stale owed : ℕ → Bool) (d : Discards) → IsDiscarded o m (length history) c fresh stale owed d → o.opened ≤ length log
    → IsBeside o log history (history ++ drop_entry log id first content ∷ []) m m.index.table stale fresh m.born owed d
beside_drop o log history m id first content c fresh stale owed d is opened = record {
  kept = λ b reach by limit h. kept_entry o log history m.discards.drops d.drops x m.index.table b reach by same opened refl (λ p given. no_ends o log history m.discards.drops x (λ call. no_done id call first content) b p) (λ at. limit) h;
  zeros = λ e zeros. updated_more m.discards.zeros d.zeros c e is.zeros zeros;
  lost = λ e lost. updated_more m.discards.lost d.lost c e is.lost lost;
  lost_new = λ e lost. elim (cases_eq e c) [
    | inl at ↦ inr (length history, length log, subst (λ (y : ℕ). IsDrop d.drops (history ++ x ∷ []) (length history) (length log) y) (sym at) (record { event = Issue id first content; stands = at_end history x; is = is.drops.same }), omega arith)
    | inr other ↦ inl (sym (is.lost.other e other) ∙ lost)
  ];
  grows = λ e p given. given;
  was_stale = λ b also. ((is.stale_others b).0 also).0;
  reach = is.reach;
  longer = let l = length_push history x in omega arith;
  entries = λ a n event stands. at_push history x a (record { event = event; number = n }) stands;
  drop_stays = λ j n e drop. drop_push m.discards.drops d.drops history x j n e same drop;
  drop_was = λ j n e drop. elim (drop_pushed m.discards.drops d.drops history x j n e same drop) [ inl was ↦ inl was | inr now ↦ inr (omega (arith, now.0)) ];
  written = λ a b j within w. written_before_old o m.discards.drops d.drops history x a b j same within w;
  stale_still = λ b was. elim (cases_eq (o.layout.chunk_of b) c) [ inl at ↦ inr (dropped b at) | inr other ↦ inl ((is.stale_others b).1 (was, other)) ];
  fresh_still = λ b was. elim (cases_eq (o.layout.chunk_of b) c) [ inl at ↦ inr (dropped b at) | inr other ↦ inl ((is.fresh_others b).1 (was, other)) ];
  owed_still = λ b was. elim (cases_eq (o.layout.chunk_of b) c) [ inl at ↦ inr (dropped b at) | inr other ↦ inl ((is.owed_others b).1 (was, other), refl) ];
}
  where
    x : NumberedEntry
    x = drop_entry log id first content

    same : (j : ℕ) → j < length history → d.drops j ≡ m.discards.drops j
    same = drops_same m.discards.drops d.drops (length history) c is.drops

    dropped : (b : ℕ) → o.layout.chunk_of b ≡ c → IsDroppedFrom d.drops (history ++ x ∷ []) (length history) (o.layout.chunk_of b)
    dropped b at = (length history, length log, subst (λ (y : ℕ). IsDrop d.drops (history ++ x ∷ []) (length history) (length log) y) (sym at) (record { event = Issue id first content; stands = at_end history x; is = is.drops.same }), omega arith)
