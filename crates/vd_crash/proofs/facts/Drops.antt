-- What the discard of a chunk leaves of all facts. It has no store event.
use Rattle.std.proofs.Common.{ℕ, ◌≡◌, ◌+◌, ◌<◌, ◌≤◌, inl, inr, List, [], ◌∷◌, ◌++◌, length, Some, None, Option, Bool, true, arith, refl, ap, sym, subst, ◌∙◌}
use Rattle.std.proofs.lemmas.Bool.{cases_eq, false_from_ne_true}
use Rattle.vd_image.specs.Log.{Sector, CallId, Entry, Issue, IsOpen, May}
use Rattle.vd_crash.specs.facts.Safe.{NumberedEntry, events, Opening}
use Rattle.vd_crash.specs.facts.Facts.{GuestWrites, IsDrop, OwnWrites, IsDroppedAfter, NoDropFrom, AreDrops, AreAnswered, AreZeros, IsKnown, IsClaimSettled, IsWrittenBefore, Holds}
use Rattle.vd_crash.specs.facts.Words.{AnswersWell, IsUpdated, IsDropWrite, IsDiscarded, discarded_memory}
use Rattle.vd_image.proofs.Logs.{at_below, at_end}
use Rattle.vd_crash.proofs.facts.Growth.{kept_entry, answered_entry}
use Rattle.vd_crash.proofs.facts.Metadata.{metadata_fewer}
use Rattle.vd_crash.proofs.facts.Steps.{issued_entry, written_push, pending_push, no_done_ends}
use Rattle.vd_crash.proofs.facts.Writes.{no_ends, no_done, no_reply}
use Rattle.vd_crash.specs.facts.Memory.{Discards, Memory}
use Rattle.vd_crash.specs.facts.Metadata.{Claim, Stored, Zero}
use Rattle.vd_crash.proofs.facts.HistoryGrowth.{guest_writes_push, guest_writes_pushed, guest_writes_below, guest_open_pushed, SameDrops, drop_below, drop_push, drop_pushed, own_pushed, dropped_after_push, numbers_entry, ends_below}
use Rattle.std.proofs.lemmas.List.{length_push}

-- the discard is issued
abbrev pub drop_entry : List Entry → CallId → ℕ → List Sector → NumberedEntry
drop_entry log id first content = record { event = Issue id first content; number = length log }

pub updated_more : (old new : ℕ → Bool) (c d : ℕ) → IsUpdated old new c true → old d ≡ true → new d ≡ true
updated_more old new c d put is = elim (cases_eq d c) [
  | inl same ↦ subst (λ (y : ℕ). new y ≡ true) (sym same) put.same
  | inr other ↦ put.other d other ∙ is
]

pub drops_same : (old new : ℕ → Option ℕ) (top c : ℕ) → IsUpdated old new top (Some c) → SameDrops old new top
drops_same old new top c put j less = put.other j (λ same. omega (arith, less, same))

-- what is shown stays so, but for a count of discards that has this one
pub shown_drop : (o : Opening) (log : List Entry) (history : List NumberedEntry) (m n : Memory) (id : CallId) (first : ℕ) (content : List Sector) → SameDrops m.discards.drops n.discards.drops (length history) → ((d p : ℕ) → m.index.table d ≡ Some p → n.index.table d ≡ Some p) → ((d : ℕ) → m.discards.zeros d ≡ true → n.discards.zeros d ≡ true)
    → ((b : ℕ) → m.fresh b ≡ true → IsKnown o (history ++ drop_entry log id first content ∷ []) n.discards.drops n.fresh b) → o.opened ≤ length log → (reach : ℕ) → reach ≤ length history → (t : Claim) → IsClaimSettled o log history m reach t → IsClaimSettled o log (history ++ drop_entry log id first content ∷ []) n reach t
shown_drop o log history m n id first content same table zeros known opened reach limit (Stored b) h =
    let k = kept_entry o log history m.discards.drops n.discards.drops (drop_entry log id first content) m.index.table b reach 0 same opened refl
    (λ p given. no_ends o log history m.discards.drops (drop_entry log id first content) (λ call. no_done id call first content) b p) (λ is. limit) h.0 in (
      record { storage = k.storage; since = k.since; given = table (o.layout.chunk_of b) k.storage k.given; in_range = k.in_range; stands = k.stands; origin = k.origin; newest = k.newest },
      elim h.1 [ inl is ↦ known b is | inr dropped ↦ inr (dropped.0, dropped.1, drop_push m.discards.drops n.discards.drops history (drop_entry log id first content) dropped.0 dropped.1 (o.layout.chunk_of b) same dropped.2) ],
    )
shown_drop o log history m n id first content same table zeros known opened reach limit (Zero c) h = zeros c h

-- a block that was local still is, or its chunk is the discarded one
pub drop_known : (o : Opening) (log : List Entry) (history : List NumberedEntry) (m : Memory) (id : CallId) (first : ℕ) (content : List Sector) (c : ℕ) (fresh stale owed : ℕ → Bool) (d : Discards) → IsDiscarded o m (length history) c fresh stale owed d
    → (b : ℕ) → m.fresh b ≡ true → IsKnown o (history ++ drop_entry log id first content ∷ []) d.drops fresh b
drop_known o log history m id first content c fresh stale owed d is b was = elim (cases_eq (o.layout.chunk_of b) c) [
  | inl at ↦ inr (length history, length log, subst (λ (y : ℕ). IsDrop d.drops (history ++ drop_entry log id first content ∷ []) (length history) (length log) y) (sym at) (record { event = Issue id first content; stands = at_end history (drop_entry log id first content); is = is.drops.same }))
  | inr other ↦ inl ((is.fresh_others b).1 (was, other))
]

-- The discard of a chunk that has no write in flight.
pub drop_issued : (o : Opening) (log : List Entry) (history : List NumberedEntry) (m : Memory) (id : CallId) (first : ℕ) (content : List Sector) (c : ℕ) (fresh stale owed : ℕ → Bool) (d : Discards)
    → Holds o log history m → c < o.layout.chunks → IsDropWrite o c (Issue id first content) → IsDiscarded o m (length history) c fresh stale owed d
    → ((b : ℕ) → o.layout.chunk_of b ≡ c → m.pending b ≡ None)
    → ((j n s : ℕ) (v : Sector) → OwnWrites m.discards.drops history j n s v → o.layout.chunk_of (o.layout.block_of s) ≡ c → IsOpen (events history) j → ⊥)
    → Holds o log (history ++ drop_entry log id first content ∷ []) (discarded_memory m fresh stale owed d)
drop_issued o log history m id first content c fresh stale owed d h within writes is calm closed = record {
  apart = h.apart;
  facts = record {
    numbers = numbers_entry o.opened log m.discards.drops d.drops history x same h.facts.numbers h.facts.opening.within refl (λ s v covers j n t u w. (h.blocks.issues_stored j n t u w).0);
    opening = h.facts.opening;
    discards = discards_now;
    answered = answered_now;
    zeros = zeros_now;
    storage_one_to_one = h.facts.storage_one_to_one;
    contents_allowed = λ b also reach. let was = (is.fresh_others b).0 also in
        kept_entry o log history m.discards.drops d.drops x m.index.table b reach (m.born b) same h.facts.opening.within refl
        (λ p given. no_ends o log history m.discards.drops x (λ call. no_done id call first content) b p)
        (λ at. absurd (was.1 (chunk_is (o.layout.chunk_of b) at))) (h.facts.contents_allowed b was.0 reach);
    metadata = metadata_fewer o (May o.before log) (IsClaimSettled o log history m m.discards.reach) (IsClaimSettled o log (history ++ x ∷ []) n d.reach) m.index stale (λ b also. ((is.stale_others b).0 also).0)
        (λ t shown. subst (λ (r : ℕ). IsClaimSettled o log (history ++ x ∷ []) n r t) (sym is.reach) (shown_drop o log history m n id first content same (λ e p given. given) (λ e zeros. updated_more m.discards.zeros d.zeros c e is.zeros zeros) (drop_known o log history m id first content c fresh stale owed d is) h.facts.opening.within m.discards.reach h.blocks.reach t shown))
        h.facts.metadata;
  };
  blocks = record {
    born = λ b also. h.blocks.born b ((is.fresh_others b).0 also).0;
    stale_settled = λ b also. let was = (is.stale_others b).0 also in let s = h.blocks.stale_settled b was.0 in ((is.fresh_others b).1 (s.0, was.1), s.1);
    stale_off = λ b also. h.blocks.stale_off b ((is.stale_others b).0 also).0;
    owed_local = λ b also. let was = (is.owed_others b).0 also in (is.fresh_others b).1 (h.blocks.owed_local b was.0, was.1);
    off_base_known = λ b off. let known_of = h.blocks.off_base_known b off in (
      known_of.0,
      elim (cases_eq (o.layout.chunk_of b) c) [
        | inl at ↦ inr (subst (λ (y : ℕ). d.zeros y ≡ true) (sym at) is.zeros.same)
        | inr other ↦ elim known_of.1 [ inl known ↦ inl ((is.stale_others b).1 (known, other)) | inr zeros ↦ inr (updated_more m.discards.zeros d.zeros c (o.layout.chunk_of b) is.zeros zeros) ]
      ],
    );
    background_same = h.blocks.background_same;
    tried = λ b t. elim (h.blocks.tried b t) [
      | inl off ↦ inl off
      | inr (inl also) ↦ inr (elim (cases_eq (o.layout.chunk_of b) c) [ inl at ↦ inr (subst (λ (y : ℕ). d.lost y ≡ true) (sym at) is.lost.same) | inr other ↦ inl ((is.owed_others b).1 (also, other)) ])
      | inr (inr lost) ↦ inr (inr (updated_more m.discards.lost d.lost c (o.layout.chunk_of b) is.lost lost))
    ];
    unlogged_untouched = λ b j w. let was = written_push o m.discards.drops d.drops history x b j same (no_done_ends m.discards.drops history x (λ call. no_done id call first content)) w in
        elim (h.blocks.unlogged_untouched b j was) [
          | inl logged ↦ elim (cases_eq (o.layout.chunk_of b) c) [
            | inl at ↦ inr (dropped_now b j at (ends_below history j was.end was.end_number was.ends))
            | inr other ↦ inl (elim logged [ inl also ↦ inl ((is.stale_others b).1 (also, other)) | inr also ↦ inr ((is.owed_others b).1 (also, other)) ])
          ]
          | inr dropped ↦ inr (dropped_after_push m.discards.drops d.drops history x j (o.layout.chunk_of b) same dropped)
        ];
    issues_stored = λ j n s v w. elim (own_pushed m.discards.drops d.drops history x j n s v same w) [
      | inl was ↦ issued_entry o log history m.index.table x j n s v (guest_writes_below history j n s v was.0) (h.blocks.issues_stored j n s v was)
      | inr now ↦ absurd (let some_c = is.drops.same in let none = now.3 in cc)
    ];
    pending = λ b i at. let k = h.blocks.pending b i at in
        let other : o.layout.chunk_of b ≡ c → ⊥ = λ equal. (let none = calm b equal in cc) in (
          false_from_ne_true (fresh b) (λ also. let was = ((is.fresh_others b).0 also).0 in let unset = k.0 in cc),
          pending_push o log history m.discards.drops d.drops m.index.table x b i same (λ equal. other (chunk_is (o.layout.chunk_of b) equal)) k.1 (omega arith),
        );
    idle = λ b j n s v not_fresh none block w is_open. elim (own_pushed m.discards.drops d.drops history x j n s v same w) [
      | inl was ↦
          let old_open = guest_open_pushed history x j (guest_writes_below history j n s v was.0) is_open in
          elim (cases_eq (o.layout.chunk_of b) c) [
            | inl at ↦ closed j n s v was (ap o.layout.chunk_of block ∙ at) old_open
            | inr other ↦ h.blocks.idle b j n s v (false_from_ne_true (m.fresh b) (λ set. let also = (is.fresh_others b).1 (set, other) in cc)) none block was old_open
          ]
      | inr now ↦ absurd (let some_c = is.drops.same in let none_c = now.3 in cc)
    ];
    dropped = λ j n e drop. elim (drop_pushed m.discards.drops d.drops history x j n e same drop) [
      | inl was ↦
          (let k = h.blocks.dropped j n e was in (
            updated_more m.discards.zeros d.zeros c e is.zeros k.0,
            elim k.1 [ inl sealed ↦ inl (let r = is.reach in omega arith) | inr lost ↦ inr (updated_more m.discards.lost d.lost c e is.lost lost) ],
          ))
      | inr now ↦ (let at = chunk_is e now.2 in (subst (λ (y : ℕ). d.zeros y ≡ true) (sym at) is.zeros.same, inr (subst (λ (y : ℕ). d.lost y ≡ true) (sym at) is.lost.same)))
    ];
    lost_zeros = λ e lost. elim (cases_eq e c) [
      | inl at ↦ (subst (λ (y : ℕ). y < o.layout.chunks) (sym at) within, subst (λ (y : ℕ). d.zeros y ≡ true) (sym at) is.zeros.same)
      | inr other ↦ (let k = h.blocks.lost_zeros e (sym (is.lost.other e other) ∙ lost) in (k.0, is.zeros.other e other ∙ k.1))
    ];
    zeros_off = λ b zeros. elim (cases_eq (o.layout.chunk_of b) c) [
      | inl at ↦ inr (subst (λ (y : ℕ). d.lost y ≡ true) (sym at) is.lost.same)
      | inr other ↦ elim (h.blocks.zeros_off b (sym (is.zeros.other (o.layout.chunk_of b) other) ∙ zeros)) [ inl off ↦ inl off | inr lost ↦ inr (updated_more m.discards.lost d.lost c (o.layout.chunk_of b) is.lost lost) ]
    ];
    reach = let l = length_push history x in let k = h.blocks.reach in let r = is.reach in omega arith;
  };
}
  where
    x : NumberedEntry
    x = drop_entry log id first content

    n : Memory
    n = discarded_memory m fresh stale owed d

    same : SameDrops m.discards.drops d.drops (length history)
    same = drops_same m.discards.drops d.drops (length history) c is.drops

    chunk_is : (e : ℕ) → d.drops (length history) ≡ Some e → e ≡ c
    chunk_is e at = let put = is.drops.same in cc

    now_drop : IsDrop d.drops (history ++ x ∷ []) (length history) (length log) c
    now_drop = record { event = Issue id first content; stands = at_end history x; is = is.drops.same }

    dropped_now : (b j : ℕ) → o.layout.chunk_of b ≡ c → j < length history → IsDroppedAfter d.drops (history ++ x ∷ []) j (o.layout.chunk_of b)
    dropped_now b j at less = (length history, length log, subst (λ (y : ℕ). IsDrop d.drops (history ++ x ∷ []) (length history) (length log) y) (sym at) now_drop, less)

    discards_now : AreDrops o d.drops (history ++ x ∷ [])
    discards_now = record {
      within = λ j e at. elim (cases_eq j (length history)) [
        | inl equal ↦ (let l = length_push history x in omega arith, subst (λ (y : ℕ). y < o.layout.chunks) (sym (chunk_is e (subst (λ (y : ℕ). d.drops y ≡ Some e) equal at))) within)
        | inr other ↦ (let k = h.facts.discards.within j e (sym (is.drops.other j other) ∙ at) in let l = length_push history x in (omega (arith, k.0), k.1))
      ];
      covers = λ j n k e s v drop w. elim (drop_pushed m.discards.drops d.drops history x j n e same drop) [
        | inl was ↦ elim (guest_writes_pushed history x j k s v w) [
          | inl old ↦ h.facts.discards.covers j n k e s v was old
          | inr new ↦ absurd (let l = drop_below m.discards.drops history j n e was in omega (arith, new.0))
        ]
        | inr now ↦ elim (guest_writes_pushed history x j k s v w) [
          | inl old ↦ absurd (let l = guest_writes_below history j k s v old in omega (arith, now.0))
          | inr new ↦ (let c_is = writes.covers s v new.2 in (c_is.0 ∙ sym (chunk_is e now.2), c_is.1))
        ]
      ];
      whole = λ j n e s drop inside chunk. elim (drop_pushed m.discards.drops d.drops history x j n e same drop) [
        | inl was ↦ guest_writes_push history x j n s o.zeros (h.facts.discards.whole j n e s was inside chunk)
        | inr now ↦ subst (λ (y : ℕ). GuestWrites (history ++ x ∷ []) y n s o.zeros) (sym now.0)
            (subst (λ (y : ℕ). GuestWrites (history ++ x ∷ []) (length history) y s o.zeros) now.1 (record { event = Issue id first content; stands = at_end history x; covers = writes.whole s inside (chunk ∙ chunk_is e now.2) }))
      ];
    }

    answers : AnswersWell o log history m x
    answers call a k asked reply = absurd (no_reply id call first content reply)

    answered_now : AreAnswered o log d.drops (history ++ x ∷ []) stale m.index.off_base d.reach
    answered_now =
        let k = answered_entry o log history m d.drops x same h.facts.answered answers in
        record {
          flushed = k.flushed;
          logged = λ a i b j f w. let g = k.logged a i b j f w in (
            g.0,
            elim g.1 [
              | inl was ↦ elim (cases_eq (o.layout.chunk_of b) c) [
                | inl at ↦ inr (dropped_now b j at (let old = written_push o m.discards.drops d.drops history x b j same (no_done_ends m.discards.drops history x (λ call. no_done id call first content)) (wider a b j w) in ends_below history j old.end old.end_number old.ends))
                | inr other ↦ inl ((is.stale_others b).1 (was, other))
              ]
              | inr dropped ↦ inr dropped
            ],
          );
          reached = λ a i f. let r = k.reached a i f in let e = is.reach in omega arith;
        }
      where
        wider : (a b j : ℕ) → IsWrittenBefore o d.drops (history ++ x ∷ []) a b j → IsWrittenBefore o d.drops (history ++ x ∷ []) (length (history ++ x ∷ [])) b j
        wider a b j w = record { end = w.end; number = w.number; end_number = w.end_number; sector = w.sector; value = w.value; block = w.block; writes = w.writes; ends = w.ends; before = at_below (history ++ x ∷ []) w.end (record { event = w.ends.event; number = w.end_number }) w.ends.numbered }

    no_drop : (from e : ℕ) → (e ≡ c → ⊥) → NoDropFrom m.discards.drops history from e → NoDropFrom d.drops (history ++ x ∷ []) from e
    no_drop from e other never k i after drop = elim (drop_pushed m.discards.drops d.drops history x k i e same drop) [ inl was ↦ never k i after was | inr now ↦ other (chunk_is e now.2) ]

    zeros_now : AreZeros o (history ++ x ∷ []) stale m.index.off_base d
    zeros_now = record {
      from = λ e zeros. elim (cases_eq e c) [
        | inl at ↦ inl (record {
          at = length history;
          number = length log;
          is = subst (λ (y : ℕ). IsDrop d.drops (history ++ x ∷ []) (length history) (length log) y) (sym at) now_drop;
          last = λ k i after drop. let l = drop_below d.drops (history ++ x ∷ []) k i e drop in let m = length_push history x in omega arith;
        })
        | inr other ↦ elim (h.facts.zeros.from e (sym (is.zeros.other e other) ∙ zeros)) [
          | inl last ↦ inl (record { at = last.at; number = last.number; is = drop_push m.discards.drops d.drops history x last.at last.number e same last.is; last = no_drop (last.at + 1) e other last.last })
          | inr never ↦ inr (no_drop 0 e other never.0, λ s chunk not_stale. never.1 s chunk (false_from_ne_true (m.index.stale (o.layout.block_of s)) (λ set. let also = (is.stale_others (o.layout.block_of s)).1 (set, λ equal. other (sym chunk ∙ equal)) in cc)))
        ]
      ];
      sealed_off = λ j i b drop less. elim (drop_pushed m.discards.drops d.drops history x j i (o.layout.chunk_of b) same drop) [
        | inl was ↦ h.facts.zeros.sealed_off j i b was (let r = is.reach in omega arith)
        | inr now ↦ absurd (let r = is.reach in let k = h.blocks.reach in omega (arith, now.0))
      ];
    }
