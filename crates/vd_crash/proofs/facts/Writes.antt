-- What a guest's write, or the copy of a block, leaves of all facts.
use Rattle.std.proofs.Common.{ℕ, ◌≡◌, ◌+◌, ◌<◌, ◌≤◌, ◌⊎◌, inl, inr, List, [], ◌∷◌, ◌++◌, length, Some, None, Option, Bool, true, false, arith, refl, ap, sym, subst, ◌∙◌}
use Rattle.std.specs.Prelude.{if◌then◌else◌}
use Rattle.std.proofs.lemmas.Bool.{cases_eq, cases_Bool, false_from_ne_true, both_ways}
use Rattle.vd_image.specs.Log.{Sector, CallId, Entry, Fine, Issue, Done, Reply, Covers, Writes, May, IsOpen}
use Rattle.vd_image.specs.Image.{IsApart}
use Rattle.vd_crash.specs.facts.Safe.{NumberedEntry, events, Opening}
use Rattle.vd_crash.specs.facts.Facts.{IsDrop, OwnWrites, IsDroppedAfter, NoDropFrom, IsLive, IsFill, IsContent, IsClaimSettled, IsWrittenBefore, CrashFacts, IsPending, IsIssued, Holds}
use Rattle.vd_image.proofs.Logs.{at_below, covers_one, at_end, writes_end, writes_below}
use Rattle.vd_crash.proofs.facts.Growth.{FollowsGuest, EndsMirrored}
use Rattle.vd_crash.proofs.facts.Metadata.{metadata_same, WritesPlaces}
use Rattle.vd_crash.proofs.facts.Steps.{next_ordinary, facts_event, pending_event, issued_event, issued_entry, with_blocks, facts_entry, written_same, pending_entry, settled_push}
pub use Rattle.vd_crash.specs.facts.Words.{IsSameWrite, IsUpdated, IsWholeWrite, fill_of}
use Rattle.vd_crash.specs.facts.Words.{no_write, AnswersWell}
use Rattle.vd_crash.specs.facts.Memory.{Memory, IsTable}
use Rattle.vd_crash.specs.facts.Metadata.{Claim, Stored, Zero}
use Rattle.vd_crash.proofs.facts.HistoryGrowth.{guest_writes_below, guest_open_pushed, same_drops, drop_push, drop_old, own_pushed, dropped_after_push, live_pushed}
use Rattle.std.proofs.lemmas.List.{length_push}

-- two blocks with a common place are one, and so are the sectors
pub same_place : (o : Opening) (table : ℕ → Option ℕ) (b c p q s t : ℕ) → IsApart o.layout → IsTable o.layout.storage table
    → o.layout.block_of s ≡ b → o.layout.block_of t ≡ c → table (o.layout.chunk_of b) ≡ Some p → table (o.layout.chunk_of c) ≡ Some q
    → o.layout.place p s ≡ o.layout.place q t → s ≡ t
same_place o table b c p q s t apart storage first second given also same =
    let places = apart.places p q s t (storage.within (o.layout.chunk_of b) p given) (storage.within (o.layout.chunk_of c) q also) same in
    let again : table (o.layout.chunk_of b) ≡ Some q = subst (λ (y : ℕ). table (o.layout.chunk_of b) ≡ Some y) places.0 given in
    let chunk : o.layout.chunk_of b ≡ o.layout.chunk_of c = storage.one_to_one (o.layout.chunk_of b) (o.layout.chunk_of c) q again also in
    places.1 (ap o.layout.chunk_of first ∙ chunk ∙ sym (ap o.layout.chunk_of second))

pub no_done : (id call : CallId) (first : ℕ) (content : List Sector) → Issue id first content ≡ Done call → ⊥
no_done id call first content h = cc

pub no_reply : (id call : CallId) (first : ℕ) (content : List Sector) → Issue id first content ≡ Reply call Fine → ⊥
no_reply id call first content h = cc

-- an entry that is no discard and no Done ends nothing
pub no_ends : (o : Opening) (log : List Entry) (history : List NumberedEntry) (drops : ℕ → Option ℕ) (x : NumberedEntry) → ((id : CallId) → x.event ≡ Done id → ⊥) → (b p : ℕ) → EndsMirrored o log history drops b p x
no_ends o log history drops x none b p j n s v is_open block w done = absurd (none is_open.id done)

-- what a guest's write to a local block puts into each block's place
pub same_follows : (o : Opening) (log : List Entry) (history : List NumberedEntry) (m : Memory) (id : CallId) (first : ℕ) (content : List Sector) (e : Entry) (b p : ℕ)
    → Holds o log history m → m.index.table (o.layout.chunk_of b) ≡ Some p → IsSameWrite o (Issue id first content) e b p
    → (c q : ℕ) → m.index.table (o.layout.chunk_of c) ≡ Some q → FollowsGuest o log (history ++ record { event = Issue id first content; number = length log } ∷ []) m.discards.drops c q e
same_follows o log history m id first content e b p h given same c q there s v block covers =
    let r = same.back (o.layout.place q s) v covers in
    let at : r.0 ≡ s = same_place o m.index.table b c p q r.0 s h.apart h.facts.storage_one_to_one r.1 block given there r.2 in
    inl (
      length history,
      (record { event = Issue id first content; stands = at_end history (record { event = Issue id first content; number = length log }); covers = subst (λ (t : ℕ). Covers (Issue id first content) t v) at r.3 }, next_ordinary o m.discards.drops history h.facts.discards),
    )

-- a guest's write to a block that is local
pub issue_fresh : (o : Opening) (log : List Entry) (history : List NumberedEntry) (m : Memory) (id : CallId) (first : ℕ) (content : List Sector) (e : Entry) (b p : ℕ)
    → Holds o log history m → m.fresh b ≡ true → m.index.table (o.layout.chunk_of b) ≡ Some p → IsSameWrite o (Issue id first content) e b p
    → CrashFacts o log (history ++ record { event = Issue id first content; number = length log } ∷ []) m
    × Holds o (log ++ e ∷ []) (history ++ record { event = Issue id first content; number = length log } ∷ []) m
issue_fresh o log history m id first content e b p h fresh given same = (
  facts,
  record {
    apart = h.apart;
    facts = facts_event o log (history ++ x ∷ []) m e h.apart facts places follows;
    blocks = record {
      born = λ c also. let k = h.blocks.born c also in let l = length_push log e in omega arith;
      stale_settled = λ c stale. settled_push log m e c (h.blocks.stale_settled c stale);
      stale_off = h.blocks.stale_off;
      owed_local = h.blocks.owed_local;
      off_base_known = h.blocks.off_base_known;
      background_same = h.blocks.background_same;
      tried = h.blocks.tried;
      unlogged_untouched = λ c j w. elim (h.blocks.unlogged_untouched c j (written_same o m.discards.drops history x c j (λ call. no_done id call first content) w)) [
        | inl is ↦ inl is
        | inr is ↦ inr (dropped_after_push m.discards.drops m.discards.drops history x j (o.layout.chunk_of c) alike is)
      ];
      issues_stored = λ j n s v w. elim (own_pushed m.discards.drops m.discards.drops history x j n s v alike w) [
        | inl old ↦ issued_event o log (history ++ x ∷ []) m.index.table e j n s v (issued_entry o log history m.index.table x j n s v (guest_writes_below history j n s v old.0) (h.blocks.issues_stored j n s v old))
        | inr new ↦
            let f = same.forward s v new.2 in (
              let l = length_push log e in omega (arith, new.1),
              record {
                storage = p;
                given = λ is_open. subst (λ (c : ℕ). m.index.table (o.layout.chunk_of c) ≡ Some p) (sym f.0) given;
                writes = subst (λ (i : ℕ). Writes (log ++ e ∷ []) i (o.layout.place p s) v) new.1 (writes_end log e (o.layout.place p s) v f.1);
              },
            )
      ];
      pending = λ c i is. let k = h.blocks.pending c i is in (
        k.0,
        pending_event o log (history ++ x ∷ []) m.discards.drops m.index.table e c i (pending_entry o log history m.discards.drops m.index.table x c i none k.1 (omega arith))
            (λ s q v block there covers.
            let r = same.back (o.layout.place q s) v covers in
            let at : r.0 ≡ s = same_place o m.index.table b c p q r.0 s h.apart h.facts.storage_one_to_one r.1 block given there r.2 in
            let one : b ≡ c = sym r.1 ∙ ap o.layout.block_of at ∙ block in
            both_ways (m.fresh c) k.0 (subst (λ (y : ℕ). m.fresh y ≡ true) one fresh)),
      );
      idle = λ c j n s v not_fresh pending block w is_open. elim (own_pushed m.discards.drops m.discards.drops history x j n s v alike w) [
        | inl old ↦ h.blocks.idle c j n s v not_fresh pending block old (guest_open_pushed history x j (guest_writes_below history j n s v old.0) is_open)
        | inr new ↦ both_ways (m.fresh c) not_fresh (subst (λ (y : ℕ). m.fresh y ≡ true) (sym (same.forward s v new.2).0 ∙ block) fresh)
      ];
      dropped = λ j n c drop. h.blocks.dropped j n c (drop_old m.discards.drops history x j n c none drop);
      lost_zeros = h.blocks.lost_zeros;
      zeros_off = h.blocks.zeros_off;
      reach = let l = length_push history x in let k = h.blocks.reach in omega arith;
    };
  },
)
  where
    x : NumberedEntry
    x = record { event = Issue id first content; number = length log }

    none : m.discards.drops (length history) ≡ None
    none = next_ordinary o m.discards.drops history h.facts.discards

    alike : (j : ℕ) → j < length history → m.discards.drops j ≡ m.discards.drops j
    alike = same_drops m.discards.drops (length history)

    answers : AnswersWell o log history m x
    answers call a n asked reply = absurd (no_reply id call first content reply)

    facts : CrashFacts o log (history ++ x ∷ []) m
    facts = facts_entry o log history m m.owed x h.facts refl (λ s v covers j n t u w. (h.blocks.issues_stored j n t u w).0) (λ c q also. no_ends o log history m.discards.drops x (λ call. no_done id call first content) c q) answers

    places : WritesPlaces o e
    places t v covers = let r = same.back t v covers in (p, r.0, h.facts.storage_one_to_one.within (o.layout.chunk_of b) p given, r.2)

    follows : (c q : ℕ) → m.index.table (o.layout.chunk_of c) ≡ Some q → FollowsGuest o log (history ++ x ∷ []) m.discards.drops c q e
    follows = same_follows o log history m id first content e b p h given same

-- what is shown stays so where no block stops being local
pub shown_blocks : (o : Opening) (log : List Entry) (history : List NumberedEntry) (m : Memory) (fresh : ℕ → Bool) (born : ℕ → ℕ) (owed : ℕ → Bool) (pending : ℕ → Option ℕ) → ((b : ℕ) → m.fresh b ≡ true → fresh b ≡ true) → (reach : ℕ) (t : Claim)
    → IsClaimSettled o log history m reach t → IsClaimSettled o log history (with_blocks m fresh born owed pending) reach t
shown_blocks o log history m fresh born owed pending more reach (Stored b) h = (h.0, elim h.1 [ inl is ↦ inl (more b is) | inr dropped ↦ inr dropped ])
shown_blocks o log history m fresh born owed pending more reach (Zero c) h = h

-- the facts don't depend on what is owed or pending
pub facts_same : (o : Opening) (log : List Entry) (history : List NumberedEntry) (m : Memory) (owed : ℕ → Bool) (pending : ℕ → Option ℕ)
    → CrashFacts o log history m → CrashFacts o log history (with_blocks m m.fresh m.born owed pending)
facts_same o log history m owed pending h = record {
  numbers = h.numbers;
  opening = h.opening;
  discards = h.discards;
  answered = h.answered;
  zeros = h.zeros;
  storage_one_to_one = h.storage_one_to_one;
  contents_allowed = h.contents_allowed;
  metadata = metadata_same o (May o.before log) (IsClaimSettled o log history m m.discards.reach) (IsClaimSettled o log history (with_blocks m m.fresh m.born owed pending) m.discards.reach) m.index (shown_blocks o log history m m.fresh m.born owed pending (λ b is. is) m.discards.reach) h.metadata;
}

-- A block that is neither local nor being written whole has no ordinary write that is live, but of before a discard.
pub none_live : (o : Opening) (log : List Entry) (history : List NumberedEntry) (m : Memory) (b j n s : ℕ) (v : Sector) → Holds o log history m → m.fresh b ≡ false → m.pending b ≡ None
    → o.layout.block_of s ≡ b → OwnWrites m.discards.drops history j n s v → IsLive history j → IsDroppedAfter m.discards.drops history j (o.layout.chunk_of b)
none_live o log history m b j n s v h not_fresh none block w (inr is_open) = absurd (h.blocks.idle b j n s v not_fresh none block w is_open)
none_live o log history m b j n s v h not_fresh none block w (inl ends) = elim (h.blocks.unlogged_untouched b j (record {
  end = ends.0;
  number = n;
  end_number = ends.1;
  sector = s;
  value = v;
  block = block;
  writes = w;
  ends = ends.2;
  before = at_below history ends.0 (record { event = ends.2.event; number = ends.1 }) ends.2.numbered;
})) [
  | inl logged ↦ elim logged [
    | inl stale ↦ absurd (let set = (h.blocks.stale_settled b stale).0 in both_ways (m.fresh b) not_fresh set)
    | inr owed ↦ absurd (let set = h.blocks.owed_local b owed in both_ways (m.fresh b) not_fresh set)
  ]
  | inr dropped ↦ dropped
]

-- The store's write of a whole block that isn't local, after an entry or none: `later` is the history with the entry.
pub record IsNoDiscard (o : Opening) (drops : ℕ → Option ℕ) (guest : Entry) (top : ℕ) (history later : List NumberedEntry) : Type 0 where
  pub split : (j n s : ℕ) (v : Sector) → OwnWrites drops later j n s v → OwnWrites drops history j n s v ⊎ ((n ≡ top) × Covers guest s v)
  pub added : (s : ℕ) (v : Sector) → Covers guest s v → (j : ℕ) × OwnWrites drops later j top s v
  pub live : (j n s : ℕ) (v : Sector) → OwnWrites drops history j n s v → IsLive later j → IsLive history j
  pub is_open : (j n s : ℕ) (v : Sector) → OwnWrites drops history j n s v → IsOpen (events later) j → IsOpen (events history) j
  pub drop_stays : (j n c : ℕ) → IsDrop drops history j n c → IsDrop drops later j n c
  pub dropped : (j n c : ℕ) → IsDrop drops later j n c → IsDrop drops history j n c
  pub written : (c j : ℕ) → IsWrittenBefore o drops later (length later) c j → IsWrittenBefore o drops history (length history) c j
  pub longer : length history ≤ length later

-- What stands in a block that isn't local, as the next store event finds it.
pub fill_now : (o : Opening) (log : List Entry) (history later : List NumberedEntry) (m : Memory) (guest : Entry) (b s : ℕ) (v : Sector) → Holds o log history m → m.fresh b ≡ false → m.pending b ≡ None
    → IsNoDiscard o m.discards.drops guest (length log) history later → o.layout.block_of s ≡ b → v ≡ fill_of o m.discards s → ((u : Sector) → Covers guest s u → ⊥) → IsFill o m.discards.drops later (length log) s v
fill_now o log history later m guest b s v h not_fresh none same block value uncovered = elim (cases_Bool (m.discards.zeros (o.layout.chunk_of (o.layout.block_of s)))) [
  | inl zeros ↦
      let is_zeros : v ≡ o.zeros = value ∙ ap (λ (y : Bool). if y then o.zeros else o.disk s) zeros in
      elim (h.facts.zeros.from (o.layout.chunk_of (o.layout.block_of s)) zeros) [
        | inl last ↦ record {
          from = last.at + 1;
          value = inr (last.at, last.number, same.drop_stays last.at last.number (o.layout.chunk_of (o.layout.block_of s)) last.is, refl, is_zeros);
          writes = λ k n u from w live. writes (last.at + 1) last.last k n u from w live;
          later = λ k n from drop. absurd (last.last k n from (same.dropped k n (o.layout.chunk_of (o.layout.block_of s)) drop));
        }
        | inr never ↦ record {
          from = 0;
          value = inl (refl, is_zeros ∙ sym (never.1 s refl not_stale));
          writes = λ k n u from w live. writes 0 never.0 k n u from w live;
          later = λ k n from drop. absurd (never.0 k n from (same.dropped k n (o.layout.chunk_of (o.layout.block_of s)) drop));
        }
      ]
  | inr base ↦
      let no_drop : NoDropFrom m.discards.drops history 0 (o.layout.chunk_of (o.layout.block_of s)) = λ k n from drop. (let set = (h.blocks.dropped k n (o.layout.chunk_of (o.layout.block_of s)) drop).0 in both_ways (m.discards.zeros (o.layout.chunk_of (o.layout.block_of s))) base set) in
      record {
        from = 0;
        value = inl (refl, value ∙ ap (λ (y : Bool). if y then o.zeros else o.disk s) base);
        writes = λ k n u from w live. writes 0 no_drop k n u from w live;
        later = λ k n from drop. absurd (no_drop k n from (same.dropped k n (o.layout.chunk_of (o.layout.block_of s)) drop));
      }
]
  where
    not_stale : m.index.stale (o.layout.block_of s) ≡ false
    not_stale = false_from_ne_true (m.index.stale (o.layout.block_of s)) (λ stale. both_ways (m.fresh b) not_fresh (subst (λ (y : ℕ). m.fresh y ≡ true) block (h.blocks.stale_settled (o.layout.block_of s) stale).0))

    writes : (from : ℕ) → NoDropFrom m.discards.drops history from (o.layout.chunk_of (o.layout.block_of s)) → (k n : ℕ) (u : Sector) → from ≤ k → OwnWrites m.discards.drops later k n s u → IsLive later k → length log < n
    writes from no_drop k n u after w live = elim (same.split k n s u w) [
      | inl old ↦
          (let dropped = none_live o log history m b k n s u h not_fresh none block old (same.live k n s u old live) in
          absurd (no_drop dropped.0 dropped.1 (omega (arith, dropped.3)) (subst (λ (y : ℕ). IsDrop m.discards.drops history dropped.0 dropped.1 (o.layout.chunk_of y)) (sym block) dropped.2)))
      | inr new ↦ absurd (uncovered u new.1)
    ]

pub whole_write : (o : Opening) (log : List Entry) (history later : List NumberedEntry) (m : Memory) (pending : ℕ → Option ℕ) (guest e : Entry) (b p : ℕ)
    → Holds o log history m → CrashFacts o log later m → m.fresh b ≡ false → m.pending b ≡ None → b < o.layout.blocks → m.index.table (o.layout.chunk_of b) ≡ Some p
    → IsUpdated m.pending pending b (Some (length log)) → IsWholeWrite o m.discards guest e b p
    → IsNoDiscard o m.discards.drops guest (length log) history later
    → ((c i : ℕ) → IsPending o log history m.discards.drops m.index.table c i → IsPending o log later m.discards.drops m.index.table c i)
    → Holds o (log ++ e ∷ []) later (with_blocks m m.fresh m.born m.owed pending) × ((c q : ℕ) → m.index.table (o.layout.chunk_of c) ≡ Some q → FollowsGuest o log later m.discards.drops c q e)
whole_write o log history later m pending guest e b p h facts not_fresh none in_range given put write same kept = (
  record {
    apart = h.apart;
    facts = facts_same o (log ++ e ∷ []) later m m.owed pending facts_now;
    blocks = record {
      born = λ c also. let k = h.blocks.born c also in let l = length_push log e in omega arith;
      stale_settled = λ c stale. settled_push log m e c (h.blocks.stale_settled c stale);
      stale_off = h.blocks.stale_off;
      owed_local = h.blocks.owed_local;
      off_base_known = h.blocks.off_base_known;
      background_same = h.blocks.background_same;
      tried = h.blocks.tried;
      unlogged_untouched = λ c j w. elim (h.blocks.unlogged_untouched c j (same.written c j w)) [ inl is ↦ inl is | inr is ↦ inr (is.0, is.1, same.drop_stays is.0 is.1 (o.layout.chunk_of c) is.2, is.3) ];
      issues_stored = λ j n s v w. elim (same.split j n s v w) [
        | inl old ↦ issued_event o log later m.index.table e j n s v (let k = h.blocks.issues_stored j n s v old in (k.0, record { storage = k.1.storage; given = λ is_open. k.1.given (same.is_open j n s v old is_open); writes = k.1.writes }))
        | inr new ↦ issued_now j n s v new.0 new.1
      ];
      pending = λ c i is. elim (cases_eq c b) [
        | inl equal ↦ pending_now c i equal is
        | inr other ↦ pending_old c i other is
      ];
      idle = λ c j n s v not_there no_pending block w is_open. elim (cases_eq c b) [
        | inl equal ↦ absurd (let is : pending b ≡ None = subst (λ (y : ℕ). pending y ≡ None) equal no_pending in let put_same = put.same in cc)
        | inr other ↦ elim (same.split j n s v w) [
          | inl old ↦ h.blocks.idle c j n s v not_there (sym (put.other c other) ∙ no_pending) block old (same.is_open j n s v old is_open)
          | inr new ↦ other (sym block ∙ write.guest_block s v new.1)
        ]
      ];
      dropped = λ j n c drop. h.blocks.dropped j n c (same.dropped j n c drop);
      lost_zeros = h.blocks.lost_zeros;
      zeros_off = h.blocks.zeros_off;
      reach = let l = same.longer in let k = h.blocks.reach in omega arith;
    };
  },
  follows,
)
  where
    places : WritesPlaces o e
    places t v covers = let r = write.back t v covers in (p, r.0, h.facts.storage_one_to_one.within (o.layout.chunk_of b) p given, r.2)

    content : (s : ℕ) (v : Sector) → o.layout.block_of s ≡ b → Covers guest s v ⊎ ((v ≡ fill_of o m.discards s) × ((u : Sector) → Covers guest s u → ⊥)) → IsContent o m.discards.drops later (length log) s v
    content s v block (inl g) = inl (same.added s v g)
    content s v block (inr g) = inr (fill_now o log history later m guest b s v h not_fresh none same block g.0 g.1)

    follows : (c q : ℕ) → m.index.table (o.layout.chunk_of c) ≡ Some q → FollowsGuest o log later m.discards.drops c q e
    follows c q there s v block covers =
        let r = write.back (o.layout.place q s) v covers in
        let at : r.0 ≡ s = same_place o m.index.table b c p q r.0 s h.apart h.facts.storage_one_to_one r.1 block given there r.2 in
        let one : o.layout.block_of s ≡ b = ap o.layout.block_of (sym at) ∙ r.1 in
        let chunk : o.layout.chunk_of c ≡ o.layout.chunk_of b = ap o.layout.chunk_of (sym block ∙ one) in
        let storage : q ≡ p = (let also : m.index.table (o.layout.chunk_of b) ≡ Some q = subst (λ (y : ℕ). m.index.table y ≡ Some q) chunk there in cc) in
        let w = write.whole s one in
        let here : Covers e (o.layout.place p s) v = subst (λ (y : ℕ). Covers e (o.layout.place y s) v) storage covers in
        let value : w.0 ≡ v = covers_one e (o.layout.place p s) w.0 v w.1 here in
        subst (λ (y : Sector). IsContent o m.discards.drops later (length log) s y) value (content s w.0 one w.2)

    facts_now : CrashFacts o (log ++ e ∷ []) later m
    facts_now = facts_event o log later m e h.apart facts places follows

    issued_now : (j n s : ℕ) (v : Sector) → n ≡ length log → Covers guest s v → (n < length (log ++ e ∷ [])) × IsIssued o (log ++ e ∷ []) later m.index.table j n s v
    issued_now j n s v number covers =
        let block = write.guest_block s v covers in
        let w = write.whole s block in
        let value : w.0 ≡ v = elim w.2 [ inl g ↦ covers_one guest s w.0 v g covers | inr g ↦ absurd (g.1 v covers) ] in (
          let l = length_push log e in omega arith,
          record {
            storage = p;
            given = λ is_open. subst (λ (c : ℕ). m.index.table (o.layout.chunk_of c) ≡ Some p) (sym block) given;
            writes = subst (λ (i : ℕ). Writes (log ++ e ∷ []) i (o.layout.place p s) v) (sym number) (subst (λ (y : Sector). Writes (log ++ e ∷ []) (length log) (o.layout.place p s) y) value (writes_end log e (o.layout.place p s) w.0 w.1));
          },
        )

    pending_b : IsPending o (log ++ e ∷ []) later m.discards.drops m.index.table b (length log)
    pending_b = record {
      storage = p;
      given = given;
      in_range = in_range;
      within = let l = length_push log e in omega arith;
      opened = h.facts.opening.within;
      whole = λ s block. let w = write.whole s block in (w.0, writes_end log e (o.layout.place p s) w.0 w.1, content s w.0 block w.2);
      quiet = λ k s v block after w. let below = writes_below (log ++ e ∷ []) k (o.layout.place p s) v w in let l = length_push log e in omega arith;
      running = λ j n s v block w is_open. elim (same.split j n s v w) [
        | inl old ↦ absurd (h.blocks.idle b j n s v not_fresh none block old (same.is_open j n s v old is_open))
        | inr new ↦ omega (arith, new.0)
      ];
      newest = λ j n drop. let d = same.dropped j n (o.layout.chunk_of b) drop in h.facts.numbers.none_above j n d.event d.stands;
    }

    pending_now : (c i : ℕ) → c ≡ b → pending c ≡ Some i → (m.fresh c ≡ false) × IsPending o (log ++ e ∷ []) later m.discards.drops m.index.table c i
    pending_now c i equal is =
        let is_b : pending b ≡ Some i = subst (λ (y : ℕ). pending y ≡ Some i) equal is in
        let put_same = put.same in
        let at : length log ≡ i = cc in (
          subst (λ (y : ℕ). m.fresh y ≡ false) (sym equal) not_fresh,
          subst (λ (y : ℕ). IsPending o (log ++ e ∷ []) later m.discards.drops m.index.table y i) (sym equal) (subst (λ (y : ℕ). IsPending o (log ++ e ∷ []) later m.discards.drops m.index.table b y) at pending_b),
        )

    pending_old : (c i : ℕ) → (c ≡ b → ⊥) → pending c ≡ Some i → (m.fresh c ≡ false) × IsPending o (log ++ e ∷ []) later m.discards.drops m.index.table c i
    pending_old c i other is =
        let k = h.blocks.pending c i (sym (put.other c other) ∙ is) in (
          k.0,
          pending_event o log later m.discards.drops m.index.table e c i (kept c i k.1)
              (λ s q v block there covers.
              let r = write.back (o.layout.place q s) v covers in
              let at : r.0 ≡ s = same_place o m.index.table b c p q r.0 s h.apart h.facts.storage_one_to_one r.1 block given there r.2 in
              other (sym block ∙ ap o.layout.block_of (sym at) ∙ r.1)),
        )

-- a copy of a block: what stands in it is written, and no entry is made
pub put_copy : (o : Opening) (log : List Entry) (history : List NumberedEntry) (m : Memory) (pending : ℕ → Option ℕ) (e : Entry) (b p : ℕ)
    → Holds o log history m → m.fresh b ≡ false → m.pending b ≡ None → b < o.layout.blocks → m.index.table (o.layout.chunk_of b) ≡ Some p
    → IsUpdated m.pending pending b (Some (length log)) → IsWholeWrite o m.discards no_write e b p
    → Holds o (log ++ e ∷ []) history (with_blocks m m.fresh m.born m.owed pending) × ((c q : ℕ) → m.index.table (o.layout.chunk_of c) ≡ Some q → FollowsGuest o log history m.discards.drops c q e)
put_copy o log history m pending e b p h not_fresh none in_range given put write =
    whole_write o log history history m pending no_write e b p h h.facts not_fresh none in_range given put write
    (record {
      split = λ j n s v w. inl w;
      added = λ s v covers. absurd covers;
      live = λ j n s v w live. live;
      is_open = λ j n s v w is. is;
      drop_stays = λ j n c drop. drop;
      dropped = λ j n c drop. drop;
      written = λ c j w. w;
      longer = omega arith;
    })
    (λ c i k. k)

-- a guest's write to a block that isn't local
pub issue_whole : (o : Opening) (log : List Entry) (history : List NumberedEntry) (m : Memory) (pending : ℕ → Option ℕ) (id : CallId) (first : ℕ) (content : List Sector) (e : Entry) (b p : ℕ)
    → Holds o log history m → m.fresh b ≡ false → m.pending b ≡ None → b < o.layout.blocks → m.index.table (o.layout.chunk_of b) ≡ Some p
    → IsUpdated m.pending pending b (Some (length log)) → IsWholeWrite o m.discards (Issue id first content) e b p
    → CrashFacts o log (history ++ record { event = Issue id first content; number = length log } ∷ []) m
    × Holds o (log ++ e ∷ []) (history ++ record { event = Issue id first content; number = length log } ∷ []) (with_blocks m m.fresh m.born m.owed pending)
    × ((c q : ℕ) → m.index.table (o.layout.chunk_of c) ≡ Some q → FollowsGuest o log (history ++ record { event = Issue id first content; number = length log } ∷ []) m.discards.drops c q e)
issue_whole o log history m pending id first content e b p h not_fresh none in_range given put write = (facts, both.0, both.1)
  where
    x : NumberedEntry
    x = record { event = Issue id first content; number = length log }

    ordinary : m.discards.drops (length history) ≡ None
    ordinary = next_ordinary o m.discards.drops history h.facts.discards

    alike : (j : ℕ) → j < length history → m.discards.drops j ≡ m.discards.drops j
    alike = same_drops m.discards.drops (length history)

    answers : AnswersWell o log history m x
    answers call a n asked reply = absurd (no_reply id call first content reply)

    facts : CrashFacts o log (history ++ x ∷ []) m
    facts = facts_entry o log history m m.owed x h.facts refl (λ s v covers j n t u w. (h.blocks.issues_stored j n t u w).0) (λ c q also. no_ends o log history m.discards.drops x (λ call. no_done id call first content) c q) answers

    both : Holds o (log ++ e ∷ []) (history ++ x ∷ []) (with_blocks m m.fresh m.born m.owed pending) × ((c q : ℕ) → m.index.table (o.layout.chunk_of c) ≡ Some q → FollowsGuest o log (history ++ x ∷ []) m.discards.drops c q e)
    both = whole_write o log history (history ++ x ∷ []) m pending (Issue id first content) e b p h facts not_fresh none in_range given put write
        (record {
          split = λ j n s v w. elim (own_pushed m.discards.drops m.discards.drops history x j n s v alike w) [ inl old ↦ inl old | inr new ↦ inr (sym new.1, new.2) ];
          added = λ s v covers. (length history, (record { event = Issue id first content; stands = at_end history x; covers = covers }, ordinary));
          live = λ j n s v w live. live_pushed history x j (guest_writes_below history j n s v w.0) live;
          is_open = λ j n s v w is. guest_open_pushed history x j (guest_writes_below history j n s v w.0) is;
          drop_stays = λ j n c drop. drop_push m.discards.drops m.discards.drops history x j n c alike drop;
          dropped = λ j n c drop. drop_old m.discards.drops history x j n c ordinary drop;
          written = λ c j w. written_same o m.discards.drops history x c j (λ call. no_done id call first content) w;
          longer = let l = length_push history x in omega arith;
        })
        (λ c i k. pending_entry o log history m.discards.drops m.index.table x c i ordinary k (omega arith))
