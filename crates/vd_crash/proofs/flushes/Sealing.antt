-- What the end of a flush leaves of all facts, by records and by a recycle, and its good answer.
use Rattle.std.proofs.Common.{ℕ, ◌≡◌, ◌+◌, ◌<◌, ◌≤◌, ◌⊎◌, inl, inr, List, [], ◌∷◌, ◌++◌, length, Some, Bool, true, false, arith, refl, ap, sym, subst, ◌∙◌, Ok}
use Rattle.std.proofs.lemmas.Bool.{cases_lt, cases_Bool, false_from_ne_true}
use Rattle.vd_image.specs.Log.{Sector, CallId, Entry, Flush, Fine, Ask, Reply, Flushes, May, IsOpen}
use Rattle.vd_image.specs.Image.{Header, Mapping, Record}
use Rattle.vd_crash.specs.facts.Safe.{NumberedEntry, events, Opening}
use Rattle.vd_crash.specs.facts.Facts.{HasEntry, OwnWrites, NoDropFrom, IsClaimSettled, IsSettled, IsWrittenBefore, AreZeros, Holds}
use Rattle.vd_image.proofs.Logs.{at_one}
use Rattle.vd_crash.proofs.facts.Growth.{kept_grown, answered_more}
use Rattle.vd_crash.proofs.facts.Steps.{quiet_entry, no_done_ends}
use Rattle.vd_crash.specs.flushes.Flushing.{Snapshot, IsWanted, IsOffAfter, IsFlushUnderWay, IsCaughtUp, IsSealed, IsLogged, flush_ask}
use Rattle.vd_crash.specs.flushes.Stage.{FlushProgress, IsSoFar}
use Rattle.vd_crash.specs.facts.Words.{Sealing, sealed_memory}
use Rattle.vd_crash.proofs.flushes.Wanted.{off_after_wanted, due_wanted, caught_in_page}
use Rattle.vd_crash.proofs.flushes.Synced.{named_in_slots}
use Rattle.vd_crash.specs.facts.Memory.{Memory}
use Rattle.vd_crash.specs.facts.Metadata.{IsRight, IsNamed, Need, Local, Off_base, block_in, chunk_in, IsInPage, IsLocalLeft, IsDue, IsMetadata}
use Rattle.vd_format.specs.Background.{background}
use Rattle.vd_lists.proofs.Options.{cases_option}

-- the end of a flush, whatever the metadata becomes
pub seal : (o : Opening) (log : List Entry) (history : List NumberedEntry) (m : Memory) (p : Snapshot) (call : CallId) (a n q : ℕ) (generation tracked : ℕ) (sure : Bool) (tried : ℕ → Bool) (cursor : ℕ) (z : Sealing)
    → Holds o log history m → IsFlushUnderWay o log history m p (flush_ask call a n) q → Flushes log q → IsLogged o history m p z
    → ((b : ℕ) → tried b ≡ true → m.index.tried b ≡ true)
    → ((s : ℕ) → s < o.layout.size → z.off_base (o.layout.block_of s) ≡ false → background o.base o.zeros tracked s ≡ o.disk s)
    → IsMetadata o (May o.before log) (IsClaimSettled o log history (sealed_memory m generation tracked sure tried cursor z) z.reach) (sealed_memory m generation tracked sure tried cursor z).index
    → Holds o log history (sealed_memory m generation tracked sure tried cursor z) × IsSealed o log history m.discards.drops z.stale z.off_base z.reach (flush_ask call a n)
seal o log history m p call a n q generation tracked sure tried cursor z h way flushes logged fewer background metadata = (
  record {
    apart = h.apart;
    facts = record {
      numbers = h.facts.numbers;
      opening = h.facts.opening;
      discards = h.facts.discards;
      storage_one_to_one = record {
        within = λ c s given. h.facts.storage_one_to_one.within c s (was c s given);
        one_to_one = λ c d s first second. h.facts.storage_one_to_one.one_to_one c d s (was c s first) (was d s second);
      };
      contents_allowed = λ b fresh reach. kept_grown o log history m.discards.drops m.index.table z.table b reach reach (m.born b) (m.born b) (λ s given. fresh_still b fresh s given) (λ j k drop less. less) (λ w good. good) (h.facts.contents_allowed b fresh reach);
      answered = answered_more o log m.discards.drops history m.index.stale z.stale m.index.off_base z.off_base m.discards.reach z.reach h.facts.answered logged.stale_still (λ b off. (logged.off_is b).1 (inl off)) (let k = way.reach in let e = logged.reach in omega arith);
      zeros = zeros_now;
      metadata = metadata;
    };
    blocks = record {
      born = h.blocks.born;
      stale_settled = λ b is. settled b (logged.stale_was b is);
      stale_off = λ b is. (logged.off_is b).1 (elim (logged.stale_was b is) [ inl stale ↦ inl (h.blocks.stale_off b stale) | inr new ↦ inr (inl new.0) ]);
      owed_local = λ b is. h.blocks.owed_local b (logged.owed_was b is);
      off_base_known = λ b off. off_known b ((logged.off_is b).0 off);
      background_same = background;
      tried = λ b is. inl ((logged.off_is b).1 (way.tried b (fewer b is)));
      unlogged_untouched = λ b j w. elim (h.blocks.unlogged_untouched b j w) [
        | inl is ↦ inl (elim is [ inl stale ↦ inl (logged.stale_still b stale) | inr owed ↦ elim (logged.owed_still b owed) [ inl still ↦ inr still | inr stale ↦ inl stale ] ])
        | inr dropped ↦ inr dropped
      ];
      issues_stored = λ j k s v w. let i = h.blocks.issues_stored j k s v w in
          (i.0, record { storage = i.1.storage; given = λ is_open. open_still j k s v w is_open i.1.storage (i.1.given is_open); writes = i.1.writes });
      pending = λ b i is. let k = h.blocks.pending b i is in (
        k.0,
        record {
          storage = k.1.storage;
          given = pending_still b i is k.1.storage k.1.given;
          in_range = k.1.in_range;
          within = k.1.within;
          opened = k.1.opened;
          whole = k.1.whole;
          quiet = k.1.quiet;
          running = k.1.running;
          newest = k.1.newest;
        },
      );
      idle = h.blocks.idle;
      dropped = λ j k c drop. (
        (h.blocks.dropped j k c drop).0,
        elim (cases_lt j p.begun) [
          | inl before ↦ inl (let e = logged.reach in omega arith)
          | inr since ↦ inr (logged.lost_still j k c since drop)
        ],
      );
      lost_zeros = λ c lost. h.blocks.lost_zeros c (logged.lost_was c lost);
      zeros_off = λ b zeros. elim (h.blocks.zeros_off b zeros) [
        | inl off ↦ inl ((logged.off_is b).1 (inl off))
        | inr lost ↦ elim (way.lost_since (o.layout.chunk_of b) lost) [
          | inl was_lost ↦ inl ((logged.off_is b).1 (inr (inr was_lost)))
          | inr dropped ↦ inr (logged.lost_still dropped.0 dropped.1 (o.layout.chunk_of b) dropped.3 dropped.2)
        ]
      ];
      reach = let k = way.begun in let e = logged.reach in omega arith;
    };
  },
  record {
    asked = way.asked;
    flushed = (q, flushes, way.order);
    logged = λ b j w. (
      (logged.off_is b).1 (way.covered_off b j w),
      elim (way.covered b j w) [
        | inl is ↦ elim is [
          | inl stale ↦ inl (logged.stale_still b stale)
          | inr block ↦ elim (logged.snapped b block) [
            | inl stale ↦ inl stale
            | inr dropped ↦ inr (dropped.0, dropped.1, dropped.2, let l = w.ends.ends.later in let k = w.before in let t = way.after in omega (arith, dropped.3))
          ]
        ]
        | inr dropped ↦ inr dropped
      ],
    );
    reached = let k = way.after in let e = logged.reach in omega arith;
  },
)
  where
    was : (c s : ℕ) → z.table c ≡ Some s → m.index.table c ≡ Some s
    was c s given = elim (logged.table c) [ inl same ↦ sym same ∙ given | inr released ↦ absurd (let none = released.none in cc) ]

    fresh_still : (b : ℕ) → m.fresh b ≡ true → (s : ℕ) → m.index.table (o.layout.chunk_of b) ≡ Some s → z.table (o.layout.chunk_of b) ≡ Some s
    fresh_still b fresh s given = elim (logged.table (o.layout.chunk_of b)) [ inl same ↦ same ∙ given | inr released ↦ absurd (released.not_local b refl fresh) ]

    pending_still : (b i : ℕ) → m.pending b ≡ Some i → (s : ℕ) → m.index.table (o.layout.chunk_of b) ≡ Some s → z.table (o.layout.chunk_of b) ≡ Some s
    pending_still b i is s given = elim (logged.table (o.layout.chunk_of b)) [ inl same ↦ same ∙ given | inr released ↦ absurd (let none = released.calm b refl in cc) ]

    open_still : (j k s : ℕ) (v : Sector) → OwnWrites m.discards.drops history j k s v → IsOpen (events history) j → (st : ℕ) → m.index.table (o.layout.chunk_of (o.layout.block_of s)) ≡ Some st → z.table (o.layout.chunk_of (o.layout.block_of s)) ≡ Some st
    open_still j k s v w is_open st given = elim (logged.table (o.layout.chunk_of (o.layout.block_of s))) [
      | inl same ↦ same ∙ given
      | inr released ↦ absurd (h.blocks.idle (o.layout.block_of s) j k s v (false_from_ne_true (m.fresh (o.layout.block_of s)) (released.not_local (o.layout.block_of s) refl)) (released.calm (o.layout.block_of s) refl) refl w is_open)
    ]

    settled : (b : ℕ) → (m.index.stale b ≡ true) ⊎ ((p.blocks b ≡ true) × NoDropFrom m.discards.drops history p.begun (o.layout.chunk_of b)) → IsSettled log m b
    settled b (inl stale) = h.blocks.stale_settled b stale
    settled b (inr new) = elim (way.owed b new.0) [
      | inl owed ↦ (h.blocks.owed_local b owed.0, (q, flushes, owed.1))
      | inr dropped ↦ absurd (new.1 dropped.0 dropped.1 dropped.3 dropped.2)
    ]

    off_known : (b : ℕ) → IsOffAfter o m p b → (o.layout.chunk_of b < o.layout.chunks) × ((z.stale b ≡ true) ⊎ (m.discards.zeros (o.layout.chunk_of b) ≡ true))
    off_known b after = ((off_after_wanted o log history m p call a n q b h way after).0, known after)
      where
        known : IsOffAfter o m p b → (z.stale b ≡ true) ⊎ (m.discards.zeros (o.layout.chunk_of b) ≡ true)
        known (inl off) = elim (h.blocks.off_base_known b off).1 [ inl stale ↦ inl (logged.stale_still b stale) | inr zeros ↦ inr zeros ]
        known (inr (inl block)) = elim (logged.snapped b block) [ inl stale ↦ inl stale | inr dropped ↦ inr (h.blocks.dropped dropped.0 dropped.1 (o.layout.chunk_of b) dropped.2).0 ]
        known (inr (inr lost)) = inr (way.zeros (o.layout.chunk_of b) (way.lost_zeros (o.layout.chunk_of b) lost).1)

    zeros_now : AreZeros o history z.stale z.off_base (record { drops = m.discards.drops; zeros = m.discards.zeros; lost = z.lost; reach = z.reach })
    zeros_now = record {
      from = λ c is. elim (h.facts.zeros.from c is) [
        | inl last ↦ inl (record { at = last.at; number = last.number; is = last.is; last = last.last })
        | inr never ↦ inr (never.0, λ s chunk not_stale. never.1 s chunk (false_from_ne_true (m.index.stale (o.layout.block_of s)) (λ set. let also = logged.stale_still (o.layout.block_of s) set in cc)))
      ];
      sealed_off = λ j k b drop less. (logged.off_is b).1 (elim (way.dropped j k (o.layout.chunk_of b) drop (let e = logged.reach in omega arith)) [
        | inl sealed ↦ inl (h.facts.zeros.sealed_off j k b drop sealed)
        | inr lost ↦ inr (inr lost)
      ]);
    }

not_false : (x y : Bool) → (x ≡ true → y ≡ true) → y ≡ false → x ≡ false
not_false true y h e = absurd (let k : y ≡ true = h refl in cc)
not_false false y h e = refl

-- What is right even where each discard of before the snapshot counts stays right at the end of the flush: where the chunk's storage
-- is released it has no block.
pub right_sealed : (o : Opening) (log : List Entry) (history : List NumberedEntry) (m : Memory) (p : Snapshot) (generation tracked : ℕ) (sure : Bool) (tried : ℕ → Bool) (cursor : ℕ) (z : Sealing) (c : ℕ) (w : Mapping)
    → IsLogged o history m p z → (p.lost c ≡ true → (b : ℕ) → w.has b ≡ true → p.wanted b ≡ true)
    → IsRight o (IsClaimSettled o log history m p.begun) m.index.table c w → IsRight o (IsClaimSettled o log history (sealed_memory m generation tracked sure tried cursor z) z.reach) z.table c w
right_sealed o log history m p generation tracked sure tried cursor z c w logged only right = record {
  grammar = right.grammar;
  storage_agrees = λ s has. let b = right.grammar.has_block s has in still b.0 b.1 s (right.storage_agrees s has);
  blocks_settled = λ b has.
      let chunk = (right.grammar.blocks b has).1 in (
        kept_grown o log history m.discards.drops m.index.table z.table b p.begun z.reach 0 0 (λ s given. subst (λ (d : ℕ). z.table d ≡ Some s) (sym chunk) (still b has s (subst (λ (d : ℕ). m.index.table d ≡ Some s) chunk given)))
            (λ j k drop less. let e = logged.reach in omega arith) (λ v good. good) (right.blocks_settled b has).0,
        (right.blocks_settled b has).1,
      );
  kind_settled = λ zeros. right.kind_settled zeros;
}
  where
    still : (b : ℕ) → w.has b ≡ true → (s : ℕ) → m.index.table c ≡ Some s → z.table c ≡ Some s
    still b has s given = elim (logged.table c) [
      | inl same ↦ same ∙ given
      | inr released ↦ absurd (released.unwanted b (right.grammar.blocks b has).1 (only released.lost b has))
    ]

-- What is right stays so, or it has a block of a chunk whose discard is logged.
pub right_or_lost : (o : Opening) (log : List Entry) (history : List NumberedEntry) (m : Memory) (p : Snapshot) (call : CallId) (a n q : ℕ) (generation tracked : ℕ) (sure : Bool) (tried : ℕ → Bool) (cursor : ℕ) (z : Sealing) (c : ℕ) (w : Mapping)
    → IsFlushUnderWay o log history m p (flush_ask call a n) q → IsLogged o history m p z
    → IsRight o (IsClaimSettled o log history m m.discards.reach) m.index.table c w
    → IsRight o (IsClaimSettled o log history (sealed_memory m generation tracked sure tried cursor z) z.reach) z.table c w ⊎ ((b : ℕ) × (o.layout.chunk_of b ≡ c) × (p.lost (o.layout.chunk_of b) ≡ true))
right_or_lost o log history m p call a n q generation tracked sure tried cursor z c w way logged right = elim (cases_Bool (p.lost c)) [
  | inl lost ↦ elim (cases_option w.storage) [
    | inl none ↦ inl (record {
      grammar = right.grammar;
      storage_agrees = λ s has. absurd cc;
      blocks_settled = λ b has. absurd (let s = right.grammar.has_storage b has in let e = s.1 in cc);
      kind_settled = λ zeros. right.kind_settled zeros;
    })
    | inr some_storage ↦ (let b = right.grammar.has_block some_storage.0 some_storage.1 in let chunk = (right.grammar.blocks b.0 b.1).1 in inr (b.0, chunk, subst (λ (d : ℕ). p.lost d ≡ true) (sym chunk) lost))
  ]
  | inr kept ↦ inl (right_sealed o log history m p generation tracked sure tried cursor z c w logged (λ lost. absurd cc) (record {
    grammar = right.grammar;
    storage_agrees = right.storage_agrees;
    kind_settled = λ zeros. right.kind_settled zeros;
    blocks_settled = λ b has. (
      kept_grown o log history m.discards.drops m.index.table m.index.table b m.discards.reach p.begun 0 0 (λ s given. given)
          (λ j k drop less. elim (way.dropped j k (o.layout.chunk_of b) drop less) [
            | inl sealed ↦ sealed
            | inr lost ↦ absurd (let there : p.lost c ≡ true = subst (λ (d : ℕ). p.lost d ≡ true) (right.grammar.blocks b has).1 lost in cc)
          ])
          (λ v good. good) (right.blocks_settled b has).0,
      (right.blocks_settled b has).1,
    );
  }))
]

-- the end of a flush by records, or with nothing new
pub seal_records : (o : Opening) (log : List Entry) (history : List NumberedEntry) (m : Memory) (call : CallId) (a n q : ℕ) (p : FlushProgress) (z : Sealing)
    → Holds o log history m → IsSoFar o log history m (flush_ask call a n) q p → IsLogged o history m p.snapshot z → m.index.sure ≡ true
    → ((b : ℕ) → p.snapshot.blocks b ≡ true → p.slotted b ≡ true) → ((b : ℕ) → p.snapshot.lost (o.layout.chunk_of b) ≡ true → p.slotted b ≡ true)
    → Holds o log history (sealed_memory m m.index.generation m.index.tracked m.index.sure m.index.tried m.index.cursor z) × IsSealed o log history m.discards.drops z.stale z.off_base z.reach (flush_ask call a n)
seal_records o log history m call a n q p z h so logged sure slots lost_slots =
    seal o log history m p.snapshot call a n q m.index.generation m.index.tracked m.index.sure m.index.tried m.index.cursor z h so.way so.flushes logged (λ b t. t)
    (λ s within not_off. h.blocks.background_same s within (was_false (o.layout.block_of s) not_off))
    (record {
      header_known = λ v left. let k = h.facts.metadata.header_known v left in record {
        header = k.header;
        reads = k.reads;
        geometry = k.geometry;
        generation = k.generation;
        background = λ s within not_off. k.background s within (was_false (o.layout.block_of s) not_off);
      };
      header_sure = h.facts.metadata.header_sure;
      pages = λ c v within left.
          let page = h.facts.metadata.pages c v within left in
          record {
            mapping = page.mapping;
            reads = page.reads;
            grammar = page.grammar;
            right = elim page.right [
              | inl right ↦ elim (right_or_lost o log history m p.snapshot call a n q m.index.generation m.index.tracked m.index.sure m.index.tried m.index.cursor z c page.mapping so.way logged right) [
                | inl still ↦ inl still
                | inr lost ↦ (let k = named lost.0 c lost.1 lost.2 in inr (sure, record { slot = k.slot; since = omega arith; below = k.below; within = k.within; names = k.names }))
              ]
              | inr superseded ↦ inr superseded
            ];
          };
      no_newer_record = h.facts.metadata.no_newer_record;
      records = λ k v r within left reads current.
          let item = h.facts.metadata.records k v r within left reads current in
          record {
            grammar = item.grammar;
            right = λ place fact stands. elim (item.right place fact stands) [
              | inl right ↦ elim (right_or_lost o log history m p.snapshot call a n q m.index.generation m.index.tracked m.index.sure m.index.tried m.index.cursor z fact.chunk fact.mapping so.way logged right) [
                | inl still ↦ inl still
                | inr lost ↦
                    let there = named lost.0 fact.chunk lost.1 lost.2 in
                    elim (cases_lt k there.slot) [
                      | inl before ↦ inr (record { slot = there.slot; since = omega arith; below = there.below; within = there.within; names = there.names })
                      | inr not_before ↦
                          let since = so.since_right k v r place fact (let l = there.since in omega arith) within left reads current stands in
                          inl (right_sealed o log history m p.snapshot m.index.generation m.index.tracked m.index.sure m.index.tried m.index.cursor z fact.chunk fact.mapping logged (λ is. since.1) since.0)
                    ]
              ]
              | inr superseded ↦ inr superseded
            ];
          };
      none_beyond = h.facts.metadata.none_beyond;
      due_everywhere = λ t due. due_now t due;
    })
  where
    new : Memory
    new = sealed_memory m m.index.generation m.index.tracked m.index.sure m.index.tried m.index.cursor z

    was_false : (b : ℕ) → z.off_base b ≡ false → m.index.off_base b ≡ false
    was_false b not_off = not_false (m.index.off_base b) (z.off_base b) (λ off. (logged.off_is b).1 (inl off)) not_off

    named : (b c : ℕ) → o.layout.chunk_of b ≡ c → p.snapshot.lost (o.layout.chunk_of b) ≡ true → IsNamed o (May o.before log) m.index.generation m.index.cursor p.first c
    named b c chunk lost = subst (λ (d : ℕ). IsNamed o (May o.before log) m.index.generation m.index.cursor p.first d) chunk (so.slotted b (lost_slots b lost))

    in_slot : (t : Need) → p.slotted (block_in t) ≡ true → IsWanted o p.snapshot t → IsLocalLeft o (May o.before log) m.index.generation m.index.cursor t × (IsInPage o (May o.before log) t ⊎ (m.index.sure ≡ true))
    in_slot t slotted wanted = (inl (named_in_slots o (May o.before log) m.index.generation m.index.cursor p.first t (so.slotted (block_in t) slotted) (so.since t wanted)), inr sure)

    due_now : (t : Need) → IsDue new.index t → IsLocalLeft o (May o.before log) m.index.generation m.index.cursor t × (IsInPage o (May o.before log) t ⊎ (m.index.sure ≡ true))
    due_now (Local b) due = elim (logged.stale_was b due) [
      | inl stale ↦ h.facts.metadata.due_everywhere (Local b) stale
      | inr block ↦ in_slot (Local b) (slots b block.0) (so.way.blocks_wanted b block.0)
    ]
    due_now (Off_base b) due = elim ((logged.off_is b).0 due) [
      | inl off ↦ h.facts.metadata.due_everywhere (Off_base b) off
      | inr (inl block) ↦ in_slot (Off_base b) (slots b block) (inl (so.way.blocks_wanted b block))
      | inr (inr lost) ↦ in_slot (Off_base b) (lost_slots b lost) (inr (so.way.lost_zeros (o.layout.chunk_of b) lost).1)
    ]

-- the end of a recycle: the new header alone may be left, and the pages have all that is wanted
pub seal_recycle : (o : Opening) (log : List Entry) (history : List NumberedEntry) (m : Memory) (p : Snapshot) (call : CallId) (a n q : ℕ) (z : Sealing) (none : ℕ → Bool) (v : Sector) (next : Header)
    → Holds o log history m → IsFlushUnderWay o log history m p (flush_ask call a n) q → Flushes log q → IsLogged o history m p z
    → ((u : Sector) → May o.before log o.layout.header_at u → v ≡ u) → o.format.header_of v ≡ Ok next → next.generation ≡ m.index.generation + 1
    → ((s : ℕ) → s < o.layout.size → m.index.off_base (o.layout.block_of s) ≡ false → (background o.base o.zeros next.tracked s ≡ o.disk s) ⊎ (m.index.tried (o.layout.block_of s) ≡ true))
    → ((c : ℕ) → c < o.layout.chunks → IsCaughtUp o (May o.before log) (IsClaimSettled o log history m p.begun) m p c) → ((b : ℕ) → none b ≡ false)
    → Holds o log history (sealed_memory m (m.index.generation + 1) next.tracked true none 0 z) × IsSealed o log history m.discards.drops z.stale z.off_base z.reach (flush_ask call a n)
seal_recycle o log history m p call a n q z none v next h way flushes logged only reads generation next_background caught empty =
    seal o log history m p call a n q (m.index.generation + 1) next.tracked true none 0 z h way flushes logged (λ b t. absurd (let e = empty b in cc))
    (λ s within not_off. elim (next_background s within (was_false (o.layout.block_of s) not_off)) [
      | inl e ↦ e
      | inr t ↦ absurd (let yes : z.off_base (o.layout.block_of s) ≡ true = (logged.off_is (o.layout.block_of s)).1 (way.tried (o.layout.block_of s) t) in cc)
    ])
    (record {
      header_known = λ u left. let k = h.facts.metadata.header_known u left in record {
        header = k.header;
        reads = k.reads;
        geometry = k.geometry;
        generation = inl (let g : k.header.generation ≡ next.generation = ap (λ (y : Header). y.generation) (is_next u k.header left k.reads) in g ∙ generation);
        background = λ s within not_off. elim (k.background s within (was_false (o.layout.block_of s) not_off)) [
          | inl e ↦ inl e
          | inr t ↦ absurd (let yes : z.off_base (o.layout.block_of s) ≡ true = (logged.off_is (o.layout.block_of s)).1 (way.tried (o.layout.block_of s) t.1) in cc)
        ];
      };
      header_sure = λ sure u header left is. ap (λ (y : Header). y.generation) (is_next u header left is) ∙ generation;
      pages = λ c u within left.
          let page = caught c within u left in
          record {
            mapping = page.right.mapping;
            reads = page.right.reads;
            grammar = page.right.right.grammar;
            right = inl (right_sealed o log history m p (m.index.generation + 1) next.tracked true none 0 z c page.right.mapping logged page.only page.right.right);
          };
      no_newer_record = λ k u r within left is. let t = older k u r within left is in omega arith;
      records = λ k u r within left is now. absurd (let t = older k u r within left is in omega (arith, now.1));
      none_beyond = λ k u r after within left is now. let t = older k u r within left is in omega (arith, now.1);
      due_everywhere = λ t due. let page = caught_in_page o log history m p t caught (due_now t due) in (inr (page, λ k u r after within left reads now. absurd (let l = older k u r within left reads in omega (arith, now.1))), inl page);
    })
  where
    was_false : (b : ℕ) → z.off_base b ≡ false → m.index.off_base b ≡ false
    was_false b not_off = not_false (m.index.off_base b) (z.off_base b) (λ off. (logged.off_is b).1 (inl off)) not_off

    older : (k : ℕ) (u : Sector) (r : Record) → k < o.layout.slots → May o.before log (o.layout.slot_at k) u → o.format.record_of u ≡ Some r → r.generation ≤ m.index.generation
    older = h.facts.metadata.no_newer_record

    due_now : (t : Need) → IsDue (sealed_memory m (m.index.generation + 1) next.tracked true none 0 z).index t → (chunk_in o t < o.layout.chunks) × IsWanted o p t
    due_now (Local b) due = elim (logged.stale_was b due) [
      | inl stale ↦ due_wanted o log history m p call a n q (Local b) h way stale
      | inr block ↦ (h.apart.chunks b (way.kept b (way.blocks_wanted b block.0)).in_range, way.blocks_wanted b block.0)
    ]
    due_now (Off_base b) due = off_after_wanted o log history m p call a n q b h way ((logged.off_is b).0 due)

    is_next : (u : Sector) (header : Header) → May o.before log o.layout.header_at u → o.format.header_of u ≡ Ok header → header ≡ next
    is_next u header left is =
        let there : o.format.header_of v ≡ Ok header = subst (λ (y : Sector). o.format.header_of y ≡ Ok header) (sym (only u left)) is in
        cc

-- the answer of a flush that is over
pub flush_answered : (o : Opening) (log : List Entry) (history : List NumberedEntry) (m : Memory) (call : CallId) (a n : ℕ)
    → Holds o log history m → IsSealed o log history m.discards.drops m.index.stale m.index.off_base m.discards.reach (flush_ask call a n) → ((b k : ℕ) → HasEntry history b k (Ask call Flush) → b ≡ a)
    → Holds o log (history ++ record { event = Reply call Fine; number = length log } ∷ []) m
flush_answered o log history m call a n h is_sealed one =
    quiet_entry o log history m (record { event = Reply call Fine; number = length log }) refl (λ s v covers. covers) (no_done_ends m.discards.drops history (record { event = Reply call Fine; number = length log }) (λ id same. absurd cc))
    (λ id b k asked same.
    let call_is : call ≡ id = (let e : Reply call Fine ≡ Reply id Fine = same in cc) in
    let there : HasEntry history b k (Ask call Flush) = subst (λ (y : CallId). HasEntry history b k (Ask y Flush)) (sym call_is) asked in
    let at : b ≡ a = one b k there in
    let here : HasEntry history a k (Ask call Flush) = subst (λ (y : ℕ). HasEntry history y k (Ask call Flush)) at there in
    let number : k ≡ n = ap (λ (y : NumberedEntry). y.number) (at_one history a (record { event = Ask call Flush; number = k }) (record { event = Ask call Flush; number = n }) here is_sealed.asked) in (
      (is_sealed.flushed.0, is_sealed.flushed.1, let f = is_sealed.flushed.2 in omega arith),
      (λ c j w. is_sealed.logged c j (subst (λ (y : ℕ). IsWrittenBefore o m.discards.drops history y c j) at w)),
      (let r = is_sealed.reached in omega arith),
    ))
    h
