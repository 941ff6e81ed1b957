-- What each step leaves of what the marks of pages say.
use Rattle.std.proofs.Common.{[], ap, ◌∙◌, ℕ, ◌≡◌, ◌<◌, ◌⊎◌, inl, inr, List, Some, Bool, true, false, refl, sym, subst}
use Rattle.vd_image.specs.Log.{Sector, Entry, CallId, May}
use Rattle.vd_crash.specs.facts.Safe.{NumberedEntry, Opening}
use Rattle.vd_crash.specs.facts.Facts.{Holds, NoDropFrom, IsClaimSettled}
use Rattle.vd_crash.specs.facts.Words.{Sealing, sealed_memory}
use Rattle.vd_crash.specs.flushes.Flushing.{Snapshot, IsWanted, IsFlushUnderWay, IsLogged, IsCaughtUp, nothing_new, AreOpeningMarks, AreMarks, flush_ask}
use Rattle.vd_crash.specs.flushes.Stage.{FlushProgress, IsSoFar}
use Rattle.vd_crash.proofs.facts.Growth.{kept_grown}
use Rattle.vd_crash.proofs.facts.Metadata.{NoMore, page_less, right_page_more}
use Rattle.vd_crash.proofs.facts.Recovered.{settled_kept}
use Rattle.vd_crash.specs.facts.Opened.{IsAtOpening}
use Rattle.vd_crash.proofs.flushes.Puts.{OneMore, page_put}
use Rattle.vd_crash.specs.facts.Memory.{Index, Memory}
use Rattle.vd_crash.specs.facts.Metadata.{Claim, Stored, Left, IsRightPage, Need, Local, Off_base, chunk_in, PageHas, IsInPage, IsDue}
use Rattle.vd_crash.proofs.flushes.Wanted.{wanted_right, wanted_page, off_after_wanted}
use Rattle.vd_crash.proofs.flushes.Sealing.{right_sealed, right_or_lost}

-- At opening: a page that isn't marked is held with the mappings of the stale blocks and the kinds.
pub marks_opened : (o : Opening) (log : List Entry) (m : Memory) (marked : ℕ → Bool) → IsAtOpening o log m → Holds o log [] m → AreOpeningMarks o m marked → AreMarks o (May o.before log) (IsClaimSettled o log [] m m.discards.reach) m.index marked
marks_opened o log m marked opening holds held = record {
  right = λ c v within unmarked left.
      let page = held c within unmarked in
      record {
        mapping = page.mapping;
        reads = ap (λ (y : Sector). o.format.mapping_of y c) (opening.left (o.layout.map_at c) v left) ∙ page.reads;
        right = wanted_right o log [] m (nothing_new m) m.discards.reach c page.mapping holds.facts.storage_one_to_one shown (λ d is. is) page.wanted;
      };
  due = λ t due unmarked.
      let wanted = wanted t due in
      record {
        within = wanted.0;
        page = λ v left. subst (λ (y : Sector). PageHas o t y) (sym (opening.left (o.layout.map_at (chunk_in o t)) v left))
            (wanted_page o m (nothing_new m) t (o.held (o.layout.map_at (chunk_in o t))) (held (chunk_in o t) wanted.0 unmarked) wanted.1);
      };
}
  where
    shown : (b : ℕ) → m.index.stale b ≡ true → IsClaimSettled o log [] m m.discards.reach (Stored b)
    shown b stale = let s = holds.blocks.stale_settled b stale in (settled_kept o log [] m.discards.drops m.index.table b (m.born b) m.discards.reach (holds.facts.contents_allowed b s.0) s.1, inl s.0)

    wanted : (t : Need) → IsDue m.index t → (chunk_in o t < o.layout.chunks) × IsWanted o (nothing_new m) t
    wanted (Local b) due = (holds.apart.chunks b (shown b due).0.in_range, due)
    wanted (Off_base b) due = holds.blocks.off_base_known b due

-- no more may be left, and what was shown is
pub marks_less : (o : Opening) (new old : Left) (settled more : Claim → Type 0) (x : Index) (marked : ℕ → Bool) → NoMore o new old → ((t : Claim) → settled t → more t)
    → AreMarks o old settled x marked → AreMarks o new more x marked
marks_less o new old settled more x marked less better h = record {
  right = λ c v within unmarked left. right_page_more o settled more x.table x.table c v better (λ d p given. given) (h.right c v within unmarked (less.map c v within left));
  due = λ t due unmarked. page_less o new old t less (h.due t due unmarked);
}

-- a put that is right and has what every image must have, where it is a page
pub marks_put : (o : Opening) (new old : Left) (settled more : Claim → Type 0) (a : ℕ) (v : Sector) (x : Index) (marked : ℕ → Bool) → OneMore new old a v → ((t : Claim) → settled t → more t)
    → ((c : ℕ) → c < o.layout.chunks → o.layout.map_at c ≡ a → IsRightPage o more x.table c v)
    → ((t : Need) → chunk_in o t < o.layout.chunks → IsDue x t → o.layout.map_at (chunk_in o t) ≡ a → PageHas o t v)
    → AreMarks o old settled x marked → AreMarks o new more x marked
marks_put o new old settled more a v x marked one better right has h = record {
  right = λ c u within unmarked left. elim (one (o.layout.map_at c) u left) [
    | inl was ↦ right_page_more o settled more x.table x.table c u better (λ d p given. given) (h.right c u within unmarked was)
    | inr now ↦ subst (λ (y : Sector). IsRightPage o more x.table c y) (sym now.1) (right c within now.0)
  ];
  due = λ t due unmarked. page_put o new old a v t one (λ within same. has t within due same) (h.due t due unmarked);
}

-- A change of memory in which storage is only given, what was shown is, and nothing more is due: no page needs a mark for it.
pub marks_taken : (o : Opening) (left : Left) (settled more : Claim → Type 0) (x y : Index) (marked : ℕ → Bool) → ((c p : ℕ) → x.table c ≡ Some p → y.table c ≡ Some p) → ((t : Claim) → settled t → more t) → ((t : Need) → IsDue y t → IsDue x t)
    → AreMarks o left settled x marked → AreMarks o left more y marked
marks_taken o left settled more x y marked grows better fewer h = record {
  right = λ c v within unmarked is. right_page_more o settled more x.table y.table c v better grows (h.right c v within unmarked is);
  due = λ t due unmarked. h.due t (fewer t due) unmarked;
}

-- after a sync: pages lose their marks where they are caught up in every image
pub marks_flushed : (o : Opening) (left : Left) (settled : Claim → Type 0) (x : Index) (marked now : ℕ → Bool)
    → ((c : ℕ) → c < o.layout.chunks → now (o.layout.map_at c) ≡ false → (marked (o.layout.map_at c) ≡ false) ⊎ ((v : Sector) → left (o.layout.map_at c) v → IsRightPage o settled x.table c v))
    → ((t : Need) → IsDue x t → now (o.layout.map_at (chunk_in o t)) ≡ false → (marked (o.layout.map_at (chunk_in o t)) ≡ false) ⊎ IsInPage o left t)
    → AreMarks o left settled x marked → AreMarks o left settled x now
marks_flushed o left settled x marked now right pages h = record {
  right = λ c v within unmarked is. elim (right c within unmarked) [ inl was ↦ h.right c v within was is | inr all ↦ all v is ];
  due = λ t due unmarked. elim (pages t due unmarked) [ inl was ↦ h.due t due was | inr has ↦ has ];
}

-- what is wanted is in its page, where that is caught up
pub caught_page : (o : Opening) (log : List Entry) (history : List NumberedEntry) (m : Memory) (call : CallId) (a n q : ℕ) (p : FlushProgress) (t : Need) → IsSoFar o log history m (flush_ask call a n) q p → p.paged (chunk_in o t) ≡ true
    → chunk_in o t < o.layout.chunks → IsWanted o p.snapshot t → IsInPage o (May o.before log) t
caught_page o log history m call a n q p t so_far paged within wanted = record { within = within; page = λ v left. (so_far.paged (chunk_in o t) paged v left).has t refl wanted }

-- the end of a flush by records: the pages of what is new are marked, or caught up
pub marks_sealed : (o : Opening) (log : List Entry) (history : List NumberedEntry) (m : Memory) (marked : ℕ → Bool) (call : CallId) (a n q : ℕ) (p : FlushProgress) (z : Sealing) → Holds o log history m → IsSoFar o log history m (flush_ask call a n) q p → IsLogged o history m p.snapshot z
    → ((b : ℕ) → p.snapshot.blocks b ≡ true → (marked (o.layout.map_at (o.layout.chunk_of b)) ≡ true) ⊎ (p.paged (o.layout.chunk_of b) ≡ true))
    → ((c : ℕ) → p.snapshot.lost c ≡ true → (marked (o.layout.map_at c) ≡ true) ⊎ (p.paged c ≡ true))
    → AreMarks o (May o.before log) (IsClaimSettled o log history m m.discards.reach) m.index marked
    → AreMarks o (May o.before log) (IsClaimSettled o log history (sealed_memory m m.index.generation m.index.tracked m.index.sure m.index.tried m.index.cursor z) z.reach) (sealed_memory m m.index.generation m.index.tracked m.index.sure m.index.tried m.index.cursor z).index marked
marks_sealed o log history m marked call a n q p z holds so logged pages lost_pages h = record {
  right = λ c v within unmarked left.
      let page = h.right c v within unmarked left in
      elim (right_or_lost o log history m p.snapshot call a n q m.index.generation m.index.tracked m.index.sure m.index.tried m.index.cursor z c page.mapping so.way logged page.right) [
        | inl right ↦ record { mapping = page.mapping; reads = page.reads; right = right }
        | inr lost ↦ elim (lost_pages c (subst (λ (d : ℕ). p.snapshot.lost d ≡ true) lost.1 lost.2)) [
          | inl is_marked ↦ absurd cc
          | inr paged ↦
              (let w = so.paged c paged v left in
              record { mapping = w.right.mapping; reads = w.right.reads; right = right_sealed o log history m p.snapshot m.index.generation m.index.tracked m.index.sure m.index.tried m.index.cursor z c w.right.mapping logged w.only w.right.right })
        ]
      ];
  due = λ t due unmarked. due_now t due unmarked;
}
  where
    by_mark : (t : Need) → (marked (o.layout.map_at (chunk_in o t)) ≡ true) ⊎ (p.paged (chunk_in o t) ≡ true) → marked (o.layout.map_at (chunk_in o t)) ≡ false → chunk_in o t < o.layout.chunks → IsWanted o p.snapshot t → IsInPage o (May o.before log) t
    by_mark t (inl is_marked) unmarked within wanted = absurd cc
    by_mark t (inr paged) unmarked within wanted = caught_page o log history m call a n q p t so paged within wanted

    due_now : (t : Need) → IsDue (sealed_memory m m.index.generation m.index.tracked m.index.sure m.index.tried m.index.cursor z).index t → marked (o.layout.map_at (chunk_in o t)) ≡ false → IsInPage o (May o.before log) t
    due_now (Local b) due unmarked = elim (logged.stale_was b due) [
      | inl stale ↦ h.due (Local b) stale unmarked
      | inr block ↦ by_mark (Local b) (pages b block.0) unmarked (holds.apart.chunks b (so.way.kept b (so.way.blocks_wanted b block.0)).in_range) (so.way.blocks_wanted b block.0)
    ]
    due_now (Off_base b) due unmarked =
        let wanted = off_after_wanted o log history m p.snapshot call a n q b holds so.way ((logged.off_is b).0 due) in
        elim ((logged.off_is b).0 due) [
          | inl off ↦ h.due (Off_base b) off unmarked
          | inr (inl block) ↦ by_mark (Off_base b) (pages b block) unmarked wanted.0 wanted.1
          | inr (inr lost) ↦ by_mark (Off_base b) (lost_pages (o.layout.chunk_of b) lost) unmarked wanted.0 wanted.1
        ]

-- A page that isn't marked needs no put, where nothing new of its chunk is logged, and the chunk wasn't discarded since the snapshot.
pub clean_caught_up : (o : Opening) (log : List Entry) (history : List NumberedEntry) (m : Memory) (p : Snapshot) (call : CallId) (a n q : ℕ) (marked : ℕ → Bool) (c : ℕ) → Holds o log history m → IsFlushUnderWay o log history m p (flush_ask call a n) q
    → AreMarks o (May o.before log) (IsClaimSettled o log history m m.discards.reach) m.index marked
    → c < o.layout.chunks → marked (o.layout.map_at c) ≡ false → ((b : ℕ) → p.blocks b ≡ true → o.layout.chunk_of b ≡ c → ⊥) → p.lost c ≡ false → NoDropFrom m.discards.drops history p.begun c
    → IsCaughtUp o (May o.before log) (IsClaimSettled o log history m p.begun) m p c
clean_caught_up o log history m p call a n q marked c holds way marks within unmarked none not_lost no_drop = λ v is. record {
  right = let page = marks.right c v within unmarked is in record {
    mapping = page.mapping;
    reads = page.reads;
    right = record {
      grammar = page.right.grammar;
      storage_agrees = page.right.storage_agrees;
      kind_settled = λ zeros. page.right.kind_settled zeros;
      blocks_settled = λ b has. (
        kept_grown o log history m.discards.drops m.index.table m.index.table b m.discards.reach p.begun 0 0 (λ s given. given)
            (λ j k drop less. elim (way.dropped j k (o.layout.chunk_of b) drop less) [
              | inl sealed ↦ sealed
              | inr lost ↦ absurd (let there : p.lost c ≡ true = subst (λ (d : ℕ). p.lost d ≡ true) (page.right.grammar.blocks b has).1 lost in cc)
            ])
            (λ w good. good) (page.right.blocks_settled b has).0,
        (page.right.blocks_settled b has).1,
      );
    };
  };
  has = λ t chunk wanted. (marks.due t (due t chunk wanted) (subst (λ (d : ℕ). marked (o.layout.map_at d) ≡ false) (sym chunk) unmarked)).page v (subst (λ (d : ℕ). May o.before log (o.layout.map_at d) v) (sym chunk) is);
  only = λ lost. absurd cc;
}
  where
    stale : (b : ℕ) → o.layout.chunk_of b ≡ c → p.wanted b ≡ true → m.index.stale b ≡ true
    stale b chunk wanted = elim (way.wanted_was b wanted) [
      | inl is ↦ elim is [ inl was ↦ was | inr block ↦ absurd (none b block chunk) ]
      | inr dropped ↦ absurd (subst (λ (d : ℕ). NoDropFrom m.discards.drops history p.begun d) (sym chunk) no_drop dropped.0 dropped.1 dropped.3 dropped.2)
    ]

    due : (t : Need) → chunk_in o t ≡ c → IsWanted o p t → IsDue m.index t
    due (Local b) chunk wanted = stale b chunk wanted
    due (Off_base b) chunk (inl wanted) = holds.blocks.stale_off b (stale b chunk wanted)
    due (Off_base b) chunk (inr zeros) = elim (way.zeros_off b zeros) [ inl off ↦ off | inr lost ↦ absurd (let there : p.lost c ≡ true = subst (λ (d : ℕ). p.lost d ≡ true) chunk lost in cc) ]

-- more pages are marked
pub marks_more : (o : Opening) (left : Left) (settled : Claim → Type 0) (x : Index) (marked more : ℕ → Bool) → ((a : ℕ) → marked a ≡ true → more a ≡ true) → AreMarks o left settled x marked → AreMarks o left settled x more
marks_more o left settled x marked more grows h = record {
  right = λ c v within unmarked. h.right c v within (still (o.layout.map_at c) unmarked);
  due = λ t due unmarked. h.due t due (still (o.layout.map_at (chunk_in o t)) unmarked);
}
  where
    still : (a : ℕ) → more a ≡ false → marked a ≡ false
    still a none = go (marked a) refl
      where
        go : (is : Bool) → marked a ≡ is → marked a ≡ false
        go true e = absurd (let f = grows a e in cc)
        go false e = e
