-- All facts hold at opening.
use Rattle.std.proofs.Common.{if◌then◌else◌, ℕ, ◌≡◌, ◌+◌, ◌<◌, ◌≤◌, inl, inr, List, [], Some, Bool, true, false, arith, refl, ap, sym, subst, ◌∙◌, Ok}
use Rattle.std.proofs.lemmas.Bool.{cases_lt, false_from_ne_true}
use Rattle.vd_image.specs.Log.{Sector, Entry, At, May}
use Rattle.vd_image.specs.Image.{Header, Mapping, Fact, Record, IsMapping, IsGoodSlot, Counts, IsUnnamed, IsLastNamed, Maps, GivesStorage, IsLocalBy, IsLocal}
use Rattle.vd_crash.specs.facts.Safe.{Opening}
use Rattle.vd_crash.specs.facts.Facts.{IsFresh, IsSettled, IsClaimSettled, Holds}
use Rattle.vd_crash.proofs.facts.Recovered.{settled_kept}
use Rattle.vd_image.proofs.Logs.{at_one, writes_below}
use Rattle.vd_image.proofs.Deciding.{NamedIn, NamedFrom, find_last, named_once, never_named, named_last, maps_some}
use Rattle.vd_crash.specs.facts.Opened.{IsAtOpening}
use Rattle.vd_crash.specs.facts.Memory.{Memory}
use Rattle.vd_crash.specs.facts.Metadata.{Claim, IsRight, IsNamed, Need, Local, Off_base, Says, chunk_in, IsLocalLeft, IsDue}
use Rattle.vd_format.specs.Background.{background}

pub holds_at_opening : (o : Opening) (log : List Entry) (m : Memory) → IsAtOpening o log m → Holds o log [] m
holds_at_opening o log m h = record {
  apart = h.apart;
  facts = record {
    numbers = record {
      never_fall = λ i j k n e f less first second. absurd (cc);
      issues_rise = λ i j k n s t u v less first second. absurd (let a = first.0.stands in cc);
      since_opening = λ j n e stands. absurd cc;
      none_above = λ j n e stands. absurd cc;
    };
    opening = record {
      within = let e = h.opened in omega arith;
      untouched = λ s v u. h.left s v (inl u);
      early = λ i s v less w newest. h.left s v (inr (record { at = i; writes = w; newest = newest }));
    };
    discards = record {
      within = λ j c is. absurd (let none = h.drops j in cc);
      covers = λ j n k c s v drop w. absurd (let none = drop.stands in cc);
      whole = λ j n c s drop within chunk. absurd (let none = drop.stands in cc);
    };
    answered = record { flushed = λ a n f. absurd (let k = f.numbered in cc); logged = λ a n b j f w. absurd (let k = f.numbered in cc); reached = λ a n f. absurd (let k = f.numbered in cc) };
    zeros = record {
      from = λ c is. inr (λ k n after drop. absurd (let none = drop.stands in cc), λ s chunk not_stale. sym (start_zeros c s is chunk not_stale));
      sealed_off = λ j n b drop less. absurd (let none = drop.stands in cc);
    };
    storage_one_to_one = record {
      within = λ c p given. let g = (h.table c p).0 given in (maps_grammar c g.0 g.1).within p g.2;
      one_to_one = λ c d p first second. h.sound.consistent.one_to_one c d p (at_header c p ((h.table c p).0 first)) (at_header d p ((h.table d p).0 second));
    };
    contents_allowed = λ b fresh. is_fresh b fresh ((h.fresh b).0 fresh);
    metadata = record {
      header_known = λ v left. record {
        header = h.sound.header;
        reads = ap o.format.header_of (h.left o.layout.header_at v left) ∙ h.sound.reads;
        geometry = h.sound.geometry;
        generation = inl (sym h.generation);
        background = λ s within not_stale. inl (background_of s h.sound.header refl within not_stale);
      };
      header_sure = λ sure v header left reads. same_header header (sym (ap o.format.header_of (h.left o.layout.header_at v left)) ∙ reads);
      pages = λ c v within left.
          let held = h.sound.consistent.mappings c within in
          record {
            mapping = held.0;
            reads = ap (λ (y : Sector). o.format.mapping_of y c) (h.left (o.layout.map_at c) v left) ∙ held.1;
            grammar = held.2;
            right = elim (find_last o.format o.layout o.held m.index.generation c o.layout.slots (omega arith)) [
              | inl found ↦ inr (h.sure, named c 0 found.0 found.2 (omega arith))
              | inr none ↦ inl (right_of c held.0 (inr (unnamed c none, within, held.1)) held.2)
            ];
          };
      no_newer_record = λ k v r within left reads.
          let older = h.sound.no_later k r within (held_record k v r left reads) in
          let g = h.generation in omega arith;
      records = λ k v r within left reads current.
          let here = held_record k v r left reads in
          let item = h.sound.consistent.records k within r here (current.0, current.1 ∙ h.generation) in
          record {
            grammar = item;
            right = λ place fact stands.
                let counts : Counts o.format o.layout o.held m.index.generation k place fact = record { item = r; within = within; reads = here; current = current; stands = stands } in
                elim (find_last o.format o.layout o.held m.index.generation fact.chunk o.layout.slots (omega arith)) [
                  | inl found ↦ elim (cases_lt k found.0) [
                    | inl after ↦ inr (named fact.chunk (k + 1) found.0 found.2 (omega arith))
                    | inr not_after ↦ inl (right_of fact.chunk fact.mapping (inl (last_named fact.chunk k place fact counts refl
                        (λ later. found.3 (later.0, let l = later.1 in omega arith, later.2, later.3)))) (item.facts place fact stands).1)
                  ]
                  | inr none ↦ absurd (none (k, omega arith, within, (place, fact, counts, refl)))
                ];
          };
      none_beyond = λ k v r after within left reads current.
          let here = held_record k v r left reads in
          let below = h.cursor k r within here current in omega arith;
      due_everywhere = λ t due. (due_left t due, inr h.sure);
    };
  };
  blocks = record {
    born = λ b fresh. let e = h.born b in omega arith;
    stale_settled = λ b stale. settled b (sym (h.stale b) ∙ stale);
    stale_off = λ b stale. (h.off_base b).1 (inl (sym (h.stale b) ∙ stale));
    owed_local = λ b owed. absurd (let e = h.owed b in cc);
    off_base_known = λ b off. elim ((h.off_base b).0 off) [
      | inl fresh ↦ (h.apart.chunks b (h.in_range b fresh), inl (h.stale b ∙ fresh))
      | inr zeros ↦ (let w = (h.zeros (o.layout.chunk_of b)).0 zeros in (maps_within (o.layout.chunk_of b) w.0 w.1, inr zeros))
    ];
    dropped = λ j n c drop. absurd (let none = drop.stands in cc);
    lost_zeros = λ c lost. absurd (let e = h.lost c in cc);
    reach = let e = h.reach in omega arith;
    zeros_off = λ b zeros. inl ((h.off_base b).1 (inr zeros));
    background_same = λ s within not_stale. ap (λ (y : ℕ). background o.base o.zeros y s) h.tracked ∙ background_of s h.sound.header refl within not_stale;
    tried = λ b tried. absurd (let e = h.tried b in cc);
    unlogged_untouched = λ b j w. absurd (let k = w.writes.0.stands in cc);
    issues_stored = λ j n s v w. absurd (let k = w.0.stands in cc);
    pending = λ b i is. absurd (let e = h.pending b in cc);
    idle = λ b j n s v not_fresh none block w is_open. absurd (let k = w.0.stands in cc);
  };
}
  where
    -- what may be left of a slot is what it holds
    held_record : (k : ℕ) (v : Sector) (r : Record) → May o.before log (o.layout.slot_at k) v → o.format.record_of v ≡ Some r → o.format.record_of (o.held (o.layout.slot_at k)) ≡ Some r
    held_record k v r left reads = sym (ap o.format.record_of (h.left (o.layout.slot_at k) v left)) ∙ reads

    at_header : (c p : ℕ) → GivesStorage o.format o.layout o.held m.index.generation c p → GivesStorage o.format o.layout o.held h.sound.header.generation c p
    at_header c p g = subst (λ (y : ℕ). GivesStorage o.format o.layout o.held y c p) h.generation g

    settled : (b : ℕ) → m.fresh b ≡ true → IsSettled log m b
    settled b fresh = (fresh, (h.flush, h.flushes, let e = h.born b in omega arith))

    shown : Claim → Type 0
    shown = IsClaimSettled o log [] m m.discards.reach

    maps_within : (c : ℕ) (w : Mapping) → Maps o.format o.layout o.held m.index.generation c w → c < o.layout.chunks
    maps_within c w (inl last) =
        let item = h.sound.consistent.records last.slot last.counts.within last.counts.item last.counts.reads (last.counts.current.0, last.counts.current.1 ∙ h.generation) in
        subst (λ (d : ℕ). d < o.layout.chunks) last.names (item.facts last.place last.fact last.counts.stands).0
    maps_within c w (inr page) = page.1

    named : (c from k : ℕ) → NamedIn o.format o.layout o.held m.index.generation c k → from ≤ k → IsNamed o (May o.before log) m.index.generation m.index.cursor from c
    named c from k here since = record {
      slot = k;
      since = since;
      within = here.2.within;
      below = h.cursor k here.2.item here.2.within here.2.reads here.2.current;
      names = λ v left. record { item = here.2.item; fact = here.1; place = here.0; reads = ap o.format.record_of (h.left (o.layout.slot_at k) v left) ∙ here.2.reads; current = here.2.current; stands = here.2.stands; is = here.3 };
    }

    -- the mappings that the held image decides by are in the grammar
    maps_grammar : (c : ℕ) (w : Mapping) → Maps o.format o.layout o.held m.index.generation c w → IsMapping o.layout c w
    maps_grammar c w (inl last) =
        let item = h.sound.consistent.records last.slot last.counts.within last.counts.item last.counts.reads (last.counts.current.0, last.counts.current.1 ∙ h.generation) in
        subst (λ (y : Mapping). IsMapping o.layout c y) last.mapping (subst (λ (d : ℕ). IsMapping o.layout d last.fact.mapping) last.names (item.facts last.place last.fact last.counts.stands).1)
    maps_grammar c w (inr page) =
        let held = h.sound.consistent.mappings c page.1 in
        let same : held.0 ≡ w = (let a = held.1 in let b = page.2 in cc) in
        subst (λ (y : Mapping). IsMapping o.layout c y) same held.2

    is_fresh : (b : ℕ) → m.fresh b ≡ true → (p : ℕ) × IsLocal o.format o.layout o.held m.index.generation b p → IsFresh o log [] m.discards.drops m.index.table b (m.born b)
    is_fresh b fresh local reach = record {
      storage = local.0;
      since = o.opened;
      given = (h.table (o.layout.chunk_of b) local.0).1 (local.1.0, local.1.1, local.1.2.0);
      in_range = h.in_range b fresh;
      stands = record {
        later = λ i s v block after w. absurd (let below = writes_below log i (o.layout.place local.0 s) v w in let e = h.opened in omega arith);
        mirrored = λ j e n d s v block w ends. absurd (let k = w.0.stands in cc);
        running = λ j n s v block w is_open. absurd (let k = w.0.stands in cc);
      };
      newest = λ j n drop less. absurd (let k = drop.stands in cc);
      origin = inl (
        record {
          was = h.was_local b fresh;
          same = λ s block. h.disk s (o.held (o.layout.place local.0 s)) (record {
            header = h.sound.header;
            reads = h.sound.reads;
            mapping = local.1.0;
            maps = subst (λ (y : ℕ). Maps o.format o.layout o.held y (o.layout.chunk_of (o.layout.block_of s)) local.1.0) h.generation
                (subst (λ (y : ℕ). Maps o.format o.layout o.held m.index.generation (o.layout.chunk_of y) local.1.0) (sym block) local.1.1);
            has = inl (local.0, subst (λ (y : ℕ). IsLocalBy local.1.0 y local.0) (sym block) local.1.2, refl);
          });
        },
        refl,
      );
    }

    right_of : (c : ℕ) (w : Mapping) → Maps o.format o.layout o.held m.index.generation c w → IsMapping o.layout c w → IsRight o shown m.index.table c w
    right_of c w maps grammar = record {
      grammar = grammar;
      storage_agrees = λ p is. (h.table c p).1 (w, maps, is);
      blocks_settled = λ b has.
          let s = grammar.has_storage b has in
          let there : Maps o.format o.layout o.held m.index.generation (o.layout.chunk_of b) w = subst (λ (d : ℕ). Maps o.format o.layout o.held m.index.generation d w) (sym (grammar.blocks b has).1) maps in
          let fresh = (h.fresh b).1 (s.0, (w, there, (s.1, has))) in
          (settled_kept o log [] m.discards.drops m.index.table b (m.born b) m.discards.reach (is_fresh b fresh ((h.fresh b).0 fresh)) (settled b fresh).1, inl fresh);
      kind_settled = λ zeros. (h.zeros c).1 (w, maps, zeros);
    }

    good : (k : ℕ) → k < o.layout.slots → IsGoodSlot o.format o.layout o.held m.index.generation k
    good k within r reads current = h.sound.consistent.records k within r reads (current.0, current.1 ∙ h.generation)

    -- one record names a chunk once
    not_twice : (k place : ℕ) (fact : Fact) → Counts o.format o.layout o.held m.index.generation k place fact → (i j : ℕ) (other : Fact) → Counts o.format o.layout o.held m.index.generation i j other → other.chunk ≡ fact.chunk → k ≡ i → place < j → ⊥
    not_twice k place fact counts i j other also is same after = named_once o.format o.layout o.held m.index.generation good k place fact counts i j other also is same after

    same_header : (header : Header) → o.format.header_of (o.held o.layout.header_at) ≡ Ok header → header.generation ≡ m.index.generation
    same_header header reads = let r = h.sound.reads in let e : header ≡ h.sound.header = cc in ap (λ (y : Header). y.generation) e ∙ sym h.generation

    unnamed : (c : ℕ) → (NamedFrom o.format o.layout o.held m.index.generation c 0 o.layout.slots → ⊥) → IsUnnamed o.format o.layout o.held m.index.generation c
    unnamed c none = never_named o.format o.layout o.held m.index.generation c none

    last_named : (c k place : ℕ) (fact : Fact) → Counts o.format o.layout o.held m.index.generation k place fact → fact.chunk ≡ c → (NamedFrom o.format o.layout o.held m.index.generation c (k + 1) o.layout.slots → ⊥)
        → IsLastNamed o.format o.layout o.held m.index.generation c fact.mapping
    last_named c k place fact counts is none = named_last o.format o.layout o.held m.index.generation good c k place fact counts is none

    -- the held image has a mapping of each chunk
    held_maps : (c : ℕ) → c < o.layout.chunks → (w : Mapping) × Maps o.format o.layout o.held m.index.generation c w
    held_maps c within = maps_some o.format o.layout o.held m.index.generation good h.sound.consistent.mappings c within

    not_local : (b p : ℕ) (w : Mapping) → m.index.stale b ≡ false → Maps o.format o.layout o.held m.index.generation (o.layout.chunk_of b) w → IsLocalBy w b p → ⊥
    not_local b p w not_stale maps local =
        let fresh : m.fresh b ≡ true = (h.fresh b).1 (p, (w, maps, local)) in
        let same = h.stale b in cc

    background_of : (s : ℕ) (header : Header) → header ≡ h.sound.header → s < o.layout.size → m.index.off_base (o.layout.block_of s) ≡ false → background o.base o.zeros header.tracked s ≡ o.disk s
    background_of s header same within not_off =
        let maps = held_maps (o.layout.chunk_of (o.layout.block_of s)) (h.apart.chunks (o.layout.block_of s) (h.apart.blocks s within)) in
        let kind : maps.0.zeros ≡ false = false_from_ne_true maps.0.zeros (λ zeros. let off = (h.off_base (o.layout.block_of s)).1 (inr ((h.zeros (o.layout.chunk_of (o.layout.block_of s))).1 (maps.0, maps.1, zeros))) in cc) in
        h.disk s (background o.base o.zeros header.tracked s) (record {
          header = h.sound.header;
          reads = h.sound.reads;
          mapping = maps.0;
          maps = subst (λ (y : ℕ). Maps o.format o.layout o.held y (o.layout.chunk_of (o.layout.block_of s)) maps.0) h.generation maps.1;
          has = inr (
            (λ p local. let fresh = (h.fresh (o.layout.block_of s)).1 (p, (maps.0, maps.1, local)) in let off = (h.off_base (o.layout.block_of s)).1 (inl fresh) in cc),
            ap (λ (y : Header). background o.base o.zeros y.tracked s) same ∙ sym (ap (λ (y : Bool). if y then o.zeros else background o.base o.zeros h.sound.header.tracked s) kind),
          );
        })

    -- a block that isn't local of a chunk of zeros has zeros
    start_zeros : (c s : ℕ) → m.discards.zeros c ≡ true → o.layout.chunk_of (o.layout.block_of s) ≡ c → m.index.stale (o.layout.block_of s) ≡ false → o.zeros ≡ o.disk s
    start_zeros c s is chunk not_stale =
        let w = (h.zeros c).0 is in
        let maps : Maps o.format o.layout o.held m.index.generation (o.layout.chunk_of (o.layout.block_of s)) w.0 = subst (λ (d : ℕ). Maps o.format o.layout o.held m.index.generation d w.0) (sym chunk) w.1 in
        h.disk s o.zeros (record {
          header = h.sound.header;
          reads = h.sound.reads;
          mapping = w.0;
          maps = subst (λ (y : ℕ). Maps o.format o.layout o.held y (o.layout.chunk_of (o.layout.block_of s)) w.0) h.generation maps;
          has = inr (
            (λ p local. not_local (o.layout.block_of s) p w.0 not_stale maps local),
            sym (ap (λ (y : Bool). if y then o.zeros else background o.base o.zeros h.sound.header.tracked s) w.2),
          );
        })

    -- a fact on the chunk from the slot on that decides has what that has
    only_last : (t : Need) (w : Mapping) → (last : IsLastNamed o.format o.layout o.held m.index.generation (chunk_in o t) w) → Says t w
        → (k place : ℕ) (fact : Fact) → Counts o.format o.layout o.held m.index.generation k place fact → fact.chunk ≡ chunk_in o t → last.slot ≤ k → Says t fact.mapping
    only_last t w last has k place fact counts is from = elim (cases_lt last.slot k) [
      | inl after ↦ absurd (last.last k place fact counts is (inl after))
      | inr not_after ↦
          let same : last.slot ≡ k = omega arith in
          elim (cases_lt last.place place) [
            | inl after ↦ absurd (last.last k place fact counts is (inr (same, after)))
            | inr before ↦ elim (cases_lt place last.place) [
              | inl less ↦ absurd (not_twice k place fact counts last.slot last.place last.fact last.counts (last.names ∙ sym is) (sym same) less)
              | inr equal ↦
                  let place_is : place ≡ last.place = omega arith in
                  let there : o.format.record_of (o.held (o.layout.slot_at last.slot)) ≡ Some counts.item = subst (λ (y : ℕ). o.format.record_of (o.held (o.layout.slot_at y)) ≡ Some counts.item) (sym same) counts.reads in
                  let one : counts.item ≡ last.counts.item = (let a = last.counts.reads in cc) in
                  let stands : At last.counts.item.facts last.place fact = subst (λ (i : ℕ). At last.counts.item.facts i fact) place_is (subst (λ (y : Record). At y.facts place fact) one counts.stands) in
                  let fact_is : last.fact ≡ fact = at_one last.counts.item.facts last.place last.fact fact last.counts.stands stands in
                  subst (λ (y : Fact). Says t y.mapping) fact_is (subst (λ (y : Mapping). Says t y) (sym last.mapping) has)
            ]
          ]
    ]

    local_left : (t : Need) (w : Mapping) → Maps o.format o.layout o.held m.index.generation (chunk_in o t) w → Says t w → IsLocalLeft o (May o.before log) m.index.generation m.index.cursor t
    local_left t w (inl last) says = inl (record {
      slot = last.slot;
      below = h.cursor last.slot last.counts.item last.counts.within last.counts.reads last.counts.current;
      within = last.counts.within;
      names = (named (chunk_in o t) 0 last.slot (last.place, last.fact, last.counts, last.names) (omega arith)).names;
      later = λ k v item after within left reads current place fact stands is. only_last t w last says k place fact
          (record { item = item; within = within; reads = sym (ap o.format.record_of (h.left (o.layout.slot_at k) v left)) ∙ reads; current = current; stands = stands }) is after;
    })
    local_left t w (inr page) says = inr (
      record { within = page.1; page = λ v left. record { mapping = w; reads = ap (λ (y : Sector). o.format.mapping_of y (chunk_in o t)) (h.left (o.layout.map_at (chunk_in o t)) v left) ∙ page.2; has = says } },
      λ k v item after within left reads current place fact stands is. absurd (page.0 k place fact
          (record { item = item; within = within; reads = sym (ap o.format.record_of (h.left (o.layout.slot_at k) v left)) ∙ reads; current = current; stands = stands }) is),
    )

    due_left : (t : Need) → IsDue m.index t → IsLocalLeft o (May o.before log) m.index.generation m.index.cursor t
    due_left (Local b) due = let local = (h.fresh b).0 (sym (h.stale b) ∙ due) in local_left (Local b) local.1.0 local.1.1 local.1.2.1
    due_left (Off_base b) due = elim ((h.off_base b).0 due) [
      | inl fresh ↦ (let local = (h.fresh b).0 fresh in local_left (Off_base b) local.1.0 local.1.1 (inl local.1.2.1))
      | inr zeros ↦ (let w = (h.zeros (o.layout.chunk_of b)).0 zeros in local_left (Off_base b) w.0 w.1 (inr w.2))
    ]
