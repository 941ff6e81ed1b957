-- Which mapping an image decides by: each chunk has one, and one alone.
use Rattle.std.proofs.Common.{ℕ, suc, zero, ◌≡◌, ◌+◌, ◌<◌, ◌≤◌, ◌⊎◌, inl, inr, List, [], ◌∷◌, Option, Some, None, Bool, true, false, arith, refl, ap, sym, subst, ◌∙◌}
use Rattle.std.proofs.lemmas.Bool.{cases_lt, cases_eq}
use Rattle.vd_image.specs.Log.{Sector, At}
use Rattle.vd_image.specs.Image.{Header, Mapping, Fact, Record, Format, Layout, Image, IsCurrent, IsGoodMapping, IsGoodSlot, Counts, IsUnnamed, IsLastNamed, Maps, IsLocalBy, unmapped_sector, IsSound, DiskHas}
use Rattle.vd_image.proofs.Logs.{at_one}

-- whether a fact of the list names the chunk
abbrev pub Found : List Fact → ℕ → Type 0
Found facts c = (j : ℕ) × (fact : Fact) × At facts j fact × (fact.chunk ≡ c)

behind : (x : Fact) (facts : List Fact) (c : ℕ) → (x.chunk ≡ c → ⊥) → (Found facts c → ⊥) → (j : ℕ) (fact : Fact) → At (x ∷ facts) j fact → fact.chunk ≡ c → ⊥
behind x facts c not none zero fact stands is = not (let same : x ≡ fact = cc in ap (λ (y : Fact). y.chunk) same ∙ is)
behind x facts c not none (suc j) fact stands is = none (j, fact, stands, is)

pub find_fact : (facts : List Fact) (c : ℕ) → Found facts c ⊎ (Found facts c → ⊥)
find_fact [] c = inr (λ h. absurd (let stands = h.2 in cc))
find_fact (x ∷ facts) c = elim (cases_eq x.chunk c) [
  | inl is ↦ inl (0, x, refl, is)
  | inr not ↦ elim (find_fact facts c) [
    | inl h ↦ inl (suc h.0, h.1, h.2, h.3)
    | inr none ↦ inr (λ h. behind x facts c not none h.0 h.1 h.2 h.3)
  ]
]

-- whether a fact of this slot counts and names the chunk
abbrev pub NamedIn : Format → Layout → Image → ℕ → ℕ → ℕ → Type 0
NamedIn f l image generation c k = (place : ℕ) × (fact : Fact) × Counts f l image generation k place fact × (fact.chunk ≡ c)

pub in_slot : (f : Format) (l : Layout) (image : Image) (generation c k : ℕ) → k < l.slots → NamedIn f l image generation c k ⊎ (NamedIn f l image generation c k → ⊥)
in_slot f l image generation c k within = by_reading (f.record_of (image (l.slot_at k))) refl
  where
    same_record : (r : Record) → f.record_of (image (l.slot_at k)) ≡ Some r → (place : ℕ) (fact : Fact) → (h : Counts f l image generation k place fact) → h.item ≡ r
    same_record r reads place fact h = let a = h.reads in cc

    by_facts : (r : Record) → f.record_of (image (l.slot_at k)) ≡ Some r → IsCurrent r generation → NamedIn f l image generation c k ⊎ (NamedIn f l image generation c k → ⊥)
    by_facts r reads current = elim (find_fact r.facts c) [
      | inl h ↦ inl (h.0, h.1, record { item = r; within = within; reads = reads; current = current; stands = h.2 }, h.3)
      | inr none ↦ inr (λ h. none (h.0, h.1, subst (λ (y : Record). At y.facts h.0 h.1) (same_record r reads h.0 h.1 h.2) h.2.stands, h.3))
    ]

    by_version : (r : Record) (v : Bool) → r.same_version ≡ v → f.record_of (image (l.slot_at k)) ≡ Some r → NamedIn f l image generation c k ⊎ (NamedIn f l image generation c k → ⊥)
    by_version r false e reads = inr (λ h. absurd (let v : r.same_version ≡ true = subst (λ (y : Record). y.same_version ≡ true) (same_record r reads h.0 h.1 h.2) h.2.current.0 in cc))
    by_version r true e reads = elim (cases_eq r.generation generation) [
      | inl now ↦ by_facts r reads (e, now)
      | inr not ↦ inr (λ h. not (subst (λ (y : Record). y.generation ≡ generation) (same_record r reads h.0 h.1 h.2) h.2.current.1))
    ]

    by_reading : (x : Option Record) → f.record_of (image (l.slot_at k)) ≡ x → NamedIn f l image generation c k ⊎ (NamedIn f l image generation c k → ⊥)
    by_reading None e = inr (λ h. absurd (let a = h.2.reads in cc))
    by_reading (Some r) e = by_version r r.same_version refl e

-- whether some fact that counts, in a slot from this one on, names the chunk
abbrev pub NamedFrom : Format → Layout → Image → ℕ → ℕ → ℕ → ℕ → Type 0
NamedFrom f l image generation c from top = (k : ℕ) × (from ≤ k) × (k < top) × NamedIn f l image generation c k

-- the last slot below `top` that names the chunk, if any does
abbrev pub Last : Format → Layout → Image → ℕ → ℕ → ℕ → Type 0
Last f l image generation c top = ((k : ℕ) × (k < top) × NamedIn f l image generation c k × (NamedFrom f l image generation c (k + 1) top → ⊥)) ⊎ (NamedFrom f l image generation c 0 top → ⊥)

pub find_last : (f : Format) (l : Layout) (image : Image) (generation c top : ℕ) → top ≤ l.slots → Last f l image generation c top
find_last f l image generation c zero within = inr (λ h. omega (arith, h.2))
find_last f l image generation c (suc top) within = elim (in_slot f l image generation c top (omega arith)) [
  | inl here ↦ inl (top, omega arith, here, λ h. omega (arith, h.1, h.2))
  | inr not ↦ elim (find_last f l image generation c top (omega arith)) [
    | inl found ↦ inl (found.0, omega (arith, found.1), found.2, λ h. found.3 (shorter (found.0 + 1) not h))
    | inr none ↦ inr (λ h. none (shorter 0 not h))
  ]
]
  where
    shorter : (from : ℕ) → (NamedIn f l image generation c top → ⊥) → NamedFrom f l image generation c from (suc top) → NamedFrom f l image generation c from top
    shorter from not h = elim (cases_lt h.0 top) [
      | inl below ↦ (h.0, h.1, below, h.3)
      | inr above ↦ absurd (let same : h.0 ≡ top = omega (arith, h.2) in not (subst (λ (k : ℕ). NamedIn f l image generation c k) same h.3))
    ]

-- one record names a chunk once
pub named_once : (f : Format) (l : Layout) (image : Image) (generation : ℕ) → ((k : ℕ) → k < l.slots → IsGoodSlot f l image generation k)
    → (k place : ℕ) (fact : Fact) → Counts f l image generation k place fact → (i j : ℕ) (other : Fact) → Counts f l image generation i j other → other.chunk ≡ fact.chunk → k ≡ i → place < j → ⊥
named_once f l image generation good k place fact counts i j other also is same after =
    let item = good k counts.within counts.item counts.reads counts.current in
    let there : f.record_of (image (l.slot_at k)) ≡ Some also.item = subst (λ (y : ℕ). f.record_of (image (l.slot_at y)) ≡ Some also.item) (sym same) also.reads in
    let one : also.item ≡ counts.item = (let a = counts.reads in cc) in
    let stands : At counts.item.facts j other = subst (λ (y : Record). At y.facts j other) one also.stands in
    let less = item.rising place j fact other after counts.stands stands in
    omega arith

pub never_named : (f : Format) (l : Layout) (image : Image) (generation c : ℕ) → (NamedFrom f l image generation c 0 l.slots → ⊥) → IsUnnamed f l image generation c
never_named f l image generation c none k place fact counts is = none (k, omega arith, counts.within, (place, fact, counts, is))

pub named_last : (f : Format) (l : Layout) (image : Image) (generation : ℕ) → ((k : ℕ) → k < l.slots → IsGoodSlot f l image generation k)
    → (c k place : ℕ) (fact : Fact) → Counts f l image generation k place fact → fact.chunk ≡ c → (NamedFrom f l image generation c (k + 1) l.slots → ⊥) → IsLastNamed f l image generation c fact.mapping
named_last f l image generation good c k place fact counts is none = record {
  slot = k;
  place = place;
  fact = fact;
  counts = counts;
  names = is;
  mapping = refl;
  last = λ i j other also other_is later. elim later [
    | inl after ↦ none (i, omega arith, also.within, (j, other, also, other_is))
    | inr same ↦ named_once f l image generation good k place fact counts i j other also (other_is ∙ sym is) same.0 same.1
  ];
}

-- each chunk has a mapping
pub maps_some : (f : Format) (l : Layout) (image : Image) (generation : ℕ) → ((k : ℕ) → k < l.slots → IsGoodSlot f l image generation k) → ((c : ℕ) → c < l.chunks → IsGoodMapping f l image c)
    → (c : ℕ) → c < l.chunks → (w : Mapping) × Maps f l image generation c w
maps_some f l image generation good mappings c within = elim (find_last f l image generation c l.slots (omega arith)) [
  | inl found ↦ (found.2.1.mapping, inl (named_last f l image generation good c found.0 found.2.0 found.2.1 found.2.2 found.2.3 found.3))
  | inr none ↦ (let page = mappings c within in (page.0, inr (never_named f l image generation c none, within, page.1)))
]

-- two facts that count and stand at one place are one
same_fact : (f : Format) (l : Layout) (image : Image) (generation k i place j : ℕ) (fact other : Fact) → Counts f l image generation k place fact → Counts f l image generation i j other → k ≡ i → place ≡ j → fact ≡ other
same_fact f l image generation k i place j fact other counts also same at =
    let there : f.record_of (image (l.slot_at k)) ≡ Some also.item = subst (λ (y : ℕ). f.record_of (image (l.slot_at y)) ≡ Some also.item) (sym same) also.reads in
    let one : also.item ≡ counts.item = (let a = counts.reads in cc) in
    let stands : At counts.item.facts place other = subst (λ (p : ℕ). At counts.item.facts p other) (sym at) (subst (λ (y : Record). At y.facts j other) one also.stands) in
    at_one counts.item.facts place fact other counts.stands stands

-- and one alone
pub maps_one : (f : Format) (l : Layout) (image : Image) (generation c : ℕ) (w u : Mapping) → Maps f l image generation c w → Maps f l image generation c u → w ≡ u
maps_one f l image generation c w u (inl h) (inl k) = sym h.mapping ∙ ap (λ (y : Fact). y.mapping) same ∙ k.mapping
  where
    same_slot : h.slot ≡ k.slot → h.fact ≡ k.fact
    same_slot slot = elim (cases_lt h.place k.place) [
      | inl after ↦ absurd (h.last k.slot k.place k.fact k.counts k.names (inr (slot, after)))
      | inr before ↦ elim (cases_lt k.place h.place) [
        | inl less ↦ absurd (k.last h.slot h.place h.fact h.counts h.names (inr (sym slot, less)))
        | inr equal ↦ same_fact f l image generation h.slot k.slot h.place k.place h.fact k.fact h.counts k.counts slot (omega arith)
      ]
    ]

    same : h.fact ≡ k.fact
    same = elim (cases_lt h.slot k.slot) [
      | inl after ↦ absurd (h.last k.slot k.place k.fact k.counts k.names (inl after))
      | inr before ↦ elim (cases_lt k.slot h.slot) [
        | inl less ↦ absurd (k.last h.slot h.place h.fact h.counts h.names (inl less))
        | inr equal ↦ same_slot (omega arith)
      ]
    ]
maps_one f l image generation c w u (inl h) (inr k) = absurd (k.0 h.slot h.place h.fact h.counts h.names)
maps_one f l image generation c w u (inr h) (inl k) = absurd (h.0 k.slot k.place k.fact k.counts k.names)
maps_one f l image generation c w u (inr h) (inr k) = let a = h.2 in let b = k.2 in cc

-- The disk of a sound image has a content in each of its sectors,
pub disk_some : (f : Format) (l : Layout) (base : ℕ → Sector) (zeros : Sector) (image : Image) → IsSound f l image → (s : ℕ) → l.chunk_of (l.block_of s) < l.chunks → (v : Sector) × DiskHas f l base zeros image s v
disk_some f l base zeros image sound s within = by_mask (maps.0.storage) refl (maps.0.has (l.block_of s)) refl
  where
    maps : (w : Mapping) × Maps f l image sound.header.generation (l.chunk_of (l.block_of s)) w
    maps = maps_some f l image sound.header.generation sound.consistent.records sound.consistent.mappings (l.chunk_of (l.block_of s)) within

    absent : ((p : ℕ) → IsLocalBy maps.0 (l.block_of s) p → ⊥) → (v : Sector) × DiskHas f l base zeros image s v
    absent none = (unmapped_sector base zeros sound.header.tracked maps.0 s, record { header = sound.header; reads = sound.reads; mapping = maps.0; maps = maps.1; has = inr (none, refl) })

    by_mask : (storage : Option ℕ) → maps.0.storage ≡ storage → (has : Bool) → maps.0.has (l.block_of s) ≡ has → (v : Sector) × DiskHas f l base zeros image s v
    by_mask None none has is = absent (λ p local. let a = local.0 in cc)
    by_mask (Some p) some false is = absent (λ q local. let a = local.1 in cc)
    by_mask (Some p) some true is = (image (l.place p s), record { header = sound.header; reads = sound.reads; mapping = maps.0; maps = maps.1; has = inl (p, (some, is), refl) })

-- and one alone
pub disk_one : (f : Format) (l : Layout) (base : ℕ → Sector) (zeros : Sector) (image : Image) (s : ℕ) (u v : Sector) → DiskHas f l base zeros image s u → DiskHas f l base zeros image s v → u ≡ v
disk_one f l base zeros image s u v a b = by_cases a.has there
  where
    header : b.header ≡ a.header
    header = cc (a.reads, b.reads)

    mapping : b.mapping ≡ a.mapping
    mapping = maps_one f l image a.header.generation (l.chunk_of (l.block_of s)) b.mapping a.mapping (subst (λ (h : Header). Maps f l image h.generation (l.chunk_of (l.block_of s)) b.mapping) header b.maps) a.maps

    there : ((p : ℕ) × IsLocalBy a.mapping (l.block_of s) p × (v ≡ image (l.place p s))) ⊎ (((p : ℕ) → IsLocalBy a.mapping (l.block_of s) p → ⊥) × (v ≡ unmapped_sector base zeros a.header.tracked a.mapping s))
    there = subst (λ (h : Header). ((p : ℕ) × IsLocalBy a.mapping (l.block_of s) p × (v ≡ image (l.place p s))) ⊎ (((p : ℕ) → IsLocalBy a.mapping (l.block_of s) p → ⊥) × (v ≡ unmapped_sector base zeros h.tracked a.mapping s))) header
        (subst (λ (m : Mapping). ((p : ℕ) × IsLocalBy m (l.block_of s) p × (v ≡ image (l.place p s))) ⊎ (((p : ℕ) → IsLocalBy m (l.block_of s) p → ⊥) × (v ≡ unmapped_sector base zeros b.header.tracked m s))) mapping b.has)

    by_cases : ((p : ℕ) × IsLocalBy a.mapping (l.block_of s) p × (u ≡ image (l.place p s))) ⊎ (((p : ℕ) → IsLocalBy a.mapping (l.block_of s) p → ⊥) × (u ≡ unmapped_sector base zeros a.header.tracked a.mapping s))
        → ((p : ℕ) × IsLocalBy a.mapping (l.block_of s) p × (v ≡ image (l.place p s))) ⊎ (((p : ℕ) → IsLocalBy a.mapping (l.block_of s) p → ⊥) × (v ≡ unmapped_sector base zeros a.header.tracked a.mapping s)) → u ≡ v
    by_cases (inl h) (inl k) = let x = h.1.0 in let y = k.1.0 in let same : h.0 ≡ k.0 = cc in h.2 ∙ ap (λ (p : ℕ). image (l.place p s)) same ∙ sym k.2
    by_cases (inl h) (inr k) = absurd (k.0 h.0 h.1)
    by_cases (inr h) (inl k) = absurd (h.0 k.0 k.1)
    by_cases (inr h) (inr k) = h.1 ∙ sym k.1
