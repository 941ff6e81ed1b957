-- Where the facts hold, each image that a crash may leave now is safe.
use Rattle.std.proofs.lemmas.Bool.{cases_lt, cases_Bool, false_from_ne_true}
use Rattle.std.proofs.Common.{if◌then◌else◌, ap, ◌+◌, ℕ, ◌≡◌, ◌<◌, ◌≤◌, ◌⊎◌, inl, inr, List, Some, Option, Bool, true, false, arith, refl, sym, subst, ◌∙◌, Ok}
use Rattle.vd_image.specs.Log.{Sector, Entry, Writes, IsSure, NoneSureFrom, May, IsImage}
use Rattle.vd_image.specs.Image.{Header, Mapping, Fact, IsCurrent, Counts, Maps, GivesStorage, IsLocalBy, unmapped_sector, IsSound, DiskHas}
use Rattle.vd_crash.specs.facts.Safe.{NumberedEntry, events, Opening, IsSafeNow}
use Rattle.vd_crash.specs.facts.Facts.{GuestWrites, IsDrop, OwnWrites, NoDropFrom, IsBehind, AreAnswered, IsClaimSettled, CrashFacts, IsKept, IsFresh, IsFlushedSince, IsSureBy}
use Rattle.vd_image.proofs.Logs.{sure_by}
use Rattle.vd_crash.proofs.facts.History.{writes_of, guest_writes_of}
use Rattle.vd_crash.proofs.facts.Contents.{sure_ends, sure_flushes, sure_reached, shown_allowed}
use Rattle.vd_crash.proofs.facts.Growth.{kept_grown}
use Rattle.vd_crash.specs.facts.Memory.{Index, Memory, IsTable}
use Rattle.vd_crash.specs.facts.Metadata.{Claim, Left, IsRight, IsNamed, Need, Local, Off_base, Says, chunk_in, IsInPage, IsInSlots, IsLocalLeft, IsDue, IsHeaderLeft, IsMetadata}
use Rattle.vd_format.specs.Background.{background}
use Rattle.vd_lists.proofs.Options.{cases_option}

-- the generation of a record that counts is the kept one
pub counted_now : (o : Opening) (left : Left) (settled : Claim → Type 0) (x : Index) (image : ℕ → Sector) (generation slot place : ℕ) (fact : Fact)
    → IsMetadata o left settled x → ((s : ℕ) → left s (image s)) → x.generation ≤ generation
    → (h : Counts o.format o.layout image generation slot place fact) → (generation ≡ x.generation) × IsCurrent h.item x.generation
counted_now o left settled x image generation slot place fact metadata is_left order counts =
    let older = metadata.no_newer_record slot (image (o.layout.slot_at slot)) counts.item counts.within (is_left (o.layout.slot_at slot)) counts.reads in
    (omega (arith, older, counts.current.1), (counts.current.0, omega (arith, older, counts.current.1)))

-- a chunk that a slot names is named in the image
pub named_counts : (o : Opening) (left : Left) (image : ℕ → Sector) (generation cursor from c : ℕ) → ((s : ℕ) → left s (image s)) → (h : IsNamed o left generation cursor from c)
    → (place : ℕ) × (fact : Fact) × Counts o.format o.layout image generation h.slot place fact × (fact.chunk ≡ c)
named_counts o left image generation cursor from c is_left h =
    let n = h.names (image (o.layout.slot_at h.slot)) (is_left (o.layout.slot_at h.slot)) in
    (n.place, n.fact, record { item = n.item; within = h.within; reads = n.reads; current = n.current; stands = n.stands }, n.is)

-- the mapping of a chunk is right in each image, whichever decides
pub mapped : (o : Opening) (left : Left) (settled : Claim → Type 0) (x : Index) (image : ℕ → Sector) (header : Header) (c : ℕ) (m : Mapping)
    → IsMetadata o left settled x → ((s : ℕ) → left s (image s)) → o.format.header_of (image o.layout.header_at) ≡ Ok header → x.generation ≤ header.generation
    → Maps o.format o.layout image header.generation c m → IsRight o settled x.table c m
mapped o left settled x image header c m metadata is_left reads order (inl h) =
    let kept = metadata.records h.slot (image (o.layout.slot_at h.slot)) h.counts.item h.counts.within (is_left (o.layout.slot_at h.slot)) h.counts.reads in
    let now = counted_now o left settled x image header.generation h.slot h.place h.fact metadata is_left order h.counts in
    elim ((kept now.1).right h.place h.fact h.counts.stands) [
      | inl right ↦ subst (λ (y : Mapping). IsRight o settled x.table c y) h.mapping (subst (λ (d : ℕ). IsRight o settled x.table d h.fact.mapping) h.names right)
      | inr named ↦
          let n = named_counts o left image x.generation x.cursor (h.slot + 1) h.fact.chunk is_left named in
          let there : Counts o.format o.layout image header.generation named.slot n.0 n.1 = subst (λ (g : ℕ). Counts o.format o.layout image g named.slot n.0 n.1) (sym now.0) n.2 in
          absurd (h.last named.slot n.0 n.1 there (n.3 ∙ h.names) (inl (let l = named.since in omega arith)))
    ]
mapped o left settled x image header c m metadata is_left reads order (inr h) =
    let page = metadata.pages c (image (o.layout.map_at c)) h.1 (is_left (o.layout.map_at c)) in
    let same : page.mapping ≡ m = cc (page.reads, h.2) in
    elim page.right [
      | inl right ↦ subst (λ (y : Mapping). IsRight o settled x.table c y) same right
      | inr named ↦
          let n = named_counts o left image x.generation x.cursor 0 c is_left named.1 in
          let now : header.generation ≡ x.generation = metadata.header_sure named.0 (image o.layout.header_at) header (is_left o.layout.header_at) reads in
          let there : Counts o.format o.layout image header.generation named.1.slot n.0 n.1 = subst (λ (g : ℕ). Counts o.format o.layout image g named.1.slot n.0 n.1) (sym now) n.2 in
          absurd (h.0 named.1.slot n.0 n.1 there n.3)
    ]

pub gives_table : (o : Opening) (left : Left) (settled : Claim → Type 0) (x : Index) (image : ℕ → Sector) (header : Header) (c p : ℕ)
    → IsMetadata o left settled x → ((s : ℕ) → left s (image s)) → o.format.header_of (image o.layout.header_at) ≡ Ok header → x.generation ≤ header.generation
    → GivesStorage o.format o.layout image header.generation c p → x.table c ≡ Some p
gives_table o left settled x image header c p metadata is_left reads order h = (mapped o left settled x image header c h.0 metadata is_left reads order h.1).storage_agrees p h.2

-- where no fact names the chunk, the mapping has what its page has
pub page_has : (o : Opening) (left : Left) (image : ℕ → Sector) (t : Need) (m : Mapping) → ((s : ℕ) → left s (image s)) → IsInPage o left t
    → o.format.mapping_of (image (o.layout.map_at (chunk_in o t))) (chunk_in o t) ≡ Some m → Says t m
page_has o left image t m is_left page reads =
    let h = page.page (image (o.layout.map_at (chunk_in o t))) (is_left (o.layout.map_at (chunk_in o t))) in
    let same : h.mapping ≡ m = cc (h.reads, reads) in
    subst (λ (y : Mapping). Says t y) same h.has

-- the chunk of a block that a slot has is named there
pub slot_names : (o : Opening) (left : Left) (image : ℕ → Sector) (generation cursor : ℕ) (t : Need) → ((s : ℕ) → left s (image s)) → (h : IsInSlots o left generation cursor t)
    → (place : ℕ) × (fact : Fact) × Counts o.format o.layout image generation h.slot place fact × (fact.chunk ≡ chunk_in o t)
slot_names o left image generation cursor t is_left h =
    let n = h.names (image (o.layout.slot_at h.slot)) (is_left (o.layout.slot_at h.slot)) in
    (n.place, n.fact, record { item = n.item; within = h.within; reads = n.reads; current = n.current; stands = n.stands }, n.is)

-- what each image of the kept generation has is in the mapping that decides
pub kept_has : (o : Opening) (left : Left) (image : ℕ → Sector) (generation cursor : ℕ) (t : Need) (m : Mapping) → ((s : ℕ) → left s (image s))
    → IsLocalLeft o left generation cursor t → Maps o.format o.layout image generation (chunk_in o t) m → Says t m
kept_has o left image generation cursor t m is_left (inl h) (inl last) =
    subst (λ (y : Mapping). Says t y) last.mapping (elim (cases_lt last.slot h.slot) [
      | inl before ↦ (let n = slot_names o left image generation cursor t is_left h in absurd (last.last h.slot n.0 n.1 n.2 n.3 (inl before)))
      | inr from ↦ h.later last.slot (image (o.layout.slot_at last.slot)) last.counts.item from last.counts.within (is_left (o.layout.slot_at last.slot)) last.counts.reads last.counts.current last.place last.fact last.counts.stands last.names
    ])
kept_has o left image generation cursor t m is_left (inl h) (inr none) = let n = slot_names o left image generation cursor t is_left h in absurd (none.0 h.slot n.0 n.1 n.2 n.3)
kept_has o left image generation cursor t m is_left (inr h) (inl last) =
    subst (λ (y : Mapping). Says t y) last.mapping
    (h.1 last.slot (image (o.layout.slot_at last.slot)) last.counts.item (omega arith) last.counts.within (is_left (o.layout.slot_at last.slot)) last.counts.reads last.counts.current last.place last.fact last.counts.stands last.names)
kept_has o left image generation cursor t m is_left (inr h) (inr none) = page_has o left image t m is_left h.0 none.2

-- what its page has is in the mapping in each image of the next generation, of which no record is
pub next_has : (o : Opening) (left : Left) (settled : Claim → Type 0) (x : Index) (image : ℕ → Sector) (generation : ℕ) (t : Need) (m : Mapping)
    → IsMetadata o left settled x → ((s : ℕ) → left s (image s)) → x.generation < generation
    → IsInPage o left t → Maps o.format o.layout image generation (chunk_in o t) m → Says t m
next_has o left settled x image generation t m metadata is_left order page (inl last) =
    let now = counted_now o left settled x image generation last.slot last.place last.fact metadata is_left (omega arith) last.counts in
    absurd (omega (arith, now.0))
next_has o left settled x image generation t m metadata is_left order page (inr none) = page_has o left image t m is_left page none.2

pub header_order : (o : Opening) (left : Left) (x : Index) (v : Sector) (h : IsHeaderLeft o left x v) → x.generation ≤ h.header.generation
header_order o left x v h = elim h.generation [ inl e ↦ omega arith | inr e ↦ omega arith ]

-- what every image must have is in the mapping
pub due_has : (o : Opening) (left : Left) (settled : Claim → Type 0) (x : Index) (image : ℕ → Sector) (header : Header) (t : Need) (m : Mapping)
    → IsMetadata o left settled x → ((s : ℕ) → left s (image s)) → o.format.header_of (image o.layout.header_at) ≡ Ok header → x.generation ≤ header.generation
    → IsDue x t → Maps o.format o.layout image header.generation (chunk_in o t) m → Says t m
due_has o left settled x image header t m metadata is_left reads order due maps = elim (cases_lt x.generation header.generation) [
  | inl more ↦ elim (metadata.due_everywhere t due).1 [
    | inl page ↦ next_has o left settled x image header.generation t m metadata is_left more page maps
    | inr sure ↦ absurd (let same = metadata.header_sure sure (image o.layout.header_at) header (is_left o.layout.header_at) reads in omega arith)
  ]
  | inr less ↦
      let same : header.generation ≡ x.generation = omega (arith, order) in
      kept_has o left image x.generation x.cursor t m is_left (metadata.due_everywhere t due).0 (subst (λ (g : ℕ). Maps o.format o.layout image g (chunk_in o t) m) same maps)
]

-- a block in a mapping that may be left is local by it
pub local_by : (o : Opening) (settled : Claim → Type 0) (table : ℕ → Option ℕ) (c b : ℕ) (m : Mapping) → IsRight o settled table c m → m.has b ≡ true → (p : ℕ) × IsLocalBy m b p
local_by o settled table c b m right has = let s = right.grammar.has_storage b has in (s.0, (s.1, has))

pub sound : (o : Opening) (left : Left) (settled : Claim → Type 0) (x : Index) (image : ℕ → Sector)
    → IsMetadata o left settled x → IsTable o.layout.storage x.table → ((s : ℕ) → left s (image s)) → IsSound o.format o.layout image
sound o left settled x image metadata table is_left =
    let h = metadata.header_known (image o.layout.header_at) (is_left o.layout.header_at) in
    let order = header_order o left x (image o.layout.header_at) h in
    record {
      header = h.header;
      reads = h.reads;
      geometry = h.geometry;
      consistent = record {
        mappings = λ c within. let page = metadata.pages c (image (o.layout.map_at c)) within (is_left (o.layout.map_at c)) in (page.mapping, page.reads, page.grammar);
        records = λ k within r reads current.
            let older = metadata.no_newer_record k (image (o.layout.slot_at k)) r within (is_left (o.layout.slot_at k)) reads in
            (metadata.records k (image (o.layout.slot_at k)) r within (is_left (o.layout.slot_at k)) reads (current.0, omega (arith, older, order, current.1))).grammar;
        one_to_one = λ c d p first second.
            table.one_to_one c d p (gives_table o left settled x image h.header c p metadata is_left h.reads order first) (gives_table o left settled x image h.header d p metadata is_left h.reads order second);
      };
      no_later = λ k r within reads. let older = metadata.no_newer_record k (image (o.layout.slot_at k)) r within (is_left (o.layout.slot_at k)) reads in omega (arith, older, order);
    }

-- An ordinary guest write that is sure is behind: no image takes its block from the base.
pub sure_behind : (o : Opening) (log : List Entry) (history : List NumberedEntry) (drops : ℕ → Option ℕ) (stale off_base : ℕ → Bool) (reach j n s : ℕ) (v : Sector)
    → AreAnswered o log drops history stale off_base reach → OwnWrites drops history j n s v → IsSure (events history) j → IsBehind o drops history stale off_base (o.layout.block_of s) j
sure_behind o log history drops stale off_base reach j n s v answered writes sure =
    let ends = sure_ends history j sure in
    let flush = sure_flushes history j sure in
    answered.logged sure.asked flush.0 (o.layout.block_of s) j flush.1
    (record { end = sure.done; number = n; end_number = ends.0; sector = s; value = v; block = refl; writes = writes; ends = ends.1; before = sure.before })

-- a sector of a block that some image may take from the base has no sure guest write
pub start_left : (o : Opening) (log : List Entry) (history : List NumberedEntry) (m : Memory) (s : ℕ)
    → CrashFacts o log history m → (m.index.off_base (o.layout.block_of s) ≡ true → ⊥) → NoneSureFrom (events history) 0 s
start_left o log history m s facts not_off = λ j v from w sure.
    let g = guest_writes_of history j s v w in
    elim (cases_option (m.discards.drops j)) [
      | inl ordinary ↦ not_off (sure_behind o log history m.discards.drops m.index.stale m.index.off_base m.discards.reach j g.0 s v facts.answered (g.1, ordinary) sure).0
      | inr is ↦
          let drop : IsDrop m.discards.drops history j g.0 is.0 = record { event = g.1.event; stands = g.1.stands; is = is.1 } in
          let chunk = (facts.discards.covers j g.0 g.0 is.0 s v drop g.1).0 in
          not_off (facts.zeros.sealed_off j g.0 (o.layout.block_of s) (subst (λ (c : ℕ). IsDrop m.discards.drops history j g.0 c) (sym chunk) drop)
          (sure_reached o log history m.discards.drops m.index.stale m.index.off_base m.discards.reach j facts.answered sure))
    ]

-- a local block with a flush since is shown, whatever discards are counted
pub settled_kept : (o : Opening) (log : List Entry) (history : List NumberedEntry) (drops : ℕ → Option ℕ) (table : ℕ → Option ℕ) (b born reach : ℕ) → IsFresh o log history drops table b born → IsFlushedSince log born → IsKept o log history drops table b reach 0
settled_kept o log history drops table b born reach h flushed = kept_grown o log history drops table table b reach reach born 0 (λ p given. given) (λ j n drop less. less) sure (h reach)
  where
    sure : (w : ℕ) → IsSureBy log born w → IsSureBy log 0 w
    sure w (inl k) = inl k
    sure w (inr k) = inl (sure_by log w k.0 flushed.0 k.1 (let d = k.2 in omega (arith, flushed.2)) flushed.1)

pub safe_now : (o : Opening) (log : List Entry) (history : List NumberedEntry) (m : Memory) → CrashFacts o log history m → IsSafeNow o log (events history)
safe_now o log history m facts = λ image is_image. record {
  sound = sound o (May o.before log) shown m.index image facts.metadata facts.storage_one_to_one is_image;
  allowed = λ s v within disk. disk_allowed image is_image s v within disk;
}
  where
    shown : Claim → Type 0
    shown = IsClaimSettled o log history m m.discards.reach

    stored : (image : ℕ → Sector) → IsImage o.before log image → (s p : ℕ) (v : Sector) (w : Mapping) → s < o.layout.size → IsRight o shown m.index.table (o.layout.chunk_of (o.layout.block_of s)) w
        → IsLocalBy w (o.layout.block_of s) p → v ≡ image (o.layout.place p s) → May o.disk (events history) s v
    stored image is_image s p v w within right local value =
        let there : May o.before log (o.layout.place p s) v = subst (λ (x : Sector). May o.before log (o.layout.place p s) x) (sym value) (is_image (o.layout.place p s)) in
        shown_allowed o log history m.discards.drops m.index.stale m.index.off_base m.index.table m.discards.reach (o.layout.block_of s) p s v facts.numbers facts.discards facts.answered facts.opening
        (right.blocks_settled (o.layout.block_of s) local.1).0 refl within (right.storage_agrees p local.0) there

    -- a sector that an image takes from the base has the content at the start
    is_start : (image : ℕ → Sector) → IsImage o.before log image → (s : ℕ) (header : Header) (w : Mapping) → s < o.layout.size → (kept : IsHeaderLeft o (May o.before log) m.index (image o.layout.header_at)) → header ≡ kept.header
        → m.index.off_base (o.layout.block_of s) ≡ false → Maps o.format o.layout image header.generation (o.layout.chunk_of (o.layout.block_of s)) w → (Says (Off_base (o.layout.block_of s)) w → ⊥)
        → background o.base o.zeros header.tracked s ≡ o.disk s
    is_start image is_image s header w within kept same not_off maps not_has = elim (kept.background s within not_off) [
      | inl e ↦ ap (λ (y : Header). background o.base o.zeros y.tracked s) same ∙ e
      | inr next ↦
          let generation : header.generation ≡ kept.header.generation = ap (λ (y : Header). y.generation) same in
          absurd (not_has (next_has o (May o.before log) shown m.index image header.generation (Off_base (o.layout.block_of s)) w facts.metadata is_image (omega (arith, next.0, generation)) next.2 maps))
    ]

    by_kind : (w : Mapping) (tracked s : ℕ) (kind : Bool) → w.zeros ≡ kind → unmapped_sector o.base o.zeros tracked w s ≡ (if kind then o.zeros else background o.base o.zeros tracked s)
    by_kind w tracked s kind same = ap (λ (y : Bool). if y then o.zeros else background o.base o.zeros tracked s) same

    -- zeros are allowed in a block that isn't stale of a chunk of kind zeros
    zeros_allowed : (s : ℕ) (v : Sector) → s < o.layout.size → m.discards.zeros (o.layout.chunk_of (o.layout.block_of s)) ≡ true → (m.index.stale (o.layout.block_of s) ≡ true → ⊥) → v ≡ o.zeros → May o.disk (events history) s v
    zeros_allowed s v within is_zeros not_stale value = elim (facts.zeros.from (o.layout.chunk_of (o.layout.block_of s)) is_zeros) [
      | inl last ↦ inr (record {
        at = last.at;
        writes = writes_of history last.at last.number s v (subst (λ (y : Sector). GuestWrites history last.at last.number s y) (sym value) (facts.discards.whole last.at last.number (o.layout.chunk_of (o.layout.block_of s)) s last.is within refl));
        newest = λ k u after w sure. none (last.at + 1) last.last k u after w sure;
      })
      | inr never ↦ inl (record {
        value = value ∙ sym (never.1 s refl (false_from_ne_true (m.index.stale (o.layout.block_of s)) not_stale));
        newest = λ k u after w sure. none 0 never.0 k u after w sure;
      })
    ]
      where
        none : (from : ℕ) → NoDropFrom m.discards.drops history from (o.layout.chunk_of (o.layout.block_of s)) → (k : ℕ) (u : Sector) → from ≤ k → Writes (events history) k s u → IsSure (events history) k → ⊥
        none from no_drop k u after w sure =
            let g = guest_writes_of history k s u w in
            elim (cases_option (m.discards.drops k)) [
              | inl ordinary ↦ elim (sure_behind o log history m.discards.drops m.index.stale m.index.off_base m.discards.reach k g.0 s u facts.answered (g.1, ordinary) sure).1 [
                | inl stale ↦ not_stale stale
                | inr dropped ↦ no_drop dropped.0 dropped.1 (omega (arith, dropped.3)) dropped.2
              ]
              | inr is ↦
                  let drop : IsDrop m.discards.drops history k g.0 is.0 = record { event = g.1.event; stands = g.1.stands; is = is.1 } in
                  let chunk = (facts.discards.covers k g.0 g.0 is.0 s u drop g.1).0 in
                  no_drop k g.0 after (subst (λ (c : ℕ). IsDrop m.discards.drops history k g.0 c) (sym chunk) drop)
            ]

    disk_allowed : (image : ℕ → Sector) → IsImage o.before log image → (s : ℕ) (v : Sector) → s < o.layout.size → DiskHas o.format o.layout o.base o.zeros image s v → May o.disk (events history) s v
    disk_allowed image is_image s v within disk =
        let kept = facts.metadata.header_known (image o.layout.header_at) (is_image o.layout.header_at) in
        let same : disk.header ≡ kept.header = cc (disk.reads, kept.reads) in
        let order : m.index.generation ≤ disk.header.generation = subst (λ (y : Header). m.index.generation ≤ y.generation) (sym same) (header_order o (May o.before log) m.index (image o.layout.header_at) kept) in
        let right = mapped o (May o.before log) shown m.index image disk.header (o.layout.chunk_of (o.layout.block_of s)) disk.mapping facts.metadata is_image disk.reads order disk.maps in
        elim disk.has [
          | inl h ↦ stored image is_image s h.0 v disk.mapping within right h.1 h.2
          | inr h ↦
              let not_has : disk.mapping.has (o.layout.block_of s) ≡ true → ⊥ = λ has. (let l = local_by o shown m.index.table (o.layout.chunk_of (o.layout.block_of s)) (o.layout.block_of s) disk.mapping right has in h.0 l.0 l.1) in
              let not_stale : m.index.stale (o.layout.block_of s) ≡ true → ⊥ = λ stale. not_has (due_has o (May o.before log) shown m.index image disk.header (Local (o.layout.block_of s)) disk.mapping facts.metadata is_image disk.reads order stale disk.maps) in
              elim (cases_Bool disk.mapping.zeros) [
                | inl zeros ↦ zeros_allowed s v within (right.kind_settled zeros) not_stale (h.1 ∙ by_kind disk.mapping disk.header.tracked s true zeros)
                | inr base ↦
                    let says_none : Says (Off_base (o.layout.block_of s)) disk.mapping → ⊥ = λ says. neither disk.mapping (o.layout.block_of s) base not_has says in
                    let not_off : m.index.off_base (o.layout.block_of s) ≡ true → ⊥ = λ off. says_none (due_has o (May o.before log) shown m.index image disk.header (Off_base (o.layout.block_of s)) disk.mapping facts.metadata is_image disk.reads order off disk.maps) in
                    inl (record {
                      value = h.1 ∙ by_kind disk.mapping disk.header.tracked s false base ∙ is_start image is_image s disk.header disk.mapping within kept same (false_from_ne_true (m.index.off_base (o.layout.block_of s)) not_off) disk.maps says_none;
                      newest = start_left o log history m s facts not_off;
                    })
              ]
        ]
      where
        neither : (w : Mapping) (b : ℕ) → w.zeros ≡ false → (w.has b ≡ true → ⊥) → (w.has b ≡ true) ⊎ (w.zeros ≡ true) → ⊥
        neither w b base not_has (inl has) = not_has has
        neither w b base not_has (inr zeros) = absurd cc
