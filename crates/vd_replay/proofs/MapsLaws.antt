-- After all records were put over the map, each chunk has the entry of the last fact that names it, else that of the map.
use Rattle.std.proofs.Common.{ℕ, zero, suc, ◌≡◌, ◌<◌, ◌⊎◌, inl, inr, List, [], ◌∷◌, length, map, Option, Some, None, refl, ap, sym, ◌∙◌, subst, arith}
use Rattle.std.specs.Prelude.{slice_get, slice_set}
use Rattle.std.specs.Option.{option_map}
use Rattle.std.proofs.lemmas.Bool.{cases_lt, cases_eq}
use Rattle.std.proofs.lemmas.List.{length-set}
use Rattle.std.proofs.lemmas.Option.{slice_get_within, slice_get-map, same_Some}
use Rattle.vd_lists.proofs.Changes.{slice_set_inside, slice_set_other}
use Rattle.vd_lists.proofs.Options.{same_option}
use Rattle.vd_format.specs.declared.map.Shape2.{Shape2}
use Rattle.vd_format.specs.Headers.{IsValid}
use Rattle.vd_format.specs.Records.{Said as Slot, Nothing, Facts, Outside, slot_of}
use Rattle.vd_format.specs.Layouts.{chunks_of}
use Rattle.vd_image.specs.Log.{Sector, At}
use Rattle.vd_image.specs.Image.{Header, Mapping, Fact, Record, Counts, IsLater, Maps}
use Rattle.vd_image.specs.Layouts.{layout_of}
use Rattle.vd_image.specs.Decoders.{Entry, Fact2, shape_of, mapping_in, fact_in, record_in, format_of}
use Rattle.vd_replay.specs.Images.{image_of}
use Rattle.vd_replay.specs.Pages.{chunk_entry, AreRead}
use Rattle.vd_replay.specs.Journal.{facts_said, facts_to, put_facts, AreReplayed}
use Rattle.vd_replay.proofs.JournalLaws.{put-append}
use Rattle.vd_replay.proofs.ImageLaws.{map_of, slots_of, mapping_read, good_kind, Views, views}

-- ---- within a record

record LastPlace (facts : List Fact2) (c : ℕ) (e : Entry) : Type 0 where
  place : ℕ
  fact : Fact2
  stands : slice_get facts place ≡ Some fact
  names : fact.chunk ≡ c
  entry : fact.entry ≡ e
  last : (j : ℕ) (x : Fact2) → place < j → slice_get facts j ≡ Some x → x.chunk ≡ c → ⊥

abbrev NoPlace : List Fact2 → ℕ → Type 0
NoPlace facts c = (j : ℕ) (x : Fact2) → slice_get facts j ≡ Some x → x.chunk ≡ c → ⊥

in_record : (es : List Entry) (facts : List Fact2) (c : ℕ) (e : Entry) → slice_get (put_facts es facts) c ≡ Some e → LastPlace facts c e ⊎ (NoPlace facts c × (slice_get es c ≡ Some e))
in_record es [] c e at = inr ((λ j x none. absurd cc), at)
in_record es (x ∷ xs) c e at = elim (in_record (slice_set es x.chunk x.entry) xs c e at) [
  | inl w ↦ inl (record { place = suc w.place; fact = w.fact; stands = w.stands; names = w.names; entry = w.entry; last = later w.place w.last })
  | inr w ↦ elim (cases_eq c x.chunk) [
    | inl same ↦ (let within : c < length es = (let k = slice_get_within (slice_set es x.chunk x.entry) c e w.1 in let n = length-set es x.chunk x.entry in omega arith) in
        let here : slice_get (slice_set es x.chunk x.entry) c ≡ Some x.entry = ap (slice_get (slice_set es x.chunk x.entry)) same ∙ slice_set_inside es x.chunk x.entry (omega arith) in
        inl (record { place = 0; fact = x; stands = refl; names = sym same; entry = same_option x.entry e (slice_get (slice_set es x.chunk x.entry) c) here w.1; last = first w.0 }))
    | inr other ↦ inr (none w.0 other, sym (slice_set_other es x.chunk c x.entry other) ∙ w.1)
  ]
]
  where
    later : (place : ℕ) → ((j : ℕ) (y : Fact2) → place < j → slice_get xs j ≡ Some y → y.chunk ≡ c → ⊥) → (j : ℕ) (y : Fact2) → suc place < j → slice_get (x ∷ xs) j ≡ Some y → y.chunk ≡ c → ⊥
    later place rest zero y less at' names = omega (arith, less)
    later place rest (suc j) y less at' names = rest j y (omega (arith, less)) at' names

    first : NoPlace xs c → (j : ℕ) (y : Fact2) → 0 < j → slice_get (x ∷ xs) j ≡ Some y → y.chunk ≡ c → ⊥
    first rest zero y less at' names = omega (arith, less)
    first rest (suc j) y less at' names = rest j y at' names

    none : NoPlace xs c → (c ≡ x.chunk → ⊥) → NoPlace (x ∷ xs) c
    none rest other zero y at' names = other (sym names ∙ ap (λ (z : Fact2). z.chunk) (sym (same_Some x y at')))
    none rest other (suc j) y at' names = rest j y at' names

-- ---- within the first slots

abbrev facts_at : Shape2 → (ℕ → Sector) → ℕ → List Fact2
facts_at shape at k = facts_said (slot_of shape (at k))

record LastIn (shape : Shape2) (at : ℕ → Sector) (n c : ℕ) (e : Entry) : Type 0 where
  slot : ℕ
  place : ℕ
  fact : Fact2
  within : slot < n
  stands : slice_get (facts_at shape at slot) place ≡ Some fact
  names : fact.chunk ≡ c
  entry : fact.entry ≡ e
  last : (k j : ℕ) (x : Fact2) → k < n → slice_get (facts_at shape at k) j ≡ Some x → x.chunk ≡ c → IsLater slot place k j → ⊥

abbrev NoneIn : Shape2 → (ℕ → Sector) → ℕ → ℕ → Type 0
NoneIn shape at n c = (k j : ℕ) (x : Fact2) → k < n → slice_get (facts_at shape at k) j ≡ Some x → x.chunk ≡ c → ⊥

in_slots : (shape : Shape2) (at : ℕ → Sector) (n : ℕ) (pages : List Entry) (c : ℕ) (e : Entry) → slice_get (put_facts pages (facts_to shape at n)) c ≡ Some e → LastIn shape at n c e ⊎ (NoneIn shape at n c × (slice_get pages c ≡ Some e))
in_slots shape at zero pages c e is = inr ((λ k j x less. absurd (omega (arith, less))), is)
in_slots shape at (suc n) pages c e is =
    elim (in_record (put_facts pages (facts_to shape at n)) (facts_at shape at n) c e (ap (λ (es : List Entry). slice_get es c) (sym (put-append pages (facts_to shape at n) (facts_at shape at n))) ∙ is)) [
      | inl w ↦ inl (record { slot = n; place = w.place; fact = w.fact; within = omega arith; stands = w.stands; names = w.names; entry = w.entry; last = newest w.place w.last })
      | inr w ↦ elim (in_slots shape at n pages c e w.1) [
        | inl before ↦ inl (record {
          slot = before.slot;
          place = before.place;
          fact = before.fact;
          within = (let k = before.within in omega arith);
          stands = before.stands;
          names = before.names;
          entry = before.entry;
          last = λ k j x less stands names later. elim (cases_lt k n) [
            | inl below ↦ before.last k j x below stands names later
            | inr above ↦ (let same : k ≡ n = omega (arith, less, above) in w.0 j x (ap (λ (i : ℕ). slice_get (facts_at shape at i) j) (sym same) ∙ stands) names)
          ];
        })
        | inr before ↦ inr (
          (λ k j x less stands names. elim (cases_lt k n) [
            | inl below ↦ before.0 k j x below stands names
            | inr above ↦ (let same : k ≡ n = omega (arith, less, above) in w.0 j x (ap (λ (i : ℕ). slice_get (facts_at shape at i) j) (sym same) ∙ stands) names)
          ]),
          before.1,
        )
      ]
    ]
  where
    newest : (place : ℕ) → ((j : ℕ) (x : Fact2) → place < j → slice_get (facts_at shape at n) j ≡ Some x → x.chunk ≡ c → ⊥) → (k j : ℕ) (x : Fact2) → k < suc n → slice_get (facts_at shape at k) j ≡ Some x → x.chunk ≡ c → IsLater n place k j → ⊥
    newest place rest k j x less stands names (inl after) = omega (arith, less, after)
    newest place rest k j x less stands names (inr inside) = rest j x inside.1 (ap (λ (i : ℕ). slice_get (facts_at shape at i) j) inside.0 ∙ stands) names

-- ---- the facts that count

fact_at : (h : Header) (facts : List Fact2) (i : ℕ) (f : Fact) → At (map (fact_in h) facts) i f → (x : Fact2) × At facts i x × (fact_in h x ≡ f)
fact_at h facts i f at = go (slice_get facts i) refl
  where
    go : (x : Option Fact2) → slice_get facts i ≡ x → (x : Fact2) × At facts i x × (fact_in h x ≡ f)
    go None none = absurd (let e = slice_get-map (fact_in h) facts i in let k = ap (option_map (fact_in h)) none in cc)
    go (Some x) some = (x, some, (let e = slice_get-map (fact_in h) facts i in let k = ap (option_map (fact_in h)) some in cc))

at_fact : (h : Header) (facts : List Fact2) (i : ℕ) (x : Fact2) → At facts i x → At (map (fact_in h) facts) i (fact_in h x)
at_fact h facts i x at = slice_get-map (fact_in h) facts i ∙ ap (option_map (fact_in h)) at

-- a fact that was put counts, and is in the grammar
pub counts_from : (h : Header) (held : List Sector) (k j : ℕ) (x : Fact2) → IsValid h → k < h.slots → slice_get (facts_said (slot_of (shape_of h) (slots_of held h k))) j ≡ Some x
    → Counts (format_of h) (layout_of h) (image_of held) h.generation k j (fact_in h x) × (x.chunk < chunks_of h)
counts_from h held k j x valid within stands = by_said (slot_of (shape_of h) v) (views h v valid) stands
  where
    v : Sector
    v = slots_of held h k

    by_said : (said : Slot) → Views h v said → slice_get (facts_said said) j ≡ Some x → Counts (format_of h) (layout_of h) (image_of held) h.generation k j (fact_in h x) × (x.chunk < chunks_of h)
    by_said Nothing none at = absurd cc
    by_said Outside bad at = absurd cc
    by_said (Facts facts) w at =
        let stands_there = at_fact h w.0.facts j x (ap (λ (xs : List Fact2). slice_get xs j) w.4 ∙ at) in
        (record { item = record_in h w.0; within = within; reads = ap (option_map (record_in h)) w.1; current = w.2; stands = stands_there }, (w.3.facts j (fact_in h x) stands_there).0)

-- and a fact that counts was put, where the slot is good
pub counts_to : (h : Header) (held : List Sector) (k j : ℕ) (f : Fact) → IsValid h → (slot_of (shape_of h) (slots_of held h k) ≡ Outside → ⊥) → Counts (format_of h) (layout_of h) (image_of held) h.generation k j f
    → (x : Fact2) × (slice_get (facts_said (slot_of (shape_of h) (slots_of held h k))) j ≡ Some x) × (fact_in h x ≡ f)
counts_to h held k j f valid good counts = by_said (slot_of (shape_of h) v) refl (views h v valid)
  where
    v : Sector
    v = slots_of held h k

    by_said : (said : Slot) → slot_of (shape_of h) v ≡ said → Views h v said → (x : Fact2) × (slice_get (facts_said said) j ≡ Some x) × (fact_in h x ≡ f)
    by_said Nothing is none = absurd (none counts.item counts.reads counts.current)
    by_said Outside is w = absurd (good is)
    by_said (Facts facts) is w =
        let e = ap (option_map (record_in h)) w.1 in
        let reads = counts.reads in
        let same : counts.item ≡ record_in h w.0 = cc in
        let found = fact_at h w.0.facts j f (subst (λ (r : Record). At r.facts j f) same counts.stands) in
        (found.0, ap (λ (xs : List Fact2). slice_get xs j) (sym w.4) ∙ found.1, found.2)

-- ---- the mapping of a chunk

pub maps_entry : (h : Header) (held : List Sector) (pages entries : List Entry) (next c : ℕ) (e : Entry) → IsValid h → c < chunks_of h → AreRead (shape_of h) (map_of held h) (chunks_of h) pages
    → AreReplayed (shape_of h) (slots_of held h) h.slots pages entries next → slice_get entries c ≡ Some e → Maps (format_of h) (layout_of h) (image_of held) h.generation c (mapping_in h c e)
maps_entry h held pages entries next c e valid within read replayed at =
    elim (in_slots (shape_of h) (slots_of held h) h.slots pages c e (ap (λ (es : List Entry). slice_get es c) (sym replayed.entries_are) ∙ at)) [
      | inl w ↦ inl (record {
        slot = w.slot;
        place = w.place;
        fact = fact_in h w.fact;
        counts = (counts_from h held w.slot w.place w.fact valid w.within w.stands).0;
        names = w.names;
        mapping = ap (λ (k : ℕ). mapping_in h k w.fact.entry) w.names ∙ ap (mapping_in h c) w.entry;
        last = λ k j other counts names later. (let x = counts_to h held k j other valid (replayed.good k counts.within) counts in
            w.last k j x.0 counts.within x.1 (ap (λ (y : Fact). y.chunk) x.2 ∙ names) later);
      })
      | inr w ↦ inr (
        (λ k j other counts names. (let x = counts_to h held k j other valid (replayed.good k counts.within) counts in w.0 k j x.0 counts.within x.1 (ap (λ (y : Fact). y.chunk) x.2 ∙ names))),
        within,
        (let same : chunk_entry (map_of held h) c ≡ e = same_option (chunk_entry (map_of held h) c) e (slice_get pages c) (read.entry c within) w.1 in
            mapping_read h held c (good_kind h held c (read.good c within)) ∙ ap (λ (y : Entry). Some (mapping_in h c y)) same),
      )
    ]

-- a chunk that has a mapping exists
pub maps_within : (h : Header) (held : List Sector) (c : ℕ) (m : Mapping) → IsValid h → ((k : ℕ) → k < h.slots → slot_of (shape_of h) (slots_of held h k) ≡ Outside → ⊥) → Maps (format_of h) (layout_of h) (image_of held) h.generation c m → c < chunks_of h
maps_within h held c m valid good (inl w) =
    let x = counts_to h held w.slot w.place w.fact valid (good w.slot w.counts.within) w.counts in
    let k = (counts_from h held w.slot w.place x.0 valid w.counts.within x.1).1 in
    let e : x.0.chunk ≡ c = ap (λ (y : Fact). y.chunk) x.2 ∙ w.names in
    omega (arith, k, e)
maps_within h held c m valid good (inr w) = w.1
