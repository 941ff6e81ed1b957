-- The next record of a flush, as the laws of crash safety read it.
use Rattle.std.proofs.Common.{◌≡◌, ◌⊎◌, inl, inr, ℕ, ◌+◌, ◌-◌, ◌/◌, ◌<◌, true, List, length, map, take, drop, get_or, Option, Some, None, sym, refl, ap, ◌∙◌, arith, subst, length-take, length-drop, get_or-drop, get_or-take}
use Rattle.std.specs.List.{slice_get, Contains}
use Rattle.std.specs.Option.{option_map}
use Rattle.std.proofs.Math.Nat.{div-le_self}
use Rattle.std.proofs.lemmas.Bool.{cases_lt}
use Rattle.std.proofs.lemmas.Option.{slice_get-map, slice_get-get_or}
use Rattle.vd_law.specs.declared.entry.Sector.{Sector}
use Rattle.vd_format.specs.declared.header.Header.{Header}
use Rattle.vd_format.specs.declared.journal.Fact2.{Fact2}
use Rattle.vd_format.specs.Headers.{IsValid}
use Rattle.vd_format.specs.Numbers.{u64_at, has_magic}
use Rattle.vd_format.specs.Records.{ShapeFits, AreFacts, record_magic, record_bytes, is_well_formed, facts_from, count_in}
use Rattle.vd_format.proofs.Rules.{storage_within, chunk_within, size_within}
use Rattle.vd_format.proofs.Records.{magic-record, generation-record, record-well_formed, record-facts, facts_fit}
use Rattle.vd_table.specs.Tables.{TableState}
use Rattle.vd_image.specs.Log.{At}
use Rattle.vd_image.specs.Image.{Fact, Record, IsRecord}
use Rattle.vd_image.specs.Layouts.{layout_of, blocks_of}
use Rattle.vd_image.specs.Decoders.{format_of, shape_of, fact_in, record_in, record_of}
use Rattle.vd_image.proofs.Records.{record_is_facts}
use Rattle.vd_crash.specs.facts.Safe.{Opening}
use Rattle.vd_crash.specs.flushes.Flushing.{Snapshot, IsWantedMapping, IsWantedRecord}
use Rattle.vd_keeper.specs.Keeping.{KeeperState}
use Rattle.vd_keeper.specs.Entries.{fact_of, HasStorage, wanted_blocks, next_chunks, next_facts, chunks_with}
use Rattle.vd_keeper.specs.Flushes.{IsKeeping}
use Rattle.vd_keeper.proofs.Laws.{next-facts-grammar}
use Rattle.vd_safety.specs.Mirrors.{IsOfHeader}
use Rattle.vd_safety.proofs.Records.{with_header, by-header, IsMemoryOf, wanted-mapping}
use Rattle.vd_crash.specs.facts.Memory.{Memory}
use Rattle.vd_crash.specs.facts.Metadata.{RecordNames}

-- an element of a list that f makes of another's elements is one of them
module _ {A B : Type 0} (f : A → B) (xs : List A) where
  pub mapped-at : (i : ℕ) (y : B) → At (map f xs) i y → (x : A) × At xs i x × (f x ≡ y)
  mapped-at i y at = go (slice_get xs i) refl
    where
      go : (x : Option A) → slice_get xs i ≡ x → (x : A) × At xs i x × (f x ≡ y)
      go None none = absurd (let e = slice_get-map f xs i in let k = ap (option_map f) none in cc)
      go (Some x) some = (x, some, (let e = slice_get-map f xs i in let k = ap (option_map f) some in cc))

  pub at-mapped : (i : ℕ) (x : A) → At xs i x → At (map f xs) i (f x)
  at-mapped i x at = slice_get-map f xs i ∙ ap (option_map f) at

-- the numbers by which records are read have room in their bytes
pub shape-fits : (h : Header) → IsValid h → ShapeFits (shape_of h)
shape-fits h valid = record {
  chunks = (let chunks = div-le_self (blocks_of h + h.chunk - 1) h.chunk in let blocks = div-le_self h.size h.block in omega (arith, chunks, blocks, size_within h valid, (chunk_within h valid).1));
  storage = omega (arith, storage_within h valid);
  generation = omega (arith, valid.generation);
}

-- what the bytes of facts in the grammar say
pub spelled-record : (h : Header) (sector : Sector) (facts : List Fact2) → IsValid h → AreFacts (shape_of h) facts → sector.bytes ≡ record_bytes h.generation facts
    → record_of sector ≡ Some (record { version = 2; generation = h.generation; well_formed = true; facts = facts })
unfolding record_of
spelled-record h sector facts valid are is =
    let magic : has_magic record_magic sector.bytes ≡ true = ap (has_magic record_magic) is ∙ magic-record h.generation facts in
    let generation : u64_at sector.bytes 8 ≡ h.generation = ap (λ (b : List ℕ). u64_at b 8) is ∙ generation-record h.generation facts (omega (arith, valid.generation)) in
    let formed : is_well_formed sector.bytes ≡ true = ap is_well_formed is ∙ record-well_formed h.generation facts are.some_fact are.most in
    let same : facts_from sector.bytes 24 (count_in sector.bytes) ≡ facts = ap (λ (b : List ℕ). facts_from b 24 (count_in b)) is ∙ record-facts h.generation facts are.most (facts_fit (shape_of h) facts (shape-fits h valid) are) in
    rw (magic, generation, formed, same) refl

module _ (o : Opening) (m : Memory) (snapshot : Snapshot) (table : TableState) (k : KeeperState) (is : IsMemoryOf m snapshot table k) (kept : IsKeeping k) (has : HasStorage table k) where
  -- the record of the next facts
  abbrev item : Record
  item = record_in k.header (record { version = 2; generation = k.header.generation; well_formed = true; facts = next_facts table k })

  -- each fact is that of a chunk
  fact-of : (place : ℕ) (fact : Fact) → At item.facts place fact → (c : ℕ) × (fact ≡ fact_in k.header (fact_of k.header table (wanted_blocks k) c))
  fact-of place fact at =
      let x = mapped-at (fact_in k.header) (next_facts table k) place fact at in
      let y = mapped-at (fact_of k.header table (wanted_blocks k)) (next_chunks k) place x.0 x.1 in
      (y.0, sym (ap (fact_in k.header) y.2 ∙ x.2))

  -- the record is a wanted one
  pub item-wanted : k.logged < length (chunks_with k.header k.snapshot) → IsWantedRecord (with_header o k.header) m snapshot item
  item-wanted due =
      let are = next-facts-grammar table k kept has due in
      let grammar : IsRecord (layout_of k.header) item = (record_is_facts k.header (record { version = 2; generation = k.header.generation; well_formed = true; facts = next_facts table k }) kept.valid are.some_fact are.most refl).0 are in
      record {
        current = (refl, sym is.generation);
        well_formed = refl;
        rising = grammar.rising;
        facts = λ place fact at. (
          (grammar.facts place fact at).0,
          (let c = fact-of place fact at in
              subst (λ (f : Fact). IsWantedMapping (with_header o k.header) m snapshot f.chunk f.mapping) (sym c.1) (wanted-mapping o m snapshot table k is c.0 kept has)),
        );
      }

  -- it is what the sector of the next record says
  pub item-reads : (sector : Sector) → k.logged < length (chunks_with k.header k.snapshot) → sector.bytes ≡ record_bytes k.header.generation (next_facts table k) → (format_of k.header).record_of sector ≡ Some item
  item-reads sector due is = ap (option_map (record_in k.header)) (spelled-record k.header sector (next_facts table k) kept.valid (next-facts-grammar table k kept has due) is)

  -- and it names each chunk of the next ones
  pub item-names : (sector : Sector) (c : ℕ) → k.logged < length (chunks_with k.header k.snapshot) → sector.bytes ≡ record_bytes k.header.generation (next_facts table k) → Contains (next_chunks k) c
      → RecordNames (with_header o k.header) k.header.generation c sector
  item-names sector c due is found =
      let at : slice_get (next_chunks k) found.0 ≡ Some c = slice_get-get_or (next_chunks k) found.0 c found.1 ∙ ap (λ (x : ℕ). Some x) found.2 in
      record {
        item = item;
        fact = fact_in k.header (fact_of k.header table (wanted_blocks k) c);
        place = found.0;
        reads = item-reads sector due is;
        current = (refl, refl);
        stands = at-mapped (fact_in k.header) (next_facts table k) found.0 (fact_of k.header table (wanted_blocks k) c) (at-mapped (fact_of k.header table (wanted_blocks k)) (next_chunks k) found.0 c at);
        is = refl;
      }

-- The next record of a flush is one that the laws want, and it names each chunk of its facts.
module _ (h : Header) (o : Opening) (m : Memory) (snapshot : Snapshot) (table : TableState) (k : KeeperState) (sector : Sector) (of : IsOfHeader h o k) (is : IsMemoryOf m snapshot table k) (kept : IsKeeping k) (has : HasStorage table k)
    (due : k.logged < length (chunks_with k.header k.snapshot)) (bytes : sector.bytes ≡ record_bytes k.header.generation (next_facts table k)) where
  pub record-wanted : (r : Record) × (o.format.record_of sector ≡ Some r) × IsWantedRecord o m snapshot r
  record-wanted = by-header h o k of (λ p. (r : Record) × (p.format.record_of sector ≡ Some r) × IsWantedRecord p m snapshot r) (item o m snapshot table k is kept has, item-reads o m snapshot table k is kept has sector due bytes, item-wanted o m snapshot table k is kept has due)

  pub record-names : (b : ℕ) → Contains (next_chunks k) (b / k.header.chunk) → RecordNames o k.header.generation (o.layout.chunk_of b) sector
  record-names b found = by-header h o k of (λ p. RecordNames p k.header.generation (p.layout.chunk_of b) sector) (item-names o m snapshot table k is kept has sector (b / k.header.chunk) due bytes found)

-- ---- the chunks that were logged before and the next ones are those that are logged after

taken-more : (xs : List ℕ) (n c : ℕ) → Contains (take (n + length (take 24 (drop n xs))) xs) c → Contains (take n xs) c ⊎ Contains (take 24 (drop n xs)) c
taken-more xs n c (i, inside, is) =
    let next : ℕ = length (take 24 (drop n xs)) in
    let all = length-take (n + next) xs in
    let front = length-take n xs in
    let cut = length-take 24 (drop n xs) in
    let rest = length-drop n xs in
    let here : get_or xs i c ≡ c = sym (get_or-take (n + next) xs i c (omega arith)) ∙ is in
    elim (cases_lt i n) [
      | inl less ↦ inl (i, omega arith, get_or-take n xs i c less ∙ here)
      | inr more ↦
          let sum : n + (i - n) ≡ i = omega arith in
          inr (i - n, omega arith, get_or-take 24 (drop n xs) (i - n) c (omega arith) ∙ get_or-drop n xs (i - n) c ∙ ap (λ (j : ℕ). get_or xs j c) sum ∙ here)
    ]

pub logged-more : (k : KeeperState) (c : ℕ) → Contains (take (k.logged + length (next_chunks k)) (chunks_with k.header k.snapshot)) c → Contains (take k.logged (chunks_with k.header k.snapshot)) c ⊎ Contains (next_chunks k) c
logged-more k c found = taken-more (chunks_with k.header k.snapshot) k.logged c found
