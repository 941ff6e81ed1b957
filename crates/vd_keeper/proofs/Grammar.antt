-- What a flush writes is in the grammar.
use Rattle.std.proofs.Common.{◌≡◌, inl, inr, ℕ, zero, ◌+◌, ◌-◌, ◌*◌, ◌^◌, ◌<◌, ◌≤◌, nat_eq, Bool, true, false, cond, List, [], ◌∷◌, length, map, take, get_or, sym, refl, ap, ◌∙◌, arith, subst, length-take}
use Rattle.std.specs.Prelude.{min, filter}
use Rattle.std.specs.Int.{bit_at}
use Rattle.std.specs.List.{slice_get, list_any, range_with_len, All}
use Rattle.std.specs.List.Sorted.{IsStrictlyIncreasing}
use Rattle.std.proofs.Math.Pow.{pow_mono}
use Rattle.std.proofs.lemmas.Bool.{cases_eq, cond-true, cond-false, eq-eqb, ne_eqb, true_from_ne_false}
use Rattle.std.proofs.lemmas.List.{length-map, get_or-take}
use Rattle.std.proofs.lemmas.List.Elements.{All-map, All-take, All-filter, All-from_get_or}
use Rattle.std.proofs.lemmas.List.FromFn.{length-range_with_len, get_or-range_with_len}
use Rattle.std.proofs.lemmas.List.Kept.{IsStrictlyIncreasing-filter}
use Rattle.std.proofs.lemmas.Nat.Bits.{same_from_bits, bit_at-zero}
use Rattle.std.proofs.lemmas.Simd.{bit_mask_l, mask_l-lt}
use Rattle.vd_bits.specs.Blocks.{Blocks, bits_in}
use Rattle.vd_bits.specs.Masks.{mask_of}
use Rattle.vd_format.specs.declared.header.Header.{Header}
use Rattle.vd_format.specs.declared.map.Entry.{Entry}
use Rattle.vd_format.specs.declared.journal.Fact2.{Fact2}
use Rattle.vd_format.specs.declared.map.Shape2.{Shape2}
use Rattle.vd_format.specs.Headers.{IsValid}
use Rattle.vd_format.specs.Layouts.{blocks_of, chunks_of}
use Rattle.vd_format.specs.Entries.{IsEntry}
use Rattle.vd_format.specs.Records.{AreFacts}
use Rattle.vd_format.proofs.Rules.{chunk_within}
use Rattle.vd_table.specs.Tables.{TableState, Has}
use Rattle.vd_keeper.specs.Entries.{union_of, map_entry, fact_of, has_block, storage_number}
use Rattle.vd_keeper.specs.Putting.{HasFittingSizes, HasEach}
use Rattle.vd_keeper.specs.Sets.{chunks_from, chunk_count, has_any}
use Rattle.vd_keeper.proofs.Rows.{within, length-either}
use Rattle.vd_keeper.proofs.Chunked.{length-bits_in}
use Rattle.vd_keeper.proofs.NextChunks.{any-none}
use Rattle.vd_keeper.proofs.Flushed.{count-is}

-- the numbers by which an image's entries are judged
abbrev pub shape_of : Header → Shape2
shape_of h = record { chunks = chunks_of h; storage = h.storage; blocks = blocks_of h; chunk = h.chunk; generation = h.generation }

-- a mask without a block is 0
pub no-mask : (xs : List Bool) → list_any (λ (x : Bool). x) xs ≡ false → mask_of xs ≡ 0
no-mask xs none = same_from_bits (mask_of xs) 0 (λ i. bit_mask_l xs i ∙ ap (λ (b : Bool). cond {A = ℕ} b 1 0) (any-none xs none i) ∙ sym (bit_at-zero i))

pub some-mask : (xs : List Bool) → (mask_of xs ≡ 0 → ⊥) → list_any (λ (x : Bool). x) xs ≡ true
some-mask xs some = true_from_ne_false (list_any (λ (x : Bool). x) xs) (λ none. some (no-mask xs none))

bit-set : (b : Bool) → cond {A = ℕ} b 1 0 ≡ 1 → b ≡ true
bit-set true e = refl
bit-set false e = absurd (omega (arith, e))

pub bit-there : (xs : List Bool) (i : ℕ) → bit_at (mask_of xs) i ≡ 1 → get_or xs i false ≡ true
bit-there xs i one = bit-set (get_or xs i false) (sym (bit_mask_l xs i) ∙ one)

-- an entry that a flush writes
module _ (h : Header) (table : TableState) (blocks : List Bool) (chunk : ℕ) (valid : IsValid h) (size : length blocks ≡ blocks_of h) (each : has_block h blocks chunk ≡ true → (p : ℕ) × (p < h.storage) × Has table chunk p) where
  mask-small : mask_of (bits_in (record { chunk = h.chunk; bits = blocks }) chunk) < 2 ^ 64
  mask-small =
      let b : Blocks = record { chunk = h.chunk; bits = blocks } in
      let few : length (bits_in b chunk) ≤ 64 = omega (arith, length-bits_in b chunk, (chunk_within h valid).1) in
      omega (arith, mask_l-lt (bits_in b chunk), pow_mono {i = length (bits_in b chunk)} {j = 64} few)

  mask-blocks : (i : ℕ) → bit_at (mask_of (bits_in (record { chunk = h.chunk; bits = blocks }) chunk)) i ≡ 1 → (i < h.chunk) × (chunk * h.chunk + i < blocks_of h)
  mask-blocks i one =
      let b : Blocks = record { chunk = h.chunk; bits = blocks } in
      let inside : i < length (bits_in b chunk) = within (bits_in b chunk) i (bit-there (bits_in b chunk) i one) in
      (omega (arith, length-bits_in b chunk), omega (arith, length-bits_in b chunk, size))

  -- the storage of a chunk with a block
  has-storage : (mask_of (bits_in (record { chunk = h.chunk; bits = blocks }) chunk) ≡ 0 → ⊥) → (p : ℕ) × (p < h.storage) × (storage_number (slice_get table.chunks chunk) ≡ p + 1)
  has-storage some =
      let found = each (some-mask (bits_in (record { chunk = h.chunk; bits = blocks }) chunk) some) in
      (found.0, found.1, ap storage_number found.2)

  abbrev stored : ℕ
  stored = cond {A = ℕ} (nat_eq (mask_of (bits_in (record { chunk = h.chunk; bits = blocks }) chunk)) 0) 0 (storage_number (slice_get table.chunks chunk))

  stored-none : mask_of (bits_in (record { chunk = h.chunk; bits = blocks }) chunk) ≡ 0 → stored ≡ 0
  stored-none none = cond-true (nat_eq (mask_of (bits_in (record { chunk = h.chunk; bits = blocks }) chunk)) 0) 0 (storage_number (slice_get table.chunks chunk)) (eq-eqb (mask_of (bits_in (record { chunk = h.chunk; bits = blocks }) chunk)) 0 none)

  stored-some : (some : mask_of (bits_in (record { chunk = h.chunk; bits = blocks }) chunk) ≡ 0 → ⊥) → stored ≡ (has-storage some).0 + 1
  stored-some some = cond-false (nat_eq (mask_of (bits_in (record { chunk = h.chunk; bits = blocks }) chunk)) 0) 0 (storage_number (slice_get table.chunks chunk)) (ne_eqb (mask_of (bits_in (record { chunk = h.chunk; bits = blocks }) chunk)) 0 some) ∙ (has-storage some).2

  stored-fits : stored ≤ h.storage
  stored-fits = elim (cases_eq (mask_of (bits_in (record { chunk = h.chunk; bits = blocks }) chunk)) 0) [
    | inl none ↦ omega (arith, stored-none none)
    | inr some ↦ omega (arith, stored-some some, (has-storage some).1)
  ]

  stored-empty : stored ≡ 0 → mask_of (bits_in (record { chunk = h.chunk; bits = blocks }) chunk) ≡ 0
  stored-empty e = elim (cases_eq (mask_of (bits_in (record { chunk = h.chunk; bits = blocks }) chunk)) 0) [
    | inl none ↦ none
    | inr some ↦ absurd (omega (arith, stored-some some, e))
  ]

  pub entry-grammar : IsEntry (shape_of h) chunk (map_entry h table blocks chunk)
  unfolding map_entry
  entry-grammar = record {
    storage = stored-fits;
    kind = refl;
    mask = mask-small;
    blocks = mask-blocks;
    empty = (stored-none, stored-empty);
  }

-- ---- chunks in rising order

range-rising : (from n : ℕ) → IsStrictlyIncreasing (range_with_len from n)
range-rising from n k h =
    let inside : k + 1 < n = omega (arith, length-range_with_len from n) in
    omega (arith, get_or-range_with_len from n k 0 (omega arith), get_or-range_with_len from n (k + 1) 0 inside)

pub chunks-rising : (b : Blocks) (from : ℕ) → IsStrictlyIncreasing (chunks_from b from)
chunks-rising b from = IsStrictlyIncreasing-filter (has_any b) (range_with_len from (chunk_count b - from)) (range-rising from (chunk_count b - from))

pub take-rising : (n : ℕ) (xs : List ℕ) → IsStrictlyIncreasing xs → IsStrictlyIncreasing (take n xs)
take-rising n xs rising k h =
    let less : k + 1 < n = omega (arith, length-take n xs) in
    let here : k + 1 < length xs = omega (arith, length-take n xs) in
    let a : get_or (take n xs) k 0 ≡ get_or xs k 0 = get_or-take n xs k 0 (omega arith) in
    let c : get_or (take n xs) (k + 1) 0 ≡ get_or xs (k + 1) 0 = get_or-take n xs (k + 1) 0 less in
    omega (arith, a, c, rising k here)

pub chunks-inside : (b : Blocks) (from : ℕ) → All (λ c. c < chunk_count b) (chunks_from b from)
chunks-inside b from =
    All-filter (has_any b) (λ c. c < chunk_count b) (range_with_len from (chunk_count b - from))
    (All-from_get_or (λ c. c < chunk_count b) (range_with_len from (chunk_count b - from)) 0
    (λ i h.
    let inside : i < chunk_count b - from = omega (arith, length-range_with_len from (chunk_count b - from)) in
    omega (arith, get_or-range_with_len from (chunk_count b - from) i 0 inside)))

pub same-chunks : (h : Header) (table : TableState) (blocks : List Bool) (cs : List ℕ) → map (λ (fact : Fact2). fact.chunk) (map (fact_of h table blocks) cs) ≡ cs
same-chunks h table blocks [] = refl
same-chunks h table blocks (c ∷ cs) = ap (λ (ns : List ℕ). c ∷ ns) (same-chunks h table blocks cs)

-- the facts of the next record
pub facts-grammar : (h : Header) (stale snapshot : Blocks) (table : TableState) (from : ℕ) → HasFittingSizes h stale snapshot table → IsValid h → HasEach h stale.bits snapshot.bits table → 0 < length (chunks_from snapshot from)
    → AreFacts (shape_of h) (map (fact_of h table (union_of stale.bits snapshot.bits)) (take 24 (chunks_from snapshot from)))
facts-grammar h stale snapshot table from source valid each some =
    let fact = fact_of h table (union_of stale.bits snapshot.bits) in
    let cs : List ℕ = take 24 (chunks_from snapshot from) in
    let len : length (map fact cs) ≡ length cs = length-map cs fact in
    let cut : length cs ≡ min 24 (length (chunks_from snapshot from)) = length-take 24 (chunks_from snapshot from) in
    let count : chunk_count snapshot ≡ chunks_of h = count-is h snapshot source.snapshot_chunk source.snapshot_size in
    let size : length (union_of stale.bits snapshot.bits) ≡ blocks_of h = length-either stale.bits snapshot.bits (source.stale_size ∙ sym source.snapshot_size) ∙ source.stale_size in
    let inside : All (λ c. c < chunk_count snapshot) cs = All-take (λ c. c < chunk_count snapshot) 24 (chunks_from snapshot from) (chunks-inside snapshot from) in
    record {
      some_fact = omega (arith, len, cut);
      most = omega (arith, len, cut);
      rising = subst IsStrictlyIncreasing (sym (same-chunks h table (union_of stale.bits snapshot.bits) cs)) (take-rising 24 (chunks_from snapshot from) (chunks-rising snapshot from));
      chunks = All-map (λ (fact : Fact2). fact.chunk < chunks_of h) fact cs (subst (λ (n : ℕ). All (λ c. c < n) cs) count inside);
      entries =
          All-map (λ (fact : Fact2). IsEntry (shape_of h) fact.chunk fact.entry) fact cs
          (All-from_get_or (λ c. IsEntry (shape_of h) c (map_entry h table (union_of stale.bits snapshot.bits) c)) cs 0
          (λ i here. entry-grammar h table (union_of stale.bits snapshot.bits) (get_or cs i 0) valid size (each (get_or cs i 0))));
    }
