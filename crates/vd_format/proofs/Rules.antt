-- The rules of a header's fields and their tests say the same.
use Rattle.std.proofs.Common.{◌≡◌, ℕ, zero, suc, ◌+◌, ◌-◌, ◌%◌, ◌^◌, ◌<◌, ◌≤◌, ◌⊎◌, Bool, true, List, [], ◌∷◌, None, refl, arith, inl, inr}
use Rattle.std.specs.List.{list_all}
use Rattle.std.specs.Prelude.{Contains, ◌&&◌, ◌==◌, nat_le, nat_lt}
use Rattle.std.proofs.Math.Nat.{div-le_self}
use Rattle.std.proofs.lemmas.Bool.{cond_both, eqb-true, eq-eqb, leb-true, le-leb, ltb-true, lt-ltb, and_parts, and_from, or_cases, or_left, or_right}
use Rattle.vd_lists.proofs.Options.{test_passed}
use Rattle.vd_format.specs.declared.header.Header.{Header}
use Rattle.vd_format.specs.Layouts.{blocks_of, chunks_of}
use Rattle.vd_format.specs.Headers.{IsValid, block_sizes, chunk_sizes, most_slots, most_sectors, is_among, is_version, is_block, is_chunk, is_size, is_storage, is_slots, is_tracked, is_generation, judged_fields, first_wrong}

pub Contains-among : (sizes : List ℕ) (n : ℕ) → is_among sizes n ≡ true → Contains sizes n
Contains-among [] n told = absurd cc
Contains-among (size ∷ sizes) n told =
    elim (or_cases (size == n) (is_among sizes n) told) [
      | inl here ↦ (0, omega arith, eqb-true size n here)
      | inr later ↦ (let found = Contains-among sizes n later in (suc found.0, omega (arith, found.1), found.2))
    ]

pub among-Contains : (sizes : List ℕ) (n : ℕ) → Contains sizes n → is_among sizes n ≡ true
among-Contains [] n (k, inside, at) = absurd (omega arith)
among-Contains (size ∷ sizes) n (zero, inside, at) = or_left (size == n) (is_among sizes n) (eq-eqb size n at)
among-Contains (size ∷ sizes) n (suc k, inside, at) = or_right (size == n) (is_among sizes n) (among-Contains sizes n (k, omega arith, at))

-- what stands in a list of sizes is between the bounds of all of them
Contains-within : (sizes : List ℕ) (n low high : ℕ) → list_all (λ size. nat_le low size && nat_le size high) sizes ≡ true → Contains sizes n → (low ≤ n) × (n ≤ high)
Contains-within [] n low high told (k, inside, at) = absurd (omega arith)
Contains-within (size ∷ sizes) n low high told (zero, inside, at) =
    let both = and_parts (nat_le low size && nat_le size high) (list_all (λ size. nat_le low size && nat_le size high) sizes) told in
    let here = and_parts (nat_le low size) (nat_le size high) both.0 in
    rw (← at) (leb-true low size here.0, leb-true size high here.1)
Contains-within (size ∷ sizes) n low high told (suc k, inside, at) =
    let both = and_parts (nat_le low size && nat_le size high) (list_all (λ size. nat_le low size && nat_le size high) sizes) told in
    Contains-within sizes n low high both.1 (k, omega arith, at)

pub block_within : (h : Header) → IsValid h → (8 ≤ h.block) × (h.block ≤ 128)
block_within h valid = Contains-within block_sizes h.block 8 128 refl valid.block

pub chunk_within : (h : Header) → IsValid h → (1 ≤ h.chunk) × (h.chunk ≤ 64)
chunk_within h valid = Contains-within chunk_sizes h.chunk 1 64 refl valid.chunk

-- every test of the table passes
pub record AllPass (h : Header) (zeros : Bool) : Type 0 where
  pub block : is_block h.block ≡ true
  pub chunk : is_chunk h.chunk ≡ true
  pub size : is_size h ≡ true
  pub storage : is_storage h ≡ true
  pub slots : is_slots h.slots ≡ true
  pub tracked : is_tracked h ≡ true
  pub generation : is_generation h.generation ≡ true
  pub zeros_are : zeros ≡ true

pub none_wrong : (h : Header) (zeros : Bool) → first_wrong (judged_fields h zeros) ≡ None → AllPass h zeros
unfolding judged_fields
none_wrong h zeros none =
    let block = test_passed (is_block h.block) 1 (first_wrong ((2, is_chunk h.chunk) ∷ (3, is_size h) ∷ (4, is_storage h) ∷ (5, is_slots h.slots) ∷ (6, is_tracked h) ∷ (7, is_generation h.generation) ∷ (8, zeros) ∷ [])) none in
    let chunk = test_passed (is_chunk h.chunk) 2 (first_wrong ((3, is_size h) ∷ (4, is_storage h) ∷ (5, is_slots h.slots) ∷ (6, is_tracked h) ∷ (7, is_generation h.generation) ∷ (8, zeros) ∷ [])) block.1 in
    let size = test_passed (is_size h) 3 (first_wrong ((4, is_storage h) ∷ (5, is_slots h.slots) ∷ (6, is_tracked h) ∷ (7, is_generation h.generation) ∷ (8, zeros) ∷ [])) chunk.1 in
    let storage = test_passed (is_storage h) 4 (first_wrong ((5, is_slots h.slots) ∷ (6, is_tracked h) ∷ (7, is_generation h.generation) ∷ (8, zeros) ∷ [])) size.1 in
    let slots = test_passed (is_slots h.slots) 5 (first_wrong ((6, is_tracked h) ∷ (7, is_generation h.generation) ∷ (8, zeros) ∷ [])) storage.1 in
    let tracked = test_passed (is_tracked h) 6 (first_wrong ((7, is_generation h.generation) ∷ (8, zeros) ∷ [])) slots.1 in
    let generation = test_passed (is_generation h.generation) 7 (first_wrong ((8, zeros) ∷ [])) tracked.1 in
    let last = test_passed zeros 8 None generation.1 in
    record { block = block.0; chunk = chunk.0; size = size.0; storage = storage.0; slots = slots.0; tracked = tracked.0; generation = generation.0; zeros_are = last.0 }

pub wrong_none : (h : Header) (zeros : Bool) → AllPass h zeros → first_wrong (judged_fields h zeros) ≡ None
unfolding judged_fields
wrong_none h zeros all = rw (all.block, all.chunk, all.size, all.storage, all.slots, all.tracked, all.generation, all.zeros_are) refl

pub version_known : (version : ℕ) → is_version version ≡ true → (version ≡ 1) ⊎ (version ≡ 2)
unfolding is_version
version_known version told =
    elim (or_cases (version == 1) (version == 2) told) [
      | inl one ↦ inl (eqb-true version 1 one)
      | inr two ↦ inr (eqb-true version 2 two)
    ]

pub known_version : (version : ℕ) → (version ≡ 1) ⊎ (version ≡ 2) → is_version version ≡ true
unfolding is_version
known_version version (inl one) = or_left (version == 1) (version == 2) (eq-eqb version 1 one)
known_version version (inr two) = or_right (version == 1) (version == 2) (eq-eqb version 2 two)

-- what passes the tests is valid
pub valid_from : (h : Header) (zeros : Bool) → is_version h.version ≡ true → AllPass h zeros → IsValid h
unfolding is_block is_chunk is_size is_storage is_slots is_tracked is_generation
valid_from h zeros version all =
    let size = and_parts ((h.size % h.block == 0) && nat_le h.block h.size) (nat_le h.size (most_sectors h.version)) all.size in
    let whole = and_parts (h.size % h.block == 0) (nat_le h.block h.size) size.0 in
    let storage = and_parts (nat_le 1 h.storage) (nat_le h.storage (chunks_of h)) all.storage in
    let slots = and_parts (nat_le 1 h.slots) (nat_le h.slots most_slots) all.slots in
    let generation = and_parts (nat_le 1 h.generation) (nat_lt h.generation (2 ^ 63)) all.generation in
    record {
      version = version_known h.version version;
      block = Contains-among block_sizes h.block all.block;
      chunk = Contains-among chunk_sizes h.chunk all.chunk;
      whole_blocks = eqb-true (h.size % h.block) 0 whole.0;
      some_block = leb-true h.block h.size whole.1;
      size = leb-true h.size (most_sectors h.version) size.1;
      some_storage = leb-true 1 h.storage storage.0;
      storage = leb-true h.storage (chunks_of h) storage.1;
      some_slot = leb-true 1 h.slots slots.0;
      slots = leb-true h.slots most_slots slots.1;
      tracked = leb-true h.tracked h.size all.tracked;
      some_generation = leb-true 1 h.generation generation.0;
      generation = ltb-true h.generation (2 ^ 63) generation.1;
    }

pub passes_from : (h : Header) → IsValid h → AllPass h true
unfolding is_block is_chunk is_size is_storage is_slots is_tracked is_generation
passes_from h valid =
    record {
      block = among-Contains block_sizes h.block valid.block;
      chunk = among-Contains chunk_sizes h.chunk valid.chunk;
      size = and_from ((h.size % h.block == 0) && nat_le h.block h.size) (nat_le h.size (most_sectors h.version))
          (and_from (h.size % h.block == 0) (nat_le h.block h.size) (eq-eqb (h.size % h.block) 0 valid.whole_blocks) (le-leb h.block h.size valid.some_block)) (le-leb h.size (most_sectors h.version) valid.size);
      storage = and_from (nat_le 1 h.storage) (nat_le h.storage (chunks_of h)) (le-leb 1 h.storage valid.some_storage) (le-leb h.storage (chunks_of h) valid.storage);
      slots = and_from (nat_le 1 h.slots) (nat_le h.slots most_slots) (le-leb 1 h.slots valid.some_slot) (le-leb h.slots most_slots valid.slots);
      tracked = le-leb h.tracked h.size valid.tracked;
      generation = and_from (nat_le 1 h.generation) (nat_lt h.generation (2 ^ 63)) (le-leb 1 h.generation valid.some_generation) (lt-ltb h.generation (2 ^ 63) valid.generation);
      zeros_are = refl;
    }

most_sectors-le : (version : ℕ) → most_sectors version ≤ 67108864
most_sectors-le version = cond_both (version == 1) 16777216 67108864 (λ (most : ℕ). most ≤ 67108864) (λ _. omega arith) (λ _. omega arith)

pub size_within : (h : Header) → IsValid h → h.size ≤ 67108864
size_within h valid = omega (arith, most_sectors-le h.version, valid.size)

pub storage_within : (h : Header) → IsValid h → h.storage < 2 ^ 27
storage_within h valid =
    let chunks = div-le_self (blocks_of h + h.chunk - 1) h.chunk in
    let blocks = div-le_self h.size h.block in
    omega (arith, chunks, blocks, (chunk_within h valid).1, size_within h valid, valid.storage)
