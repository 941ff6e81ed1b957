-- The parts of a store lie apart.
use Rattle.std.proofs.Common.{ℕ, ◌≡◌, ◌+◌, ◌-◌, ◌*◌, ◌/◌, ◌%◌, ◌<◌, arith, ap, sym, ◌∙◌, Contains}
use Rattle.std.proofs.lemmas.Nat.{div-mul-add, mod-mul-add, div_below, mod_below, div-add-mod'}
use Rattle.std.proofs.Math.Nat.{div-div-eq-div-mul}
use Rattle.vd_format.specs.Layouts.{blocks_of, chunks_of, storage_start, store_need}
use Rattle.vd_format.specs.Headers.{block_sizes, chunk_sizes, IsValid}
use Rattle.vd_format.proofs.Places.{in-storage-chunk}
use Rattle.vd_image.specs.Image.{Header, IsApart}
use Rattle.vd_image.specs.Layouts.{layout_of, FitsInStore}
use Rattle.vd_lists.proofs.Numbers.{part_below, row_below}

-- the sectors of a chunk, and of a storage chunk
abbrev chunk_sectors : Header → ℕ
chunk_sectors h = h.block * h.chunk

same_number : (w p q r t : ℕ) → r < w → t < w → p * w + r ≡ q * w + t → p ≡ q
same_number w p q r t less also same = sym (div-mul-add p w r less) ∙ ap (λ (n : ℕ). n / w) same ∙ div-mul-add q w t also

same_rest : (w p q r t : ℕ) → r < w → t < w → p * w + r ≡ q * w + t → r ≡ t
same_rest w p q r t less also same = sym (mod-mul-add p w r less) ∙ ap (λ (n : ℕ). n % w) same ∙ mod-mul-add q w t also

same_sector : (a b s t : ℕ) → s / a / b ≡ t / a / b → s % (a * b) ≡ t % (a * b) → s ≡ t
same_sector a b s t chunk rest =
    let first = div-add-mod' s (a * b) in
    let second = div-add-mod' t (a * b) in
    let same : s / (a * b) ≡ t / (a * b) = sym (div-div-eq-div-mul s a b) ∙ chunk ∙ div-div-eq-div-mul t a b in
    let row : s / (a * b) * (a * b) ≡ t / (a * b) * (a * b) = ap (λ (n : ℕ). n * (a * b)) same in
    omega arith

map_within : (chunks c : ℕ) → c < chunks → c / 32 < (16 * chunks + 511) / 512
map_within chunks c less = omega arith

some_product : (a b : ℕ) → 0 < a → 0 < b → 0 < a * b
some_product a b some also = grind arith

product_turned : (n a b : ℕ) → n * b * a ≡ n * (a * b)
product_turned n a b = grind arith

-- the sizes of blocks and of chunks are none
some_block : (n : ℕ) → Contains block_sizes n → 0 < n
some_block n h = grind arith

some_chunk : (n : ℕ) → Contains chunk_sizes n → 0 < n
some_chunk n h = grind arith

whole_blocks : (size block : ℕ) → size % block ≡ 0 → size ≡ size / block * block
whole_blocks size block none = let whole = div-add-mod' size block in omega arith

-- the parts of a store with a valid header lie apart
pub parts_apart : (h : Header) → IsValid h → IsApart (layout_of h)
parts_apart h valid = record {
  blocks = λ s below. div_below s h.block (blocks_of h) block (let w = whole_blocks h.size h.block valid.whole_blocks in omega arith);
  chunks = λ b below. part_below (blocks_of h) h.chunk b chunk below;
  places = λ p q s t p_below q_below same.
      let r = mod_below s (chunk_sectors h) sectors in
      let u = mod_below t (chunk_sectors h) sectors in
      let e = in-storage-chunk (storage_start h) h.chunk h.block p s chunk block in
      let f = in-storage-chunk (storage_start h) h.chunk h.block q t chunk block in
      let inner : p * chunk_sectors h + s % chunk_sectors h ≡ q * chunk_sectors h + t % chunk_sectors h = omega (arith, e, f, same) in (
        same_number (chunk_sectors h) p q (s % chunk_sectors h) (t % chunk_sectors h) r u inner,
        λ chunk. same_sector h.block h.chunk s t chunk (same_rest (chunk_sectors h) p q (s % chunk_sectors h) (t % chunk_sectors h) r u inner),
      );
  place_header = λ p s below same. omega arith;
  place_map = λ p s c below c_below same. let k = map_within (chunks_of h) c c_below in omega arith;
  place_slot = λ p s k below k_below same. omega arith;
  header_map = λ c below same. omega arith;
  header_slot = λ k below same. omega arith;
  map_slot = λ c k c_below k_below same. let j = map_within (chunks_of h) c c_below in omega arith;
  slots = λ j k j_below k_below same. omega arith;
}
  where
    block : 0 < h.block
    block = some_block h.block valid.block

    chunk : 0 < h.chunk
    chunk = some_chunk h.chunk valid.chunk

    sectors : 0 < chunk_sectors h
    sectors = some_product h.block h.chunk block chunk

-- and inside a store of as many sectors as it needs
pub parts_inside : (h : Header) → IsValid h → FitsInStore (layout_of h) (store_need h)
parts_inside h valid = record {
  header = omega arith;
  map = λ c below. let k = map_within (chunks_of h) c below in omega arith;
  slots = λ k below. omega arith;
  places = λ p s below. let r = mod_below s (chunk_sectors h) sectors in let e = in-storage-chunk (storage_start h) h.chunk h.block p s chunk block in let less = place_below p h.storage (s % chunk_sectors h) below r in omega (arith, e, less);
}
  where
    block : 0 < h.block
    block = some_block h.block valid.block

    chunk : 0 < h.chunk
    chunk = some_chunk h.chunk valid.chunk

    sectors : 0 < chunk_sectors h
    sectors = some_product h.block h.chunk block chunk

    place_below : (p n r : ℕ) → p < n → r < chunk_sectors h → storage_start h + (p * chunk_sectors h + r) < storage_start h + n * h.chunk * h.block
    place_below p n r below less = let inner = row_below p n r (chunk_sectors h) below less in let turned : n * h.chunk * h.block ≡ n * (h.block * h.chunk) = product_turned n h.block h.chunk in omega arith
