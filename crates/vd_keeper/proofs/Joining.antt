-- Two sets of blocks in one.
use Rattle.std.proofs.Common.{◌≡◌, ◌⊎◌, ⊎_elim, inl, inr, ℕ, ◌+◌, ◌-◌, ◌*◌, ◌/◌, ◌^◌, ◌<◌, ◌≤◌, nat_eq, Bool, true, false, not, cond, List, length, get_or, replicate, sym, refl, ap, ◌∙◌, arith, subst, bit_or, bit_and}
use Rattle.std.specs.Prelude.{◌||◌, ◌&&◌, max, min}
use Rattle.std.specs.Int.{bit_at}
use Rattle.std.specs.List.{list_any}
use Rattle.std.proofs.Math.Nat.{mul-le-mul_left, mul_comm, div-add-mod}
use Rattle.std.proofs.lemmas.Bool.{cases_lt}
use Rattle.std.proofs.lemmas.List.{length-replicate}
use Rattle.std.proofs.lemmas.Nat.Bits.{bit_at_or, bit_at-zero, same_from_bits}
use Rattle.std.proofs.lemmas.Simd.{bit_mask_l}
use Rattle.std.proofs.Math.Bool.{or-false}
use Rattle.vd_bits.specs.Blocks.{Blocks, bits_in}
use Rattle.vd_bits.specs.Masks.{mask_of}
use Rattle.vd_keeper.specs.declared.sets.BlockSet.TheInside.{Inside}
use Rattle.vd_keeper.specs.SetFields.{IsIndexed}
use Rattle.vd_keeper.specs.Entries.{union_of}
use Rattle.vd_keeper.specs.Moves.{difference_of}
use Rattle.vd_keeper.specs.Sets.{HasMore, Adopted, IsOutsideChunk, chunk_count, has_any, marks_of, empty_of}
use Rattle.vd_keeper.proofs.Rows.{get_or-either, get_or-without, length-either, length-without, same_rows, any-either}
use Rattle.vd_keeper.proofs.Chunked.{length-bits_in, get_or-bits_in, bit_of, bit_without, same-chunk}
use Rattle.vd_keeper.proofs.NextChunks.{length-marks_of, get_or-marks_of, marks-none, block-chunk, block-place}
use Rattle.vd_keeper.proofs.Pouring.{blocks-same}

-- the blocks of a chunk of two sets
module _ (a b : Blocks) (chunk : b.chunk ≡ a.chunk) (size : length b.bits ≡ length a.bits) where
  pub bits_in-either : (n : ℕ) → bits_in (record { chunk = a.chunk; bits = union_of a.bits b.bits }) n ≡ union_of (bits_in a n) (bits_in b n)
  bits_in-either n =
      let e : Blocks = record { chunk = a.chunk; bits = union_of a.bits b.bits } in
      let both : length (union_of a.bits b.bits) ≡ length a.bits = length-either a.bits b.bits (sym size) in
      let parts : length (bits_in a n) ≡ length (bits_in b n) = sym (same-chunk b a n chunk size) in
      same_rows (bits_in e n) (union_of (bits_in a n) (bits_in b n)) (same-chunk e a n refl both ∙ sym (length-either (bits_in a n) (bits_in b n) parts))
      (λ j h.
      let less : j < a.chunk = omega (arith, length-bits_in e n) in
      let less' : j < b.chunk = omega (arith, chunk) in
      get_or-bits_in e n j less
      ∙ get_or-either a.bits b.bits (n * a.chunk + j)
      ∙ ap (λ (x : Bool). x || get_or b.bits (n * a.chunk + j) false) (sym (get_or-bits_in a n j less))
      ∙ ap (λ (c : ℕ). get_or (bits_in a n) j false || get_or b.bits (n * c + j) false) (sym chunk)
      ∙ ap (λ (x : Bool). get_or (bits_in a n) j false || x) (sym (get_or-bits_in b n j less'))
      ∙ sym (get_or-either (bits_in a n) (bits_in b n) j))

  pub has_any-either : (n : ℕ) → has_any (record { chunk = a.chunk; bits = union_of a.bits b.bits }) n ≡ (has_any a n || has_any b n)
  has_any-either n = ap (λ (xs : List Bool). list_any (λ (x : Bool). x) xs) (bits_in-either n) ∙ any-either (bits_in a n) (bits_in b n)

  pub marks-either : marks_of (record { chunk = a.chunk; bits = union_of a.bits b.bits }) ≡ union_of (marks_of a) (marks_of b)
  marks-either =
      let e : Blocks = record { chunk = a.chunk; bits = union_of a.bits b.bits } in
      let both : length (union_of a.bits b.bits) ≡ length a.bits = length-either a.bits b.bits (sym size) in
      let counts : chunk_count e ≡ chunk_count a = ap (λ (n : ℕ). (n + a.chunk - 1) / a.chunk) both in
      let counts' : chunk_count b ≡ chunk_count a = ap (λ (n : ℕ). (n + b.chunk - 1) / b.chunk) size ∙ ap (λ (c : ℕ). (length a.bits + c - 1) / c) chunk in
      let sizes : length (marks_of a) ≡ length (marks_of b) = length-marks_of a ∙ sym counts' ∙ sym (length-marks_of b) in
      same_rows (marks_of e) (union_of (marks_of a) (marks_of b)) (length-marks_of e ∙ counts ∙ sym (length-marks_of a) ∙ sym (length-either (marks_of a) (marks_of b) sizes))
      (λ i h.
      let here : i < chunk_count a = omega (arith, length-marks_of e, counts) in
      get_or-marks_of e i (omega (arith, counts))
      ∙ has_any-either i
      ∙ ap (λ (x : Bool). x || has_any b i) (sym (get_or-marks_of a i here))
      ∙ ap (λ (x : Bool). get_or (marks_of a) i false || x) (sym (get_or-marks_of b i (omega (arith, counts'))))
      ∙ sym (get_or-either (marks_of a) (marks_of b) i))

-- the mask of both is the masks laid over one another
or-max : (x y : Bool) → cond {A = ℕ} (x || y) 1 0 ≡ max (cond {A = ℕ} x 1 0) (cond {A = ℕ} y 1 0)
or-max true true = refl
or-max true false = refl
or-max false true = refl
or-max false false = refl

pub mask-either : (xs ys : List Bool) → mask_of (union_of xs ys) ≡ bit_or (mask_of xs) (mask_of ys)
mask-either xs ys =
    same_from_bits (mask_of (union_of xs ys)) (bit_or (mask_of xs) (mask_of ys))
    (λ i.
    bit_mask_l (union_of xs ys) i
    ∙ ap (λ (x : Bool). cond {A = ℕ} x 1 0) (get_or-either xs ys i)
    ∙ or-max (get_or xs i false) (get_or ys i false)
    ∙ ap (λ (n : ℕ). max n (cond {A = ℕ} (get_or ys i false) 1 0)) (sym (bit_mask_l xs i))
    ∙ ap (λ (n : ℕ). max (bit_at (mask_of xs) i) n) (sym (bit_mask_l ys i))
    ∙ sym (bit_at_or (mask_of xs) (mask_of ys) i))

-- a set is emptied
pub emptied-indexed : (s : Inside) → IsIndexed s → IsIndexed (record { blocks = empty_of s.blocks; chunk = s.chunk; chunks = replicate (length s.chunks) false })
emptied-indexed s kept = record {
  chunk = kept.chunk;
  some = kept.some;
  few = rw length-replicate kept.few;
  chunks =
      let count : length s.chunks ≡ chunk_count s.blocks = ap (λ (xs : List Bool). length xs) kept.chunks ∙ length-marks_of s.blocks in
      ap (λ (n : ℕ). replicate n false) count ∙ sym (marks-none s.blocks);
}

-- and joined to another
pub joined-indexed : (s t : Inside) → IsIndexed s → IsIndexed t → s.blocks.chunk ≡ t.blocks.chunk → length s.blocks.bits ≡ length t.blocks.bits
    → IsIndexed (record { blocks = record { chunk = t.blocks.chunk; bits = union_of t.blocks.bits s.blocks.bits }; chunk = t.chunk; chunks = union_of t.chunks s.chunks })
joined-indexed s t of_s of_t chunk size = record {
  chunk = of_t.chunk;
  some = of_t.some;
  few = rw (length-either t.blocks.bits s.blocks.bits (sym size)) of_t.few;
  chunks = rw (of_s.chunks, of_t.chunks) (sym (marks-either t.blocks s.blocks chunk size));
}

-- ---- adopting

-- the fresh blocks of a chunk that aren't stale
module _ (owed fresh stale : Blocks) (chunk more : ℕ) (fresh_chunk : fresh.chunk ≡ owed.chunk) (stale_chunk : stale.chunk ≡ owed.chunk) (fresh_size : length fresh.bits ≡ length owed.bits) (stale_size : length stale.bits ≡ length owed.bits)
    (most : owed.chunk ≤ 64) (fits : mask_of (bits_in stale chunk) < 2 ^ 64) (is : more ≡ bit_and (mask_of (bits_in fresh chunk)) (18446744073709551615 - mask_of (bits_in stale chunk))) where
  pub bit_more : (j : ℕ) → j < length (bits_in owed chunk) → nat_eq (bit_at more j) 1 ≡ (get_or fresh.bits (chunk * owed.chunk + j) false && not (get_or stale.bits (chunk * owed.chunk + j) false))
  bit_more j h =
      let less : j < owed.chunk = omega (arith, length-bits_in owed chunk) in
      let f : get_or (bits_in fresh chunk) j false ≡ get_or fresh.bits (chunk * owed.chunk + j) false = get_or-bits_in fresh chunk j (omega (arith, fresh_chunk)) ∙ ap (λ (c : ℕ). get_or fresh.bits (chunk * c + j) false) fresh_chunk in
      let s : get_or (bits_in stale chunk) j false ≡ get_or stale.bits (chunk * owed.chunk + j) false = get_or-bits_in stale chunk j (omega (arith, stale_chunk)) ∙ ap (λ (c : ℕ). get_or stale.bits (chunk * c + j) false) stale_chunk in
      ap (λ (n : ℕ). nat_eq (bit_at n j) 1) is
      ∙ bit_without (mask_of (bits_in fresh chunk)) (mask_of (bits_in stale chunk)) j fits (omega arith)
      ∙ ap (λ (x : Bool). x && not (nat_eq (bit_at (mask_of (bits_in stale chunk)) j) 1)) (bit_of (bits_in fresh chunk) j ∙ f)
      ∙ ap (λ (x : Bool). get_or fresh.bits (chunk * owed.chunk + j) false && not x) (bit_of (bits_in stale chunk) j ∙ s)

  pub adopted-more : (new : Blocks) → HasMore owed new chunk more → Adopted owed new fresh.bits stale.bits chunk
  adopted-more new m = record {
    chunk_is = m.chunk_is;
    size = m.size;
    added = λ j h. m.added j h ∙ ap (λ (x : Bool). get_or owed.bits (chunk * owed.chunk + j) false || x) (bit_more j h);
    others = m.others;
  }

  pub adopted-none : more ≤ 0 → Adopted owed owed fresh.bits stale.bits chunk
  adopted-none none = record {
    chunk_is = refl;
    size = refl;
    added = λ j h.
        let zero_mask : more ≡ 0 = omega arith in
        let off : nat_eq (bit_at more j) 1 ≡ false = ap (λ (n : ℕ). nat_eq (bit_at n j) 1) zero_mask ∙ ap (λ (n : ℕ). nat_eq n 1) (bit_at-zero j) in
        sym (or-false (get_or owed.bits (chunk * owed.chunk + j) false)) ∙ ap (λ (x : Bool). get_or owed.bits (chunk * owed.chunk + j) false || x) (sym off ∙ bit_more j h);
    others = λ i h. refl;
  }

-- the chunks below `at` are adopted
pub record IsAdopting (old new : Blocks) (fresh stale : List Bool) (at : ℕ) : Type 0 where
  pub chunk_is : new.chunk ≡ old.chunk
  pub size : length new.bits ≡ length old.bits
  pub done : (i : ℕ) → i < at * old.chunk → i < length old.bits → get_or new.bits i false ≡ (get_or old.bits i false || (get_or fresh i false && not (get_or stale i false)))
  pub rest : (i : ℕ) → at * old.chunk ≤ i → get_or new.bits i false ≡ get_or old.bits i false

module _ (old new next : Blocks) (fresh stale : List Bool) (at : ℕ) (k : IsAdopting old new fresh stale at) (a : Adopted new next fresh stale at) where
  len : length (bits_in new at) ≡ min old.chunk (length old.bits - at * old.chunk)
  len = length-bits_in new at ∙ ap (λ (c : ℕ). min c (length new.bits - at * c)) k.chunk_is ∙ ap (λ (n : ℕ). min old.chunk (n - at * old.chunk)) k.size

  within-chunk : (i : ℕ) → at * old.chunk ≤ i → i < (at + 1) * old.chunk → i < length old.bits → get_or next.bits i false ≡ (get_or old.bits i false || (get_or fresh i false && not (get_or stale i false)))
  within-chunk i low high inside =
      let e : at * new.chunk + (i - at * old.chunk) ≡ i = ap (λ (c : ℕ). at * c + (i - at * old.chunk)) k.chunk_is ∙ omega arith in
      let here : i - at * old.chunk < length (bits_in new at) = omega (arith, len) in
      subst (λ (n : ℕ). get_or next.bits n false ≡ (get_or new.bits n false || (get_or fresh n false && not (get_or stale n false)))) e (a.added (i - at * old.chunk) here)
      ∙ ap (λ (x : Bool). x || (get_or fresh i false && not (get_or stale i false))) (k.rest i low)

  below-outside : (i : ℕ) → i < at * old.chunk → IsOutsideChunk new at i
  below-outside i h = inl (subst (λ (c : ℕ). i < at * c) (sym k.chunk_is) h)

  above-outside : (i : ℕ) → (at + 1) * old.chunk ≤ i → IsOutsideChunk new at i
  above-outside i h = inr (subst (λ (c : ℕ). at * c + length (bits_in new at) ≤ i) (sym k.chunk_is) (omega (arith, len)))

  pub adopting-one : IsAdopting old next fresh stale (at + 1)
  adopting-one = record {
    chunk_is = a.chunk_is ∙ k.chunk_is;
    size = a.size ∙ k.size;
    done = λ i h inside. ⊎_elim (λ (below : i < at * old.chunk). a.others i (below-outside i below) ∙ k.done i below inside) (λ (above : at * old.chunk ≤ i). within-chunk i above h inside) (cases_lt i (at * old.chunk));
    rest = λ i h. a.others i (above-outside i h) ∙ k.rest i (omega arith);
  }

pub adopting-all : (old new : Blocks) (fresh stale : List Bool) (at : ℕ) → 0 < old.chunk → at ≡ chunk_count old → IsAdopting old new fresh stale at → length fresh ≡ length old.bits → new ≡ record { chunk = old.chunk; bits = union_of old.bits (difference_of fresh stale) }
adopting-all old new fresh stale at some all k size =
    blocks-same new old.chunk (union_of old.bits (difference_of fresh stale)) k.chunk_is
    (let sizes : length old.bits ≡ length (difference_of fresh stale) = sym size ∙ sym (length-without fresh stale) in
    same_rows new.bits (union_of old.bits (difference_of fresh stale)) (k.size ∙ sym (length-either old.bits (difference_of fresh stale) sizes))
    (λ i h.
    let inside : i < length old.bits = omega (arith, k.size) in
    let below : old.chunk * (i / old.chunk + 1) ≤ old.chunk * at = mul-le-mul_left old.chunk (omega (arith, block-chunk old i some inside)) in
    k.done i (omega (arith, below, mul_comm at old.chunk, mul_comm (i / old.chunk) old.chunk, block-place old i some inside, div-add-mod i old.chunk)) inside
    ∙ ap (λ (x : Bool). get_or old.bits i false || x) (sym (get_or-without fresh stale i))
    ∙ sym (get_or-either old.bits (difference_of fresh stale) i)))
