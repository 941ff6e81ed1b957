-- What a set of blocks keeps.
use Rattle.std.proofs.Common.{◌≡◌, inl, inr, ℕ, ◌+◌, ◌-◌, ◌*◌, ◌/◌, ◌%◌, ◌^◌, ◌<◌, ◌≤◌, nat_eq, Bool, true, false, List, [], length, get_or, set, replicate, Option, Some, None, sym, refl, ap, ◌∙◌, arith, length-set, get_or-set_same, get_or-set_other}
use Rattle.std.specs.Prelude.{IfSome}
use Rattle.std.specs.Int.{bit_at}
use Rattle.std.proofs.Math.Nat.{mul-le-mul_left}
use Rattle.std.proofs.lemmas.Bool.{cases_lt, true_from_ne_false, or_parts, eqb-false}
use Rattle.std.proofs.lemmas.List.{length-replicate}
use Rattle.std.proofs.lemmas.List.FromFn.{length-map-range_with_len}
use Rattle.std.proofs.lemmas.Nat.{pow_pos}
use Rattle.std.proofs.lemmas.Nat.Bits.{same_from_bits_below, bit_at-lt, bit_at-zero}
use Rattle.vd_bits.specs.Blocks.{Blocks, bits_in}
use Rattle.vd_bits.specs.Marks.{IsLowest, NoneFrom}
use Rattle.vd_keeper.specs.declared.sets.BlockSet.TheInside.{Inside}
use Rattle.vd_keeper.specs.SetFields.{IsIndexed}
use Rattle.vd_keeper.specs.Sets.{HasMore, IsNextChunk, chunk_count, has_any, marks_of, chunks_from}
use Rattle.vd_keeper.proofs.Chunked.{length-bits_in}
use Rattle.vd_keeper.proofs.NextChunks.{marks-none, marks-more, inside-chunk, block-place, block-chunk, block-within, none-of-chunk, some-of-chunk, next-found, none-found, found-none}

below-two : (n : ℕ) → n < 2 → (n ≡ 1 → ⊥) → n ≡ 0
below-two n h ne = elim (cases_lt n 1) [ inl none ↦ omega arith | inr some ↦ absurd (ne (omega arith)) ]

-- a new set has no chunk
pub new-marks : (blocks chunk : ℕ) → replicate ((blocks + chunk - 1) / chunk) false ≡ marks_of (record { chunk = chunk; bits = replicate blocks false })
new-marks blocks chunk =
    let b : Blocks = record { chunk = chunk; bits = replicate blocks false } in
    let same : replicate (length b.bits) false ≡ b.bits = ap (λ (n : ℕ). replicate n false) (length-replicate blocks false) in
    let count : chunk_count b ≡ (blocks + chunk - 1) / chunk = ap (λ (n : ℕ). (n + chunk - 1) / chunk) (length-replicate blocks false) in
    ap (λ (n : ℕ). replicate n false) (sym count) ∙ sym (marks-none b) ∙ ap (λ (bits : List Bool). marks_of (record { chunk = chunk; bits = bits })) same

-- a block is added
module _ (s : Inside) (block : ℕ) (kept : IsIndexed s) (inside : block < length s.blocks.bits) where
  some : 0 < s.blocks.chunk
  some = omega (arith, kept.some, kept.chunk)

  pub added-chunk : block / s.chunk < length s.chunks
  added-chunk = rw (kept.chunks, length-map-range_with_len, kept.chunk) (block-chunk s.blocks block some inside)

  pub added-indexed : IsIndexed (record { blocks = record { chunk = s.blocks.chunk; bits = set s.blocks.bits block true }; chunk = s.chunk; chunks = set s.chunks (block / s.chunk) true })
  added-indexed = record {
    chunk = kept.chunk;
    some = kept.some;
    few = rw length-set kept.few;
    chunks =
        let place = block-place s.blocks block some inside in
        let within = block-within s.blocks block some inside in
        let new : Blocks = record { chunk = s.blocks.chunk; bits = set s.blocks.bits block true } in
        let less : block % s.blocks.chunk < s.blocks.chunk = omega arith in
        rw (kept.chunks, kept.chunk) (sym (marks-more new s.blocks (block / s.blocks.chunk) refl (length-set s.blocks.bits block true) (block-chunk s.blocks block some inside)
        (some-of-chunk new (block / s.blocks.chunk) (block % s.blocks.chunk) less (ap (λ (i : ℕ). get_or (set s.blocks.bits block true) i false) place ∙ get_or-set_same s.blocks.bits block true false inside))
        (λ i outside. get_or-set_other s.blocks.bits block i true false (λ (e : i ≡ block). elim outside [ inl below ↦ omega (arith, below) | inr above ↦ omega (arith, above) ]))));
  }

-- some blocks of a chunk are added
module _ (s : Inside) (new : Blocks) (chunk m : ℕ) (kept : IsIndexed s) (more : HasMore s.blocks new chunk m) (inside : chunk * s.blocks.chunk < length s.blocks.bits) (fits : m < 2 ^ length (bits_in s.blocks chunk)) (one : 0 < m) where
  bits-none : has_any new chunk ≡ false → (j : ℕ) → j < length (bits_in s.blocks chunk) → bit_at m j ≡ bit_at 0 j
  bits-none none j h =
      let less : j < new.chunk = omega (arith, length-bits_in s.blocks chunk, more.chunk_is) in
      let gone : get_or new.bits (chunk * new.chunk + j) false ≡ false = none-of-chunk new chunk j none less in
      let here : get_or new.bits (chunk * s.blocks.chunk + j) false ≡ false = ap (λ (c : ℕ). get_or new.bits (chunk * c + j) false) (sym more.chunk_is) ∙ gone in
      let off = or_parts (get_or s.blocks.bits (chunk * s.blocks.chunk + j) false) (nat_eq (bit_at m j) 1) (sym (more.added j h) ∙ here) in
      let not_one = eqb-false (bit_at m j) 1 off.1 in
      let zero_bit : bit_at m j ≡ 0 = below-two (bit_at m j) (bit_at-lt m j) not_one in
      zero_bit ∙ sym (bit_at-zero j)

  masked-has : has_any new chunk ≡ true
  masked-has =
      true_from_ne_false (has_any new chunk)
      (λ none. let zero_mask : m ≡ 0 = same_from_bits_below (length (bits_in s.blocks chunk)) m 0 fits (pow_pos (length (bits_in s.blocks chunk))) (bits-none none) in omega (arith, zero_mask))

  pub masked-chunk : chunk < length s.chunks
  masked-chunk = rw (kept.chunks, length-map-range_with_len) (inside-chunk s.blocks chunk (omega (arith, kept.some, kept.chunk)) inside)

  pub masked-indexed : IsIndexed (record { blocks = new; chunk = s.chunk; chunks = set s.chunks chunk true })
  masked-indexed = record {
    chunk = kept.chunk ∙ sym more.chunk_is;
    some = kept.some;
    few = rw more.size kept.few;
    chunks = rw kept.chunks (sym (marks-more new s.blocks chunk more.chunk_is more.size (inside-chunk s.blocks chunk (omega (arith, kept.some, kept.chunk)) inside) masked-has more.others));
  }

-- what a search finds
pub next-of : (s : Inside) (from : ℕ) (found : Option ℕ) → IsIndexed s → IfSome found (IsLowest s.chunks from) → IfSome found (IsNextChunk s.blocks from)
next-of s from None kept lowest = lowest
next-of s from (Some at) kept lowest = next-found s.blocks from at (omega (arith, kept.some, kept.chunk)) (rw kept.chunks at lowest)

pub none-of : (s : Inside) (from : ℕ) → IsIndexed s → NoneFrom s.chunks from → chunks_from s.blocks from ≡ []
none-of s from kept none = none-found s.blocks from (rw kept.chunks at none)

pub of-none : (s : Inside) (from : ℕ) → IsIndexed s → chunks_from s.blocks from ≡ [] → NoneFrom s.chunks from
of-none s from kept none = rw kept.chunks (found-none s.blocks from none)

pub few-next : (s : Inside) (from : ℕ) (found : Option ℕ) → IsIndexed s → IfSome found (IsNextChunk s.blocks from) → IfSome found (λ (chunk : ℕ). chunk < 2 ^ 32)
few-next s from None kept next = next
few-next s from (Some at) kept next =
    let m : at * 1 ≤ at * s.blocks.chunk = mul-le-mul_left at (omega (arith, kept.some, kept.chunk)) in
    omega (arith, m, next.inside, kept.few)
