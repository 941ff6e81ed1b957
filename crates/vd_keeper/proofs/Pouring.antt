-- Moving the blocks of a set, chunk by chunk.
use Rattle.std.proofs.Common.{◌≡◌, ◌⊎◌, ⊎_elim, inl, inr, ℕ, ◌+◌, ◌-◌, ◌*◌, ◌/◌, ◌%◌, ◌^◌, ◌<◌, ◌≤◌, nat_eq, Bool, true, false, List, length, get_or, replicate, Some, sym, refl, ap, ◌∙◌, arith, subst}
use Rattle.std.specs.Prelude.{◌||◌, min}
use Rattle.std.specs.Int.{bit_at}
use Rattle.std.specs.List.{slice_get}
use Rattle.std.proofs.Math.Nat.{mul-le-mul_left, mul_comm}
use Rattle.std.proofs.lemmas.Bool.{cases_lt}
use Rattle.std.proofs.lemmas.List.{get_or_past}
use Rattle.std.proofs.lemmas.Option.{get_or_from_slice_get, slice_get_within}
use Rattle.std.proofs.Math.Bool.{or-false}
use Rattle.std.proofs.lemmas.Nat.{div_below, le-div}
use Rattle.vd_bits.specs.Blocks.{Blocks, bits_in}
use Rattle.vd_bits.specs.Masks.{mask_of}
use Rattle.vd_bits.specs.Marks.{IsLowest, NoneFrom}
use Rattle.vd_keeper.specs.Entries.{union_of}
use Rattle.vd_keeper.specs.Sets.{HasMore, LacksChunk, IsOutsideChunk, chunk_count, has_any, marks_of, empty_of}
use Rattle.vd_keeper.proofs.Rows.{get_or-either, length-either, same_rows, is-nothing}
use Rattle.vd_keeper.proofs.Chunked.{length-bits_in, get_or-bits_in, bit_of, same-chunk}
use Rattle.vd_keeper.proofs.NextChunks.{length-marks_of, get_or-marks_of, chunk-inside, block-place, block-chunk, none-of-chunk}

pub blocks-same : (b : Blocks) (chunk : ℕ) (bits : List Bool) → b.chunk ≡ chunk → b.bits ≡ bits → b ≡ record { chunk = chunk; bits = bits }
blocks-same b chunk bits e f = ap (λ (c : ℕ). record { chunk = c; bits = b.bits }) e ∙ ap (λ (xs : List Bool). record { chunk = chunk; bits = xs }) f

-- the chunks below `at` are moved
pub record IsPouring (from0 into0 from into : Blocks) (at : ℕ) : Type 0 where
  pub from_chunk : from.chunk ≡ from0.chunk
  pub into_chunk : into.chunk ≡ into0.chunk
  pub from_size : length from.bits ≡ length from0.bits
  pub into_size : length into.bits ≡ length into0.bits
  pub both : (i : ℕ) → (get_or into.bits i false || get_or from.bits i false) ≡ (get_or into0.bits i false || get_or from0.bits i false)
  pub done : (i : ℕ) → i < at * from0.chunk → get_or from.bits i false ≡ false
  pub rest : (i : ℕ) → at * from0.chunk ≤ i → get_or from.bits i false ≡ get_or from0.bits i false

-- a place is of a chunk, or outside
place-of : (b : Blocks) (n i : ℕ) → IsOutsideChunk b n i ⊎ ((j : ℕ) × (j < length (bits_in b n)) × (n * b.chunk + j ≡ i))
place-of b n i =
    ⊎_elim (λ (below : i < n * b.chunk). inl (inl below))
    (λ (from : n * b.chunk ≤ i).
    ⊎_elim
    (λ (less : i < n * b.chunk + length (bits_in b n)). inr (i - n * b.chunk, omega arith, omega arith))
    (λ (past : n * b.chunk + length (bits_in b n) ≤ i). inl (inr past))
    (cases_lt i (n * b.chunk + length (bits_in b n))))
    (cases_lt i (n * b.chunk))

-- an unmarked chunk has no block
pub unmarked-place : (b : Blocks) (i : ℕ) → 0 < b.chunk → i < length b.bits → slice_get (marks_of b) (i / b.chunk) ≡ Some false → get_or b.bits i false ≡ false
unmarked-place b i some inside is =
    let none : has_any b (i / b.chunk) ≡ false = sym (get_or-marks_of b (i / b.chunk) (block-chunk b i some inside)) ∙ get_or_from_slice_get (marks_of b) (i / b.chunk) false false is in
    ap (λ (n : ℕ). get_or b.bits n false) (sym (block-place b i some inside)) ∙ none-of-chunk b (i / b.chunk) (i % b.chunk) none (omega arith)

-- places from `at` on below the lowest marked chunk have nothing
between : (b : Blocks) (at chunk i : ℕ) → 0 < b.chunk → IsLowest (marks_of b) at chunk → at * b.chunk ≤ i → i < chunk * b.chunk → i < length b.bits → get_or b.bits i false ≡ false
between b at chunk i some lowest low high inside =
    unmarked-place b i some inside (lowest.below (i / b.chunk) (le-div at i b.chunk some low) (div_below i b.chunk chunk some high))

-- one chunk is moved
module _ (from0 into0 from into from' into' : Blocks) (at chunk : ℕ) (k : IsPouring from0 into0 from into at) (size : length into0.bits ≡ length from0.bits) (same : into0.chunk ≡ from0.chunk) (some : 0 < from0.chunk)
    (lowest : IsLowest (marks_of from0) at chunk) (more : HasMore into into' chunk (mask_of (bits_in from chunk))) (none : LacksChunk from from' chunk) where
  moved-inside : (j : ℕ) → j < length (bits_in from chunk) → (get_or into'.bits (chunk * from.chunk + j) false || get_or from'.bits (chunk * from.chunk + j) false) ≡ (get_or into.bits (chunk * from.chunk + j) false || get_or from.bits (chunk * from.chunk + j) false)
  moved-inside j h =
      let chunks : into.chunk ≡ from.chunk = k.into_chunk ∙ same ∙ sym k.from_chunk in
      let lengths : length into.bits ≡ length from.bits = k.into_size ∙ size ∙ sym k.from_size in
      let inside : j < length (bits_in into chunk) = omega (arith, same-chunk into from chunk chunks lengths) in
      let gone = none.gone j h in
      let less : j < from.chunk = omega (arith, length-bits_in from chunk) in
      let laid : get_or into'.bits (chunk * from.chunk + j) false ≡ (get_or into.bits (chunk * from.chunk + j) false || nat_eq (bit_at (mask_of (bits_in from chunk)) j) 1) =
      subst (λ (c : ℕ). get_or into'.bits (chunk * c + j) false ≡ (get_or into.bits (chunk * c + j) false || nat_eq (bit_at (mask_of (bits_in from chunk)) j) 1)) chunks (more.added j inside)
      in
      rw gone (or-false (get_or into'.bits (chunk * from.chunk + j) false)) ∙ laid ∙ ap (λ (x : Bool). get_or into.bits (chunk * from.chunk + j) false || x) (bit_of (bits_in from chunk) j ∙ get_or-bits_in from chunk j less)

  outside-into : (i : ℕ) → IsOutsideChunk from chunk i → IsOutsideChunk into chunk i
  outside-into i h =
      let chunks : into.chunk ≡ from.chunk = k.into_chunk ∙ same ∙ sym k.from_chunk in
      let lengths : length into.bits ≡ length from.bits = k.into_size ∙ size ∙ sym k.from_size in
      let parts = same-chunk into from chunk chunks lengths in
      elim h [ inl below ↦ inl (rw chunks below) | inr above ↦ inr (rw (parts, chunks) above) ]

  moved-both : (i : ℕ) → (get_or into'.bits i false || get_or from'.bits i false) ≡ (get_or into.bits i false || get_or from.bits i false)
  moved-both i = elim (place-of from chunk i) [
    | inl outside ↦ rw (more.others i (outside-into i outside), none.others i outside) refl
    | inr here ↦ subst (λ (n : ℕ). (get_or into'.bits n false || get_or from'.bits n false) ≡ (get_or into.bits n false || get_or from.bits n false)) here.2 (moved-inside here.0 here.1)
  ]

  in-chunk : (i : ℕ) → i < (chunk + 1) * from0.chunk → chunk * from0.chunk ≤ i → i < length from0.bits → IsOutsideChunk from chunk i → ⊥
  in-chunk i h above inside outside =
      let len : length (bits_in from chunk) ≡ min from0.chunk (length from0.bits - chunk * from0.chunk) = rw (sym k.from_chunk, sym k.from_size) (length-bits_in from chunk) in
      elim outside [ inl below ↦ (let below' : i < chunk * from0.chunk = rw (sym k.from_chunk) below in omega arith) | inr past ↦ (let past' : chunk * from0.chunk + length (bits_in from chunk) ≤ i = rw (sym k.from_chunk) past in omega (arith, len)) ]

  moved-done : (i : ℕ) → i < (chunk + 1) * from0.chunk → get_or from'.bits i false ≡ false
  moved-done i h = elim (place-of from chunk i) [
    | inr here ↦ subst (λ (n : ℕ). get_or from'.bits n false ≡ false) here.2 (none.gone here.0 here.1)
    | inl outside ↦ none.others i outside
        ∙ ⊎_elim (λ (before : i < at * from0.chunk). k.done i before)
        (λ (after : at * from0.chunk ≤ i).
        k.rest i after
        ∙ ⊎_elim (λ (inside : i < length from0.bits).
        ⊎_elim (λ (below : i < chunk * from0.chunk). between from0 at chunk i some lowest after below inside)
        (λ (above : chunk * from0.chunk ≤ i). absurd (in-chunk i h above inside outside))
        (cases_lt i (chunk * from0.chunk)))
        (λ (past : length from0.bits ≤ i). get_or_past from0.bits i false past)
        (cases_lt i (length from0.bits)))
        (cases_lt i (at * from0.chunk))
  ]

  pub poured-one : IsPouring from0 into0 from' into' (chunk + 1)
  poured-one = record {
    from_chunk = none.chunk_is ∙ k.from_chunk;
    into_chunk = more.chunk_is ∙ k.into_chunk;
    from_size = none.size ∙ k.from_size;
    into_size = more.size ∙ k.into_size;
    both = λ i. moved-both i ∙ k.both i;
    done = moved-done;
    rest = λ i h.
        let reached : at ≤ chunk = lowest.reached in
        let m : from0.chunk * at ≤ from0.chunk * chunk = mul-le-mul_left from0.chunk reached in
        let past : (chunk + 1) * from.chunk ≤ i = rw k.from_chunk h in
        let outside : IsOutsideChunk from chunk i = inr (omega (arith, length-bits_in from chunk, past)) in
        none.others i outside ∙ k.rest i (omega (arith, m, mul_comm at from0.chunk, mul_comm chunk from0.chunk));
  }

-- all chunks are moved
module _ (from0 into0 from into : Blocks) (at : ℕ) (k : IsPouring from0 into0 from into at) (size : length into0.bits ≡ length from0.bits) (some : 0 < from0.chunk) (none : NoneFrom (marks_of from0) at) where
  all-gone : (i : ℕ) → get_or from.bits i false ≡ false
  all-gone i =
      ⊎_elim (λ (before : i < at * from0.chunk). k.done i before)
      (λ (after : at * from0.chunk ≤ i).
      k.rest i after
      ∙ ⊎_elim
      (λ (inside : i < length from0.bits). unmarked-place from0 i some inside (none (i / from0.chunk) (le-div at i from0.chunk some after) (omega (arith, length-marks_of from0, block-chunk from0 i some inside))))
      (λ (past : length from0.bits ≤ i). get_or_past from0.bits i false past)
      (cases_lt i (length from0.bits)))
      (cases_lt i (at * from0.chunk))

  pub poured-empty : from ≡ empty_of from0
  poured-empty =
      let bits : from.bits ≡ replicate (length from0.bits) false = is-nothing from.bits (length from0.bits) k.from_size (λ i h. all-gone i) in
      blocks-same from from0.chunk (replicate (length from0.bits) false) k.from_chunk bits

  pub poured-into : into ≡ record { chunk = into0.chunk; bits = union_of into0.bits from0.bits }
  poured-into =
      let bits : into.bits ≡ union_of into0.bits from0.bits =
      same_rows into.bits (union_of into0.bits from0.bits) (k.into_size ∙ sym (length-either into0.bits from0.bits size))
      (λ i h. sym (or-false (get_or into.bits i false)) ∙ ap (λ (x : Bool). get_or into.bits i false || x) (sym (all-gone i)) ∙ k.both i ∙ sym (get_or-either into0.bits from0.bits i))
      in
      blocks-same into into0.chunk (union_of into0.bits from0.bits) k.into_chunk bits

-- the numbers of a chunk that is found fit
module _ (from0 into0 from into : Blocks) (at chunk : ℕ) (k : IsPouring from0 into0 from into at) (some : 0 < from0.chunk) (lowest : IsLowest (marks_of from0) at chunk) where
  found-below : chunk < chunk_count from0
  found-below = omega (arith, slice_get_within (marks_of from0) chunk true lowest.is_marked, length-marks_of from0)

  pub found-inside : chunk * from.chunk < length from.bits
  found-inside = rw (k.from_chunk, k.from_size) (chunk-inside from0 chunk some found-below)

  pub found-small : length from0.bits < 2 ^ 32 → chunk + 1 < 2 ^ 32
  found-small few =
      let inside = chunk-inside from0 chunk some found-below in
      let m : chunk * 1 ≤ chunk * from0.chunk = mul-le-mul_left chunk (omega arith) in
      omega (arith, inside, m, few)
