-- Which chunks a flush logs, and which sectors of the map are marked where it begins.
use Rattle.std.proofs.Common.{◌≡◌, inl, inr, ℕ, zero, suc, ◌+◌, ◌*◌, ◌/◌, ◌%◌, ◌<◌, nat_eq, Bool, true, false, cond, List, [], ◌∷◌, length, get_or, sym, refl, ap, ◌∙◌, arith, subst}
use Rattle.std.specs.Prelude.{filter}
use Rattle.std.specs.List.{Contains, range_with_len}
use Rattle.std.proofs.lemmas.Bool.{cases_Bool, eq-eqb, or_left, or_right}
use Rattle.std.proofs.lemmas.Nat.{mod_below}
use Rattle.std.proofs.lemmas.List.Folds.{list_any_at}
use Rattle.std.proofs.lemmas.List.FromFn.{length-range_with_len, get_or-range_with_len}
use Rattle.vd_bits.specs.Blocks.{Blocks}
use Rattle.vd_format.specs.declared.header.Header.{Header}
use Rattle.vd_format.specs.Headers.{IsValid}
use Rattle.vd_format.specs.Layouts.{blocks_of, chunks_of}
use Rattle.vd_format.proofs.Rules.{chunk_within}
use Rattle.vd_keeper.specs.Keeping.{pages_of}
use Rattle.vd_keeper.specs.Entries.{chunks_with, has_block}
use Rattle.vd_keeper.specs.Moves.{marked_with, pages_with}
use Rattle.vd_keeper.proofs.Rows.{within, get_or-either}
use Rattle.vd_keeper.proofs.NextChunks.{block-place, block-chunk, some-of-chunk}
use Rattle.vd_keeper.proofs.Flushed.{count-is}
use Rattle.vd_keeper.proofs.PageMarks.{get_or-pages_with}
use Rattle.vd_safety.specs.Mirrors.{bit_of}

-- what passes a test stays
pub filter-has : (p : ℕ → Bool) (xs : List ℕ) (x : ℕ) → Contains xs x → p x ≡ true → Contains (filter p xs) x
filter-has p [] x (i, inside, is) passes = absurd (omega (arith, inside))
filter-has p (y ∷ ys) x (zero, inside, is) passes =
    let e : p y ≡ true = ap p is ∙ passes in
    subst (λ (b : Bool). Contains (cond b (y ∷ filter p ys) (filter p ys)) x) (sym e) (0, omega arith, is)
filter-has p (y ∷ ys) x (suc i, inside, is) passes =
    let rest = filter-has p ys x (i, omega (arith, inside), is) passes in
    elim (cases_Bool (p y)) [
      | inl e ↦ subst (λ (b : Bool). Contains (cond b (y ∷ filter p ys) (filter p ys)) x) (sym e) (suc rest.0, omega (arith, rest.1), rest.2)
      | inr e ↦ subst (λ (b : Bool). Contains (cond b (y ∷ filter p ys) (filter p ys)) x) (sym e) rest
    ]

module _ (h : Header) (valid : IsValid h) (bits : List Bool) (size : length bits ≡ blocks_of h) (b : ℕ) (is : bit_of bits b ≡ true) where
  abbrev set : Blocks
  set = record { chunk = h.chunk; bits = bits }

  some-chunk : 0 < h.chunk
  some-chunk = omega (arith, (chunk_within h valid).0)

  -- the chunk of a block is one
  pub chunk-inside : b / h.chunk < chunks_of h
  chunk-inside = (let k = block-chunk set b some-chunk (within bits b is) in omega (arith, k, count-is h set refl size))

  -- and it is among those that have a block
  pub chunk-among : Contains (chunks_with h bits) (b / h.chunk)
  unfolding chunks_with
  chunk-among =
      let inside = chunk-inside in
      let place : b / h.chunk * h.chunk + b % h.chunk ≡ b = block-place set b some-chunk (within bits b is) in
      let has : has_block h bits (b / h.chunk) ≡ true = some-of-chunk set (b / h.chunk) (b % h.chunk) (mod_below b h.chunk some-chunk) (ap (λ (n : ℕ). get_or bits n false) place ∙ is) in
      filter-has (has_block h bits) (range_with_len 0 (chunks_of h)) (b / h.chunk) (b / h.chunk, omega (arith, length-range_with_len 0 (chunks_of h), inside), omega (arith, get_or-range_with_len 0 (chunks_of h) (b / h.chunk) (b / h.chunk) inside)) has

-- the sector of the map of a chunk that is logged is marked
pub page-among : (h : Header) (marked : List Bool) (chunks : List ℕ) (c : ℕ) → Contains chunks c → c < chunks_of h → bit_of (marked_with h marked chunks) (c / 32) ≡ true
page-among h marked chunks c found inside =
    let few : c / 32 < pages_of h = page-few (chunks_of h) c inside in
    let same : nat_eq (get_or chunks found.0 c / 32) (c / 32) ≡ true = eq-eqb (get_or chunks found.0 c / 32) (c / 32) (ap (λ (n : ℕ). n / 32) found.2) in
    get_or-either marked (pages_with (pages_of h) chunks) (c / 32)
    ∙ or_right (bit_of marked (c / 32)) (bit_of (pages_with (pages_of h) chunks) (c / 32)) (get_or-pages_with (pages_of h) chunks (c / 32) few ∙ list_any_at (λ d. nat_eq (d / 32) (c / 32)) chunks found.0 c found.1 same)
  where
    page-few : (n c : ℕ) → c < n → c / 32 < (n + 31) / 32
    page-few n c less = omega arith

-- and what was marked is
pub still-marked : (h : Header) (marked : List Bool) (chunks : List ℕ) (page : ℕ) → bit_of marked page ≡ true → bit_of (marked_with h marked chunks) page ≡ true
still-marked h marked chunks page is = get_or-either marked (pages_with (pages_of h) chunks) page ∙ or_left (bit_of marked page) (bit_of (pages_with (pages_of h) chunks) page) is
