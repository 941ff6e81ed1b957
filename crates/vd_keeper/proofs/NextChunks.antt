-- The chunks that have a block of a set, one after another.
use Rattle.std.proofs.Common.{◌≡◌, ◌≢◌, ◌⊎◌, ⊎_elim, inl, inr, ℕ, zero, suc, ◌+◌, ◌-◌, ◌*◌, ◌/◌, ◌%◌, ◌<◌, ◌≤◌, Bool, true, false, cond, List, [], ◌∷◌, length, map, get_or, set, replicate, Some, sym, refl, ap, ◌∙◌, arith, length-set, get_or-set_same, get_or-set_other}
use Rattle.std.specs.Prelude.{filter}
use Rattle.std.specs.List.{slice_get, list_any, range_with_len}
use Rattle.std.proofs.Math.Nat.{mul-le-mul_left, div-add-mod, mul_comm}
use Rattle.std.proofs.lemmas.Bool.{cases_lt, cases_eq, false_from_ne_true, false≢true, or_from, cond-true, cond-false}
use Rattle.std.proofs.lemmas.List.{get_or_past, length-replicate}
use Rattle.std.proofs.lemmas.List.Folds.{list_any_at}
use Rattle.std.proofs.lemmas.List.FromFn.{length-map-range_with_len, get_or-map-range_with_len}
use Rattle.std.proofs.lemmas.List.Sums.{sum_by-cons}
use Rattle.std.proofs.lemmas.Option.{slice_get-get_or, get_or_from_slice_get, slice_get_within}
use Rattle.vd_bits.specs.Blocks.{Blocks, bits_in}
use Rattle.vd_bits.specs.Marks.{IsLowest, NoneFrom, count_true}
use Rattle.vd_bits.proofs.SetLaws.{count-le-length}
use Rattle.vd_keeper.specs.Sets.{IsOutsideChunk, IsNextChunk, chunk_count, has_any, marks_of, chunks_from, empty_of}
use Rattle.vd_keeper.proofs.Rows.{within, same_rows, get_or-nothing}
use Rattle.vd_keeper.proofs.Chunked.{length-bits_in, get_or-bits_in}

-- a chunk below the number of chunks has a block, and no other does
pub chunk-inside : (b : Blocks) (n : ℕ) → 0 < b.chunk → n < chunk_count b → n * b.chunk < length b.bits
chunk-inside b n some h =
    let q = div-add-mod (length b.bits + b.chunk - 1) b.chunk in
    let m : b.chunk * (n + 1) ≤ b.chunk * chunk_count b = mul-le-mul_left b.chunk (omega arith) in
    omega (arith, q, m, mul_comm n b.chunk)

pub inside-chunk : (b : Blocks) (n : ℕ) → 0 < b.chunk → n * b.chunk < length b.bits → n < chunk_count b
inside-chunk b n some h =
    ⊎_elim
    (λ (less : n < chunk_count b). less)
    (λ (more : chunk_count b ≤ n).
    (let q = div-add-mod (length b.bits + b.chunk - 1) b.chunk in
    let m : b.chunk * chunk_count b ≤ b.chunk * n = mul-le-mul_left b.chunk more in
    absurd (omega (arith, q, m, mul_comm n b.chunk))))
    (cases_lt n (chunk_count b))

-- the chunk of a block, and its place there
module _ (b : Blocks) (i : ℕ) (some : 0 < b.chunk) (inside : i < length b.bits) where
  pub block-place : i / b.chunk * b.chunk + i % b.chunk ≡ i
  block-place = omega (arith, div-add-mod i b.chunk, mul_comm (i / b.chunk) b.chunk)

  pub block-chunk : i / b.chunk < chunk_count b
  block-chunk = inside-chunk b (i / b.chunk) some (omega (arith, block-place))

  pub block-within : i % b.chunk < length (bits_in b (i / b.chunk))
  block-within =
      let less : i % b.chunk < b.chunk = omega arith in
      omega (arith, block-place, length-bits_in b (i / b.chunk))

pub length-marks_of : (b : Blocks) → length (marks_of b) ≡ chunk_count b
length-marks_of b = length-map-range_with_len (has_any b) 0 (chunk_count b)

pub get_or-marks_of : (b : Blocks) (n : ℕ) → n < chunk_count b → get_or (marks_of b) n false ≡ has_any b n
get_or-marks_of b n h = get_or-map-range_with_len (has_any b) 0 (chunk_count b) n n false h (omega arith)

pub any-none : (xs : List Bool) → list_any (λ (x : Bool). x) xs ≡ false → (i : ℕ) → get_or xs i false ≡ false
any-none xs none i =
    false_from_ne_true (get_or xs i false) (λ (is : get_or xs i false ≡ true). false≢true (sym none ∙ list_any_at (λ (x : Bool). x) xs i false (within xs i is) is))

-- a chunk without a block
pub none-of-chunk : (b : Blocks) (n j : ℕ) → has_any b n ≡ false → j < b.chunk → get_or b.bits (n * b.chunk + j) false ≡ false
none-of-chunk b n j none h = sym (get_or-bits_in b n j h) ∙ any-none (bits_in b n) none j

pub some-of-chunk : (b : Blocks) (n j : ℕ) → j < b.chunk → get_or b.bits (n * b.chunk + j) false ≡ true → has_any b n ≡ true
some-of-chunk b n j h is =
    let is' : get_or (bits_in b n) j false ≡ true = get_or-bits_in b n j h ∙ is in
    list_any_at (λ (x : Bool). x) (bits_in b n) j false (within (bits_in b n) j is') is'

-- a chunk has what it had where its blocks are the same
pub same-bits_in : (a b : Blocks) (n : ℕ) → a.chunk ≡ b.chunk → length a.bits ≡ length b.bits → ((j : ℕ) → j < b.chunk → get_or a.bits (n * b.chunk + j) false ≡ get_or b.bits (n * b.chunk + j) false) → bits_in a n ≡ bits_in b n
same-bits_in a b n chunk size same =
    same_rows (bits_in a n) (bits_in b n) (length-bits_in a n ∙ rw (chunk, size) (sym (length-bits_in b n)))
    (λ j h.
    let less : j < a.chunk = omega (arith, length-bits_in a n) in
    get_or-bits_in a n j less ∙ ap (λ (c : ℕ). get_or a.bits (n * c + j) false) chunk ∙ same j (omega (arith, chunk)) ∙ sym (get_or-bits_in b n j (omega (arith, chunk))))

apart-chunks : (n m c j : ℕ) → n ≢ m → j < c → (n * c + j < m * c) ⊎ (m * c + c ≤ n * c + j)
apart-chunks n m c j ne h =
    ⊎_elim
    (λ (less : n < m). (let k : c * (n + 1) ≤ c * m = mul-le-mul_left c (omega arith) in inl (omega (arith, k, mul_comm n c, mul_comm m c))))
    (λ (more : m ≤ n).
    (let above : m + 1 ≤ n = omega arith in
    let k : c * (m + 1) ≤ c * n = mul-le-mul_left c above in
    inr (omega (arith, k, mul_comm n c, mul_comm m c))))
    (cases_lt n m)

pub other-chunk : (a b : Blocks) (m n : ℕ) → a.chunk ≡ b.chunk → length a.bits ≡ length b.bits → ((i : ℕ) → IsOutsideChunk b m i → get_or a.bits i false ≡ get_or b.bits i false) → n ≢ m → bits_in a n ≡ bits_in b n
other-chunk a b m n chunk size others ne =
    same-bits_in a b n chunk size
    (λ j h. others (n * b.chunk + j) (elim (apart-chunks n m b.chunk j ne h) [ inl below ↦ inl below | inr above ↦ inr (omega (arith, length-bits_in b m, above)) ]))

-- one chunk has a block now, and the others have what they had
pub marks-more : (a b : Blocks) (m : ℕ) → a.chunk ≡ b.chunk → length a.bits ≡ length b.bits → m < chunk_count b → has_any a m ≡ true → ((i : ℕ) → IsOutsideChunk b m i → get_or a.bits i false ≡ get_or b.bits i false)
    → marks_of a ≡ set (marks_of b) m true
marks-more a b m chunk size inside has others =
    let count : chunk_count a ≡ chunk_count b = rw (chunk, size) refl in
    same_rows (marks_of a) (set (marks_of b) m true) (length-marks_of a ∙ count ∙ sym (length-marks_of b) ∙ sym (length-set (marks_of b) m true))
    (λ i h.
    let here : i < chunk_count a = omega (arith, length-marks_of a) in
    get_or-marks_of a i here
    ∙ ⊎_elim
    (λ (e : i ≡ m). rw e (has ∙ sym (get_or-set_same (marks_of b) m true false (omega (arith, length-marks_of b)))))
    (λ (ne : i ≡ m → ⊥).
    (ap (λ (xs : List Bool). list_any (λ (x : Bool). x) xs) (other-chunk a b m i chunk size others ne) ∙ sym (get_or-marks_of b i (omega (arith, count))))
    ∙ sym (get_or-set_other (marks_of b) m i true false ne))
    (cases_eq i m))

pub all-none : (xs : List Bool) → ((i : ℕ) → get_or xs i false ≡ false) → list_any (λ (x : Bool). x) xs ≡ false
all-none [] none = refl
all-none (x ∷ xs) none = or_from x (list_any (λ (x : Bool). x) xs) (none 0) (all-none xs (λ i. none (suc i)))

-- a chunk whose blocks are all gone
pub none-from-blocks : (b : Blocks) (n : ℕ) → ((j : ℕ) → j < b.chunk → get_or b.bits (n * b.chunk + j) false ≡ false) → has_any b n ≡ false
none-from-blocks b n none =
    all-none (bits_in b n)
    (λ i. ⊎_elim (λ (h : i < b.chunk). get_or-bits_in b n i h ∙ none i h) (λ (h : b.chunk ≤ i). get_or_past (bits_in b n) i false (omega (arith, length-bits_in b n))) (cases_lt i b.chunk))

pub marks-none : (b : Blocks) → marks_of (empty_of b) ≡ replicate (chunk_count b) false
marks-none b =
    let count : chunk_count (empty_of b) ≡ chunk_count b = ap (λ (n : ℕ). (n + b.chunk - 1) / b.chunk) (length-replicate (length b.bits) false) in
    same_rows (marks_of (empty_of b)) (replicate (chunk_count b) false) (length-marks_of (empty_of b) ∙ count ∙ sym (length-replicate (chunk_count b) false))
    (λ i h.
    get_or-marks_of (empty_of b) i (omega (arith, length-marks_of (empty_of b)))
    ∙ none-from-blocks (empty_of b) i (λ j less. get_or-nothing (length b.bits) (i * b.chunk + j))
    ∙ sym (get_or-nothing (chunk_count b) i))

-- ---- one after another

pub step-chunk : (b : Blocks) (from : ℕ) → from < chunk_count b → chunks_from b from ≡ cond (has_any b from) (from ∷ chunks_from b (from + 1)) (chunks_from b (from + 1))
step-chunk b from h =
    let e : chunk_count b - from ≡ suc (chunk_count b - (from + 1)) = omega arith in
    ap (λ (k : ℕ). filter (has_any b) (range_with_len from k)) e

pub past-chunks : (b : Blocks) (from : ℕ) → chunk_count b ≤ from → chunks_from b from ≡ []
past-chunks b from h =
    let e : chunk_count b - from ≡ 0 = omega arith in
    ap (λ (k : ℕ). filter (has_any b) (range_with_len from k)) e

pub step-none : (b : Blocks) (from : ℕ) → from < chunk_count b → has_any b from ≡ false → chunks_from b from ≡ chunks_from b (from + 1)
step-none b from h none = step-chunk b from h ∙ cond-false (has_any b from) (from ∷ chunks_from b (from + 1)) (chunks_from b (from + 1)) none

pub step-some : (b : Blocks) (from : ℕ) → from < chunk_count b → has_any b from ≡ true → chunks_from b from ≡ from ∷ chunks_from b (from + 1)
step-some b from h some = step-chunk b from h ∙ cond-true (has_any b from) (from ∷ chunks_from b (from + 1)) (chunks_from b (from + 1)) some

pub skip-chunks : (b : Blocks) (k from : ℕ) → from + k ≤ chunk_count b → ((i : ℕ) → from ≤ i → i < from + k → has_any b i ≡ false) → chunks_from b from ≡ chunks_from b (from + k)
skip-chunks b zero from h none = let e : from ≡ from + 0 = omega arith in ap (λ (n : ℕ). chunks_from b n) e
skip-chunks b (suc k) from h none =
    let e : from + 1 + k ≡ from + suc k = omega arith in
    step-none b from (omega arith) (none from (omega arith) (omega arith))
    ∙ skip-chunks b k (from + 1) (omega arith) (λ i low high. none i (omega arith) (omega arith))
    ∙ ap (λ (n : ℕ). chunks_from b n) e

unmarked : (b : Blocks) (i : ℕ) → i < chunk_count b → slice_get (marks_of b) i ≡ Some false → has_any b i ≡ false
unmarked b i h is = sym (get_or-marks_of b i h) ∙ get_or_from_slice_get (marks_of b) i false false is

-- the lowest mark is the next chunk
pub next-found : (b : Blocks) (from at : ℕ) → 0 < b.chunk → IsLowest (marks_of b) from at → IsNextChunk b from at
next-found b from at some lowest =
    let inside : at < chunk_count b = omega (arith, slice_get_within (marks_of b) at true lowest.is_marked, length-marks_of b) in
    let reached : from ≤ at = lowest.reached in
    let e : from + (at - from) ≡ at = omega arith in
    let has : has_any b at ≡ true = sym (get_or-marks_of b at inside) ∙ get_or_from_slice_get (marks_of b) at true false lowest.is_marked in
    record {
      from_on = lowest.reached;
      inside = chunk-inside b at some inside;
      below = inside;
      rest = skip-chunks b (at - from) from (omega arith) (λ i low high. unmarked b i (omega arith) (lowest.below i low (omega arith))) ∙ ap (λ (n : ℕ). chunks_from b n) e ∙ step-some b at inside has;
    }

-- no mark, no chunk
pub none-found : (b : Blocks) (from : ℕ) → NoneFrom (marks_of b) from → chunks_from b from ≡ []
none-found b from none =
    ⊎_elim
    (λ (less : from < chunk_count b).
    (let e : from + (chunk_count b - from) ≡ chunk_count b = omega arith in
    skip-chunks b (chunk_count b - from) from (omega arith) (λ i low high. unmarked b i (omega arith) (none i low (omega (arith, length-marks_of b))))
    ∙ past-chunks b (from + (chunk_count b - from)) (omega arith)))
    (λ (past : chunk_count b ≤ from). past-chunks b from past)
    (cases_lt from (chunk_count b))

no-cons : (n : ℕ) (ns : List ℕ) → n ∷ ns ≡ [] → ⊥
no-cons n ns e = absurd cc

none-walk : (b : Blocks) (k from : ℕ) → chunks_from b from ≡ [] → from + k < chunk_count b → has_any b (from + k) ≡ false
none-walk b zero from none h =
    let e : from ≡ from + 0 = omega arith in
    ap (has_any b) (sym e) ∙ false_from_ne_true (has_any b from) (λ (has : has_any b from ≡ true). no-cons from (chunks_from b (from + 1)) (sym (step-some b from (omega arith) has) ∙ none))
none-walk b (suc k) from none h =
    let e : from + 1 + k ≡ from + suc k = omega arith in
    let here : has_any b from ≡ false = false_from_ne_true (has_any b from) (λ (has : has_any b from ≡ true). no-cons from (chunks_from b (from + 1)) (sym (step-some b from (omega arith) has) ∙ none)) in
    ap (has_any b) (sym e) ∙ none-walk b k (from + 1) (sym (step-none b from (omega arith) here) ∙ none) (omega arith)

-- no chunk, no mark
pub found-none : (b : Blocks) (from : ℕ) → chunks_from b from ≡ [] → NoneFrom (marks_of b) from
found-none b from none i low high =
    let inside : i < chunk_count b = omega (arith, length-marks_of b) in
    let e : from + (i - from) ≡ i = omega arith in
    let not_here : has_any b (from + (i - from)) ≡ false = none-walk b (i - from) from none (omega arith) in
    slice_get-get_or (marks_of b) i false high ∙ ap (λ (x : Bool). Some x) (get_or-marks_of b i inside ∙ ap (has_any b) (sym e) ∙ not_here)

one-counted : (t : Bool) (x : ℕ) (ms : List Bool) (ys : List ℕ) → count_true ms ≡ length ys → count_true (t ∷ ms) ≡ length (cond t (x ∷ ys) ys)
one-counted true x ms ys e = sum_by-cons (λ (b : Bool). cond {A = ℕ} b 1 0) true ms ∙ omega (arith, e)
one-counted false x ms ys e = sum_by-cons (λ (b : Bool). cond {A = ℕ} b 1 0) false ms ∙ omega (arith, e)

count-filtered : (p : ℕ → Bool) (xs : List ℕ) → count_true (map p xs) ≡ length (filter p xs)
count-filtered p [] = refl
count-filtered p (x ∷ xs) = one-counted (p x) x (map p xs) (filter p xs) (count-filtered p xs)

-- the marks are counted
pub count-marks_of : (b : Blocks) → count_true (marks_of b) ≡ length (chunks_from b 0)
count-marks_of b =
    let e : chunk_count b ≡ chunk_count b - 0 = omega arith in
    count-filtered (has_any b) (range_with_len 0 (chunk_count b)) ∙ ap (λ (k : ℕ). length (filter (has_any b) (range_with_len 0 k))) e

pub count-below : (b : Blocks) → 0 < b.chunk → chunk_count b ≤ length b.bits
count-below b some =
    ⊎_elim
    (λ (more : length b.bits < chunk_count b).
    (let inside = chunk-inside b (length b.bits) some more in
    let m : length b.bits * 1 ≤ length b.bits * b.chunk = mul-le-mul_left (length b.bits) (omega arith) in
    absurd (omega (arith, inside, m))))
    (λ (less : chunk_count b ≤ length b.bits). less)
    (cases_lt (length b.bits) (chunk_count b))

pub chunks-below : (b : Blocks) → 0 < b.chunk → length (chunks_from b 0) ≤ length b.bits
chunks-below b some = omega (arith, count-below b some, count-marks_of b, count-le-length (marks_of b), length-marks_of b)
