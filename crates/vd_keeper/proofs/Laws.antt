-- What the moves of a keeper mean block by block, and what it writes, for the crates above.
use Rattle.std.proofs.Common.{◌≡◌, ◌⊎◌, ⊎_elim, inl, inr, ℕ, ◌+◌, ◌-◌, ◌*◌, ◌/◌, ◌<◌, ◌≤◌, Bool, true, false, not, List, length, map, take, drop, get_or, Some, sym, refl, ap, ◌∙◌, arith, subst, length-take, length-drop, get_or-drop}
use Rattle.std.specs.Prelude.{◌↔◌, min}
use Rattle.std.specs.List.{slice_get, All}
use Rattle.std.specs.List.Sorted.{IsStrictlyIncreasing}
use Rattle.std.proofs.lemmas.Bool.{cases_lt, and_from, not_from_false, false≢true}
use Rattle.std.proofs.lemmas.List.{length-map, get_or_past}
use Rattle.std.proofs.lemmas.List.Elements.{All-map, All-take, All-drop, All-from_get_or}
use Rattle.vd_bits.specs.Blocks.{Blocks}
use Rattle.vd_format.specs.declared.header.Header.{Header}
use Rattle.vd_format.specs.declared.journal.Fact2.{Fact2}
use Rattle.vd_format.specs.Headers.{IsValid}
use Rattle.vd_format.specs.Layouts.{blocks_of, chunks_of}
use Rattle.vd_format.specs.Entries.{IsEntry}
use Rattle.vd_format.specs.Records.{AreFacts}
use Rattle.vd_table.specs.Tables.{TableState, Has}
use Rattle.vd_keeper.specs.declared.stage.Stage.{Stage}
use Rattle.vd_keeper.specs.declared.stage.Stage.TheVariants.{Rest, DataFlush, Puts, Syncs, Seals, Broken}
use Rattle.vd_keeper.specs.Putting.{IsFull, IsSameImage}
use Rattle.vd_format.proofs.Rules.{chunk_within}
use Rattle.vd_keeper.proofs.NextChunks.{none-from-blocks, inside-chunk}
use Rattle.vd_keeper.specs.declared.stage.Put as put
use Rattle.vd_keeper.specs.declared.stage.Route as route
use Rattle.vd_keeper.specs.Keeping.{KeeperState}
use Rattle.vd_keeper.specs.Entries.{map_entry, fact_of, has_block, chunks_with, next_chunks, next_facts, wanted_blocks, HasStorage}
use Rattle.vd_keeper.specs.Flushes.{IsKeeping}
use Rattle.vd_keeper.specs.Moves.{difference_of, after_seal, after_break, after_call, IsNextPut, Next_record, Next_page, Next_header}
use Rattle.vd_keeper.specs.Sets.{chunks_from, chunk_count}
use Rattle.vd_keeper.proofs.Rows.{get_or-without, length-either}
use Rattle.vd_keeper.proofs.Owed.{is-true, there, either-left, either-right, either-cases, without-parts}
use Rattle.vd_keeper.proofs.Flushed.{chunks-with}
use Rattle.vd_keeper.proofs.Grammar.{shape_of, entry-grammar, chunks-rising, chunks-inside, take-rising, same-chunks}

-- ---- block by block

-- after a seal a block is stale where it was, or where the flush logged it
pub sealed-stale : (k : KeeperState) (b : ℕ) → (slice_get (after_seal k).stale b ≡ Some true) ↔ ((slice_get k.stale b ≡ Some true) ⊎ (slice_get k.snapshot b ≡ Some true))
sealed-stale k b = (either-cases k.stale k.snapshot b, λ is. elim is [ inl was ↦ either-left k.stale k.snapshot b was | inr logged ↦ either-right k.stale k.snapshot b logged ])

-- and owed where it was, unless the flush logged it
pub sealed-owed : (k : KeeperState) (b : ℕ) → (slice_get (after_seal k).owed b ≡ Some true) ↔ ((slice_get k.owed b ≡ Some true) × (get_or k.snapshot b false ≡ false))
sealed-owed k b = (
  without-parts k.owed k.snapshot b,
  λ is. there (difference_of k.owed k.snapshot) b (get_or-without k.owed k.snapshot b ∙ and_from (get_or k.owed b false) (not (get_or k.snapshot b false)) (is-true k.owed b is.0) (not_from_false (get_or k.snapshot b false) is.1)),
)

-- after a failure all is owed and stale that was
pub broken-owed : (k : KeeperState) → (after_break k).owed ≡ k.owed
broken-owed k = refl

pub broken-stale : (k : KeeperState) → (after_break k).stale ≡ k.stale
broken-stale k = refl

-- ---- puts

-- a put leaves everything but the cursor, the marks, the header's sureness and how far the flush has come
pub record IsPut (k after : KeeperState) : Type 0 where
  pub header : after.header ≡ k.header
  pub stage : after.stage ≡ k.stage
  pub way : after.way ≡ k.way
  pub stale : after.stale ≡ k.stale
  pub owed : after.owed ≡ k.owed
  pub snapshot : after.snapshot ≡ k.snapshot

pub puts-leave : (table : TableState) (k after : KeeperState) (p : put.Put) → IsNextPut table k p after → IsPut k after
puts-leave table k after p (Next_record sector way bytes) = record { header = refl; stage = refl; way = refl; stale = refl; owed = refl; snapshot = refl }
puts-leave table k after p (Next_page page sector way lowest bytes) = record { header = refl; stage = refl; way = refl; stale = refl; owed = refl; snapshot = refl }
puts-leave table k after p (Next_header sector way none bytes) = record { header = refl; stage = refl; way = refl; stale = refl; owed = refl; snapshot = refl }

-- ---- what is written is in the grammar

drop-rising : (n : ℕ) (xs : List ℕ) → IsStrictlyIncreasing xs → IsStrictlyIncreasing (drop n xs)
drop-rising n xs rising k h =
    let here : n + k + 1 < length xs = omega (arith, length-drop n xs) in
    let a : get_or (drop n xs) k 0 ≡ get_or xs (n + k) 0 = get_or-drop n xs k 0 in
    let e : n + (k + 1) ≡ n + k + 1 = omega arith in
    let c : get_or (drop n xs) (k + 1) 0 ≡ get_or xs (n + k + 1) 0 = get_or-drop n xs (k + 1) 0 ∙ ap (λ (i : ℕ). get_or xs i 0) e in
    omega (arith, a, c, rising (n + k) here)

-- each entry that a flush writes, of a chunk or of a page
pub wanted-grammar : (table : TableState) (k : KeeperState) (chunk : ℕ) → IsKeeping k → HasStorage table k → IsEntry (shape_of k.header) chunk (map_entry k.header table (wanted_blocks k) chunk)
wanted-grammar table k chunk kept storage =
    entry-grammar k.header table (wanted_blocks k) chunk kept.valid (length-either k.stale k.snapshot (kept.stale_size ∙ sym kept.snapshot_size) ∙ kept.stale_size) (storage.each chunk)

-- the chunks of the next record rise, and there are such chunks
pub next-rising : (k : KeeperState) → IsKeeping k → IsStrictlyIncreasing (next_chunks k)
next-rising k kept =
    let b : Blocks = record { chunk = k.header.chunk; bits = k.snapshot } in
    take-rising 24 (drop k.logged (chunks_with k.header k.snapshot)) (drop-rising k.logged (chunks_with k.header k.snapshot) (subst IsStrictlyIncreasing (chunks-with k.header b refl kept.snapshot_size) (chunks-rising b 0)))

pub next-inside : (k : KeeperState) → IsKeeping k → All (λ c. c < chunks_of k.header) (next_chunks k)
next-inside k kept =
    let b : Blocks = record { chunk = k.header.chunk; bits = k.snapshot } in
    let count : chunk_count b ≡ chunks_of k.header = ap (λ (n : ℕ). (n + k.header.chunk - 1) / k.header.chunk) kept.snapshot_size in
    All-take (λ c. c < chunks_of k.header) 24 (drop k.logged (chunks_with k.header k.snapshot))
    (All-drop (λ c. c < chunks_of k.header) k.logged (chunks_with k.header k.snapshot)
    (subst (λ (cs : List ℕ). All (λ c. c < chunks_of k.header) cs) (chunks-with k.header b refl kept.snapshot_size) (subst (λ (n : ℕ). All (λ c. c < n) (chunks_from b 0)) count (chunks-inside b 0))))

pub next-facts-grammar : (table : TableState) (k : KeeperState) → IsKeeping k → HasStorage table k → k.logged < length (chunks_with k.header k.snapshot) → AreFacts (shape_of k.header) (next_facts table k)
next-facts-grammar table k kept storage due =
    let fact = fact_of k.header table (wanted_blocks k) in
    let len : length (map fact (next_chunks k)) ≡ length (next_chunks k) = length-map (next_chunks k) fact in
    let cut : length (next_chunks k) ≡ min 24 (length (drop k.logged (chunks_with k.header k.snapshot))) = length-take 24 (drop k.logged (chunks_with k.header k.snapshot)) in
    let left : length (drop k.logged (chunks_with k.header k.snapshot)) ≡ length (chunks_with k.header k.snapshot) - k.logged = length-drop k.logged (chunks_with k.header k.snapshot) in
    record {
      some_fact = omega (arith, len, cut, left);
      most = omega (arith, len, cut);
      rising = subst IsStrictlyIncreasing (sym (same-chunks k.header table (wanted_blocks k) (next_chunks k))) (next-rising k kept);
      chunks = All-map (λ (fact : Fact2). fact.chunk < chunks_of k.header) fact (next_chunks k) (next-inside k kept);
      entries =
          All-map (λ (fact : Fact2). IsEntry (shape_of k.header) fact.chunk fact.entry) fact (next_chunks k)
          (All-from_get_or (λ c. IsEntry (shape_of k.header) c (map_entry k.header table (wanted_blocks k) c)) (next_chunks k) 0 (λ i here. wanted-grammar table k (get_or (next_chunks k) i 0) kept storage));
    }

-- ---- headers

pub gone-header : (s : Stage) (k : KeeperState) → (after_call s k).header ≡ k.header
unfolding after_call
gone-header DataFlush k = refl
gone-header Puts k = refl
gone-header Syncs k = refl
gone-header Rest k = refl
gone-header Seals k = refl
gone-header Broken k = refl

pub settled-header : (ok : Bool) (k after : KeeperState) → (ok ≡ true → after ≡ after_call k.stage k) → (ok ≡ false → after ≡ after_break k) → after.header ≡ k.header
settled-header true k after done failed = ap (λ (x : KeeperState). x.header) (done refl) ∙ gone-header k.stage k
settled-header false k after done failed = ap (λ (x : KeeperState). x.header) (failed refl)

pub same-image : (old new : Header) → new ≡ old → IsSameImage old new
same-image old new e = record { blocks = ap blocks_of e; chunks = ap chunks_of e; storage = ap (λ (h : Header). h.storage) e }

pub image-more : (a b c : Header) → IsSameImage a b → IsSameImage b c → IsSameImage a c
image-more a b c s t = record { blocks = t.blocks ∙ s.blocks; chunks = t.chunks ∙ s.chunks; storage = t.storage ∙ s.storage }

pub still-full : (old new : Header) (table : TableState) → IsSameImage old new → IsFull old table → IsFull new table
still-full old new table same full = record {
  size = full.size ∙ sym same.chunks;
  storage = full.storage ∙ sym same.storage;
  each = λ chunk h.
      let less : chunk < chunks_of old = subst (λ (n : ℕ). chunk < n) same.chunks h in
      let found = full.each chunk less in
      (found.0, subst (λ (n : ℕ). found.0 < n) (sym same.storage) found.1, found.2);
}

-- a chunk with a block is one of the image's
pub block-inside : (h : Header) (blocks : List Bool) (chunk : ℕ) → IsValid h → length blocks ≡ blocks_of h → has_block h blocks chunk ≡ true → chunk < chunks_of h
block-inside h blocks chunk valid size has =
    let b : Blocks = record { chunk = h.chunk; bits = blocks } in
    let count : chunk_count b ≡ chunks_of h = ap (λ (n : ℕ). (n + h.chunk - 1) / h.chunk) size in
    let some : 0 < h.chunk = (let within = chunk_within h valid in omega (arith, within.0)) in
    ⊎_elim
    (λ (less : chunk < chunks_of h). less)
    (λ (past : chunks_of h ≤ chunk).
    absurd
    (false≢true
    (sym
    (none-from-blocks b chunk
    (λ j inside.
    get_or_past blocks (chunk * h.chunk + j) false
    (⊎_elim
    (λ (here : chunk * h.chunk < length blocks). (let below = inside-chunk b chunk some here in absurd (omega (arith, below, count))))
    (λ (out : length blocks ≤ chunk * h.chunk). omega arith)
    (cases_lt (chunk * h.chunk) (length blocks)))))
    ∙ has)))
    (cases_lt chunk (chunks_of h))

-- where each chunk has storage, a flush finds it
pub full-storage : (table : TableState) (k : KeeperState) → IsKeeping k → IsFull k.header table → HasStorage table k
full-storage table k kept full = record {
  size = full.size;
  storage = full.storage;
  each = λ chunk has. full.each chunk (block-inside k.header (wanted_blocks k) chunk kept.valid (length-either k.stale k.snapshot (kept.stale_size ∙ sym kept.snapshot_size) ∙ kept.stale_size) has);
}
