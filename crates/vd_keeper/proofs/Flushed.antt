-- What beginning a flush, and its stages, make of what a keeper keeps.
use Rattle.std.proofs.Common.{◌≡◌, ◌≢◌, inl, inr, ℕ, ◌+◌, ◌-◌, ◌/◌, ◌^◌, ◌<◌, ◌≤◌, nat_eq, Bool, true, false, not, cond, length, sym, refl, ap, ◌∙◌, arith}
use Rattle.std.specs.Prelude.{◌||◌, filter, nat_lt}
use Rattle.std.specs.List.{range_with_len}
use Rattle.std.proofs.lemmas.Bool.{cases_lt, not-false, or_parts, ltb-false, false≢true, and_from, eq-eqb}
use Rattle.vd_bits.specs.Blocks.{Blocks}
use Rattle.vd_format.specs.declared.header.Header.{Header}
use Rattle.vd_format.specs.Layouts.{blocks_of, chunks_of}
use Rattle.vd_keeper.specs.declared.stage.Stage.TheVariants.{Rest, DataFlush, Broken}
use Rattle.vd_keeper.specs.declared.stage.Way as way
use Rattle.vd_keeper.specs.declared.stage.Way.TheVariants as ways
use Rattle.vd_keeper.specs.declared.stage.Route as route
use Rattle.vd_keeper.specs.declared.stage.Route.TheVariants as routes
use Rattle.vd_keeper.specs.Keeping.{KeeperState, no_marks, pages_of}
use Rattle.vd_keeper.specs.Entries.{chunks_with}
use Rattle.vd_keeper.specs.Flushes.{IsKeeping, IsPossible, records_for, is_recycle, last_generation}
use Rattle.vd_keeper.specs.Moves.{way_of, is_worn_out, after_begin, pages_with, none_of}
use Rattle.vd_keeper.specs.Sets.{chunks_from, chunk_count, has_any}
use Rattle.vd_keeper.proofs.Rows.{length-either}
use Rattle.vd_keeper.proofs.PageMarks.{length-pages_with}

-- the chunks of a set are those with its blocks
pub chunks-with : (h : Header) (b : Blocks) → b.chunk ≡ h.chunk → length b.bits ≡ blocks_of h → chunks_from b 0 ≡ chunks_with h b.bits
unfolding chunks_with
chunks-with h b chunk size =
    let count : chunk_count b - 0 ≡ chunks_of h = ap (λ (c : ℕ). (length b.bits + c - 1) / c - 0) chunk ∙ ap (λ (n : ℕ). (n + h.chunk - 1) / h.chunk - 0) size ∙ omega arith in
    ap (λ (c : ℕ). filter (has_any (record { chunk = c; bits = b.bits })) (range_with_len 0 (chunk_count b - 0))) chunk
    ∙ ap (λ (n : ℕ). filter (has_any (record { chunk = h.chunk; bits = b.bits })) (range_with_len 0 n)) count

pub count-is : (h : Header) (b : Blocks) → b.chunk ≡ h.chunk → length b.bits ≡ blocks_of h → chunk_count b ≡ chunks_of h
count-is h b chunk size = ap (λ (c : ℕ). (length b.bits + c - 1) / c) chunk ∙ ap (λ (n : ℕ). (n + h.chunk - 1) / h.chunk) size

-- a flush is possible while it is under way
pub is-possible : (k : KeeperState) → IsKeeping k → (k.stage ≡ Rest → ⊥) → (k.stage ≡ Broken → ⊥) → IsPossible k
is-possible k kept rest broken = elim kept.under_way [
  | inl e ↦ absurd (rest e)
  | inr other ↦ elim other [ inl e ↦ absurd (broken e) | inr p ↦ p ]
]

-- records are chosen only where they fit, and a recycle only by its number of tracked sectors
recycle-records : (t : ℕ) → ways.Recycle t ≡ ways.Records → ⊥
recycle-records t e = absurd cc

pub chosen-records : (big none : Bool) (t : ℕ) → cond {A = way.Way} big (ways.Recycle t) (cond {A = way.Way} none ways.Nothing ways.Records) ≡ ways.Records → (big ≡ false) × (none ≡ false)
chosen-records true none t e = absurd (recycle-records t e)
chosen-records false true t e = absurd cc
chosen-records false false t e = (refl, refl)

chosen-tracked : (big none : Bool) (t u : ℕ) → cond {A = way.Way} big (ways.Recycle t) (cond {A = way.Way} none ways.Nothing ways.Records) ≡ ways.Recycle u → u ≡ t
chosen-tracked true none t u e = cc
chosen-tracked false true t u e = absurd cc
chosen-tracked false false t u e = absurd cc

-- records fit the slots that are left
pub way-slots : (route : route.Route) (k : KeeperState) → k.next ≤ k.header.slots → way_of route k ≡ ways.Records → k.next + records_for (length (chunks_with k.header k.owed) - 0) ≤ k.header.slots
unfolding way_of
way-slots (routes.Recycle t) k fits e = absurd (recycle-records t e)
way-slots routes.Owed k fits e =
    let n : ℕ = length (chunks_with k.header k.owed) in
    let chosen = chosen-records (not k.sure || nat_lt (k.header.slots - k.next) (records_for (length (chunks_with k.header k.owed)))) (none_of k.owed) k.header.tracked e in
    let parts = or_parts (not k.sure) (nat_lt (k.header.slots - k.next) (records_for (length (chunks_with k.header k.owed)))) chosen.0 in
    let enough = ltb-false (k.header.slots - k.next) (records_for (length (chunks_with k.header k.owed))) parts.1 in
    let same : records_for (length (chunks_with k.header k.owed) - 0) ≡ records_for (length (chunks_with k.header k.owed)) = ap records_for (omega arith) in
    omega (arith, enough, same)

-- a flush by records has a sure header and something to log
pub way-records : (route : route.Route) (k : KeeperState) → way_of route k ≡ ways.Records → (k.sure ≡ true) × (none_of k.owed ≡ false)
unfolding way_of
way-records (routes.Recycle t) k e = absurd (recycle-records t e)
way-records routes.Owed k e =
    let chosen = chosen-records (not k.sure || nat_lt (k.header.slots - k.next) (records_for (length (chunks_with k.header k.owed)))) (none_of k.owed) k.header.tracked e in
    let parts = or_parts (not k.sure) (nat_lt (k.header.slots - k.next) (records_for (length (chunks_with k.header k.owed)))) chosen.0 in
    (not-false k.sure parts.0, chosen.1)

pub way-tracked : (route : route.Route) (k : KeeperState) (t : ℕ) → ((u : ℕ) → route ≡ routes.Recycle u → u ≤ k.header.tracked) → way_of route k ≡ ways.Recycle t → t ≤ k.header.tracked
unfolding way_of
way-tracked (routes.Recycle u) k t most e = let same : t ≡ u = cc in rw same (most u refl)
way-tracked routes.Owed k t most e =
    let same : t ≡ k.header.tracked = chosen-tracked (not k.sure || nat_lt (k.header.slots - k.next) (records_for (length (chunks_with k.header k.owed)))) (none_of k.owed) k.header.tracked t e in
    rw same (omega arith)

below-last : (h : Header) → h.generation < 2 ^ 63 → (h.generation ≡ last_generation → ⊥) → h.generation < last_generation
below-last h fits ne = elim (cases_lt h.generation last_generation) [ inl less ↦ less | inr more ↦ absurd (ne (omega arith)) ]

not-rest : DataFlush ≡ Rest → ⊥
not-rest e = absurd cc

not-broken : DataFlush ≡ Broken → ⊥
not-broken e = absurd cc

worn-not : (route : route.Route) (k : KeeperState) → is_worn_out route k ≡ false → is_recycle (way_of route k) ≡ true → k.header.generation ≡ last_generation → ⊥
worn-not route k worn is e = false≢true (sym worn ∙ and_from (is_recycle (way_of route k)) (nat_eq k.header.generation last_generation) is (eq-eqb k.header.generation last_generation e))

-- a flush that has begun
pub begun-kept : (route : route.Route) (k : KeeperState) → IsKeeping k → ((t : ℕ) → route ≡ routes.Recycle t → t ≤ k.header.tracked) → is_worn_out route k ≡ false → (k.put ≡ no_marks (pages_of k.header)) → IsKeeping (after_begin route k)
begun-kept route k kept tracked worn put = record {
  valid = kept.valid;
  version = kept.version;
  slots = kept.slots;
  stale_size = kept.stale_size;
  owed_size = kept.owed_size;
  snapshot_size = kept.owed_size;
  marked_size =
      let size : length k.marked ≡ length (pages_with (pages_of k.header) (chunks_with k.header k.owed)) = kept.marked_size ∙ sym (length-pages_with (pages_of k.header) (chunks_with k.header k.owed)) in
      length-either k.marked (pages_with (pages_of k.header) (chunks_with k.header k.owed)) size ∙ kept.marked_size;
  put_size = kept.put_size;
  apart = kept.apart;
  part = λ b is. is;
  at_rest = λ e. absurd (elim e [ inl r ↦ not-rest r | inr b ↦ not-broken b ]);
  under_way = inr (inr (record {
    slots = way-slots route k kept.slots;
    generation = λ is. below-last k.header kept.valid.generation (λ e. worn-not route k worn is e);
    tracked = λ t e. way-tracked route k t tracked e;
  }));
}
