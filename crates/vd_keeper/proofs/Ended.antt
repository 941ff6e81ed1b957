-- A flush that is given up, and one that is sealed.
use Rattle.std.proofs.Common.{◌≡◌, ◌⊎◌, ⊎_elim, inl, inr, ℕ, ◌+◌, ◌-◌, ◌*◌, ◌<◌, ◌≤◌, Bool, true, false, not, cond, List, [], length, get_or, drop, replicate, sym, refl, ap, ◌∙◌, arith, subst}
use Rattle.std.specs.Prelude.{◌||◌, ◌&&◌}
use Rattle.std.proofs.lemmas.Bool.{cases_lt, or_right}
use Rattle.std.proofs.lemmas.List.{length-replicate, drop_all}
use Rattle.std.proofs.Math.Bool.{or-false}
use Rattle.vd_bits.specs.Blocks.{Blocks}
use Rattle.vd_format.specs.declared.header.Header.{Header}
use Rattle.vd_format.specs.Headers.{IsValid}
use Rattle.vd_format.specs.Layouts.{blocks_of, chunks_of}
use Rattle.vd_keeper.specs.declared.keeper.Keeper.TheInside.{Inside}
use Rattle.vd_keeper.specs.declared.stage.Stage.TheVariants.{Rest, Puts, Syncs, Seals, Broken}
use Rattle.vd_keeper.specs.declared.stage.Way as way
use Rattle.vd_keeper.specs.declared.stage.Way.TheVariants as ways
use Rattle.vd_keeper.specs.Keeping.{KeeperState, no_marks, pages_of}
use Rattle.vd_keeper.specs.Entries.{union_of, chunks_with}
use Rattle.vd_keeper.specs.Flushes.{IsKeeping, IsPossible, is_recycle, last_generation}
use Rattle.vd_keeper.specs.Moves.{difference_of, after_break, after_seal, next_header}
use Rattle.vd_keeper.specs.Sets.{chunks_from, chunk_count, has_any, empty_of}
use Rattle.vd_keeper.specs.KeeperFields.{keeper_state, IsKeeper}
use Rattle.vd_keeper.proofs.Rows.{get_or-either, get_or-without, length-either, length-without, either-nothing, get_or-nothing, same_rows}
use Rattle.vd_keeper.proofs.NextChunks.{none-from-blocks, skip-chunks, past-chunks}
use Rattle.vd_keeper.proofs.Owed.{not-there, either-cases, without-parts, there}
use Rattle.vd_keeper.proofs.Flushed.{chunks-with, is-possible}
use Rattle.vd_keeper.proofs.Begun.{none-put-elsewhere}

-- nothing has no chunk
pub nothing-from : (b : Blocks) (from : ℕ) → chunks_from (empty_of b) from ≡ []
nothing-from b from =
    let none : (n : ℕ) → has_any (empty_of b) n ≡ false = λ n. none-from-blocks (empty_of b) n (λ j h. get_or-nothing (length b.bits) (n * b.chunk + j)) in
    ⊎_elim
    (λ (less : from < chunk_count (empty_of b)).
    skip-chunks (empty_of b) (chunk_count (empty_of b) - from) from (omega arith) (λ i low high. none i) ∙ past-chunks (empty_of b) (from + (chunk_count (empty_of b) - from)) (omega arith))
    (λ (past : chunk_count (empty_of b) ≤ from). past-chunks (empty_of b) from past)
    (cases_lt from (chunk_count (empty_of b)))

pub nothing-with : (h : Header) → chunks_with h (no_marks (blocks_of h)) ≡ []
nothing-with h =
    let b : Blocks = record { chunk = h.chunk; bits = no_marks (blocks_of h) } in
    let same : no_marks (length (no_marks (blocks_of h))) ≡ no_marks (blocks_of h) = ap (λ (n : ℕ). no_marks n) (length-replicate (blocks_of h) false) in
    sym (chunks-with h b refl (length-replicate (blocks_of h) false))
    ∙ ap (λ (bits : List Bool). chunks_from (record { chunk = h.chunk; bits = bits }) 0) (sym same)
    ∙ nothing-from b 0

-- no rest is left of an emptied set
pub emptied-rest : (h : Header) (b : Blocks) (from logged : ℕ) → length b.bits ≡ blocks_of h → chunks_from (empty_of b) from ≡ drop logged (chunks_with h (no_marks (length b.bits)))
emptied-rest h b from logged size =
    nothing-from b from
    ∙ sym (ap (λ (n : ℕ). drop logged (chunks_with h (no_marks n))) size ∙ ap (λ (cs : List ℕ). drop logged cs) (nothing-with h) ∙ drop_all logged [] (omega arith))

-- ---- given up

pub broken-kept : (k : KeeperState) → IsKeeping k → IsKeeping (after_break k)
broken-kept k kept = record {
  valid = kept.valid;
  version = kept.version;
  slots = kept.slots;
  stale_size = kept.stale_size;
  owed_size = kept.owed_size;
  snapshot_size = length-replicate (blocks_of k.header) false;
  marked_size = length-either k.marked k.put (kept.marked_size ∙ sym kept.put_size) ∙ kept.marked_size;
  put_size = length-replicate (pages_of k.header) false;
  apart = kept.apart;
  part = λ b is. absurd (not-there (no_marks (blocks_of k.header)) b (get_or-nothing (blocks_of k.header) b) is);
  at_rest = λ e. (refl, refl);
  under_way = inr (inl refl);
}

module _ (i : Inside) (kept : IsKeeper i) where
  same-size : length i.later.bits ≡ length i.snapshot.bits
  same-size = kept.later_size ∙ sym kept.keeping.snapshot_size

  pub broken-view : keeper_state (record i { stage = Broken; later = record { chunk = i.later.chunk; bits = union_of i.later.bits i.snapshot.bits }; snapshot = empty_of i.snapshot; marked = union_of i.marked i.put; put = replicate (length i.put) false }) ≡ after_break (keeper_state i)
  broken-view =
      let owed : union_of (union_of i.later.bits i.snapshot.bits) (replicate (length i.snapshot.bits) false) ≡ union_of i.later.bits i.snapshot.bits =
      either-nothing (union_of i.later.bits i.snapshot.bits) (length i.snapshot.bits) (length-either i.later.bits i.snapshot.bits same-size ∙ same-size)
      in
      ap (λ (xs : List Bool). record (keeper_state i) { stage = Broken; owed = xs; snapshot = replicate (length i.snapshot.bits) false; marked = union_of i.marked i.put; put = replicate (length i.put) false }) owed
      ∙ ap (λ (n : ℕ). record (keeper_state i) { stage = Broken; snapshot = replicate n false; marked = union_of i.marked i.put; put = replicate (length i.put) false }) kept.keeping.snapshot_size
      ∙ ap (λ (n : ℕ). record (keeper_state i) { stage = Broken; snapshot = no_marks (blocks_of i.header); marked = union_of i.marked i.put; put = replicate n false }) kept.keeping.put_size

  pub broken-keeper : IsKeeper (record i { stage = Broken; later = record { chunk = i.later.chunk; bits = union_of i.later.bits i.snapshot.bits }; snapshot = empty_of i.snapshot; marked = union_of i.marked i.put; put = replicate (length i.put) false })
  broken-keeper = record {
    keeping = subst IsKeeping (sym broken-view) (broken-kept (keeper_state i) kept.keeping);
    stale_chunk = kept.stale_chunk;
    later_chunk = kept.later_chunk;
    snapshot_chunk = kept.snapshot_chunk;
    later_size = length-either i.later.bits i.snapshot.bits same-size ∙ kept.later_size;
    apart = λ b is snap. not-there (replicate (length i.snapshot.bits) false) b (get_or-nothing (length i.snapshot.bits) b) snap;
    put_in_stage = inr (inr (ap (λ (n : ℕ). replicate n false) kept.keeping.put_size));
    logged = kept.logged;
    rest = emptied-rest i.header i.snapshot i.from i.logged kept.keeping.snapshot_size;
  }

-- ---- sealed

-- the next header is valid
pub next-valid : (w : way.Way) (h : Header) → IsValid h → (is_recycle w ≡ true → h.generation < last_generation) → ((t : ℕ) → w ≡ ways.Recycle t → t ≤ h.tracked) → IsValid (next_header w h)
next-valid ways.Nothing h valid generation tracked = valid
next-valid ways.Records h valid generation tracked = valid
next-valid (ways.Recycle t) h valid generation tracked = record {
  version = valid.version;
  block = valid.block;
  chunk = valid.chunk;
  whole_blocks = valid.whole_blocks;
  some_block = valid.some_block;
  size = valid.size;
  some_storage = valid.some_storage;
  storage = valid.storage;
  some_slot = valid.some_slot;
  slots = valid.slots;
  tracked = (let most = tracked t refl in omega (arith, most, valid.tracked));
  some_generation = omega arith;
  generation = (let less = generation refl in omega (arith, less));
}

-- with the geometry of the last one
pub record IsNext (old new : Header) : Type 0 where
  pub version : new.version ≡ old.version
  pub block : new.block ≡ old.block
  pub chunk : new.chunk ≡ old.chunk
  pub size : new.size ≡ old.size
  pub slots : new.slots ≡ old.slots

pub next-same : (w : way.Way) (h : Header) → IsNext h (next_header w h)
next-same ways.Nothing h = record { version = refl; block = refl; chunk = refl; size = refl; slots = refl }
next-same ways.Records h = record { version = refl; block = refl; chunk = refl; size = refl; slots = refl }
next-same (ways.Recycle t) h = record { version = refl; block = refl; chunk = refl; size = refl; slots = refl }

pub next-blocks : (w : way.Way) (h : Header) → blocks_of (next_header w h) ≡ blocks_of h
next-blocks ways.Nothing h = refl
next-blocks ways.Records h = refl
next-blocks (ways.Recycle t) h = refl

pub next-pages : (w : way.Way) (h : Header) → pages_of (next_header w h) ≡ pages_of h
next-pages ways.Nothing h = refl
next-pages ways.Records h = refl
next-pages (ways.Recycle t) h = refl

next-slot-fits : (w : way.Way) (h : Header) (next : ℕ) → next ≤ h.slots → cond (is_recycle w) 0 next ≤ (next_header w h).slots
next-slot-fits ways.Nothing h next fits = fits
next-slot-fits ways.Records h next fits = fits
next-slot-fits (ways.Recycle t) h next fits = omega arith

pub sealed-kept : (k : KeeperState) → IsKeeping k → IsPossible k → k.put ≡ no_marks (pages_of k.header) → IsKeeping (after_seal k)
sealed-kept k kept possible none = record {
  valid = next-valid k.way k.header kept.valid possible.generation possible.tracked;
  version = (next-same k.way k.header).version ∙ kept.version;
  slots = next-slot-fits k.way k.header k.next kept.slots;
  stale_size = length-either k.stale k.snapshot (kept.stale_size ∙ sym kept.snapshot_size) ∙ kept.stale_size ∙ sym (next-blocks k.way k.header);
  owed_size = length-without k.owed k.snapshot ∙ kept.owed_size ∙ sym (next-blocks k.way k.header);
  snapshot_size = length-replicate (blocks_of k.header) false ∙ sym (next-blocks k.way k.header);
  marked_size = kept.marked_size ∙ sym (next-pages k.way k.header);
  put_size = kept.put_size ∙ sym (next-pages k.way k.header);
  apart = λ b is stale.
      let parts = without-parts k.owed k.snapshot b is in
      elim (either-cases k.stale k.snapshot b stale) [ inl was ↦ kept.apart b parts.0 was | inr snap ↦ not-there k.snapshot b parts.1 snap ];
  part = λ b is. absurd (not-there (no_marks (blocks_of k.header)) b (get_or-nothing (blocks_of k.header) b) is);
  at_rest = λ e. (ap (λ (n : ℕ). no_marks n) (sym (next-blocks k.way k.header)), none ∙ ap (λ (n : ℕ). no_marks n) (sym (next-pages k.way k.header)));
  under_way = inl refl;
}

pub next-chunks : (w : way.Way) (h : Header) → chunks_of (next_header w h) ≡ chunks_of h
next-chunks ways.Nothing h = refl
next-chunks ways.Records h = refl
next-chunks (ways.Recycle t) h = refl

kept-apart : (l s : Bool) → (l ≡ true → s ≡ true → ⊥) → l ≡ ((l || s) && not s)
kept-apart true true apart = absurd (apart refl refl)
kept-apart true false apart = refl
kept-apart false true apart = refl
kept-apart false false apart = refl

seals-rest : Seals ≡ Rest → ⊥
seals-rest e = absurd cc

seals-broken : Seals ≡ Broken → ⊥
seals-broken e = absurd cc

seals-puts : Seals ≡ Puts → ⊥
seals-puts e = absurd cc

seals-syncs : Seals ≡ Syncs → ⊥
seals-syncs e = absurd cc

-- the owed blocks that the flush logged are gone, and those that came later are left
module _ (i : Inside) (kept : IsKeeper i) where
  left-over : union_of i.later.bits (replicate (length i.snapshot.bits) false) ≡ difference_of (union_of i.later.bits i.snapshot.bits) i.snapshot.bits
  left-over =
      let size : length i.later.bits ≡ length i.snapshot.bits = kept.later_size ∙ sym kept.keeping.snapshot_size in
      either-nothing i.later.bits (length i.snapshot.bits) size
      ∙ same_rows i.later.bits (difference_of (union_of i.later.bits i.snapshot.bits) i.snapshot.bits) (sym (length-without (union_of i.later.bits i.snapshot.bits) i.snapshot.bits ∙ length-either i.later.bits i.snapshot.bits size))
      (λ b h.
      kept-apart (get_or i.later.bits b false) (get_or i.snapshot.bits b false) (λ l s. kept.apart b (there i.later.bits b l) (there i.snapshot.bits b s))
      ∙ ap (λ (x : Bool). x && not (get_or i.snapshot.bits b false)) (sym (get_or-either i.later.bits i.snapshot.bits b))
      ∙ sym (get_or-without (union_of i.later.bits i.snapshot.bits) i.snapshot.bits b))

  module _ (sure : Bool) (next : ℕ) (is_sure : sure ≡ (i.sure || is_recycle i.way)) (is_next : next ≡ cond (is_recycle i.way) 0 i.next) where
    pub sealed-view : keeper_state (record i { header = next_header i.way i.header; sure = sure; next = next; stage = Rest; stale = record { chunk = i.stale.chunk; bits = union_of i.stale.bits i.snapshot.bits }; snapshot = empty_of i.snapshot }) ≡ after_seal (keeper_state i)
    sealed-view =
        ap (λ (xs : List Bool). record (keeper_state i) { header = next_header i.way i.header; sure = sure; next = next; stage = Rest; stale = union_of i.stale.bits i.snapshot.bits; owed = xs; snapshot = replicate (length i.snapshot.bits) false }) left-over
        ∙ ap (λ (n : ℕ). record (keeper_state i) { header = next_header i.way i.header; sure = sure; next = next; stage = Rest; stale = union_of i.stale.bits i.snapshot.bits; owed = difference_of (union_of i.later.bits i.snapshot.bits) i.snapshot.bits; snapshot = replicate n false }) kept.keeping.snapshot_size
        ∙ ap (λ (b : Bool). record (keeper_state i) { header = next_header i.way i.header; sure = b; next = next; stage = Rest; stale = union_of i.stale.bits i.snapshot.bits; owed = difference_of (union_of i.later.bits i.snapshot.bits) i.snapshot.bits; snapshot = no_marks (blocks_of i.header) }) is_sure
        ∙ ap (λ (n : ℕ). record (keeper_state i) { header = next_header i.way i.header; sure = i.sure || is_recycle i.way; next = n; stage = Rest; stale = union_of i.stale.bits i.snapshot.bits; owed = difference_of (union_of i.later.bits i.snapshot.bits) i.snapshot.bits; snapshot = no_marks (blocks_of i.header) }) is_next

    pub sealed-keeper : i.stage ≡ Seals → IsKeeper (record i { header = next_header i.way i.header; sure = sure; next = next; stage = Rest; stale = record { chunk = i.stale.chunk; bits = union_of i.stale.bits i.snapshot.bits }; snapshot = empty_of i.snapshot })
    sealed-keeper seals =
        let possible = is-possible (keeper_state i) kept.keeping (λ r. seals-rest (sym seals ∙ r)) (λ b. seals-broken (sym seals ∙ b)) in
        let none = none-put-elsewhere i Seals kept seals seals-puts seals-syncs in
        let chunk = (next-same i.way i.header).chunk in
        record {
          keeping = subst IsKeeping (sym sealed-view) (sealed-kept (keeper_state i) kept.keeping possible none);
          stale_chunk = kept.stale_chunk ∙ sym chunk;
          later_chunk = kept.later_chunk ∙ sym chunk;
          snapshot_chunk = kept.snapshot_chunk ∙ sym chunk;
          later_size = kept.later_size ∙ sym (next-blocks i.way i.header);
          apart = λ b is snap. not-there (replicate (length i.snapshot.bits) false) b (get_or-nothing (length i.snapshot.bits) b) snap;
          put_in_stage = inr (inr (none ∙ ap (λ (n : ℕ). no_marks n) (sym (next-pages i.way i.header))));
          logged = subst (λ (n : ℕ). i.logged ≤ n) (sym (next-chunks i.way i.header)) kept.logged;
          rest = emptied-rest (next_header i.way i.header) i.snapshot i.from i.logged (kept.keeping.snapshot_size ∙ sym (next-blocks i.way i.header));
        }

    -- by whatever equals the next header
    pub sealed-by-view : (header : Header) → header ≡ next_header i.way i.header → keeper_state (record i { header = header; sure = sure; next = next; stage = Rest; stale = record { chunk = i.stale.chunk; bits = union_of i.stale.bits i.snapshot.bits }; snapshot = empty_of i.snapshot }) ≡ after_seal (keeper_state i)
    sealed-by-view header e =
        subst (λ (h : Header). keeper_state (record i { header = h; sure = sure; next = next; stage = Rest; stale = record { chunk = i.stale.chunk; bits = union_of i.stale.bits i.snapshot.bits }; snapshot = empty_of i.snapshot }) ≡ after_seal (keeper_state i)) (sym e) sealed-view

    pub sealed-by-keeper : (header : Header) → header ≡ next_header i.way i.header → i.stage ≡ Seals → IsKeeper (record i { header = header; sure = sure; next = next; stage = Rest; stale = record { chunk = i.stale.chunk; bits = union_of i.stale.bits i.snapshot.bits }; snapshot = empty_of i.snapshot })
    sealed-by-keeper header e seals =
        subst (λ (h : Header). IsKeeper (record i { header = h; sure = sure; next = next; stage = Rest; stale = record { chunk = i.stale.chunk; bits = union_of i.stale.bits i.snapshot.bits }; snapshot = empty_of i.snapshot })) (sym e) (sealed-keeper seals)

-- what a way makes of the header, sureness and cursor
pub recycle-sure : (w : way.Way) (t : ℕ) (sure : Bool) → w ≡ ways.Recycle t → true ≡ (sure || is_recycle w)
recycle-sure w t sure e = sym (or_right sure (is_recycle w) (ap is_recycle e))

pub recycle-next : (w : way.Way) (t next : ℕ) → w ≡ ways.Recycle t → 0 ≡ cond (is_recycle w) 0 next
recycle-next w t next e = ap (λ (v : way.Way). cond (is_recycle v) 0 next) (sym e)

pub recycle-header : (w : way.Way) (t : ℕ) (h : Header) → w ≡ ways.Recycle t → record h { tracked = t; generation = h.generation + 1 } ≡ next_header w h
recycle-header w t h e = ap (λ (v : way.Way). next_header v h) (sym e)

pub other-recycle : (w : way.Way) → ((t : ℕ) → w ≡ ways.Recycle t → ⊥) → is_recycle w ≡ false
other-recycle ways.Nothing other = refl
other-recycle ways.Records other = refl
other-recycle (ways.Recycle t) other = absurd (other t refl)

pub other-sure : (w : way.Way) (sure : Bool) → ((t : ℕ) → w ≡ ways.Recycle t → ⊥) → sure ≡ (sure || is_recycle w)
other-sure w sure other = sym (ap (λ (b : Bool). sure || b) (other-recycle w other) ∙ or-false sure)

pub other-next : (w : way.Way) (next : ℕ) → ((t : ℕ) → w ≡ ways.Recycle t → ⊥) → next ≡ cond (is_recycle w) 0 next
other-next w next other = ap (λ (b : Bool). cond {A = ℕ} b 0 next) (sym (other-recycle w other))

pub other-header : (w : way.Way) (h : Header) → ((t : ℕ) → w ≡ ways.Recycle t → ⊥) → h ≡ next_header w h
other-header ways.Nothing h other = refl
other-header ways.Records h other = refl
other-header (ways.Recycle t) h other = absurd (other t refl)
