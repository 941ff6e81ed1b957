-- What other steps leave of the keeper and the passes, and how they begin.
use Rattle.std.proofs.Common.{◌≡◌, ◌≢◌, ◌⊎◌, inl, inr, ℕ, ◌<◌, ◌≤◌, Bool, true, false, List, length, get_or, sym, refl, ap, ◌∙◌, subst, length-set, Option, Some, None, slice_get, slice_set}
use Rattle.std.proofs.lemmas.Bool.{cases_Bool, cases_eq, cond-true, cond-false}
use Rattle.std.proofs.lemmas.Option.{slice_get_within}
use Rattle.vd_bits.specs.Blocks.{Blocks}
use Rattle.vd_format.specs.declared.header.Header.{Header}
use Rattle.vd_format.specs.Headers.{IsValid}
use Rattle.vd_format.specs.Layouts.{blocks_of, chunks_of, storage_start}
use Rattle.vd_table.specs.Tables.{TableState}
use Rattle.vd_keeper.specs.declared.stage.Way.TheVariants as ways
use Rattle.vd_keeper.specs.Keeping.{KeeperState, no_marks, pages_of}
use Rattle.vd_keeper.specs.Entries.{union_of}
use Rattle.vd_keeper.specs.Flushes.{IsKeeping}
use Rattle.vd_keeper.specs.Moves.{after_owe, after_adopt, difference_of}
use Rattle.vd_keeper.proofs.Rows.{length-either, length-without, get_or-nothing}
use Rattle.vd_keeper.proofs.Owed.{not-there, either-left, either-cases, without-parts, kept-owed}
use Rattle.vd_keeper.proofs.Opened.{new-keeping, new-view, new-keeper}
use Rattle.vd_passes.specs.declared.shape.Shape.{Shape}
use Rattle.vd_passes.specs.declared.pass.Pass.{Pass}
use Rattle.vd_passes.specs.declared.pass.Phase.TheVariants.{Flushing}
use Rattle.vd_machine.specs.Attending.{KeeperAgrees}
use Rattle.vd_machine.proofs.Stages.{owed-stage}
use Rattle.vd_machine.proofs.Followed.{passed}
use Rattle.vd_machine.proofs.Attended.{attended}
use Rattle.vd_lists.proofs.Changes.{slice_set_inside, slice_set_other}

-- ---- the passes

-- another pass takes a step
pub pass-attended : {shape : Shape} {table : TableState} {fresh : List Bool} {passes passes' : List Pass} {flusher : Option ℕ} {k : KeeperState} (i : ℕ) (p p' : Pass)
    → KeeperAgrees shape table fresh passes flusher k → slice_get passes i ≡ Some p → passes' ≡ slice_set passes i p' → p.phase ≢ Flushing → p'.phase ≢ Flushing → KeeperAgrees shape table fresh passes' flusher k
pass-attended {shape} {table} {fresh} {passes} {passes'} {flusher} {k} i p p' a there after was is =
    subst (λ (ps : List Pass). KeeperAgrees shape table fresh ps flusher k) (sym after) (attended k a refl refl refl a.keeping a.same_tracked a.put_in_stage (passed passes i p p' flusher k there a.flushing a.resting a.working was is))

-- no pass does
pub idle-attended : {shape : Shape} {table : TableState} {fresh : List Bool} {passes passes' : List Pass} {flusher : Option ℕ} {k : KeeperState}
    → KeeperAgrees shape table fresh passes flusher k → passes' ≡ passes → KeeperAgrees shape table fresh passes' flusher k
idle-attended {shape} {table} {fresh} {passes} {passes'} {flusher} {k} a same = subst (λ (ps : List Pass). KeeperAgrees shape table fresh ps flusher k) (sym same) a

-- ---- the table and the local blocks

pub table-attended : {shape : Shape} {table table' : TableState} {fresh : List Bool} {passes : List Pass} {flusher : Option ℕ} {k : KeeperState}
    → KeeperAgrees shape table fresh passes flusher k → length table'.chunks ≡ length table.chunks → table'.storage ≡ table.storage → KeeperAgrees shape table' fresh passes flusher k
table-attended a size storage = record {
  keeping = a.keeping;
  block = a.block;
  chunk = a.chunk;
  blocks = a.blocks;
  storage_at = a.storage_at;
  tracked = a.tracked;
  chunks = size ∙ a.chunks;
  storage = storage ∙ a.storage;
  stale_fresh = a.stale_fresh;
  owed_fresh = a.owed_fresh;
  same_tracked = a.same_tracked;
  put_in_stage = a.put_in_stage;
  flushing = a.flushing;
  resting = a.resting;
  working = a.working;
}

-- more blocks are local, and more are owed
more-owed : {shape : Shape} {table : TableState} {fresh fresh' : List Bool} {passes : List Pass} {flusher : Option ℕ} {k : KeeperState} (owed : List Bool) → KeeperAgrees shape table fresh passes flusher k
    → IsKeeping (record k { owed = owed }) → ((b : ℕ) → slice_get fresh b ≡ Some true → slice_get fresh' b ≡ Some true) → ((b : ℕ) → slice_get owed b ≡ Some true → slice_get fresh' b ≡ Some true)
    → KeeperAgrees shape table fresh' passes flusher (record k { owed = owed })
more-owed {shape} {table} {fresh} {fresh'} {passes} {flusher} {k} owed a kept more owes = record {
  keeping = kept;
  block = a.block;
  chunk = a.chunk;
  blocks = a.blocks;
  storage_at = a.storage_at;
  tracked = a.tracked;
  chunks = a.chunks;
  storage = a.storage;
  stale_fresh = λ b is. more b (a.stale_fresh b is);
  owed_fresh = owes;
  same_tracked = a.same_tracked;
  put_in_stage = a.put_in_stage;
  flushing = a.flushing;
  resting = a.resting;
  working = λ i mine. let w = a.working i mine in (w.0, w.1, owed-stage k owed k.stage w.0 w.2);
}

pub fresh-attended : {shape : Shape} {table : TableState} {fresh fresh' : List Bool} {passes : List Pass} {flusher : Option ℕ} {k : KeeperState}
    → KeeperAgrees shape table fresh passes flusher k → ((b : ℕ) → slice_get fresh b ≡ Some true → slice_get fresh' b ≡ Some true) → KeeperAgrees shape table fresh' passes flusher k
fresh-attended {k = k} a more = more-owed k.owed a a.keeping more (λ b is. more b (a.owed_fresh b is))

-- ---- a block comes to be owed

set-cases : (xs : List Bool) (block b : ℕ) → slice_get (slice_set xs block true) b ≡ Some true → (b ≡ block) ⊎ (slice_get xs b ≡ Some true)
set-cases xs block b is = elim (cases_eq b block) [ inl e ↦ inl e | inr ne ↦ inr (sym (slice_set_other xs block b true ne) ∙ is) ]

pub still-set : (xs : List Bool) (block b : ℕ) → slice_get xs b ≡ Some true → slice_get (slice_set xs block true) b ≡ Some true
still-set xs block b is = elim (cases_eq b block) [
  | inl e ↦ ap (slice_get (slice_set xs block true)) e ∙ slice_set_inside xs block true (subst (λ (n : ℕ). n < length xs) e (slice_get_within xs b true is))
  | inr ne ↦ slice_set_other xs block b true ne ∙ is
]

owing-kept : (k : KeeperState) (block : ℕ) → IsKeeping k → get_or k.stale block false ≡ false → IsKeeping (record k { owed = slice_set k.owed block true })
owing-kept k block kept off =
    kept-owed k (slice_set k.owed block true) kept (length-set k.owed block true ∙ kept.owed_size)
    (λ b is stale. elim (set-cases k.owed block b is) [ inl e ↦ not-there k.stale block off (ap (slice_get k.stale) (sym e) ∙ stale) | inr was ↦ kept.apart b was stale ])
    (λ b is. still-set k.owed block b (kept.part b is))

-- a block is local, and owed where it isn't stale
pub owing-attended : {shape : Shape} {table : TableState} {fresh fresh' : List Bool} {passes : List Pass} {flusher : Option ℕ} {k k' : KeeperState} (block : ℕ)
    → KeeperAgrees shape table fresh passes flusher k → block < length fresh → fresh' ≡ slice_set fresh block true → k' ≡ after_owe block k → KeeperAgrees shape table fresh' passes flusher k'
owing-attended {shape} {table} {fresh} {fresh'} {passes} {flusher} {k} {k'} block a inside set_is after =
    let more : (b : ℕ) → slice_get fresh b ≡ Some true → slice_get (slice_set fresh block true) b ≡ Some true = still-set fresh block in
    let owed : KeeperState = record k { owed = slice_set k.owed block true } in
    let done : KeeperAgrees shape table (slice_set fresh block true) passes flusher (after_owe block k) = elim (cases_Bool (get_or k.stale block false)) [
      | inl stale ↦ subst (λ (x : KeeperState). KeeperAgrees shape table (slice_set fresh block true) passes flusher x) (sym (cond-true (get_or k.stale block false) k owed stale)) (fresh-attended a more)
      | inr off ↦ subst (λ (x : KeeperState). KeeperAgrees shape table (slice_set fresh block true) passes flusher x) (sym (cond-false (get_or k.stale block false) k owed off))
          (more-owed (slice_set k.owed block true) a (owing-kept k block a.keeping off) more
          (λ b is. elim (set-cases k.owed block b is) [ inl e ↦ ap (slice_get (slice_set fresh block true)) e ∙ slice_set_inside fresh block true inside | inr was ↦ more b (a.owed_fresh b was) ]))
    ] in
    subst (λ (x : KeeperState). KeeperAgrees shape table fresh' passes flusher x) (sym after) (subst (λ (xs : List Bool). KeeperAgrees shape table xs passes flusher (after_owe block k)) (sym set_is) done)

-- every local block that isn't stale comes to be owed
adopting-kept : (k : KeeperState) (fresh : List Bool) → IsKeeping k → length fresh ≡ blocks_of k.header → IsKeeping (after_adopt fresh k)
adopting-kept k fresh kept size =
    let sizes : length k.owed ≡ length (difference_of fresh k.stale) = kept.owed_size ∙ sym size ∙ sym (length-without fresh k.stale) in
    kept-owed k (union_of k.owed (difference_of fresh k.stale)) kept (length-either k.owed (difference_of fresh k.stale) sizes ∙ kept.owed_size)
    (λ b is stale. elim (either-cases k.owed (difference_of fresh k.stale) b is) [ inl was ↦ kept.apart b was stale | inr new ↦ not-there k.stale b (without-parts fresh k.stale b new).1 stale ])
    (λ b is. either-left k.owed (difference_of fresh k.stale) b (kept.part b is))

pub adopting-attended : {shape : Shape} {table : TableState} {fresh : List Bool} {passes : List Pass} {flusher : Option ℕ} {k k' : KeeperState}
    → KeeperAgrees shape table fresh passes flusher k → length fresh ≡ blocks_of k.header → k' ≡ after_adopt fresh k → KeeperAgrees shape table fresh passes flusher k'
adopting-attended {shape} {table} {fresh} {passes} {flusher} {k} {k'} a size after =
    subst (λ (x : KeeperState). KeeperAgrees shape table fresh passes flusher x) (sym after)
    (more-owed (union_of k.owed (difference_of fresh k.stale)) a (adopting-kept k fresh a.keeping size) (λ b is. is)
    (λ b is. elim (either-cases k.owed (difference_of fresh k.stale) b is) [ inl was ↦ a.owed_fresh b was | inr new ↦ (without-parts fresh k.stale b new).0 ]))

-- ---- a new keeper

nothing-recycle : {A : Type 0} (t : ℕ) → ways.Nothing ≡ ways.Recycle t → A
nothing-recycle t e = absurd cc

none-some : {A : Type 0} (i : ℕ) → None ≡ Some i → A
none-some i e = absurd cc

-- as it is made of the local blocks, while no pass flushes
pub new-attended : {shape : Shape} {table : TableState} {passes : List Pass} {k : KeeperState} (header : Header) (stale : Blocks) (marked : List Bool) (next : ℕ)
    → k ≡ new-keeping header stale marked next → IsValid header → header.version ≡ 2 → next ≤ header.slots → stale.chunk ≡ header.chunk → length stale.bits ≡ blocks_of header → length marked ≡ pages_of header
    → shape.block ≡ header.block → shape.chunk ≡ header.chunk → shape.blocks ≡ blocks_of header → shape.storage_at ≡ storage_start header → shape.tracked ≡ header.tracked
    → length table.chunks ≡ chunks_of header → table.storage ≡ header.storage → ((i : ℕ) (p : Pass) → slice_get passes i ≡ Some p → p.phase ≢ Flushing) → KeeperAgrees shape table stale.bits passes None k
new-attended {shape} {table} {passes} {k} header stale marked next is valid version slots chunk_is size pages block chunk blocks storage_at tracked chunks storage quiet =
    subst (λ (x : KeeperState). KeeperAgrees shape table stale.bits passes None x) (sym is) (record {
      keeping = subst IsKeeping (new-view header stale marked next) (new-keeper header stale marked next valid version slots chunk_is size pages).keeping;
      block = block;
      chunk = chunk;
      blocks = blocks;
      storage_at = storage_at;
      tracked = tracked;
      chunks = chunks;
      storage = storage;
      stale_fresh = λ b local. local;
      owed_fresh = λ b owed. absurd (not-there (no_marks (blocks_of header)) b (get_or-nothing (blocks_of header) b) owed);
      same_tracked = λ t e. nothing-recycle t e;
      put_in_stage = inr (inr refl);
      flushing = λ i p there. (λ flushing. absurd (quiet i p there flushing), λ none. none-some i none);
      resting = λ none. inl refl;
      working = λ i none. none-some i none;
    })
