-- A keeper that has begun a flush, and one that goes on.
use Rattle.std.proofs.Common.{◌≡◌, ◌⊎◌, inl, inr, ℕ, ◌-◌, ◌≤◌, Bool, true, false, not, cond, List, length, replicate, sym, refl, ap, ◌∙◌, arith, subst}
use Rattle.std.specs.Prelude.{◌&&◌, nat_lt}
use Rattle.vd_format.specs.Layouts.{blocks_of}
use Rattle.vd_keeper.specs.declared.keeper.Keeper.TheInside.{Inside}
use Rattle.vd_keeper.specs.declared.stage.Stage.{Stage}
use Rattle.vd_keeper.specs.declared.stage.Stage.TheVariants.{Rest, DataFlush, Puts, Syncs, Seals, Broken}
use Rattle.vd_keeper.specs.declared.stage.Way as way
use Rattle.vd_keeper.specs.declared.stage.Way.TheVariants as ways
use Rattle.vd_keeper.specs.declared.stage.Route as route
use Rattle.vd_keeper.specs.declared.stage.Route.TheVariants as routes
use Rattle.vd_keeper.specs.Keeping.{KeeperState, no_marks, pages_of}
use Rattle.vd_keeper.specs.Entries.{union_of, chunks_with}
use Rattle.vd_keeper.specs.Flushes.{IsKeeping, IsPossible}
use Rattle.vd_keeper.specs.Moves.{way_of, is_worn_out, after_begin, marked_with, pages_with, none_of, after_call, after_data, after_put, after_sync, after_break}
use Rattle.vd_keeper.specs.Sets.{chunks_from}
use Rattle.vd_keeper.specs.KeeperFields.{keeper_state, IsKeeper}
use Rattle.vd_keeper.proofs.Rows.{either-nothing, nothing-either}
use Rattle.vd_keeper.proofs.Flushed.{chunks-with, is-possible, begun-kept}

-- nothing of a flush at rest
module _ (i : Inside) (kept : IsKeeper i) (rest : (i.stage ≡ Rest) ⊎ (i.stage ≡ Broken)) where
  pub no-snapshot : i.snapshot.bits ≡ no_marks (blocks_of i.header)
  no-snapshot = (kept.keeping.at_rest rest).0

  pub no-puts : i.put ≡ no_marks (pages_of i.header)
  no-puts = (kept.keeping.at_rest rest).1

  -- what is owed is owed later
  pub owed-later : union_of i.later.bits i.snapshot.bits ≡ i.later.bits
  owed-later = ap (λ (xs : List Bool). union_of i.later.bits xs) no-snapshot ∙ either-nothing i.later.bits (blocks_of i.header) kept.later_size

  owed-swapped : union_of i.snapshot.bits i.later.bits ≡ union_of i.later.bits i.snapshot.bits
  owed-swapped = ap (λ (xs : List Bool). union_of xs i.later.bits) no-snapshot ∙ nothing-either i.later.bits (blocks_of i.header) kept.later_size ∙ sym owed-later

  -- its chunks are those that are owed
  pub owed-chunks : chunks_from i.later 0 ≡ chunks_with i.header (union_of i.later.bits i.snapshot.bits)
  owed-chunks = chunks-with i.header i.later kept.later_chunk kept.later_size ∙ ap (λ (xs : List Bool). chunks_with i.header xs) (sym owed-later)

  -- the fields once a flush has begun
  module _ (route : route.Route) (w : way.Way) (marks : List Bool) (is_way : w ≡ way_of route (keeper_state i)) (is_marks : marks ≡ union_of i.marked (pages_with (length i.marked) (chunks_from i.later 0))) where
    pub begun-view : keeper_state (record i { later = i.snapshot; snapshot = i.later; marked = marks; stage = DataFlush; way = w; from = 0; logged = 0; head = false }) ≡ after_begin route (keeper_state i)
    begun-view =
        let k = keeper_state i in
        let m : marks ≡ marked_with i.header i.marked (chunks_with i.header (union_of i.later.bits i.snapshot.bits)) =
        is_marks ∙ ap (λ (n : ℕ). union_of i.marked (pages_with n (chunks_from i.later 0))) kept.keeping.marked_size ∙ ap (λ (cs : List ℕ). union_of i.marked (pages_with (pages_of i.header) cs)) owed-chunks
        in
        ap (λ (xs : List Bool). record (keeper_state i) { stage = DataFlush; way = w; owed = xs; snapshot = i.later.bits; marked = marks; logged = 0; head = false }) owed-swapped
        ∙ ap (λ (xs : List Bool). record (keeper_state i) { stage = DataFlush; way = w; snapshot = xs; marked = marks; logged = 0; head = false }) (sym owed-later)
        ∙ ap (λ (xs : List Bool). record (keeper_state i) { stage = DataFlush; way = w; snapshot = union_of i.later.bits i.snapshot.bits; marked = xs; logged = 0; head = false }) m
        ∙ ap (λ (v : way.Way). record (keeper_state i) { stage = DataFlush; way = v; snapshot = union_of i.later.bits i.snapshot.bits; marked = marked_with i.header i.marked (chunks_with i.header (union_of i.later.bits i.snapshot.bits)); logged = 0; head = false }) is_way

    pub begun-keeper : ((t : ℕ) → route ≡ routes.Recycle t → t ≤ i.header.tracked) → is_worn_out route (keeper_state i) ≡ false → IsKeeper (record i { later = i.snapshot; snapshot = i.later; marked = marks; stage = DataFlush; way = w; from = 0; logged = 0; head = false })
    begun-keeper tracked worn = record {
      keeping = subst IsKeeping (sym begun-view) (begun-kept route (keeper_state i) kept.keeping tracked worn no-puts);
      stale_chunk = kept.stale_chunk;
      later_chunk = kept.snapshot_chunk;
      snapshot_chunk = kept.later_chunk;
      later_size = kept.keeping.snapshot_size;
      apart = λ b snap later. kept.apart b later snap;
      put_in_stage = inr (inr no-puts);
      logged = omega arith;
      rest = chunks-with i.header i.later kept.later_chunk kept.later_size;
    }

-- ---- stages of a flush under way

pub settling-possible : (k : KeeperState) (s : Stage) → IsKeeping k → k.stage ≡ s → (s ≡ Rest → ⊥) → (s ≡ Broken → ⊥) → IsPossible k
settling-possible k s kept e rest after_break = is-possible k kept (λ r. rest (sym e ∙ r)) (λ b. after_break (sym e ∙ b))

pub staged-kept : (k : KeeperState) (s : Stage) (puts : List Bool) → IsKeeping k → IsPossible k → length puts ≡ pages_of k.header → (s ≡ Rest → ⊥) → (s ≡ Broken → ⊥) → IsKeeping (record k { stage = s; put = puts })
staged-kept k s puts kept p size rest after_break = record {
  valid = kept.valid;
  version = kept.version;
  slots = kept.slots;
  stale_size = kept.stale_size;
  owed_size = kept.owed_size;
  snapshot_size = kept.snapshot_size;
  marked_size = kept.marked_size;
  put_size = size;
  apart = kept.apart;
  part = kept.part;
  at_rest = λ e. absurd (elim e [ inl r ↦ rest r | inr b ↦ after_break b ]);
  under_way = inr (inr (record { slots = p.slots; generation = p.generation; tracked = p.tracked }));
}

pub staged-keeper : (i : Inside) (s : Stage) (puts : List Bool) → IsKeeper i → IsPossible (keeper_state i) → length puts ≡ pages_of i.header → (s ≡ Rest → ⊥) → (s ≡ Broken → ⊥) → (s ≡ Puts) ⊎ ((s ≡ Syncs) ⊎ (puts ≡ no_marks (pages_of i.header))) → IsKeeper (record i { stage = s; put = puts })
staged-keeper i s puts kept p size rest after_break put_in_stage = record {
  keeping = staged-kept (keeper_state i) s puts kept.keeping p size rest after_break;
  stale_chunk = kept.stale_chunk;
  later_chunk = kept.later_chunk;
  snapshot_chunk = kept.snapshot_chunk;
  later_size = kept.later_size;
  apart = kept.apart;
  put_in_stage = put_in_stage;
  logged = kept.logged;
  rest = kept.rest;
}

-- the stages that come after
pub record IsOnward (s : Stage) : Type 0 where
  pub rest : s ≡ Rest → ⊥
  pub broken : s ≡ Broken → ⊥

pub puts-onward : IsOnward Puts
puts-onward = record { rest = λ e. absurd cc; broken = λ e. absurd cc }

pub syncs-onward : IsOnward Syncs
syncs-onward = record { rest = λ e. absurd cc; broken = λ e. absurd cc }

pub seals-onward : IsOnward Seals
seals-onward = record { rest = λ e. absurd cc; broken = λ e. absurd cc }

pub data-onward : IsOnward DataFlush
data-onward = record { rest = λ e. absurd cc; broken = λ e. absurd cc }

pub after-data-onward : (w : way.Way) → IsOnward (after_data w)
after-data-onward ways.Nothing = seals-onward
after-data-onward ways.Records = puts-onward
after-data-onward (ways.Recycle t) = puts-onward

chosen-onward : (b : Bool) (s t : Stage) → IsOnward s → IsOnward t → IsOnward (cond b s t)
chosen-onward true s t a c = a
chosen-onward false s t a c = c

pub after-sync-onward : (head : Bool) (w : way.Way) → IsOnward (after_sync head w)
after-sync-onward head ways.Nothing = seals-onward
after-sync-onward head ways.Records = seals-onward
after-sync-onward head (ways.Recycle t) = chosen-onward head Seals Puts seals-onward puts-onward

pub after-put-onward : (k : KeeperState) (w : way.Way) → IsOnward (after_put k w)
after-put-onward k ways.Nothing = syncs-onward
after-put-onward k ways.Records = chosen-onward (nat_lt k.logged (length (chunks_with k.header k.snapshot))) Puts Syncs puts-onward syncs-onward
after-put-onward k (ways.Recycle t) = chosen-onward (not k.head && not (none_of k.marked)) Puts Syncs puts-onward syncs-onward

chosen-puts : (b : Bool) → (cond b Puts Syncs ≡ Puts) ⊎ (cond b Puts Syncs ≡ Syncs)
chosen-puts true = inl refl
chosen-puts false = inr refl

pub after-put-in-stage : (k : KeeperState) (w : way.Way) → (after_put k w ≡ Puts) ⊎ (after_put k w ≡ Syncs)
after-put-in-stage k ways.Nothing = inr refl
after-put-in-stage k ways.Records = chosen-puts (nat_lt k.logged (length (chunks_with k.header k.snapshot)))
after-put-in-stage k (ways.Recycle t) = chosen-puts (not k.head && not (none_of k.marked))

-- no put is to be made durable at the other stages
pub none-put-elsewhere : (i : Inside) (s : Stage) → IsKeeper i → i.stage ≡ s → (s ≡ Puts → ⊥) → (s ≡ Syncs → ⊥) → i.put ≡ no_marks (pages_of i.header)
none-put-elsewhere i s kept e puts syncs = elim kept.put_in_stage [
  | inl p ↦ absurd (puts (sym e ∙ p))
  | inr other ↦ elim other [ inl y ↦ absurd (syncs (sym e ∙ y)) | inr none ↦ none ]
]

-- ---- going on

pub gone-on-data : (k : KeeperState) (s : Stage) → s ≡ DataFlush → record k { stage = after_data k.way } ≡ after_call s k
unfolding after_call
gone-on-data k s e = ap (λ (x : Stage). after_call x k) (sym e)

pub gone-on-puts : (k : KeeperState) (s t : Stage) → s ≡ Puts → t ≡ after_put k k.way → record k { stage = t } ≡ after_call s k
unfolding after_call
gone-on-puts k s t e is = ap (λ (x : Stage). record k { stage = x }) is ∙ ap (λ (x : Stage). after_call x k) (sym e)

pub gone-on-syncs : (k : KeeperState) (s t : Stage) (puts : List Bool) → s ≡ Syncs → t ≡ after_sync k.head k.way → puts ≡ no_marks (pages_of k.header) → record k { stage = t; put = puts } ≡ after_call s k
unfolding after_call
gone-on-syncs k s t puts e is none =
    ap (λ (x : Stage). record k { stage = x; put = puts }) is ∙ ap (λ (xs : List Bool). record k { stage = after_sync k.head k.way; put = xs }) none ∙ ap (λ (x : Stage). after_call x k) (sym e)

pub gone-nowhere : (k : KeeperState) (s : Stage) → (s ≡ Rest) ⊎ ((s ≡ Seals) ⊎ (s ≡ Broken)) → k ≡ after_call s k
unfolding after_call
gone-nowhere k s e = elim e [
  | inl r ↦ ap (λ (x : Stage). after_call x k) (sym r)
  | inr other ↦ elim other [ inl x ↦ ap (λ (y : Stage). after_call y k) (sym x) | inr b ↦ ap (λ (y : Stage). after_call y k) (sym b) ]
]

pub no-puts-left : (i : Inside) → IsKeeper i → replicate (length i.put) false ≡ no_marks (pages_of i.header)
no-puts-left i kept = ap (λ (n : ℕ). replicate n false) kept.keeping.put_size
