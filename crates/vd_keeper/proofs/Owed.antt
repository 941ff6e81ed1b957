-- What owing a block makes of what a keeper keeps.
use Rattle.std.proofs.Common.{◌≡◌, ◌⊎◌, ⊎_elim, inl, inr, ℕ, zero, suc, ◌-◌, ◌<◌, Bool, true, false, not, List, [], ◌∷◌, length, get_or, set, Some, sym, ap, ◌∙◌, arith, subst, length-set, get_or-set_same, get_or-set_other}
use Rattle.std.specs.Prelude.{◌||◌}
use Rattle.std.specs.List.{slice_get}
use Rattle.std.proofs.lemmas.Bool.{cases_eq, or_cases, and_parts, not-true, or_left, or_right, false≢true, cond-true, cond-false}
use Rattle.std.proofs.lemmas.Option.{slice_get-get_or, get_or_from_slice_get, slice_get_within}
use Rattle.vd_lists.proofs.Changes.{slice_set_unchanged}
use Rattle.vd_format.specs.Layouts.{blocks_of}
use Rattle.vd_keeper.specs.declared.keeper.Keeper.TheInside.{Inside}
use Rattle.vd_keeper.specs.Keeping.{KeeperState, AreDisjoint, no_marks}
use Rattle.vd_keeper.specs.Entries.{union_of}
use Rattle.vd_keeper.specs.Flushes.{IsKeeping}
use Rattle.vd_keeper.specs.Moves.{difference_of, after_owe, after_adopt}
use Rattle.vd_keeper.specs.KeeperFields.{keeper_state, IsKeeper}
use Rattle.vd_keeper.proofs.Rows.{get_or-either, get_or-without, length-either, length-without, same_rows, within, either-nothing, get_or-nothing}

-- a true value, two ways
pub is-true : (xs : List Bool) (i : ℕ) → slice_get xs i ≡ Some true → get_or xs i false ≡ true
is-true xs i is = get_or_from_slice_get xs i true false is

pub there : (xs : List Bool) (i : ℕ) → get_or xs i false ≡ true → slice_get xs i ≡ Some true
there xs i is = slice_get-get_or xs i false (within xs i is) ∙ ap (λ (b : Bool). Some b) is

pub either-left : (xs ys : List Bool) (i : ℕ) → slice_get xs i ≡ Some true → slice_get (union_of xs ys) i ≡ Some true
either-left xs ys i is = there (union_of xs ys) i (get_or-either xs ys i ∙ or_left (get_or xs i false) (get_or ys i false) (is-true xs i is))

pub either-right : (xs ys : List Bool) (i : ℕ) → slice_get ys i ≡ Some true → slice_get (union_of xs ys) i ≡ Some true
either-right xs ys i is = there (union_of xs ys) i (get_or-either xs ys i ∙ or_right (get_or xs i false) (get_or ys i false) (is-true ys i is))

pub either-cases : (xs ys : List Bool) (i : ℕ) → slice_get (union_of xs ys) i ≡ Some true → (slice_get xs i ≡ Some true) ⊎ (slice_get ys i ≡ Some true)
either-cases xs ys i is = elim (or_cases (get_or xs i false) (get_or ys i false) (sym (get_or-either xs ys i) ∙ is-true (union_of xs ys) i is)) [
  | inl left ↦ inl (there xs i left)
  | inr right ↦ inr (there ys i right)
]

inside-either : (xs ys : List Bool) (i : ℕ) → i < length xs → i < length (union_of xs ys)
inside-either [] ys i h = absurd (omega arith)
inside-either (x ∷ xs) [] i h = h
inside-either (x ∷ xs) (y ∷ ys) zero h = omega arith
inside-either (x ∷ xs) (y ∷ ys) (suc i) h =
    let r : i < length (union_of xs ys) = inside-either xs ys i (omega arith) in
    omega (arith, r)

pub either-of : (xs ys : List Bool) (i : ℕ) (y : Bool) → slice_get xs i ≡ Some false → slice_get ys i ≡ Some y → slice_get (union_of xs ys) i ≡ Some y
either-of xs ys i y none is =
    let value : get_or (union_of xs ys) i false ≡ y = get_or-either xs ys i ∙ ap (λ (b : Bool). b || get_or ys i false) (get_or_from_slice_get xs i false false none) ∙ get_or_from_slice_get ys i y false is in
    slice_get-get_or (union_of xs ys) i false (inside-either xs ys i (slice_get_within xs i false none)) ∙ ap (λ (b : Bool). Some b) value

pub without-parts : (xs ys : List Bool) (i : ℕ) → slice_get (difference_of xs ys) i ≡ Some true → (slice_get xs i ≡ Some true) × (get_or ys i false ≡ false)
without-parts xs ys i is =
    let parts = and_parts (get_or xs i false) (not (get_or ys i false)) (sym (get_or-without xs ys i) ∙ is-true (difference_of xs ys) i is) in
    (there xs i parts.0, not-true (get_or ys i false) parts.1)

-- what is false isn't true
pub not-there : (xs : List Bool) (i : ℕ) → get_or xs i false ≡ false → slice_get xs i ≡ Some true → ⊥
not-there xs i off is = false≢true (sym off ∙ is-true xs i is)

pub off : (xs : List Bool) (i : ℕ) → slice_get xs i ≡ Some false → get_or xs i false ≡ false
off xs i is = get_or_from_slice_get xs i false false is

pub either-set : (xs ys : List Bool) (i : ℕ) → length xs ≡ length ys → i < length xs → union_of (set xs i true) ys ≡ set (union_of xs ys) i true
either-set xs ys i size inside =
    let sizes : length (set xs i true) ≡ length ys = length-set xs i true ∙ size in
    same_rows (union_of (set xs i true) ys) (set (union_of xs ys) i true) (length-either (set xs i true) ys sizes ∙ length-set xs i true ∙ sym (length-either xs ys size) ∙ sym (length-set (union_of xs ys) i true))
    (λ j h.
    get_or-either (set xs i true) ys j
    ∙ ⊎_elim
    (λ (e : j ≡ i).
    ap (λ (n : ℕ). get_or (set xs i true) n false || get_or ys n false) e
    ∙ ap (λ (x : Bool). x || get_or ys i false) (get_or-set_same xs i true false inside)
    ∙ sym (ap (λ (n : ℕ). get_or (set (union_of xs ys) i true) n false) e ∙ get_or-set_same (union_of xs ys) i true false (omega (arith, length-either xs ys size))))
    (λ (ne : j ≡ i → ⊥).
    ap (λ (x : Bool). x || get_or ys j false) (get_or-set_other xs i j true false ne)
    ∙ sym (get_or-either xs ys j)
    ∙ sym (get_or-set_other (union_of xs ys) i j true false ne))
    (cases_eq j i))

-- only what is owed changes
pub kept-owed : (k : KeeperState) (owed : List Bool) → IsKeeping k → length owed ≡ blocks_of k.header → AreDisjoint owed k.stale → ((b : ℕ) → slice_get k.snapshot b ≡ Some true → slice_get owed b ≡ Some true) → IsKeeping (record k { owed = owed })
kept-owed k owed kept size apart part = record {
  valid = kept.valid;
  version = kept.version;
  slots = kept.slots;
  stale_size = kept.stale_size;
  owed_size = size;
  snapshot_size = kept.snapshot_size;
  marked_size = kept.marked_size;
  put_size = kept.put_size;
  apart = apart;
  part = part;
  at_rest = kept.at_rest;
  under_way = elim kept.under_way [
    | inl rest ↦ inl rest
    | inr other ↦ elim other [ inl broken ↦ inr (inl broken) | inr p ↦ inr (inr (record { slots = p.slots; generation = p.generation; tracked = p.tracked })) ]
  ];
}

-- ---- a block comes to be owed

module _ (i : Inside) (block : ℕ) (kept : IsKeeper i) (inside : block < blocks_of i.header) where
  sizes : length i.later.bits ≡ length i.snapshot.bits
  sizes = kept.later_size ∙ sym kept.keeping.snapshot_size

  added : union_of (set i.later.bits block true) i.snapshot.bits ≡ set (union_of i.later.bits i.snapshot.bits) block true
  added = either-set i.later.bits i.snapshot.bits block sizes (omega (arith, kept.later_size))

  set-cases : (xs : List Bool) (b : ℕ) → slice_get (set xs block true) b ≡ Some true → (b ≡ block) ⊎ (slice_get xs b ≡ Some true)
  set-cases xs b is = ⊎_elim (λ (e : b ≡ block). inl e) (λ (ne : b ≡ block → ⊥). inr (there xs b (sym (get_or-set_other xs block b true false ne) ∙ is-true (set xs block true) b is))) (cases_eq b block)

  still-set : (xs : List Bool) (b : ℕ) → slice_get xs b ≡ Some true → slice_get (set xs block true) b ≡ Some true
  still-set xs b is =
      ⊎_elim
      (λ (e : b ≡ block). there (set xs block true) b (ap (λ (n : ℕ). get_or (set xs block true) n false) e ∙ get_or-set_same xs block true false (subst (λ (n : ℕ). n < length xs) e (slice_get_within xs b true is))))
      (λ (ne : b ≡ block → ⊥). there (set xs block true) b (get_or-set_other xs block b true false ne ∙ is-true xs b is))
      (cases_eq b block)

  pub owed-kept : get_or i.stale.bits block false ≡ false → get_or i.snapshot.bits block false ≡ false → IsKeeper (record i { later = record { chunk = i.later.chunk; bits = set i.later.bits block true } })
  owed-kept fresh_block later_block =
      let k = kept.keeping in
      record {
        keeping =
            let owed : List Bool = set (union_of i.later.bits i.snapshot.bits) block true in
            subst (λ (xs : List Bool). IsKeeping (record (keeper_state i) { owed = xs })) (sym added)
            (kept-owed (keeper_state i) owed k (length-set (union_of i.later.bits i.snapshot.bits) block true ∙ k.owed_size)
            (λ b is stale. elim (set-cases (union_of i.later.bits i.snapshot.bits) b is) [ inl e ↦ not-there i.stale.bits block fresh_block (subst (λ (n : ℕ). slice_get i.stale.bits n ≡ Some true) e stale) | inr was ↦ k.apart b was stale ])
            (λ b is. still-set (union_of i.later.bits i.snapshot.bits) b (k.part b is)));
        stale_chunk = kept.stale_chunk;
        later_chunk = kept.later_chunk;
        snapshot_chunk = kept.snapshot_chunk;
        later_size = length-set i.later.bits block true ∙ kept.later_size;
        apart = λ b is snap. elim (set-cases i.later.bits b is) [ inl e ↦ not-there i.snapshot.bits block later_block (subst (λ (n : ℕ). slice_get i.snapshot.bits n ≡ Some true) e snap) | inr was ↦ kept.apart b was snap ];
        put_in_stage = kept.put_in_stage;
        logged = kept.logged;
        rest = kept.rest;
      }

  pub owed-view : get_or i.stale.bits block false ≡ false → keeper_state (record i { later = record { chunk = i.later.chunk; bits = set i.later.bits block true } }) ≡ after_owe block (keeper_state i)
  owed-view fresh_block =
      ap (λ (xs : List Bool). record (keeper_state i) { owed = xs }) added
      ∙ sym (cond-false (get_or i.stale.bits block false) (keeper_state i) (record (keeper_state i) { owed = set (union_of i.later.bits i.snapshot.bits) block true }) fresh_block)

  -- it is stale
  pub stale-view : get_or i.stale.bits block false ≡ true → keeper_state i ≡ after_owe block (keeper_state i)
  stale-view stale = sym (cond-true (get_or i.stale.bits block false) (keeper_state i) (record (keeper_state i) { owed = set (union_of i.later.bits i.snapshot.bits) block true }) stale)

  -- the flush under way logs it
  pub logged-view : get_or i.stale.bits block false ≡ false → slice_get i.snapshot.bits block ≡ Some true → keeper_state i ≡ after_owe block (keeper_state i)
  logged-view fresh_block is =
      ap (λ (xs : List Bool). record (keeper_state i) { owed = xs }) (sym (slice_set_unchanged (union_of i.later.bits i.snapshot.bits) block true (either-right i.later.bits i.snapshot.bits block is)))
      ∙ sym (cond-false (get_or i.stale.bits block false) (keeper_state i) (record (keeper_state i) { owed = set (union_of i.later.bits i.snapshot.bits) block true }) fresh_block)

-- all fresh blocks come to be owed, at rest
module _ (i : Inside) (fresh : List Bool) (kept : IsKeeper i) (size : length fresh ≡ blocks_of i.header) (none : i.snapshot.bits ≡ no_marks (blocks_of i.header)) where
  pub all-owed : (xs : List Bool) → length xs ≡ blocks_of i.header → union_of xs i.snapshot.bits ≡ xs
  all-owed xs sizes = ap (λ (ys : List Bool). union_of xs ys) none ∙ either-nothing xs (blocks_of i.header) sizes

  more-size : length i.later.bits ≡ length (difference_of fresh i.stale.bits)
  more-size = kept.later_size ∙ sym size ∙ sym (length-without fresh i.stale.bits)

  both-size : length (union_of i.later.bits (difference_of fresh i.stale.bits)) ≡ blocks_of i.header
  both-size = length-either i.later.bits (difference_of fresh i.stale.bits) more-size ∙ kept.later_size

  -- both ways
  adopted : union_of (union_of i.later.bits (difference_of fresh i.stale.bits)) i.snapshot.bits ≡ union_of (union_of i.later.bits i.snapshot.bits) (difference_of fresh i.stale.bits)
  adopted = all-owed (union_of i.later.bits (difference_of fresh i.stale.bits)) both-size ∙ ap (λ (xs : List Bool). union_of xs (difference_of fresh i.stale.bits)) (sym (all-owed i.later.bits kept.later_size))

  pub adopted-view : keeper_state (record i { later = record { chunk = i.later.chunk; bits = union_of i.later.bits (difference_of fresh i.stale.bits) } }) ≡ after_adopt fresh (keeper_state i)
  adopted-view = ap (λ (xs : List Bool). record (keeper_state i) { owed = xs }) adopted

  pub adopted-kept : IsKeeper (record i { later = record { chunk = i.later.chunk; bits = union_of i.later.bits (difference_of fresh i.stale.bits) } })
  adopted-kept =
      let k = kept.keeping in
      let snap : (b : ℕ) → slice_get i.snapshot.bits b ≡ Some true → ⊥ = λ b is. not-there i.snapshot.bits b (ap (λ (xs : List Bool). get_or xs b false) none ∙ get_or-nothing (blocks_of i.header) b) is in
      record {
        keeping =
            subst (λ (xs : List Bool). IsKeeping (record (keeper_state i) { owed = xs })) (sym (all-owed (union_of i.later.bits (difference_of fresh i.stale.bits)) both-size))
            (kept-owed (keeper_state i) (union_of i.later.bits (difference_of fresh i.stale.bits)) k both-size
            (λ b is stale. elim (either-cases i.later.bits (difference_of fresh i.stale.bits) b is) [
              | inl was ↦ k.apart b (either-left i.later.bits i.snapshot.bits b was) stale
              | inr new ↦ not-there i.stale.bits b (without-parts fresh i.stale.bits b new).1 stale
            ])
            (λ b is. absurd (snap b is)));
        stale_chunk = kept.stale_chunk;
        later_chunk = kept.later_chunk;
        snapshot_chunk = kept.snapshot_chunk;
        later_size = both-size;
        apart = λ b is s. snap b s;
        put_in_stage = kept.put_in_stage;
        logged = kept.logged;
        rest = kept.rest;
      }
