-- A new keeper.
use Rattle.std.proofs.Common.{◌≡◌, inl, inr, ℕ, ◌≤◌, Bool, true, false, List, length, sym, refl, ap, arith, subst}
use Rattle.std.proofs.lemmas.List.{length-replicate}
use Rattle.vd_bits.specs.Blocks.{Blocks}
use Rattle.vd_format.specs.declared.header.Header.{Header}
use Rattle.vd_format.specs.Headers.{IsValid}
use Rattle.vd_format.specs.Layouts.{blocks_of}
use Rattle.vd_keeper.specs.declared.keeper.Keeper.TheInside.{Inside}
use Rattle.vd_keeper.specs.declared.stage.Stage.TheVariants.{Rest}
use Rattle.vd_keeper.specs.declared.stage.Way.TheVariants as ways
use Rattle.vd_keeper.specs.Keeping.{KeeperState, no_marks, pages_of}
use Rattle.vd_keeper.specs.Flushes.{IsKeeping}
use Rattle.vd_keeper.specs.KeeperFields.{keeper_state, IsKeeper}
use Rattle.vd_keeper.proofs.Rows.{either-nothing, get_or-nothing}
use Rattle.vd_keeper.proofs.Owed.{not-there}
use Rattle.vd_keeper.proofs.Flushed.{chunks-with}

abbrev pub new-fields : Header → Blocks → List Bool → ℕ → Inside
new-fields h stale marked next = record {
  header = h;
  sure = true;
  next = next;
  stage = Rest;
  way = ways.Nothing;
  stale = stale;
  later = record { chunk = h.chunk; bits = no_marks (blocks_of h) };
  snapshot = record { chunk = h.chunk; bits = no_marks (blocks_of h) };
  marked = marked;
  put = no_marks (pages_of h);
  from = 0;
  logged = 0;
  head = false;
}

abbrev pub new-keeping : Header → Blocks → List Bool → ℕ → KeeperState
new-keeping h stale marked next = record {
  header = h;
  sure = true;
  next = next;
  stage = Rest;
  way = ways.Nothing;
  stale = stale.bits;
  owed = no_marks (blocks_of h);
  snapshot = no_marks (blocks_of h);
  marked = marked;
  put = no_marks (pages_of h);
  logged = 0;
  head = false;
}

pub new-view : (h : Header) (stale : Blocks) (marked : List Bool) (next : ℕ) → keeper_state (new-fields h stale marked next) ≡ new-keeping h stale marked next
new-view h stale marked next =
    ap (λ (xs : List Bool). record (new-keeping h stale marked next) { owed = xs }) (either-nothing (no_marks (blocks_of h)) (blocks_of h) (length-replicate (blocks_of h) false))

pub new-keeper : (h : Header) (stale : Blocks) (marked : List Bool) (next : ℕ) → IsValid h → h.version ≡ 2 → next ≤ h.slots → stale.chunk ≡ h.chunk → length stale.bits ≡ blocks_of h → length marked ≡ pages_of h → IsKeeper (new-fields h stale marked next)
new-keeper h stale marked next valid version slots chunk blocks pages =
    let none : length (no_marks (blocks_of h)) ≡ blocks_of h = length-replicate (blocks_of h) false in
    let kept : IsKeeping (new-keeping h stale marked next) = record {
      valid = valid;
      version = version;
      slots = slots;
      stale_size = blocks;
      owed_size = none;
      snapshot_size = none;
      marked_size = pages;
      put_size = length-replicate (pages_of h) false;
      apart = λ b is stale. not-there (no_marks (blocks_of h)) b (get_or-nothing (blocks_of h) b) is;
      part = λ b is. is;
      at_rest = λ e. (refl, refl);
      under_way = inl refl;
    }
    in
    record {
      keeping = subst IsKeeping (sym (new-view h stale marked next)) kept;
      stale_chunk = chunk;
      later_chunk = refl;
      snapshot_chunk = refl;
      later_size = none;
      apart = λ b is snap. not-there (no_marks (blocks_of h)) b (get_or-nothing (blocks_of h) b) is;
      put_in_stage = inr (inr refl);
      logged = omega arith;
      rest = chunks-with h (record { chunk = h.chunk; bits = no_marks (blocks_of h) }) refl none;
    }
