-- What passes work on: the disk's shape, its fresh blocks, the passes and the entries of their history.
use Rattle.std.specs.Prelude.{ℕ, Bool, List, [], ◌∷◌, ◌++◌, true, slice_set}
use Rattle.vd_law.specs.Entries.{Entry}
use Rattle.vd_passes.specs.declared.shape.Shape.{Shape}
use Rattle.vd_passes.specs.declared.pass.Pass.{Pass}

pub record RequestState : Type 0 where
  pub shape : Shape
  -- the blocks that are local now
  pub fresh : List Bool
  pub passes : List Pass
  pub entries : List Entry

abbrev pub requests : Shape → List Bool → List Pass → List Entry → RequestState
requests shape fresh passes entries = record { shape = shape; fresh = fresh; passes = passes; entries = entries }

-- What a step changes: one pass, beside it the history, a block that is local from now on.

abbrev pub with_pass : ℕ → Pass → RequestState → RequestState
with_pass i p r = record r { passes = slice_set r.passes i p }

abbrev pub with_entries : List Entry → RequestState → RequestState
with_entries more r = record r { entries = r.entries ++ more }

abbrev pub with_entry : Entry → RequestState → RequestState
with_entry e r = with_entries (e ∷ []) r

abbrev pub with_fresh : (block : ℕ) → RequestState → RequestState
with_fresh block r = record r { fresh = slice_set r.fresh block true }
