-- Why a flush is answered that the generation is the last.
use Rattle.std.specs.Prelude.{ℕ, ◌≡◌, ◌+◌, ◌≤◌, ◌&&◌, Bool, true, false, not, List, take, Option, Some, is_some, slice_get}
use Rattle.std.specs.List.{count_by}
use Rattle.vd_law.specs.declared.entry.CallId.{CallId}
use Rattle.vd_law.specs.declared.entry.Answer.TheVariants.{Worn}
use Rattle.vd_law.specs.Entries.{Flush, Entry, Ask, Reply, same_call}
use Rattle.vd_keeper.specs.Keeping.{KeeperState}
use Rattle.vd_keeper.specs.Flushes.{last_generation}
use Rattle.vd_passes.specs.declared.pass.Pass.{Pass}
use Rattle.vd_passes.specs.declared.pass.Phase.{Phase}
use Rattle.vd_passes.specs.declared.pass.Phase.TheVariants.{Asked, Flushing, Ready}
use Rattle.vd_passes.specs.declared.pass.Fault.{Fault}
use Rattle.vd_passes.specs.declared.pass.Fault.TheVariants as fault
use Rattle.vd_passes.specs.Requests.{RequestState}

-- the entry asks a flush
abbrev pub asks_flush : Entry → Bool
asks_flush (Ask id Flush) = true
asks_flush _ = false

-- the entry asks a flush, and is of another call
abbrev pub asks_other_flush : CallId → Entry → Bool
asks_other_flush id (Ask other Flush) = not (same_call other id)
asks_other_flush id _ = false

-- Each Worn of the history carries the last generation, which the generation at opening and the flushes that other calls had asked
-- before reach.
abbrev pub AreWornsCaused : (generation : ℕ) → List Entry → Type 0
AreWornsCaused generation history = (to : ℕ) (id : CallId) (n : ℕ) → slice_get history to ≡ Some (Reply id (Worn n))
    → (n ≡ last_generation) × (last_generation ≤ generation + count_by (asks_other_flush id) (take to history))

-- whether a flush at this point has still raised no generation: it isn't sealed
abbrev pub is_unsealed_in : Phase → Option Fault → Bool
is_unsealed_in Asked why = true
is_unsealed_in Flushing why = true
is_unsealed_in Ready why = is_some why
is_unsealed_in _ why = false

-- the pass has a flush that was asked and isn't sealed
abbrev pub is_unsealed : Pass → Bool
is_unsealed p = p.flush && is_unsealed_in p.phase p.fault

-- What is kept of a core whose generation at opening was this: the generation now and the flushes that may still raise it, or have
-- raised none, are no more than the one at opening and the flushes asked; and who is to answer Worn has found the last generation.
pub record RisesAddUp (at_opening : ℕ) (k : KeeperState) (r : RequestState) : Type 0 where
  pub caused : AreWornsCaused at_opening r.entries
  pub now : k.header.generation + count_by is_unsealed r.passes ≤ at_opening + count_by asks_flush r.entries
  pub worn : (i : ℕ) (p : Pass) (n : ℕ) → slice_get r.passes i ≡ Some p → p.phase ≡ Ready → p.fault ≡ Some (fault.Worn n)
      → (n ≡ last_generation) × (last_generation ≤ k.header.generation)
