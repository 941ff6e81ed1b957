-- What one step of a flush leaves, for whoever drives it.
use Rattle.std.specs.Prelude.{ℕ, ◌≡◌, ◌≢◌, ◌<◌, ◌≤◌, ◌↔◌, List, [], ◌∷◌, ◌++◌, Option, Some, None}
use Rattle.vd_law.specs.declared.entry.Room.{Room}
use Rattle.vd_law.specs.Entries.{Entry, Reply}
use Rattle.vd_keeper.specs.Keeping.{KeeperState}
use Rattle.vd_passes.specs.declared.pass.Pass.{Pass}
use Rattle.vd_passes.specs.declared.pass.Phase.TheVariants.{Idle, Asked, Flushing, Ready}
use Rattle.vd_passes.specs.Passes.{call_id, answer_of}
use Rattle.vd_machine.specs.Measures.{flush_steps}
use Rattle.vd_core.specs.declared.outcome.Step.{Step}
use Rattle.vd_core.specs.declared.outcome.Step.TheVariants.{Again, Late, Busy, Ended}
use Rattle.vd_machine.specs.Views.{View}
use Rattle.vd_drive.specs.Moves.{Moves}

-- How far a core has come with its flushes: the pass whose flush is under way, the keeper, the passes, the entries of the history, and
-- the room that is left.
pub record FlushWork : Type 0 where
  pub flusher : Option ℕ
  pub keeping : KeeperState
  pub passes : List Pass
  pub entries : List Entry
  pub left : Room

abbrev pub flush_work : Option ℕ → KeeperState → List Pass → List Entry → (left : Room) → FlushWork
flush_work flusher keeping passes entries left = record { flusher = flusher; keeping = keeping; passes = passes; entries = entries; left = left }

abbrev pub flush_work_of : {S B : Type 0} → View S B → FlushWork
flush_work_of c = flush_work c.flusher c.keeping c.passes c.history.log.entries c.spare

-- What the step's answer says: the pass goes on and has fewer steps left, nothing changed, or it has had its reply. The reply is
-- the one entry that is added to the history, and a flush that is asked begins only where none is under way.
abbrev pub TellsFlush : Step → (i : ℕ) → (p p' : Pass) → (w w' : FlushWork) → Type 0
TellsFlush Again i p p' w w' =
    (p'.phase ≢ Idle) × (flush_steps w'.keeping p' < flush_steps w.keeping p) × (w'.entries ≡ w.entries) × (p.phase ≡ Asked → w.flusher ≡ None)
TellsFlush Late i p p' w w' = (w'.passes ≡ w.passes) × (w'.keeping ≡ w.keeping) × (w'.entries ≡ w.entries) × (p.phase ≡ Flushing)
TellsFlush (Busy by) i p p' w w' = (w'.passes ≡ w.passes) × (w'.keeping ≡ w.keeping) × (w'.entries ≡ w.entries)
    × (p.phase ≡ Asked) × (w.flusher ≡ Some by) × (by ≢ i)
TellsFlush (Ended answer) i p p' w w' =
    (p'.phase ≡ Idle) × (answer ≡ answer_of p) × (w'.keeping ≡ w.keeping) × (p.phase ≡ Ready)
    × (w'.entries ≡ w.entries ++ Reply (call_id i p) answer ∷ [])

-- One step of a flush. The flush under way is this pass's exactly while it flushes; another pass's goes on.
pub record DrivesFlush (step : Step) (i : ℕ) (w w' : FlushWork) : Type 0 where
  pub pass : Pass
  pub pass' : Pass
  pub moves : Moves i pass pass' w.passes w'.passes w.entries w'.entries
  pub tells : TellsFlush step i pass pass' w w'
  pub own : (pass'.phase ≡ Flushing) ↔ (w'.flusher ≡ Some i)
  pub others : (j : ℕ) → j ≢ i → (w'.flusher ≡ Some j) ↔ (w.flusher ≡ Some j)
  pub events_left : w.left.events ≤ w'.left.events
  pub sectors_left : w.left.sectors ≤ w'.left.sectors
