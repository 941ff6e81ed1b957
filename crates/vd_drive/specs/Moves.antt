-- What a step of a pass leaves of a core, for whoever drives it.
use Rattle.std.specs.Prelude.{ℕ, ◌≡◌, ◌≢◌, ◌+◌, ◌-◌, ◌*◌, ◌<◌, ◌≤◌, Bool, true, false, List, ◌++◌, Some, slice_get, slice_set}
use Rattle.std.specs.List.{AllByRecursion}
use Rattle.vd_law.specs.declared.entry.Room.{Room}
use Rattle.vd_law.specs.Entries.{Entry, IsNoAsk}
use Rattle.vd_passes.specs.declared.pass.Pass.{Pass}
use Rattle.vd_passes.specs.declared.pass.Phase.{Phase}
use Rattle.vd_passes.specs.declared.pass.Phase.TheVariants.{Idle, Asked, Held, Fetching, Filled, Issuing, Looking, Flushing, Ready}
use Rattle.vd_passes.specs.Needs.{pieces_left}
use Rattle.vd_passes.specs.Passes.{answer_of}
use Rattle.vd_machine.specs.Views.{View}
use Rattle.vd_core.specs.declared.outcome.Step.{Step}
use Rattle.vd_core.specs.declared.outcome.Step.TheVariants.{Again, Late, Busy, Ended}

-- how many steps a pass in this phase makes at most until it is idle, with so many pieces left
abbrev pub steps_in_phase : Phase → (write : Bool) → (pieces : ℕ) → ℕ
steps_in_phase Idle write pieces = 0
steps_in_phase Asked true pieces = 5 * pieces + 1
steps_in_phase Asked false pieces = 3 * pieces + 1
steps_in_phase Held true pieces = 5 * pieces
steps_in_phase Held false pieces = 3 * pieces
steps_in_phase Fetching write pieces = 5 * pieces - 1
steps_in_phase Filled write pieces = 5 * pieces - 2
steps_in_phase Issuing write pieces = 5 * pieces - 3
steps_in_phase Looking write pieces = 3 * pieces - 1
steps_in_phase Flushing write pieces = 0
steps_in_phase Ready write pieces = 1

abbrev pub steps_left : (block : ℕ) → Pass → ℕ
steps_left block p = steps_in_phase p.phase p.write (pieces_left block p)

-- A step of one pass: no other pass changes, it serves the request that it served, and no entry is an Ask.
pub record Moves (i : ℕ) (p p' : Pass) (passes passes' : List Pass) (entries entries' : List Entry) : Type 0 where
  pub there : slice_get passes i ≡ Some p
  pub after : passes' ≡ slice_set passes i p'
  pub write : p'.write ≡ p.write
  pub flush : p'.flush ≡ p.flush
  pub count : p'.count ≡ p.count
  pub call : p'.call ≡ p.call
  pub more : List Entry
  pub none_asked : AllByRecursion IsNoAsk more
  pub entries_after : entries' ≡ entries ++ more

-- What the step's answer says: the pass goes on and has fewer steps left, nothing changed, or it has had its reply.
abbrev pub TellsCaller : Step → (block i : ℕ) → (p p' : Pass) → (passes passes' : List Pass) → Type 0
TellsCaller Again block i p p' passes passes' = (p'.phase ≢ Idle) × (steps_left block p' < steps_left block p)
TellsCaller Late block i p p' passes passes' = passes' ≡ passes
TellsCaller (Busy by) block i p p' passes passes' = passes' ≡ passes
TellsCaller (Ended answer) block i p p' passes passes' = (p'.phase ≡ Idle) × (answer ≡ answer_of p) × (steps_left block p' < steps_left block p)

-- How far a core has come with its requests: its passes, the entries of its history, and the room that is left.
pub record Work : Type 0 where
  pub passes : List Pass
  pub entries : List Entry
  pub left : Room

abbrev pub work : List Pass → List Entry → (left : Room) → Work
work passes entries left = record { passes = passes; entries = entries; left = left }

abbrev pub core_work : {S B : Type 0} → View S B → Work
core_work c = work c.passes c.history.log.entries c.spare

-- one step of a driver
pub record Drives (step : Step) (block i : ℕ) (s s' : Work) : Type 0 where
  pub pass : Pass
  pub pass' : Pass
  pub moves : Moves i pass pass' s.passes s'.passes s.entries s'.entries
  pub tells : TellsCaller step block i pass pass' s.passes s'.passes
  pub events_left : s.left.events ≤ s'.left.events
  pub sectors_left : s.left.sectors ≤ s'.left.sectors
