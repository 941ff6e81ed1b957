-- What the serving of one request asks and leaves.
use Rattle.std.specs.Prelude.{ℕ, ◌≡◌, ◌⊎◌, ◌+◌, ◌*◌, ◌≤◌, true, List, [], ◌∷◌, ◌++◌, length, Option, Some, slice_get}
use Rattle.std.specs.List.{AllByRecursion}
use Rattle.vd_law.specs.declared.entry.Room.{Room}
use Rattle.vd_law.specs.Entries.{Asked, Entry, Ask}
use Rattle.vd_law.specs.Rules.{IsInside}
use Rattle.vd_keeper.specs.Keeping.{KeeperState}
use Rattle.vd_passes.specs.declared.shape.Shape.{Shape}
use Rattle.vd_passes.specs.declared.pass.Pass.{Pass}
use Rattle.vd_machine.specs.Views.{View}
use Rattle.vd_machine.specs.Asking.{HasSize, Suffices}
use Rattle.vd_run.specs.Serving.{IsResting, requests_in}
use Rattle.vd_law.specs.Needs.{request_room}

-- The request can be served: it is in order, and the spare room suffices for it.
pub record CanServe (request : Asked) (shape : Shape) (passes : List Pass) (flusher : Option ℕ) (left : Room) : Type 0 where
  pub resting : IsResting passes flusher
  pub size : HasSize request
  pub inside : IsInside (shape.block * shape.blocks) request
  pub room : Suffices (request_room shape.block request) left

-- this, and the room of one flush more
abbrev pub with_flush : Room → Room
with_flush need = record { events = need.events + 2; sectors = need.sectors }

-- an Ask is one of this pass
abbrev pub IsAskOf : (pass : ℕ) → Entry → Type 0
IsAskOf pass (Ask id request) = id.pass ≡ pass
IsAskOf pass e = Unit {0}

-- Pass 1, and no other, has asked one more request, for which no more of the spare room was used than it needs.
pub record Serves (request : Asked) (block : ℕ) (entries entries' : List Entry) (left left' : Room) : Type 0 where
  pub asked : requests_in entries' 1 ≡ requests_in entries 1 ++ request ∷ []
  pub alone : AllByRecursion (IsAskOf 1) entries → AllByRecursion (IsAskOf 1) entries'
  pub events_left : left.events ≤ left'.events + (request_room block request).events
  pub sectors_left : left.sectors ≤ left'.sectors + (request_room block request).sectors

-- every image has the block, or the next flush logs it
abbrev pub IsToLog : KeeperState → (block : ℕ) → Type 0
IsToLog k block = (slice_get k.stale block ≡ Some true) ⊎ (slice_get k.owed block ≡ Some true)

-- Each block that was to be logged is one that every image has now.
abbrev pub AreLogged : (k k' : KeeperState) → Type 0
AreLogged k k' = (block : ℕ) → IsToLog k block → slice_get k'.stale block ≡ Some true

-- the disk and its storage are the same, and it is the core that was made
pub record IsSameDisk {S B : Type 0} (core core' : View S B) : Type 0 where
  pub fixed : core'.fixed ≡ core.fixed
  pub shape : core'.shape ≡ core.shape
  pub chunks : length core'.table.chunks ≡ length core.table.chunks
  pub storage : core'.table.storage ≡ core.table.storage
