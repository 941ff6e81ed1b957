-- A core as it is made.
use Rattle.std.specs.Prelude.{ℕ, ◌≡◌, ◌≤◌, min, List, [], true, false, None, IsSome, length, replicate, Some, slice_get}
use Rattle.std.specs.List.{AllByRecursion}
use Rattle.vd_device.specs.declared.store.Store as store
use Rattle.vd_device.specs.declared.base.Base as base
use Rattle.vd_law.specs.declared.entry.Room.{Room}
use Rattle.vd_law.specs.declared.entry.CallId.{CallId}
use Rattle.vd_law.specs.Entries.{Entry, past}
use Rattle.vd_law.specs.Calls.{progress}
use Rattle.vd_law.specs.Histories.{HistoryState}
use Rattle.vd_format.specs.declared.header.Header.{Header}
use Rattle.vd_format.specs.Layouts.{blocks_of, storage_start}
use Rattle.vd_replay.specs.declared.state.State.{State}
use Rattle.vd_keeper.specs.declared.stage.Stage.TheVariants.{Rest}
use Rattle.vd_keeper.specs.declared.stage.Way.TheVariants.{Nothing}
use Rattle.vd_keeper.specs.Keeping.{KeeperState, no_marks, pages_of}
use Rattle.vd_passes.specs.declared.shape.Shape.{Shape}
use Rattle.vd_passes.specs.declared.pass.Pass.{Pass}
use Rattle.vd_passes.specs.Passes.{IsNew}
use Rattle.vd_machine.specs.Views.{Fixed, View}
use Rattle.vd_format.specs.Background.{zero_sector}

-- the shape of the disk of an image with this header
abbrev pub disk_shape : Header → (base_sectors : ℕ) → Shape
disk_shape h base_sectors = record {
  block = h.block;
  chunk = h.chunk;
  blocks = blocks_of h;
  tracked = h.tracked;
  limit = min base_sectors h.tracked;
  storage_at = storage_start h;
}

-- so many passes that have asked nothing yet, each with the buffer of a block
pub record AreNew (count block : ℕ) (passes : List Pass) : Type 0 where
  pub many : length passes ≡ count
  pub each : (i : ℕ) (p : Pass) → slice_get passes i ≡ Some p → IsNew (replicate block zero_sector) p

-- no entries, in this room, opened when the store has had so many events
abbrev pub empty_history : Room → (events : ℕ) → HistoryState
empty_history room events = record { log = record { entries = []; left = room; room = room }; numbers = []; opened = events }

-- what the keeper of an image knows that was opened as this state: every image has its local blocks, and nothing is owed
abbrev pub new_keeping : State → KeeperState
new_keeping s = record {
  header = s.header;
  sure = true;
  next = s.cursor.next;
  stage = Rest;
  way = Nothing;
  stale = s.fresh.bits;
  owed = no_marks (blocks_of s.header);
  snapshot = no_marks (blocks_of s.header);
  marked = s.more;
  put = no_marks (pages_of s.header);
  logged = 0;
  head = false;
}

-- what never changes of a core over these devices, whose image was opened as this state
abbrev pub fixed_for : {S B : Type 0} → State → Room → (store : S) → (base : B) → Fixed S B
fixed_for s room store base = record { store = store; base = base; header = s.header; entries = s.map; room = room }

module _ {S B : Type 0} (g : store.Ghosts S) (h : base.Ghosts B) where
  -- a core over an image that was opened as this state, in which nothing was asked
  pub record IsNewCore (s : State) (passes : ℕ) (room : Room) (store : S) (base : B) (core : View S B) : Type 0 where
    pub fixed_is : core.fixed ≡ fixed_for s room store base
    pub store_is : core.store ≡ store
    pub base_is : core.base ≡ base
    pub shape_is : core.shape ≡ disk_shape s.header (h.sectors base)
    pub table_is : core.table ≡ s.table
    pub fresh_is : core.fresh ≡ s.fresh.bits
    pub keeping_is : core.keeping ≡ new_keeping s
    pub flusher_is : core.flusher ≡ None
    pub passes_are : AreNew passes s.header.block core.passes
    pub history_is : core.history ≡ empty_history room (g.events store)
    pub spare_is : core.spare ≡ room
    pub steps_are : core.steps ≡ 0

-- each call that was asked has its Reply
abbrev pub AreReplied : List Entry → Type 0
AreReplied history = (id : CallId) → IsSome (progress (past history) id).asked → (progress (past history) id).answered ≡ true

-- the history was opened within this log, and no entry is numbered above the log's length
pub record IsNumberedIn (log : List Entry) (history : HistoryState) : Type 0 where
  pub opened : history.opened ≤ length log
  pub below : AllByRecursion (λ (n : ℕ). n ≤ length log) history.numbers
