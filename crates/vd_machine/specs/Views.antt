-- A core as contracts see it.
use Rattle.std.specs.Prelude.{ℕ, ◌≡◌, ◌+◌, ◌-◌, ◌^◌, min, Bool, List, Option}
use Rattle.vd_law.specs.declared.entry.Room.{Room}
use Rattle.vd_law.specs.Histories.{HistoryState}
use Rattle.vd_format.specs.declared.header.Header.{Header}
use Rattle.vd_format.specs.declared.map.Entry.{Entry}
use Rattle.vd_table.specs.Tables.{TableState}
use Rattle.vd_keeper.specs.Keeping.{KeeperState}
use Rattle.vd_passes.specs.declared.shape.Shape.{Shape}
use Rattle.vd_passes.specs.declared.pass.Pass.{Pass}
use Rattle.vd_passes.specs.Places.{place_of}
use Rattle.vd_passes.specs.Requests.{RequestState, requests}
use Rattle.vd_machine.specs.Asking.{AskState, ask_state}
use Rattle.vd_machine.specs.Flushing.{MetaState, meta_state}

-- What never changes after a core is made.
pub record Fixed (S B : Type 0) : Type 0 where
  -- the devices, as they stood then
  pub store : S
  pub base : B
  -- the image's header and the entry of each chunk, as they were then
  pub header : Header
  pub entries : List Entry
  -- the room with which the history was made
  pub room : Room

pub record View (S B : Type 0) : Type 0 where
  pub fixed : Fixed S B
  pub store : S
  pub base : B
  pub shape : Shape
  -- the storage chunk of each chunk
  pub table : TableState
  -- the blocks that are local now
  pub fresh : List Bool
  -- the metadata: what every image says, and what a flush is to write
  pub keeping : KeeperState
  -- the pass whose flush is under way
  pub flusher : Option ℕ
  pub passes : List Pass
  pub history : HistoryState
  -- the room in the history that is neither used nor reserved
  pub spare : Room
  -- how many steps were made, up to the greatest u64
  pub steps : ℕ

-- The number of steps after one more: it stands still at the greatest u64.
abbrev pub one_step_more : ℕ → ℕ
one_step_more n = min (n + 1) (2 ^ 64 - 1)

-- nothing but the number of steps has changed
abbrev pub StandsStill : {S B : Type 0} → View S B → View S B → Type 0
StandsStill c c' = c' ≡ record c { steps = one_step_more c.steps }

-- what its passes work on
abbrev pub view_requests : {S B : Type 0} → View S B → RequestState
view_requests c = requests c.shape c.fresh c.passes c.history.log.entries

-- where each block stands in the store
abbrev pub view_places : {S B : Type 0} → View S B → ℕ → Option ℕ
view_places c = place_of c.shape c.table.chunks

-- what an ask works on
abbrev pub ask_state_of : {S B : Type 0} → View S B → AskState
ask_state_of c = ask_state c.shape c.table c.passes c.history c.spare

-- what a step of a flush works on
abbrev pub meta_state_of : {S B : Type 0} → View S B → MetaState
meta_state_of c = meta_state c.keeping (view_requests c)
