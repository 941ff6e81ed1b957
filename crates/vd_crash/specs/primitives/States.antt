-- A core as the primitives see it: its logs, its memory, what its passes have in flight, and the stage of its flush.
use Rattle.std.specs.Prelude.{ℕ, ◌≡◌, ◌+◌, ◌<◌, ◌⊎◌, [], Bool, true, false, List, Option, Ok}
use Rattle.vd_image.specs.Log.{Sector, CallId, Entry, Done, Broke}
use Rattle.vd_image.specs.Image.{Header, geometry_of}
use Rattle.vd_crash.specs.facts.Safe.{NumberedEntry, Opening}
use Rattle.vd_crash.specs.facts.Facts.{NoDropFrom}
use Rattle.vd_crash.specs.flushes.Flushing.{Snapshot, IsOffAfter}
use Rattle.vd_crash.specs.flushes.Stage.{Flight, Idle, HasTicket, HasBlock, HasCall, FlushProgress}
use Rattle.vd_crash.specs.primitives.Core.{Stage, Resting, StageTicket}
use Rattle.vd_crash.specs.facts.Memory.{Memory}
use Rattle.vd_format.specs.Background.{background}

-- what an issue by pass k asks of the passes: it has nothing in flight, and nobody has the block, the ticket or the call
pub record MayIssue (flights : ℕ → Flight) (stage : Stage) (k b : ℕ) (call ticket : CallId) : Type 0 where
  pub idle : flights k ≡ Idle
  pub block : (l : ℕ) → HasBlock (flights l) b → ⊥
  pub ticket_new : (l : ℕ) → HasTicket (flights l) ticket → ⊥
  pub stage_new : StageTicket stage ticket → ⊥
  pub call_new : (l : ℕ) → HasCall (flights l) call → ⊥

-- what a copy by pass k asks of them: it has nothing in flight, and nobody has the block or the ticket
pub record MayCopy (flights : ℕ → Flight) (stage : Stage) (k b : ℕ) (ticket : CallId) : Type 0 where
  pub idle : flights k ≡ Idle
  pub block : (l : ℕ) → HasBlock (flights l) b → ⊥
  pub ticket_new : (l : ℕ) → HasTicket (flights l) ticket → ⊥
  pub stage_new : StageTicket stage ticket → ⊥

-- no pass's write is ended by this event
abbrev pub EndsNone : (ℕ → Flight) → Entry → Type 0
EndsNone flights e = (k : ℕ) (t : CallId) → HasTicket (flights k) t → (Done t ≡ e) ⊎ (Broke t ≡ e) → ⊥

-- nothing is put yet, and these chunks' pages of the map need no put
abbrev pub nothing_put : Snapshot → ℕ → (ℕ → Bool) → FlushProgress
nothing_put snapshot first paged = record { snapshot = snapshot; first = first; by = 0; recorded = λ b. false; written = λ c. false; slotted = λ b. false; paged = paged }

-- a chunk whose page of the map isn't marked, of which nothing new is logged, and that wasn't discarded since the snapshot
pub record HasCleanPage (o : Opening) (history : List NumberedEntry) (drops : ℕ → Option ℕ) (marked : ℕ → Bool) (snapshot : Snapshot) (c : ℕ) : Type 0 where
  pub within : c < o.layout.chunks
  pub unmarked : marked (o.layout.map_at c) ≡ false
  pub none : (b : ℕ) → snapshot.blocks b ≡ true → o.layout.chunk_of b ≡ c → ⊥
  pub not_lost : snapshot.lost c ≡ false
  pub no_drop : NoDropFrom drops history snapshot.begun c

-- A core, by its logs, its memory, its passes and its flush. A page of the map is marked, by its sector, where a recycle
-- must write it; it stays so while a put of it isn't flushed.
pub record State : Type 0 where
  pub log : List Entry
  pub history : List NumberedEntry
  pub memory : Memory
  pub marked : ℕ → Bool
  pub flights : ℕ → Flight
  pub stage : Stage

abbrev pub state : List Entry → List NumberedEntry → Memory → (ℕ → Bool) → (ℕ → Flight) → Stage → State
state log history memory marked flights stage = record { log = log; history = history; memory = memory; marked = marked; flights = flights; stage = stage }

-- the header is of the next generation, by which the background is the start's but for blocks that are wanted
pub record IsNextHeader (o : Opening) (m : Memory) (p : FlushProgress) (v : Sector) (next : Header) (tried : ℕ → Bool) : Type 0 where
  pub reads : o.format.header_of v ≡ Ok next
  pub geometry : geometry_of next ≡ o.layout.geometry
  pub generation : next.generation ≡ m.index.generation + 1
  pub background : (s : ℕ) → s < o.layout.size → m.index.off_base (o.layout.block_of s) ≡ false → (background o.base o.zeros next.tracked s ≡ o.disk s) ⊎ (tried (o.layout.block_of s) ≡ true)
  pub wider : (b : ℕ) → m.index.tried b ≡ true → tried b ≡ true
  pub wanted : (b : ℕ) → tried b ≡ true → IsOffAfter o m p.snapshot b
  pub paged : (c : ℕ) → c < o.layout.chunks → p.paged c ≡ true

-- nothing is in flight
abbrev pub at_rest : List Entry → Memory → (ℕ → Bool) → State
at_rest log m marked = state log [] m marked (λ k. Idle) Resting

-- A core after a step that leaves its marks and its flush
abbrev pub moved : State → List Entry → List NumberedEntry → Memory → (ℕ → Flight) → State
moved s log history m flights = state log history m s.marked flights s.stage

-- a core after a step of its flush that leaves the history, the marks and the passes
abbrev pub staged : State → List Entry → Memory → Stage → State
staged s log m stage = state log s.history m s.marked s.flights stage
