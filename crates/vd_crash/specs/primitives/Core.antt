-- A core as its crash laws see it: both logs, its memory, what its passes have in flight, and the stage of the flush.
use Rattle.std.specs.Prelude.{ℕ, ◌≡◌, ◌+◌, ◌<◌, ◌≤◌, ◌⊎◌, true, false, List, length, Ok}
use Rattle.vd_image.specs.Log.{Asked, Sector, CallId, Entry, Flush, Ask, At, Flushes}
use Rattle.vd_image.specs.Image.{Header}
use Rattle.vd_crash.specs.facts.Safe.{NumberedEntry, Opening, IsSafe}
use Rattle.vd_crash.specs.facts.Facts.{Holds, IsClaimSettled}
use Rattle.vd_crash.specs.flushes.Flushing.{Snapshot, IsLast, IsFlushUnderWay, flush_ask}
use Rattle.vd_crash.specs.flushes.Passes.{IsPutting}
use Rattle.vd_crash.specs.flushes.Stage.{Flight, AreFlights, HasTicket, FlushProgress, IsSoFar, IsPageToPut}
use Rattle.vd_crash.specs.facts.Memory.{Memory}
use Rattle.vd_format.specs.Background.{background}

-- the stage of the flush under way, of the a-th entry, numbered n, with its data flush at q
pub data Stage : Type 0 where
  Resting : Stage
  Sending : (call : CallId) → (a n q : ℕ) → (snapshot : Snapshot) → (ticket : CallId) → Stage
  Working : (call : CallId) → (a n q : ℕ) → FlushProgress → Stage
  Putting : (call : CallId) → (a n q : ℕ) → FlushProgress → (sector i : ℕ) → (v : Sector) → (ticket : CallId) → Stage
  Syncing : (call : CallId) → (a n q : ℕ) → FlushProgress → (r : ℕ) → (ticket : CallId) → Stage
  Puts_next : (call : CallId) → (a n q : ℕ) → FlushProgress → (i : ℕ) → (v : Sector) → (next : Header) → (ticket : CallId) → Stage
  Has_next : (call : CallId) → (a n q : ℕ) → FlushProgress → (by : ℕ) → (v : Sector) → (next : Header) → Stage
  Syncs_next : (call : CallId) → (a n q : ℕ) → FlushProgress → (by : ℕ) → (v : Sector) → (next : Header) → (r : ℕ) → (ticket : CallId) → Stage
  Is_next : (call : CallId) → (a n q : ℕ) → FlushProgress → (by : ℕ) → (v : Sector) → (next : Header) → (r : ℕ) → Stage

-- the q-th event asks for a flush under this ticket, and nothing was asked under it since
pub record IsAsking (log : List Entry) (q : ℕ) (ticket : CallId) : Type 0 where
  pub asked : At log q (Ask ticket Flush)
  pub newest : (m : ℕ) (request : Asked) → q < m → At log m (Ask ticket request) → ⊥

-- the ticket of the store flush that a stage waits for
abbrev pub StageFlush : Stage → CallId → Type 0
StageFlush Resting t = ⊥
StageFlush (Sending call a n q snapshot ticket) t = ticket ≡ t
StageFlush (Working call a n q p) t = ⊥
StageFlush (Putting call a n q p sector i v ticket) t = ⊥
StageFlush (Syncing call a n q p r ticket) t = ticket ≡ t
StageFlush (Puts_next call a n q p i v next ticket) t = ⊥
StageFlush (Has_next call a n q p by v next) t = ⊥
StageFlush (Syncs_next call a n q p by v next r ticket) t = ticket ≡ t
StageFlush (Is_next call a n q p by v next r) t = ⊥

-- the event asks for nothing under that ticket
abbrev pub AsksNone : Stage → Entry → Type 0
AsksNone stage e = (t : CallId) (request : Asked) → StageFlush stage t → e ≡ Ask t request → ⊥

-- v is a header of the next generation, and every page of the map is caught up
pub record IsNext (o : Opening) (m : Memory) (p : FlushProgress) (v : Sector) (next : Header) : Type 0 where
  pub reads : o.format.header_of v ≡ Ok next
  pub generation : next.generation ≡ m.index.generation + 1
  pub background : (s : ℕ) → s < o.layout.size → m.index.off_base (o.layout.block_of s) ≡ false → (background o.base o.zeros next.tracked s ≡ o.disk s) ⊎ (m.index.tried (o.layout.block_of s) ≡ true)
  pub paged : (c : ℕ) → c < o.layout.chunks → p.paged c ≡ true

abbrev pub StageHolds : Opening → List Entry → List NumberedEntry → Memory → Stage → Type 0
StageHolds o log history m Resting = Unit {0}
StageHolds o log history m (Sending call a n q snapshot ticket) = IsFlushUnderWay o log history m snapshot (flush_ask call a n) q × IsAsking log q ticket
StageHolds o log history m (Working call a n q p) = IsSoFar o log history m (flush_ask call a n) q p
StageHolds o log history m (Putting call a n q p sector i v ticket) = IsSoFar o log history m (flush_ask call a n) q p × IsPutting log sector v ticket i
    × ((place s : ℕ) → place < o.layout.storage → o.layout.place place s ≡ sector → ⊥)
    × IsPageToPut o (IsClaimSettled o log history m p.snapshot.begun) m p.snapshot sector v
StageHolds o log history m (Syncing call a n q p r ticket) = IsSoFar o log history m (flush_ask call a n) q p × IsAsking log r ticket × (p.by ≤ r)
StageHolds o log history m (Puts_next call a n q p i v next ticket) = IsSoFar o log history m (flush_ask call a n) q p × IsPutting log o.layout.header_at v ticket i × IsNext o m p v next
StageHolds o log history m (Has_next call a n q p by v next) = IsSoFar o log history m (flush_ask call a n) q p × IsLast log o.layout.header_at v by × IsNext o m p v next × (by ≤ length log)
StageHolds o log history m (Syncs_next call a n q p by v next r ticket) = IsSoFar o log history m (flush_ask call a n) q p × IsLast log o.layout.header_at v by × IsNext o m p v next × IsAsking log r ticket × (by ≤ r)
StageHolds o log history m (Is_next call a n q p by v next r) = IsSoFar o log history m (flush_ask call a n) q p × IsLast log o.layout.header_at v by × IsNext o m p v next × Flushes log r × (by ≤ r)

-- the ticket that a stage has out for a put
abbrev pub StageTicket : Stage → CallId → Type 0
StageTicket Resting t = ⊥
StageTicket (Sending call a n q snapshot ticket) t = ⊥
StageTicket (Working call a n q p) t = ⊥
StageTicket (Putting call a n q p sector i v ticket) t = ticket ≡ t
StageTicket (Syncing call a n q p r ticket) t = ⊥
StageTicket (Puts_next call a n q p i v next ticket) t = ticket ≡ t
StageTicket (Has_next call a n q p by v next) t = ⊥
StageTicket (Syncs_next call a n q p by v next r ticket) t = ⊥
StageTicket (Is_next call a n q p by v next r) t = ⊥

-- what a core keeps
pub record IsCore (o : Opening) (log : List Entry) (history : List NumberedEntry) (m : Memory) (flights : ℕ → Flight) (stage : Stage) : Type 0 where
  pub safe : IsSafe o log history
  pub holds : Holds o log history m
  pub in_flight : AreFlights o log history m flights
  pub so_far : StageHolds o log history m stage
  pub tickets : (k : ℕ) (t : CallId) → HasTicket (flights k) t → StageTicket stage t → ⊥
