-- What a store tells of itself: its start, its log, and what its sectors hold.
use Rattle.std.specs.Prelude.{ℕ, ◌≡◌, ◌+◌, ◌<◌, ◌≤◌, ◌⊎◌, List, [], ◌∷◌, ◌++◌, length, take, Some, slice_get}
use Rattle.std.specs.List.{All, Contains}
use Rattle.vd_law.specs.declared.entry.Sector.{Sector}
use Rattle.vd_law.specs.Entries.{Entry, past}
use Rattle.vd_law.specs.Contents.{Open, could, open_writes, last_done, issued_contents}
use Rattle.vd_device.specs.declared.ticket.Ticket.{Ticket}
use Rattle.vd_device.specs.declared.ticket.Kind.TheVariants.{Write}
use Rattle.vd_device.specs.Tickets.{ticket_id}

-- the contents at the start, the events since, and what reads give
pub record Disk : Type 0 where
  pub start : List Sector
  pub log : List Entry
  pub held : List Sector

-- each sector holds what could stand there by the log
abbrev pub IsHonest : Disk → Type 0
IsHonest d = (s : ℕ) (v : Sector) → slice_get d.held s ≡ Some v → Contains (could d.start d.log s) v

-- no write to sector s is open
abbrev pub IsUnwrittenAt : Disk → ℕ → Type 0
IsUnwrittenAt d s = open_writes (past d.log) s ≡ []

-- what is held changed only where a write is open before or after
abbrev pub KeepsOthers : Disk → Disk → Type 0
KeepsOthers old new = (s : ℕ) → IsUnwrittenAt old s → IsUnwrittenAt new s → slice_get new.held s ≡ slice_get old.held s

-- an honest store took these further events, and no others
pub record GrowsBy (events : List Entry) (old new : Disk) : Type 0 where
  pub start : new.start ≡ old.start
  pub log : new.log ≡ old.log ++ events
  pub size : length new.held ≡ length old.held
  pub others : KeepsOthers old new
  pub honest_before : IsHonest old
  pub honest : IsHonest new

abbrev pub Adds : Entry → Disk → Disk → Type 0
Adds event old new = GrowsBy (event ∷ []) old new

-- the store runs: it has as many events as its log
abbrev pub IsRunning : (events : ℕ) → Disk → Type 0
IsRunning events d = events ≡ length d.log

-- the store has stopped: its log stands, and its number of events is above the log's length
abbrev pub HasStopped : (events : ℕ) → Disk → Type 0
HasStopped events d = length d.log < events

-- a store whose log is told tells all, or it has stopped
abbrev pub TellsOrStopped : (tells : Type 0) → (events : ℕ) → Disk → Type 0
TellsOrStopped tells events d = tells ⊎ HasStopped events d

-- It has stopped, and its log stands as it stood before.
pub record StoppedSince (events : ℕ) (old new : Disk) : Type 0 where
  pub stopped : HasStopped events new
  pub start : new.start ≡ old.start
  pub log : new.log ≡ old.log

-- A store whose log is told tells all after a call, or it has stopped, before the call or in it.
abbrev pub TellsOrStoppedSince : (tells : Type 0) → (events : ℕ) → (old new : Disk) → Type 0
TellsOrStoppedSince tells events old new = tells ⊎ StoppedSince events old new

-- A store whose log is told took these further events in one call, or has stopped before or in it. After a stop the log
-- stands as it stood.
pub record Records (more : List Entry) (before after : ℕ) (old new : Disk) : Type 0 where
  pub start : new.start ≡ old.start
  pub goes_on : (IsRunning before old × IsRunning after new × (new.log ≡ old.log ++ more)) ⊎ (HasStopped after new × (new.log ≡ old.log))

-- The same of several calls: where the store stopped among them, its log has the first of these events.
pub record RecordsSome (more : List Entry) (before after : ℕ) (old new : Disk) : Type 0 where
  pub start : new.start ≡ old.start
  pub goes_on : (IsRunning before old × IsRunning after new × (new.log ≡ old.log ++ more)) ⊎ (HasStopped after new × (count : ℕ) × (new.log ≡ old.log ++ take count more))

-- the open write is that of a ticket among these, which covers sector s
pub record IsOneOf (tickets : List Ticket) (s : ℕ) (w : Open) : Type 0 where
  pub ticket : Ticket
  pub among : Contains tickets ticket
  pub kind : ticket.kind ≡ Write
  pub call : w.call ≡ ticket_id ticket
  pub from : ticket.first ≤ s
  pub to : s < ticket.first + ticket.count

-- each write that is open is that of a ticket among these
abbrev pub AreWrites : List Ticket → Disk → Type 0
AreWrites tickets d = (s : ℕ) → All (IsOneOf tickets s) (open_writes (past d.log) s)

-- Nothing is being written, and in each sector the last write is done: no write failed without a later one that is done.
abbrev pub IsClean : Disk → Type 0
IsClean d = (s : ℕ) → IsUnwrittenAt d s × (last_done (past d.log) s ≡ length (issued_contents (past d.log) s))
