-- A request is asked.
use Rattle.std.specs.Prelude.{ℕ, ◌≡◌, ◌↔◌, ◌⊎◌, ◌+◌, ◌-◌, ◌/◌, ◌^◌, ◌<◌, ◌≤◌, Bool, false, List, [], ◌∷◌, Option, None, Some, length}
use Rattle.vd_law.specs.declared.entry.Room.{Room}
use Rattle.vd_law.specs.declared.entry.Answer.{Answer}
use Rattle.vd_law.specs.declared.entry.Answer.TheVariants.{Ok, NoRoom, Full}
use Rattle.vd_law.specs.Entries.{Asked, Read, Write, Flush}
use Rattle.vd_law.specs.Logs.{asked_content}
use Rattle.vd_law.specs.Histories.{HistoryState, last_number}
use Rattle.vd_law.specs.Rules.{IsInside}
use Rattle.vd_table.specs.Tables.{TableState, Has, IsOneToOne, used_chunks}
use Rattle.vd_table.specs.Runs.{lacking, TakesRun}
use Rattle.vd_passes.specs.declared.shape.Shape.{Shape}
use Rattle.vd_passes.specs.declared.pass.Pass.{Pass}
use Rattle.vd_passes.specs.Requests.{RequestState, requests}
use Rattle.vd_passes.specs.Steps.{IsAt, Asks, AsksFull}
use Rattle.vd_machine.specs.Adding.{AddsEntries}
use Rattle.vd_law.specs.Needs.{request_room}

-- the first chunk of a write's range
abbrev pub run_from : Shape → Asked → ℕ
run_from shape (Write first content) = first / shape.block / shape.chunk
run_from shape _ = 0

-- the number of its chunks
abbrev pub run_count : Shape → Asked → ℕ
run_count shape (Write first content) = (first + length content - 1) / shape.block / shape.chunk + 1 - first / shape.block / shape.chunk
run_count shape _ = 0

-- each of these chunks has storage now, the least that was free where it had none, and nothing else changed
pub record Claims (table table' : TableState) (from count : ℕ) : Type 0 where
  pub enough : lacking table from count + used_chunks table ≤ table.storage
  pub takes : TakesRun table from count table'
  pub kept : (chunk p : ℕ) → Has table chunk p → Has table' chunk p
  pub all : (chunk : ℕ) → from ≤ chunk → chunk < from + count → (p : ℕ) × Has table' chunk p
  pub chunks : length table'.chunks ≡ length table.chunks
  pub storage : table'.storage ≡ table.storage
  pub one_to_one : IsOneToOne table'

-- a read or a write has 1 to 2,048 sectors
abbrev pub HasSize : Asked → Type 0
HasSize (Read first count) = (0 < count) × (count ≤ 2048)
HasSize (Write first content) = (0 < length content) × (length content ≤ 2048)
HasSize Flush = Unit {0}

-- the room suffices
abbrev pub Suffices : (need left : Room) → Type 0
Suffices need left = (need.events ≤ left.events) × (need.sectors ≤ left.sectors)

-- the request needs more than the room that is left
abbrev pub Exceeds : (need left : Room) → Type 0
Exceeds need left = (left.events < need.events) ⊎ (left.sectors < need.sectors)

-- the room without what was used or reserved of it
abbrev pub room_without : Room → (events sectors : ℕ) → Room
room_without left events sectors = record { events = left.events - events; sectors = left.sectors - sectors }

-- the room with what a pass leaves of its own, once its Reply is added
abbrev pub room_after_reply : Pass → Room → Room
room_after_reply p left = record { events = left.events + (p.events - 1); sectors = left.sectors + p.sectors }

-- A pass can ask the request, if the spare room suffices: numbers are within their limits, and the spare room is part of what is left.
pub record CanAsk (shape : Shape) (table : TableState) (passes : List Pass) (history : HistoryState) (spare : Room) (events : ℕ) (request : Asked) (i : ℕ) : Type 0 where
  pub some_block : 0 < shape.block
  pub small_block : shape.block ≤ 128
  pub some_chunk : 0 < shape.chunk
  pub few : length passes ≤ 64
  pub there : IsAt passes i (λ p. p.call + history.log.left.events < 2 ^ 64)
  pub size : HasSize request
  pub range : IsInside (2 ^ 26) request
  pub run : run_from shape request + run_count shape request ≤ length table.chunks
  pub spare_events : spare.events ≤ history.log.left.events
  pub spare_sectors : spare.sectors ≤ history.log.left.sectors
  pub later : last_number history.opened history.numbers ≤ events

-- A pass can have its Reply: one event at least is reserved for it, and this and the spare room are part of what is left.
pub record CanReply (passes : List Pass) (history : HistoryState) (spare : Room) (events : ℕ) (p : Pass) : Type 0 where
  pub few : length passes ≤ 64
  pub some : 0 < p.events
  pub part_events : spare.events + p.events ≤ history.log.left.events
  pub part_sectors : spare.sectors + p.sectors ≤ history.log.left.sectors
  pub later : last_number history.opened history.numbers ≤ events

-- the answer to a read or a write is Ok exactly where all its sectors are done
abbrev pub IsOkWhereDone : Answer → Pass → Type 0
IsOkWhereDone answer p = p.flush ≡ false → (answer ≡ Ok) ↔ (p.done ≡ p.count)

-- What an ask works on: the disk's shape, its table, the passes, the history, and the room that is left.
pub record AskState : Type 0 where
  pub shape : Shape
  pub table : TableState
  pub passes : List Pass
  pub history : HistoryState
  pub left : Room

abbrev pub ask_state : Shape → TableState → List Pass → HistoryState → (left : Room) → AskState
ask_state shape table passes history left = record { shape = shape; table = table; passes = passes; history = history; left = left }

-- what the passes work on, with whatever blocks are fresh: no ask changes these
abbrev pub asking_requests : (fresh : List Bool) → AskState → RequestState
asking_requests fresh a = requests a.shape fresh a.passes a.history.log.entries

-- nothing has changed
pub record IsSame (a a' : AskState) : Type 0 where
  pub table_same : a'.table ≡ a.table
  pub passes_same : a'.passes ≡ a.passes
  pub history_same : a'.history ≡ a.history
  pub left_same : a'.left ≡ a.left

-- the write is answered Full
pub record EndsFull (request : Asked) (needed free events i : ℕ) (a a' : AskState) : Type 0 where
  pub enough : Suffices (request_room a.shape.block request) a.left
  pub needed_is : needed ≡ lacking a.table (run_from a.shape request) (run_count a.shape request)
  pub free_is : free + used_chunks a.table ≡ a.table.storage
  pub fewer : free < needed
  pub table_same : a'.table ≡ a.table
  pub asks : (fresh : List Bool) → AsksFull request needed free i (asking_requests fresh a) (asking_requests fresh a')
  pub extends : AddsEntries (events ∷ events ∷ []) (length (asked_content request)) a.history a'.history
  pub left_after : a'.left ≡ room_without a.left 2 (length (asked_content request))

-- the request is asked, and its room reserved
pub record EndsAsked (request : Asked) (events i : ℕ) (a a' : AskState) : Type 0 where
  pub enough : Suffices (request_room a.shape.block request) a.left
  pub claims : Claims a.table a'.table (run_from a.shape request) (run_count a.shape request)
  pub asks : (fresh : List Bool) → Asks request ((request_room a.shape.block request).events - 1)
      ((request_room a.shape.block request).sectors - length (asked_content request)) i (asking_requests fresh a) (asking_requests fresh a')
  pub extends : AddsEntries (events ∷ []) (length (asked_content request)) a.history a'.history
  pub left_after : a'.left ≡ room_without a.left (request_room a.shape.block request).events (request_room a.shape.block request).sectors

-- how an ask ends, while the store has so many events
abbrev pub AskEnds : Option Answer → (request : Asked) (events i : ℕ) → AskState → AskState → Type 0
AskEnds result request events i a a' =
    (Exceeds (request_room a.shape.block request) a.left × (result ≡ Some (NoRoom a.left.events a.left.sectors)) × IsSame a a')
    ⊎ ((needed : ℕ) × (free : ℕ) × (result ≡ Some (Full needed free)) × EndsFull request needed free events i a a')
    ⊎ ((result ≡ None) × EndsAsked request events i a a')
