-- What is kept of a trace while it is read.
use Rattle.std.specs.Prelude.{ℕ, ◌≡◌, ◌+◌, ◌-◌, ◌<◌, ◌≤◌, ◌==◌, if◌then◌else◌, List, [], ◌∷◌, ◌++◌, length, slice_index_or, slice_set, map, Vec, sum_by}
use Rattle.std.specs.List.{All}
use Rattle.std.specs.declared.alloc.Global.{Global}
use Rattle.vd_law.specs.declared.entry.Room.{Room}
use Rattle.vd_law.specs.declared.entry.Sector.{Sector}
use Rattle.vd_law.specs.Needs.{request_room}
use Rattle.vd_trace.specs.declared.line.Work.{Work}
use Rattle.vd_trace.specs.declared.line.Work.TheVariants as work
use Rattle.vd_trace.specs.declared.kept.Stored.{Stored}
use Rattle.vd_trace.specs.declared.kept.Stored.TheVariants.{Read, Fill, Put, Flush}
use Rattle.vd_trace.specs.declared.kept.Item.{Item}
use Rattle.vd_trace.specs.declared.kept.Shown.{Shown}
use Rattle.vd_trace.specs.declared.kept.Draft.{Draft}
use Rattle.vd_trace.specs.declared.line.Line.{Line}
use Rattle.vd_trace.specs.declared.line.Line.TheVariants.{Nothing, Asks, Shows}
use Rattle.vd_trace.specs.declared.error.TraceError.{TraceError}
use Rattle.vd_trace.specs.declared.error.TraceError.TheVariants.{Bad, TooMuch, Source, NoMemory}
use Rattle.vd_trace.specs.Lines.{sectors_of_line, sectors_of_work, IsGood, KeepsLimits}
use Rattle.vd_trace.specs.Traces.{Asking, Showing, work_asked, SpellsLines, asks_in, shows_in}

-- what is asked, with the sector that lies at its place
abbrev pub work_of : List Sector → Stored → Work
work_of sectors (Read first count) = work.Read first count
work_of sectors (Fill first count byte) = work.Fill first count byte
work_of sectors (Put first place) = work.Put first (slice_index_or sectors place (record { bytes = [] }))
work_of sectors Flush = work.Flush

-- its sector is among so many
abbrev pub HasSectorAmong : ℕ → Stored → Type 0
HasSectorAmong many (Put first place) = place < many
HasSectorAmong many stored = Unit {0}

-- how many sectors it reads or writes
abbrev pub sectors_in : Stored → ℕ
sectors_in (Read first count) = count
sectors_in (Fill first count byte) = count
sectors_in (Put first place) = 1
sectors_in Flush = 0

-- the first sector behind its range
abbrev pub end_in : Stored → ℕ
end_in (Read first count) = first + count
end_in (Fill first count byte) = first + count
end_in (Put first place) = first + 1
end_in Flush = 0

-- the room that it takes
abbrev pub room_in : (block : ℕ) → Item → Room
room_in block item = request_room block (work_asked (work_of [] item.work))

abbrev pub asking_of : List Sector → Item → Asking
asking_of sectors item = record { number = item.number; guest = item.guest; work = work_of sectors item.work }

abbrev pub showing_of : Shown → Showing
showing_of shown = record { number = shown.number; first = shown.first; count = shown.count }

abbrev pub lists : List (Vec ℕ Global) → List (List ℕ)
lists vecs = map (λ v. v.items) vecs

-- one of the lists grew by this place at its end
abbrev pub PutsAt : (index at : ℕ) → List (Vec ℕ Global) → List (Vec ℕ Global) → Type 0
PutsAt index at old new = lists new ≡ slice_set (lists old) index (slice_index_or (lists old) index [] ++ at ∷ [])

-- the list grew at its end, by this many at most
abbrev pub GrowsByAtMost : {A : Type 0} → ℕ → List A → List A → Type 0
GrowsByAtMost most old new = (more : List _) × (new ≡ old ++ more) × (length more ≤ most)

-- where the items of a guest stand, counted from `from` on
abbrev pub positions : (guest from : ℕ) → List Item → List ℕ
positions guest from [] = []
positions guest from (item ∷ items) = if item.guest == guest then from ∷ positions guest (from + 1) items else positions guest (from + 1) items

-- the items are these lines: the sectors that they name are there, their guests are among so many, and each guest's are
-- listed by their places; no request has more than 2,048 sectors
pub record HasItems (guests : ℕ) (sectors : List Sector) (items : List Item) (places : List (List ℕ)) (asks : List Asking) : Type 0 where
  pub told : map (asking_of sectors) items ≡ asks
  pub stored : All (λ item. HasSectorAmong (length sectors) item.work) items
  pub guests_in : All (λ item. (1 ≤ item.guest) × (item.guest ≤ guests)) items
  pub sized : All (λ item. sectors_in item.work ≤ 2048) items
  pub many : length places ≡ guests
  pub placed : (k : ℕ) → k < guests → slice_index_or places k [] ≡ positions (k + 1) 0 items

-- what is kept is what these lines say, which keep the limits
pub record KeepsLines (says : List Line) (draft : Draft) : Type 0 where
  pub items : HasItems draft.guests draft.sectors.items draft.items.items (lists draft.places.items) (asks_in says)
  pub shows : map showing_of draft.shows.items ≡ shows_in says
  pub lines : draft.lines ≡ length says
  pub total : draft.total ≡ sum_by sectors_of_line says
  pub few : length says ≤ 500000
  pub small : sum_by sectors_of_line says ≤ 262144
  pub items_few : length draft.items.items ≤ length says
  pub sectors_few : length draft.sectors.items ≤ sum_by sectors_of_line says
  pub asked_few : sum_by (λ item. sectors_in item.work) draft.items.items ≤ sum_by sectors_of_line says

-- these lines were read
pub record HasReadLines (done : List (List ℕ)) (draft : Draft) : Type 0 where
  pub says : List Line
  pub spelled : SpellsLines draft.guests [] done says
  pub kept : KeepsLines says draft

-- behind these lines, this one ends the reading
abbrev pub Stops : (guests : ℕ) → List (List ℕ) → List ℕ → TraceError → Type 0
Stops guests done line (Bad number) = (before : List Line) × SpellsLines guests [] done before × (number ≡ length before + 1) × ((says : Line) → ¬ (IsGood guests before line says))
Stops guests done line (TooMuch number) =
    (before : List Line) × SpellsLines guests [] done before × (number ≡ length before + 1) × (says : Line) × IsGood guests before line says × (¬ (KeepsLimits before says))
Stops guests done line Source = ⊥
Stops guests done line NoMemory = Unit {0}

-- one more item
pub record AddsItem (guest : ℕ) (asked : Work) (old new : Draft) : Type 0 where
  pub stored : Stored
  pub work : work_of new.sectors.items stored ≡ asked
  pub inside : HasSectorAmong (length new.sectors.items) stored
  pub size : sectors_in stored ≡ sectors_of_work asked
  pub sectors : GrowsByAtMost (sectors_of_work asked) old.sectors.items new.sectors.items
  pub items : new.items.items ≡ old.items.items ++ record { number = old.lines + 1; guest = guest; work = stored } ∷ []
  pub places : PutsAt (guest - 1) (length old.items.items) old.places.items new.places.items

pub record SameItems (old new : Draft) : Type 0 where
  pub sectors : new.sectors.items ≡ old.sectors.items
  pub items : new.items.items ≡ old.items.items
  pub places : lists new.places.items ≡ lists old.places.items

-- what a line adds
abbrev pub AddsLine : Line → Draft → Draft → Type 0
AddsLine Nothing old new = SameItems old new × (new.shows.items ≡ old.shows.items)
AddsLine (Asks guest work) old new = AddsItem guest work old new × (new.shows.items ≡ old.shows.items)
AddsLine (Shows first count) old new = SameItems old new × (new.shows.items ≡ old.shows.items ++ record { number = old.lines + 1; first = first; count = count } ∷ [])

-- the counts are as they were
pub record SameCounts (old new : Draft) : Type 0 where
  pub guests : new.guests ≡ old.guests
  pub lines : new.lines ≡ old.lines
  pub total : new.total ≡ old.total

-- one more line
pub record CountsLine (says : Line) (old new : Draft) : Type 0 where
  pub adds : AddsLine says old new
  pub guests : new.guests ≡ old.guests
  pub lines : new.lines ≡ old.lines + 1
  pub total : new.total ≡ old.total + sectors_of_line says

abbrev pub HasGuest : ℕ → Line → Type 0
HasGuest guests (Asks guest work) = (1 ≤ guest) × (guest ≤ guests) × (sectors_of_work work ≤ 2048)
HasGuest guests says = Unit {0}

-- there are places and numbers for one more line
pub record CanTake (says : Line) (draft : Draft) : Type 0 where
  pub items : length draft.items.items < 500000
  pub sectors : length draft.sectors.items ≤ 262144
  pub guest : HasGuest draft.guests says
  pub places : length draft.places.items ≡ draft.guests
  pub lines : draft.lines < 500000
  pub total : draft.total + sectors_of_line says ≤ 262144

-- one more line was counted
pub record HasNextLine (old new : Draft) : Type 0 where
  pub guests : new.guests ≡ old.guests
  pub lines : new.lines ≡ old.lines + 1
  pub few : old.lines < 500000
