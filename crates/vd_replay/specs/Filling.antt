-- How a state is filled from what was read.
use Rattle.std.specs.Prelude.{ℕ, ◌≡◌, List, length}
use Rattle.vd_law.specs.declared.entry.Sector.{Sector}
use Rattle.vd_format.specs.declared.header.Header.{Header}
use Rattle.vd_format.specs.declared.map.Entry.{Entry}
use Rattle.vd_format.specs.Layouts.{chunks_of, map_start, slots_start}
use Rattle.vd_image.specs.Decoders.{shape_of}
use Rattle.vd_replay.specs.Pages.{area_at, AreRead}
use Rattle.vd_replay.specs.Journal.{AreReplayed}
use Rattle.vd_replay.specs.States.{IsSized}
use Rattle.vd_replay.specs.Placing.{IsPlaced, IsSpread, AreTwins, AreMarked}
use Rattle.vd_replay.specs.declared.state.State.{State}
use Rattle.vd_replay.specs.declared.error.OpenError.{OpenError}
use Rattle.vd_replay.specs.declared.error.OpenError.TheVariants as error

-- the map's entries were read, and the records that count were put over them
pub record AreApplied (h : Header) (held : List Sector) (pages entries : List Entry) (next : ℕ) : Type 0 where
  pub read : AreRead (shape_of h) (area_at held (map_start h)) (chunks_of h) pages
  pub replayed : AreReplayed (shape_of h) (area_at held (slots_start h)) h.slots pages entries next

-- the header stays, and everything has the size that it says
pub record KeepsSizes (s s' : State) : Type 0 where
  pub header : s'.header ≡ s.header
  pub sized : IsSized s'

-- table, blocks and marks are those of the entries, and the cursor stands there
pub record AgreesWithEntries (s : State) (next : ℕ) : Type 0 where
  pub placed : IsPlaced s.map (length s.map) s.table
  pub spread : IsSpread s.map (length s.map) s.fresh
  pub marked : AreMarked s.map s.pages (length s.more) s.more
  pub next_is : s.cursor.next ≡ next

-- two chunks have one storage
abbrev pub AreDouble : List Entry → OpenError → Type 0
AreDouble entries (error.DoubleChunk a b) = AreTwins entries a b
AreDouble entries e = ⊥

-- the errors of an image whose header was found; of a store fault's ticket P holds
abbrev pub IsOfReading : (P : ℕ → Type 0) → OpenError → Type 0
IsOfReading P (error.Store ticket) = P ticket
IsOfReading P (error.BadEntry chunk value) = Unit {0}
IsOfReading P (error.BadRecord slot) = Unit {0}
IsOfReading P (error.DoubleChunk a b) = Unit {0}
IsOfReading P error.NotBuilt = Unit {0}
IsOfReading P e = ⊥
