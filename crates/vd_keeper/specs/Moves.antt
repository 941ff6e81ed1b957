-- What each call makes of what a keeper knows.
use Rattle.std.specs.Prelude.{ℕ, ◌≡◌, ◌≢◌, ◌+◌, ◌-◌, ◌/◌, ◌<◌, ◌==◌, ◌&&◌, ◌||◌, not, nat_lt, Bool, true, false, if◌then◌else◌, List, [], ◌∷◌, map, length, None, slice_index_or, slice_set}
use Rattle.std.specs.List.{list_any, range_with_len}
use Rattle.vd_law.specs.declared.entry.Sector.{Sector}
use Rattle.vd_format.specs.declared.header.Header.{Header}
use Rattle.vd_format.specs.Headers.{spelling}
use Rattle.vd_format.specs.Layouts.{blocks_of}
use Rattle.vd_format.specs.Entries.{page_bytes}
use Rattle.vd_format.specs.Records.{record_bytes}
use Rattle.vd_bits.specs.Marks.{IsLowest, NoneFrom}
use Rattle.vd_table.specs.Tables.{TableState}
use Rattle.vd_keeper.specs.declared.stage.Stage.{Stage}
use Rattle.vd_keeper.specs.declared.stage.Stage.TheVariants.{Rest, DataFlush, Puts, Syncs, Seals, Broken}
use Rattle.vd_keeper.specs.declared.stage.Way as way
use Rattle.vd_keeper.specs.declared.stage.Way.TheVariants as ways
use Rattle.vd_keeper.specs.declared.stage.Route as route
use Rattle.vd_keeper.specs.declared.stage.Route.TheVariants as routes
use Rattle.vd_keeper.specs.declared.stage.Put as put
use Rattle.vd_keeper.specs.declared.stage.Put.TheVariants as puts
use Rattle.vd_keeper.specs.Keeping.{KeeperState, no_marks, pages_of}
use Rattle.vd_keeper.specs.Flushes.{records_for, is_recycle, last_generation}
use Rattle.vd_keeper.specs.Entries.{union_of, chunks_with, next_chunks, next_facts, page_entries}

-- the first that the second lacks
abbrev pub difference_of : List Bool → List Bool → List Bool
difference_of [] ys = []
difference_of (x ∷ xs) [] = x ∷ xs
difference_of (x ∷ xs) (y ∷ ys) = (x && not y) ∷ difference_of xs ys

abbrev pub none_of : List Bool → Bool
none_of bits = not (list_any (λ b. b) bits)

-- a block that isn't stale is owed
abbrev pub after_owe : ℕ → KeeperState → KeeperState
after_owe block k = if slice_index_or k.stale block false then k else record k { owed = slice_set k.owed block true }

-- every fresh block that isn't stale is owed
abbrev pub after_adopt : (fresh : List Bool) → KeeperState → KeeperState
after_adopt fresh k = record k { owed = union_of k.owed (difference_of fresh k.stale) }

-- The way of a flush that begins now: a recycle where it is asked for, the header isn't sure, or the owed chunks don't fit the slots
-- that are left; else records, or nothing where nothing is owed.
unfoldable pub way_of : route.Route → KeeperState → way.Way
way_of (routes.Recycle tracked) k = ways.Recycle tracked
way_of routes.Owed k =
    if not k.sure || nat_lt (k.header.slots - k.next) (records_for (length (chunks_with k.header k.owed))) then ways.Recycle k.header.tracked
    else (if none_of k.owed then ways.Nothing else ways.Records)

abbrev pub is_worn_out : route.Route → KeeperState → Bool
is_worn_out route k = is_recycle (way_of route k) && (k.header.generation == last_generation)

-- for each of so many sectors of the map, whether it has one of these chunks
abbrev pub pages_with : (pages : ℕ) → (chunks : List ℕ) → List Bool
pages_with pages chunks = map (λ page. list_any (λ c. c / 32 == page) chunks) (range_with_len 0 pages)

-- the marks, and those of the map's sectors that have one of these chunks
abbrev pub marked_with : Header → List Bool → (chunks : List ℕ) → List Bool
marked_with h marked chunks = union_of marked (pages_with (pages_of h) chunks)

-- a flush has begun: what was owed is its snapshot, and their sectors of the map are marked
abbrev pub after_begin : route.Route → KeeperState → KeeperState
after_begin route k = record k {
  stage = DataFlush;
  way = way_of route k;
  snapshot = k.owed;
  marked = marked_with k.header k.marked (chunks_with k.header k.owed);
  logged = 0;
  head = false;
}

-- the header of a recycle
abbrev pub next_header : way.Way → Header → Header
next_header (ways.Recycle tracked) h = record h { tracked = tracked; generation = h.generation + 1 }
next_header ways.Records h = h
next_header ways.Nothing h = h

-- there is something to put
pub record HasPutDue (k : KeeperState) : Type 0 where
  pub some : k.way ≢ ways.Nothing
  pub records : k.way ≡ ways.Records → k.logged < length (chunks_with k.header k.snapshot)
  pub recycle : is_recycle k.way ≡ true → k.head ≡ false

-- The next put: a record of the snapshot's next chunks, or the lowest marked sector of the map, or the next header.
pub data IsNextPut (table : TableState) (k : KeeperState) : put.Put → KeeperState → Type 0 where
  Next_record : (sector : Sector) → k.way ≡ ways.Records → sector.bytes ≡ record_bytes k.header.generation (next_facts table k)
      → IsNextPut table k (puts.Record k.next sector) (record k { next = k.next + 1; logged = k.logged + length (next_chunks k) })
  Next_page : (page : ℕ) (sector : Sector) → is_recycle k.way ≡ true → IsLowest k.marked 0 page → sector.bytes ≡ page_bytes (page_entries table k page)
      → IsNextPut table k (puts.Page page sector) (record k { marked = slice_set k.marked page false; put = slice_set k.put page true })
  Next_header : (sector : Sector) → is_recycle k.way ≡ true → NoneFrom k.marked 0 → sector.bytes ≡ spelling (next_header k.way k.header)
      → IsNextPut table k (puts.Head sector) (record k { sure = false; head = true })

-- what is done once the data flush has succeeded, a put, or a flush of puts
abbrev pub after_data : way.Way → Stage
after_data ways.Nothing = Seals
after_data ways.Records = Puts
after_data (ways.Recycle tracked) = Puts

abbrev pub after_put : KeeperState → way.Way → Stage
after_put k ways.Nothing = Syncs
after_put k ways.Records = if nat_lt k.logged (length (chunks_with k.header k.snapshot)) then Puts else Syncs
after_put k (ways.Recycle tracked) = if not k.head && not (none_of k.marked) then Puts else Syncs

abbrev pub after_sync : (head : Bool) → way.Way → Stage
after_sync head ways.Nothing = Seals
after_sync head ways.Records = Seals
after_sync head (ways.Recycle tracked) = if head then Seals else Puts

unfoldable pub after_call : Stage → KeeperState → KeeperState
after_call DataFlush k = record k { stage = after_data k.way }
after_call Puts k = record k { stage = after_put k k.way }
after_call Syncs k = record k { stage = after_sync k.head k.way; put = no_marks (pages_of k.header) }
after_call Rest k = k
after_call Seals k = k
after_call Broken k = k

-- a call has failed: what was owed is owed still, and what was put is marked again
abbrev pub after_break : KeeperState → KeeperState
after_break k = record k {
  stage = Broken;
  snapshot = no_marks (blocks_of k.header);
  marked = union_of k.marked k.put;
  put = no_marks (pages_of k.header);
}

abbrev pub is_settling : Stage → Bool
is_settling DataFlush = true
is_settling Puts = true
is_settling Syncs = true
is_settling Rest = false
is_settling Seals = false
is_settling Broken = false

-- the flush is over: its blocks are stale and owed no more, and after a recycle the next header is the kept one
abbrev pub after_seal : KeeperState → KeeperState
after_seal k = record k {
  header = next_header k.way k.header;
  sure = k.sure || is_recycle k.way;
  next = if is_recycle k.way then 0 else k.next;
  stage = Rest;
  stale = union_of k.stale k.snapshot;
  owed = difference_of k.owed k.snapshot;
  snapshot = no_marks (blocks_of k.header);
}
