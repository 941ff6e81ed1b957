-- What the records of a log stand for.
use Rattle.std.specs.Prelude.{ℕ, ◌≡◌, ◌+◌, ◌≤◌, List, length, replicate, slice_range}
use Rattle.std.specs.List.{All}
use Rattle.vd_law.specs.declared.entry.Sector.{Sector}
use Rattle.vd_log.specs.declared.sharing.Stretch.{Stretch}
use Rattle.vd_log.specs.declared.sharing.Shared.{Shared}
use Rattle.vd_log.specs.declared.stored.Stored as stored
use Rattle.vd_log.specs.declared.stored.Stored.TheVariants as variants
use Rattle.vd_law.specs.Entries.{Read, Write, Flush, Entry, Ask, Issue, Done, Broke, Seen, Reply}

abbrev pub content_in : List Sector → Stretch → List Sector
content_in sectors stretch = slice_range sectors stretch.start (stretch.start + stretch.count)

-- the stretch lies among the first n sectors
abbrev pub IsAmong : ℕ → Stretch → Type 0
IsAmong n stretch = stretch.start + stretch.count ≤ n

-- the stretch has copies of one sector
abbrev pub IsOfOneSector : List Sector → Stretch → Type 0
IsOfOneSector sectors run = IsAmong (length sectors) run × (x : Sector) × (content_in sectors run ≡ replicate run.count x)

-- what is remembered stands among the sectors
pub record IsShared (sectors : List Sector) (shared : Shared) : Type 0 where
  pub next : IsAmong (length sectors) shared.next
  pub places : length shared.places.items ≡ 4096
  pub each_place : All (IsAmong (length sectors)) shared.places.items
  pub runs : length shared.runs.items ≡ 256
  pub each_run : All (IsOfOneSector sectors) shared.runs.items

-- the entry of a record, whose content stands among these sectors
abbrev pub entry_in : List Sector → stored.Stored → Entry
entry_in sectors (variants.AskRead id first count) = Ask id (Read first count)
entry_in sectors (variants.AskWrite id first content) = Ask id (Write first (content_in sectors content))
entry_in sectors (variants.AskFlush id) = Ask id Flush
entry_in sectors (variants.Issue id first content) = Issue id first (content_in sectors content)
entry_in sectors (variants.Done id) = Done id
entry_in sectors (variants.Broke id) = Broke id
entry_in sectors (variants.Seen id first content) = Seen id first (content_in sectors content)
entry_in sectors (variants.Reply id answer) = Reply id answer

-- the record's content lies among the first n sectors
abbrev pub HasContentWithin : ℕ → stored.Stored → Type 0
HasContentWithin n (variants.AskRead id first count) = Unit {0}
HasContentWithin n (variants.AskWrite id first content) = IsAmong n content
HasContentWithin n (variants.AskFlush id) = Unit {0}
HasContentWithin n (variants.Issue id first content) = IsAmong n content
HasContentWithin n (variants.Done id) = Unit {0}
HasContentWithin n (variants.Broke id) = Unit {0}
HasContentWithin n (variants.Seen id first content) = IsAmong n content
HasContentWithin n (variants.Reply id answer) = Unit {0}
