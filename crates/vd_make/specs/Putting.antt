-- What calls leave that write one sector's content over a range, and flush it.
use Rattle.std.specs.Prelude.{ℕ, ◌≡◌, ◌+◌, ◌<◌, ◌≤◌, ◌⊎◌, List, [], ◌∷◌, ◌++◌, length, drop, Some, slice_get, ⊤, Result, Ok, Err}
use Rattle.std.specs.List.{AllByRecursion, Contains}
use Rattle.vd_law.specs.declared.entry.Sector.{Sector}
use Rattle.vd_law.specs.declared.entry.CallId.{CallId}
use Rattle.vd_law.specs.declared.entry.Answer.TheVariants as answers
use Rattle.vd_law.specs.Entries.{Entry, Issue, Seen, Reply, past}
use Rattle.vd_law.specs.Contents.{last_done, versions, may}
use Rattle.vd_device.specs.Disks.{Disk}
use Rattle.vd_device.specs.Quiet.{IsAtRest}

-- each sector of the list is this one
abbrev pub AreAll : Sector → List Sector → Type 0
AreAll v xs = (k : ℕ) (x : Sector) → slice_get xs k ≡ Some x → x ≡ v

-- the event writes this content alone, between these sectors, or writes nothing; and nothing is read
abbrev pub IsPut : (v : Sector) (from to : ℕ) → Entry → Type 0
IsPut v from to (Issue id first content) = (from ≤ first) × (first + length content ≤ to) × AreAll v content
IsPut v from to (Seen id first content) = ⊥
IsPut v from to _ = Unit {0}

-- it is no answer that all is done, with which a flush succeeds
abbrev pub IsNoSuccess : Entry → Type 0
IsNoSuccess (Reply id answers.Ok) = ⊥
IsNoSuccess _ = Unit {0}

-- The log has grown by writes of this content between these sectors, and by flushes. What is held elsewhere has stayed, and
-- no write is open.
pub record PutsRange (v : Sector) (from to : ℕ) (more : List Entry) (old new : Disk) : Type 0 where
  pub start : new.start ≡ old.start
  pub log : new.log ≡ old.log ++ more
  pub only : AllByRecursion (IsPut v from to) more
  pub size : length new.held ≡ length old.held
  pub others : (s : ℕ) → (s < from) ⊎ (to ≤ s) → slice_get new.held s ≡ slice_get old.held s
  pub rest : IsAtRest new

-- a crash may leave this in the sector, and nothing else
abbrev pub MayHave : Sector → Disk → ℕ → Type 0
MayHave v d s = (x : Sector) → Contains (may d.start d.log s) x → x ≡ v

-- a flush that is asked now and succeeds leaves it so
abbrev pub HasDone : Sector → Disk → ℕ → Type 0
HasDone v d s = (x : Sector) → Contains (drop (last_done (past d.log) s) (versions d.start (past d.log) s)) x → x ≡ v

-- the sector holds this
abbrev pub SectorHolds : Sector → Disk → ℕ → Type 0
SectorHolds v d s = (x : Sector) → slice_get d.held s ≡ Some x → x ≡ v

-- P holds of each sector of a range
abbrev pub EachFrom : (from to : ℕ) → (ℕ → Type 0) → Type 0
EachFrom from to P = (s : ℕ) → from ≤ s → s < to → P s

-- the range is written: it holds this, and a flush that succeeds leaves it so
pub record IsRangeWritten (v : Sector) (from to : ℕ) (d : Disk) : Type 0 where
  pub done : EachFrom from to (HasDone v d)
  pub held : EachFrom from to (SectorHolds v d)

-- Writes of a range were tried, and no flush succeeded among them.
pub record TriesWrites (v : Sector) (from to : ℕ) (old new : Disk) : Type 0 where
  pub more : List Entry
  pub puts : PutsRange v from to more old new
  pub quiet : AllByRecursion IsNoSuccess more

-- a flush was tried, and nothing else
pub record Syncs (more : List Entry) (old new : Disk) : Type 0 where
  pub start : new.start ≡ old.start
  pub log : new.log ≡ old.log ++ more
  pub held : new.held ≡ old.held
  pub rest : IsAtRest new

-- the range is written and durable: the log ends with the flush's answer, the first success in it
pub record IsDurable (v : Sector) (from to : ℕ) (more : List Entry) (d : Disk) : Type 0 where
  pub before : List Entry
  pub id : CallId
  pub ends : more ≡ before ++ Reply id answers.Ok ∷ []
  pub quiet : AllByRecursion IsNoSuccess before
  pub firm : EachFrom from to (MayHave v d)
  pub held : EachFrom from to (SectorHolds v d)

-- how a range was written and flushed: it is durable, or no flush succeeded
abbrev pub KeptBy : Result ⊤ ℕ → (v : Sector) (from to : ℕ) (more : List Entry) (d : Disk) → Type 0
KeptBy (Ok done) v from to more d = IsDurable v from to more d
KeptBy (Err number) v from to more d = AllByRecursion IsNoSuccess more

-- a range was written and flushed, or this was tried
pub record Fills (result : Result ⊤ ℕ) (v : Sector) (from to : ℕ) (old new : Disk) : Type 0 where
  pub more : List Entry
  pub puts : PutsRange v from to more old new
  pub kept : KeptBy result v from to more new

-- How far a new image was written that has these sectors behind its header: no flush has succeeded; or the first sector is
-- zeros, and nothing but zeros was written since; or all of them are zeros too, and nothing but the header was written since.
pub data Story (header zeros : Sector) (end : ℕ) (old new : Disk) : Type 0 where
  Begun : (more : List Entry) → PutsRange zeros 0 1 more old new → AllByRecursion IsNoSuccess more → Story header zeros end old new
  Blanked : (first : List Entry) (more : List Entry) (mid : Disk) → PutsRange zeros 0 1 first old mid → IsDurable zeros 0 1 first mid
      → PutsRange zeros 1 end more mid new → Story header zeros end old new
  Headed : (first : List Entry) (second : List Entry) (more : List Entry) (mid ready : Disk) → PutsRange zeros 0 1 first old mid
      → IsDurable zeros 0 1 first mid → PutsRange zeros 1 end second mid ready
      → EachFrom 1 end (MayHave zeros ready) → PutsRange header 0 1 more ready new → Story header zeros end old new

-- where the image was written whole, each of its sectors is held, and is all that a crash may leave
pub record IsImageWritten (header zeros : Sector) (end : ℕ) (d : Disk) : Type 0 where
  pub first : MayHave header d 0
  pub first_held : SectorHolds header d 0
  pub rest : EachFrom 1 end (MayHave zeros d)
  pub rest_held : EachFrom 1 end (SectorHolds zeros d)
