-- What calls that write nothing leave of a store, and of a base.
use Rattle.std.specs.Prelude.{ℕ, ◌≡◌, ◌<◌, ◌≤◌, List, [], ◌++◌, length, take, drop, Some, Ok, slice_get}
use Rattle.vd_law.specs.declared.entry.Sector.{Sector}
use Rattle.vd_law.specs.declared.entry.Answer.TheVariants.{StoreFault}
use Rattle.vd_law.specs.Entries.{Entry, Issue, Reply}
use Rattle.std.specs.List.{AllByRecursion}
use Rattle.vd_device.specs.declared.store.Store as store
use Rattle.vd_device.specs.declared.base.Base as base
use Rattle.vd_device.specs.Disks.{Disk, IsUnwrittenAt}
use Rattle.vd_device.specs.Now.{call_number, flush_entries}
use Rattle.vd_device.specs.Stores.{IsTold, KeepsStore}
use Rattle.vd_device.specs.Bases.{KeepsBase}
use Rattle.vd_law.specs.Counts.{Rose}

-- so many sectors of a disk from `first` on
abbrev pub sectors_from : List Sector → (first count : ℕ) → List Sector
sectors_from disk first count = take count (drop first disk)

-- no write is open
abbrev pub IsAtRest : Disk → Type 0
IsAtRest d = (s : ℕ) → IsUnwrittenAt d s

-- the entry begins no write
abbrev pub IsNoWrite : Entry → Type 0
IsNoWrite (Issue id first content) = ⊥
IsNoWrite _ = Unit {0}

-- the log has grown by entries that begin no write
pub record AddsNoWrite (old new : Disk) : Type 0 where
  pub start : new.start ≡ old.start
  pub more : List Entry
  pub none : AllByRecursion IsNoWrite more
  pub log : new.log ≡ old.log ++ more

-- the log has grown by a flush that succeeded, and then by entries that begin no write
pub record AddsFlush (old new : Disk) : Type 0 where
  pub start : new.start ≡ old.start
  pub number : ℕ
  pub more : List Entry
  pub none : AllByRecursion IsNoWrite more
  pub log : new.log ≡ old.log ++ (flush_entries number (Ok tt) ++ more)

-- The store's call of this ticket ended in the log by a Reply that isn't Ok, at an event numbered above `from`. The event at place k
-- of the log is the one of number k + 1.
pub record EndsBadly (ticket from : ℕ) (log : List Entry) : Type 0 where
  pub at : ℕ
  pub reply : slice_get log at ≡ Some (Reply (call_number ticket) (StoreFault ticket 0))
  pub after : from ≤ at

module _ {S : Type 0} (g : store.Ghosts S) where
  -- Nothing is in flight, there is a place in flight, where the contents are told no write is open, and where the log is told
  -- all is told or the store has stopped.
  pub record IsReady (s : S) : Type 0 where
    pub idle_is : g.flight s []
    pub deep : 0 < g.depth s
    pub rest : g.tells s → IsAtRest (g.disk s)
    pub told : IsTold g s

  -- What calls leave that only read: nothing is in flight. Where the store tells its contents none has changed, no write was
  -- begun, and none is open if none was; where its log is told no write was begun.
  pub record OnlyReads (s s' : S) : Type 0 where
    pub keeps : KeepsStore g s s'
    pub idle : g.flight s' []
    pub held : g.tells s' → (g.disk s').held ≡ (g.disk s).held
    pub rest : (g.tells s → IsAtRest (g.disk s)) → g.tells s' → IsAtRest (g.disk s')
    pub added : g.tells s' → AddsNoWrite (g.disk s) (g.disk s')
    pub recorded : g.records s' → AddsNoWrite (g.disk s) (g.disk s')

  -- A call of any kind failed: the number is the last ticket's, which was given since, and the count of faults rose.
  pub record IsCallFault (s s' : S) (number : ℕ) : Type 0 where
    pub ticket : number ≡ g.last s'
    pub since : Rose (g.last s) number
    pub rose : Rose (g.faults s) (g.faults s')

  -- A read or a flush failed: the same, and where the store tells, its log tells of the failure behind what it had told before.
  pub record IsStoreFault (s s' : S) (number : ℕ) : Type 0 where
    pub ticket : number ≡ g.last s'
    pub since : Rose (g.last s) number
    pub rose : Rose (g.faults s) (g.faults s')
    pub logged : g.tells s' → EndsBadly number (length (g.disk s).log) (g.disk s').log

module _ {B : Type 0} (h : base.Ghosts B) where
  -- what calls on a base leave: nothing in flight
  pub record OnlyReadsBase (b b' : B) : Type 0 where
    pub keeps : KeepsBase h b b'
    pub idle : h.flight b' []

  -- a read of a base failed: the number is the last ticket's, which was given since, and the count of faults rose
  pub record IsFault (b b' : B) (number : ℕ) : Type 0 where
    pub ticket : number ≡ h.last b'
    pub since : Rose (h.last b) number
    pub rose : Rose (h.faults b) (h.faults b')
