-- What no call may change of a device, and what never falls. The traits' own clauses hand these the members of the trait.
use Rattle.std.specs.Prelude.{ℕ, ◌≡◌, ◌≤◌, List, ◌++◌}
use Rattle.vd_law.specs.declared.entry.Sector.{Sector}
use Rattle.vd_law.specs.Entries.{Entry}
use Rattle.vd_device.specs.declared.ticket.Ticket.{Ticket}
use Rattle.vd_device.specs.Disks.{Disk, GrowsBy, HasStopped, StoppedSince, Records, TellsOrStopped}
use Rattle.vd_device.specs.Calls.{next_number}

-- the log before is the front of the log after, from the same start
pub record GoesOn (old new : Disk) : Type 0 where
  pub start : new.start ≡ old.start
  pub more : List Entry
  pub log : new.log ≡ old.log ++ more

module _ {S : Type 0} where
  -- The device is as large and as deep as it was, no count has fallen, and the last ticket's number has not.
  pub record CountsStand (sectors_of depth_of faults_of late_of last_of : S → ℕ) (s s' : S) : Type 0 where
    pub sectors : sectors_of s' ≡ sectors_of s
    pub depth : depth_of s' ≡ depth_of s
    pub faults : faults_of s ≤ faults_of s'
    pub late : late_of s ≤ late_of s'
    pub last : last_of s ≤ last_of s'

  -- What a store tells and logs it did before. Where it logs, the log has gone on from what it was, the store tells all or has
  -- stopped, and one that had stopped stands as it stood.
  pub record TellingStands (tells_of logs_of : S → Type 0) (disk_of : S → Disk) (events_of : S → ℕ) (s s' : S) : Type 0 where
    pub events : events_of s ≤ events_of s'
    pub told_before : tells_of s' → tells_of s
    pub recorded_before : logs_of s' → logs_of s
    pub goes_on : logs_of s' → GoesOn (disk_of s) (disk_of s')
    pub state : logs_of s' → TellsOrStopped (tells_of s') (events_of s') (disk_of s')
    pub stood : logs_of s' → HasStopped (events_of s) (disk_of s) → StoppedSince (events_of s') (disk_of s) (disk_of s')

  -- A store took these events in one call, and no others: all of them where it tells, all or none where it logs.
  pub record TakesEvents (tells_of logs_of : S → Type 0) (disk_of : S → Disk) (events_of : S → ℕ) (es : List Entry) (s s' : S) : Type 0 where
    pub keeps : TellingStands tells_of logs_of disk_of events_of s s'
    pub told : tells_of s' → GrowsBy es (disk_of s) (disk_of s')
    pub recorded : logs_of s' → Records es (events_of s) (events_of s') (disk_of s) (disk_of s')

  -- what a base tells it told before, and its content is the same
  pub record ContentStands (tells_of : S → Type 0) (content_of : S → List Sector) (s s' : S) : Type 0 where
    pub told_before : tells_of s' → tells_of s
    pub content : tells_of s' → content_of s' ≡ content_of s

  -- the ticket has the next number, which is the last one from now on
  pub record IsNextTicket (last_of : S → ℕ) (ticket : Ticket) (s s' : S) : Type 0 where
    pub number : ticket.number ≡ next_number (last_of s)
    pub last : last_of s' ≡ ticket.number
