-- Where the call that a store fault names stands in the store's log.
use Rattle.std.specs.Prelude.{ℕ, ◌≡◌, ◌<◌, ◌≤◌, false, List, Some, slice_get}
use Rattle.vd_law.specs.declared.entry.Sector.{Sector}
use Rattle.vd_law.specs.declared.entry.CallId.{CallId}
use Rattle.vd_law.specs.declared.entry.Answer.TheVariants.{StoreFault}
use Rattle.vd_law.specs.Entries.{Asked, Read, Write, Flush, Entry, Ask, Issue, Broke, Reply}
use Rattle.vd_law.specs.Rules.{is_ok}
use Rattle.vd_device.specs.Now.{call_number}

-- the entry of the store's log with which the call of this ticket failed
abbrev pub IsFailure : (ticket : ℕ) → Entry → Type 0
IsFailure ticket (Broke id) = id ≡ call_number ticket
IsFailure ticket (Reply id answer) = (id ≡ call_number ticket) × (is_ok answer ≡ false)
IsFailure ticket e = ⊥

-- The ticket failed at an event that is numbered above `from` and at most `to`. The event at place k of the log is the one of
-- number k + 1.
pub record FailsBetween (log : List Entry) (ticket from to : ℕ) : Type 0 where
  pub at : ℕ
  pub entry : Entry
  pub there : slice_get log at ≡ Some entry
  pub fails : IsFailure ticket entry
  pub after : from ≤ at
  pub before : at < to

-- the ticket is a read's
abbrev pub IsReadIn : (log : List Entry) (ticket : ℕ) → Type 0
IsReadIn log ticket = (at first count : ℕ) × (slice_get log at ≡ Some (Ask (call_number ticket) (Read first count)))

-- the ticket is that of the store's Issue at this place of the log
abbrev pub IsIssueAt : (log : List Entry) (ticket at : ℕ) → Type 0
IsIssueAt log ticket at = (first : ℕ) × (content : List Sector) × (slice_get log at ≡ Some (Issue (call_number ticket) first content))

-- at this place of the history stands the last Issue of the call before place `to`
pub record IsLastIssue (history : List Entry) (id : CallId) (at to : ℕ) : Type 0 where
  pub first : ℕ
  pub content : List Sector
  pub there : slice_get history at ≡ Some (Issue id first content)
  pub before : at < to
  pub last : (k other : ℕ) (more : List Sector) → at < k → k < to → slice_get history k ≡ Some (Issue id other more) → ⊥

-- A read's ticket is one of a read; a write's is that of the store's Issue that stands in the log at the number of the call's
-- last Issue in the history, whose entries before place `to` are looked at.
abbrev pub IsTicketOf : Asked → (log history : List Entry) (numbers : List ℕ) (id : CallId) (ticket to : ℕ) → Type 0
IsTicketOf (Read first count) log history numbers id ticket to = IsReadIn log ticket
IsTicketOf (Write first content) log history numbers id ticket to =
    (at number : ℕ) × IsLastIssue history id at to × (slice_get numbers at ≡ Some number) × IsIssueAt log ticket number
IsTicketOf Flush log history numbers id ticket to = Unit {0}

-- The call's ticket failed after the call was asked, at an event numbered at most `now`; the history before place `to` is looked at.
pub record IsTraced (log history : List Entry) (numbers : List ℕ) (id : CallId) (ticket to now : ℕ) : Type 0 where
  pub at : ℕ
  pub request : Asked
  pub asked : slice_get history at ≡ Some (Ask id request)
  pub number : ℕ
  pub numbered : slice_get numbers at ≡ Some number
  pub failed : FailsBetween log ticket number now
  pub ticket_is : IsTicketOf request log history numbers id ticket to

-- each store fault of the history is one of the store's log
abbrev pub AreTraced : (log history : List Entry) (numbers : List ℕ) → Type 0
AreTraced log history numbers = (to : ℕ) (id : CallId) (ticket done now : ℕ) → slice_get history to ≡ Some (Reply id (StoreFault ticket done)) → slice_get numbers to ≡ Some now
    → IsTraced log history numbers id ticket to now
