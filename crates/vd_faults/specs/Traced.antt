-- What the origins of a tape say of a store's log.
use Rattle.std.specs.Prelude.{ℕ, ◌≡◌, ◌+◌, ◌≤◌, List, length, take, Some, None, slice_get}
use Rattle.vd_law.specs.declared.entry.Sector.{Sector}
use Rattle.vd_law.specs.declared.entry.CallId.{CallId}
use Rattle.vd_law.specs.Entries.{Entry, Ask, Issue, Done, Broke, Seen, Reply, Past, past}
use Rattle.vd_law.specs.Contents.{sector_in, issued_contents, open_write, issue_number, last_done, firm_after}
use Rattle.vd_faults.specs.Tapes.{TapeState}

-- A Done after p, of the call of this Issue, ends the last write on each sector of the Issue and none on another sector.
pub record EndsLastWrites (sectors : ℕ) (p : Past) (id : CallId) (first : ℕ) (content : List Sector) : Type 0 where
  pub inside : first + length content ≤ sectors
  pub on : (s : ℕ) (v : Sector) → sector_in first content s ≡ Some v → issue_number (open_write p id s) ≡ length (issued_contents p s)
  pub off : (s : ℕ) → sector_in first content s ≡ None → open_write p id s ≡ None

-- the call's Issue stands at the place, and a Done after p ends it
pub record IsOrigin (sectors : ℕ) (log : List Entry) (p : Past) (id : CallId) (place : ℕ) : Type 0 where
  pub first : ℕ
  pub content : List Sector
  pub issue : slice_get log place ≡ Some (Issue id first content)
  pub ends : EndsLastWrites sectors p id first content

-- the entry after p, whose call began at the place
abbrev pub IsTracedAt : (sectors : ℕ) (log : List Entry) → Past → Entry → (place : ℕ) → Type 0
IsTracedAt sectors log p (Ask id request) place = Unit {0}
IsTracedAt sectors log p (Issue id first content) place = first + length content ≤ sectors
IsTracedAt sectors log p (Done id) place = IsOrigin sectors log p id place
IsTracedAt sectors log p (Broke id) place = Unit {0}
IsTracedAt sectors log p (Seen id first content) place = Unit {0}
IsTracedAt sectors log p (Reply id answer) place = Unit {0}

-- Each entry has its origin, and the firm writes are those that were done among the sealed entries.
pub record IsTracedTape (sectors : ℕ) (tape : TapeState) : Type 0 where
  pub all : length tape.origins ≡ length tape.log.entries
  pub each : (i : ℕ) (e : Entry) (place : ℕ) → slice_get tape.log.entries i ≡ Some e → slice_get tape.origins i ≡ Some place → IsTracedAt sectors tape.log.entries (past (take i tape.log.entries)) e place
  pub sealed : tape.sealed ≤ length tape.log.entries
  pub firm : (s : ℕ) → firm_after (past tape.log.entries) s ≡ last_done (past (take tape.sealed tape.log.entries)) s
