-- What a call does that submits and waits.
use Rattle.std.specs.Prelude.{ℕ, ◌≡◌, ◌+◌, ◌<◌, ◌≤◌, ◌⊎◌, List, [], ◌∷◌, ◌++◌, length, slice_get, ⊤, Result, Ok, Err}
use Rattle.vd_law.specs.declared.entry.Sector.{Sector}
use Rattle.vd_law.specs.declared.entry.CallId.{CallId}
use Rattle.vd_law.specs.declared.entry.Answer.TheVariants.{Ok as Fine, StoreFault}
use Rattle.vd_law.specs.Entries.{Read, Flush, Entry, Ask, Issue, Done, Broke, Seen, Reply}
use Rattle.vd_device.specs.Disks.{Disk, IsHonest, IsUnwrittenAt}

-- the call of the ticket with this number
abbrev pub call_number : ℕ → CallId
call_number number = record { pass = 0; call = number }

-- the two entries of a read of so many sectors, by the ticket with this number
abbrev pub read_entries : (number first count : ℕ) → (out : List Sector) → Result ⊤ ℕ → List Entry
read_entries number first count out (Ok done) = Ask (call_number number) (Read first count) ∷ Seen (call_number number) first out ∷ []
read_entries number first count out (Err failed) = Ask (call_number number) (Read first count) ∷ Reply (call_number number) (StoreFault number 0) ∷ []

abbrev pub write_entries : (number first : ℕ) → (content : List Sector) → Result ⊤ ℕ → List Entry
write_entries number first content (Ok done) = Issue (call_number number) first content ∷ Done (call_number number) ∷ []
write_entries number first content (Err failed) = Issue (call_number number) first content ∷ Broke (call_number number) ∷ []

abbrev pub flush_entries : (number : ℕ) → Result ⊤ ℕ → List Entry
flush_entries number (Ok done) = Ask (call_number number) Flush ∷ Reply (call_number number) Fine ∷ []
flush_entries number (Err failed) = Ask (call_number number) Flush ∷ Reply (call_number number) (StoreFault number 0) ∷ []

-- What is held changed only in the range, and where a write is open before or after.
abbrev pub KeepsOutside : (first count : ℕ) → Disk → Disk → Type 0
KeepsOutside first count old new = (s : ℕ) → (s < first) ⊎ (first + count ≤ s) → IsUnwrittenAt old s → IsUnwrittenAt new s → slice_get new.held s ≡ slice_get old.held s

-- an honest store took these entries of one write to this range
pub record WritesBy (entries : List Entry) (first count : ℕ) (old new : Disk) : Type 0 where
  pub start : new.start ≡ old.start
  pub log : new.log ≡ old.log ++ entries
  pub size : length new.held ≡ length old.held
  pub others : KeepsOutside first count old new
  pub honest_before : IsHonest old
  pub honest : IsHonest new
