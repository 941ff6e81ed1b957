-- What the core keeps of a pass whose write, or copy, is in flight.
use Rattle.std.specs.Prelude.{ℕ, ◌≡◌, ◌<◌, List}
use Rattle.vd_image.specs.Log.{IsWriteInFlight, Sector, CallId, Entry, Covers, Writes}
use Rattle.vd_crash.specs.facts.Safe.{NumberedEntry, events, Opening}
use Rattle.vd_crash.specs.facts.Facts.{HasEntry}

-- The call's write of the j-th entry, to this block, is in flight, and its store write under this ticket is at its number.
pub record IsPieceInFlight (o : Opening) (log : List Entry) (history : List NumberedEntry) (b : ℕ) (call ticket : CallId) (j n : ℕ) : Type 0 where
  pub event : Entry
  pub stands : HasEntry history j n event
  pub block : (s : ℕ) (v : Sector) → Covers event s v → o.layout.block_of s ≡ b
  pub guest : IsWriteInFlight (events history) j call
  pub store : IsWriteInFlight log n ticket
  -- it is the call's one write in flight
  pub only : (k : ℕ) → IsWriteInFlight (events history) k call → k ≡ j

-- The put of v into sector a, under this ticket, is in flight, and nothing was written there since.
pub record IsPutting (log : List Entry) (a : ℕ) (v : Sector) (ticket : CallId) (i : ℕ) : Type 0 where
  pub writes : Writes log i a v
  pub flight : IsWriteInFlight log i ticket
  pub last : (j : ℕ) (u : Sector) → i < j → Writes log j a u → ⊥
