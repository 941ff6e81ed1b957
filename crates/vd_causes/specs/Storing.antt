-- Why a write is Full: which chunks had storage at opening, and for which the writes of a history have taken some.
use Rattle.std.specs.Prelude.{ℕ, ◌≡◌, ◌↔◌, ◌+◌, ◌<◌, Bool, false, not, ◌&&◌, ◌||◌, nat_le, nat_lt, List, length, take, Option, Some, None, slice_get}
use Rattle.std.specs.List.{list_any, count_by, range_with_len}
use Rattle.vd_law.specs.declared.entry.Sector.{Sector}
use Rattle.vd_law.specs.declared.entry.CallId.{CallId}
use Rattle.vd_law.specs.declared.entry.Answer.TheVariants.{Full}
use Rattle.vd_law.specs.Entries.{Asked, Write, Entry, Ask, Reply, same_call}
use Rattle.vd_format.specs.declared.map.Entry.{Entry as MapEntry}
use Rattle.vd_table.specs.Tables.{TableState}
use Rattle.vd_passes.specs.declared.shape.Shape.{Shape}
use Rattle.vd_machine.specs.Asking.{run_from, run_count}

-- the chunk is one of those of a write's range
abbrev pub touches : Shape → Asked → (chunk : ℕ) → Bool
touches shape request chunk = nat_le (run_from shape request) chunk && nat_lt chunk (run_from shape request + run_count shape request)

-- the call is answered Full
abbrev pub is_full_to : CallId → Entry → Bool
is_full_to id (Reply other (Full needed free)) = same_call other id
is_full_to id e = false

abbrev pub is_answered_full : List Entry → CallId → Bool
is_answered_full history id = list_any (is_full_to id) history

-- the entry asks a write that touches the chunk and isn't answered Full in the history
abbrev pub counts_for : Shape → List Entry → (chunk : ℕ) → Entry → Bool
counts_for shape history chunk (Ask id request) = touches shape request chunk && not (is_answered_full history id)
counts_for shape history chunk e = false

-- the entry of a chunk gives it storage
abbrev pub gives_storage : Option MapEntry → Bool
gives_storage None = false
gives_storage (Some e) = nat_lt 0 e.storage

-- the chunk had storage by these entries of the map, or is touched by a write among these that isn't answered Full in the history
unfoldable pub is_counted : Shape → (had : List MapEntry) → (history asked : List Entry) → (chunk : ℕ) → Bool
is_counted shape had history asked chunk = gives_storage (slice_get had chunk) || list_any (counts_for shape history chunk) asked

-- The write lacks so many storage chunks, and so many are free, where these chunks have storage.
pub record IsFullCaused (shape : Shape) (counted : ℕ → Bool) (chunks storage : ℕ) (request : Asked) (needed free : ℕ) : Type 0 where
  pub lacking : needed ≡ count_by (λ c. not (counted c)) (range_with_len (run_from shape request) (run_count shape request))
  pub free_is : free + count_by counted (range_with_len 0 chunks) ≡ storage
  pub fewer : free < needed

-- Each Full of the history answers the write that was asked just before it, and is due to what had storage at opening and what was
-- asked before.
abbrev pub AreFullsCaused : Shape → (had : List MapEntry) → (chunks storage : ℕ) → List Entry → Type 0
AreFullsCaused shape had chunks storage history = (at : ℕ) (id : CallId) (needed free : ℕ) → slice_get history (at + 1) ≡ Some (Reply id (Full needed free))
    → (first : ℕ) × (content : List Sector) × (slice_get history at ≡ Some (Ask id (Write first content))) × IsFullCaused shape (is_counted shape had history (take at history)) chunks storage (Write first content) needed free

-- the chunks that have storage are those that had some and those for which writes have taken it
pub record IsStoredBy (shape : Shape) (had : List MapEntry) (table : TableState) (history : List Entry) : Type 0 where
  pub counted : (chunk : ℕ) → chunk < length table.chunks → (slice_get table.chunks chunk ≡ Some None) ↔ (is_counted shape had history history chunk ≡ false)
  pub fulls : AreFullsCaused shape had (length table.chunks) table.storage history
