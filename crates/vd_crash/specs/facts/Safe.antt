-- Crash safety: at each moment each image opens, and each of its sectors has a content that the guest's history allows.
use Rattle.std.specs.Prelude.{ℕ, ◌<◌, ◌≤◌, List, [], ◌∷◌, Bool, if◌then◌else◌, nat_le, length, map, take}
use Rattle.vd_image.specs.Log.{Sector, Entry, May, IsImage}
use Rattle.vd_image.specs.Image.{Format, Layout, IsSound, DiskHas}

-- an entry of the guest's history, with the number of store events before it
pub record NumberedEntry : Type 0 where
  pub event : Entry
  pub number : ℕ

abbrev pub events : List NumberedEntry → List Entry
events history = map (λ e. e.event) history

-- the entries that are numbered k at most
abbrev pub events_up_to : List NumberedEntry → ℕ → List Entry
events_up_to [] k = []
events_up_to (e ∷ history) k = if nat_le e.number k then e.event ∷ events_up_to history k else events_up_to history k

-- these entries with these numbers
abbrev pub numbered : List Entry → List ℕ → List NumberedEntry
numbered [] numbers = []
numbered (e ∷ entries) [] = []
numbered (e ∷ entries) (n ∷ numbers) = record { event = e; number = n } ∷ numbered entries numbers

-- what doesn't change in a run: how bytes are read, where everything stands, the base, what the store held when it was
-- opened, the guest's disk then and which blocks were local, and the number of store events then
pub record Opening : Type 0 where
  pub format : Format
  pub layout : Layout
  pub base : ℕ → Sector
  pub zeros : Sector
  pub before : ℕ → Sector
  pub held : ℕ → Sector
  pub disk : ℕ → Sector
  pub was_local : ℕ → Bool
  pub opened : ℕ

-- the image opens, and each sector of its disk has a content that this history allows
pub record IsSafeImage (o : Opening) (history : List Entry) (image : ℕ → Sector) : Type 0 where
  pub sound : IsSound o.format o.layout image
  pub allowed : (s : ℕ) (v : Sector) → s < o.layout.size → DiskHas o.format o.layout o.base o.zeros image s v → May o.disk history s v

-- each image that a crash may leave with this log is safe
abbrev pub IsSafeNow : Opening → List Entry → List Entry → Type 0
IsSafeNow o log history = (image : ℕ → Sector) → IsImage o.before log image → IsSafeImage o history image

-- at each moment since opening each image is safe
abbrev pub IsSafe : Opening → List Entry → List NumberedEntry → Type 0
IsSafe o log history = (k : ℕ) → o.opened ≤ k → k ≤ length log → IsSafeNow o (take k log) (events_up_to history k)
