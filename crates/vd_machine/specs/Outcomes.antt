-- What the history has from a settle.
use Rattle.std.specs.Prelude.{ℕ, List, [], ◌∷◌}
use Rattle.vd_device.specs.declared.settled.Settled.{Settled}
use Rattle.vd_device.specs.declared.settled.Settled.TheVariants as settled
pub use Rattle.vd_machine.specs.Flushing.{outcome_of}

-- the numbers of the entries that a settle adds: one, unless it was late
abbrev pub numbers_of : Settled → (events : ℕ) → List ℕ
numbers_of settled.Done events = events ∷ []
numbers_of (settled.NotYet same) events = []
numbers_of (settled.Failed number) events = events ∷ []

-- the same of a read, which adds an entry where it is done
abbrev pub read_numbers_of : Settled → (events : ℕ) → List ℕ
read_numbers_of settled.Done events = events ∷ []
read_numbers_of (settled.NotYet same) events = []
read_numbers_of (settled.Failed number) events = []

abbrev pub read_sectors_of : Settled → (piece : ℕ) → ℕ
read_sectors_of settled.Done piece = piece
read_sectors_of (settled.NotYet same) piece = 0
read_sectors_of (settled.Failed number) piece = 0
