-- The devices that a command's words name.
use Rattle.std.specs.Prelude.{ℕ, ◌≡◌, Bool, true, false, ◌||◌, List, ◌∷◌, Option, Some, IsTrue, IsFalse, codes}
use Rattle.std.specs.Option.{is_some}
use Rattle.std.specs.Str.{bytes_eq}
use Rattle.vd_file.specs.Standing.{FileState, unused_file}

-- it is `show`, `run` or a command that makes its store
abbrev pub is_over_files : List ℕ → (makes : Bool) → Bool
is_over_files command makes = (bytes_eq command (codes "show") || bytes_eq command (codes "run")) || makes

-- the words name a store and a base: both words stand behind such a command
abbrev pub names_devices : List (List ℕ) → (makes : Bool) → Bool
names_devices (command ∷ store ∷ base ∷ rest) makes = is_over_files command makes
names_devices words makes = false

-- These are the devices of a command with these words, which makes a store of so many sectors or none: unused ones over
-- files where the words name some, and else devices of no sectors.
pub record AreNamed (words : List (List ℕ)) (made : Option ℕ) (store base : FileState) : Type 0 where
  pub files : IsTrue (names_devices words (is_some made)) → (store ≡ unused_file true store.sectors) × (base ≡ unused_file true base.sectors)
  pub made_so : IsTrue (names_devices words (is_some made)) → (sectors : ℕ) → made ≡ Some sectors → store.sectors ≡ sectors
  pub none : IsFalse (names_devices words (is_some made)) → (store ≡ unused_file false 0) × (base ≡ unused_file false 0)
