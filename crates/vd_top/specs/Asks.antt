-- What the words ask for.
use Rattle.std.specs.Prelude.{ℕ, ◌≡◌, false, min, List}
use Rattle.vd_format.specs.declared.header.Header.{Header}
use Rattle.vd_command.specs.declared.command.Command.TheVariants.{Show, Make, Run}
use Rattle.vd_command.specs.Words.{Spells, made_header}

-- the words are no `show`
abbrev pub IsNoShow : List (List ℕ) → Type 0
IsNoShow words = (first count : ℕ) → Spells words (Show first count) → ⊥

-- the header of the image that these numbers make over a base of so many sectors, all of which are tracked that the disk has
abbrev pub new_header : (size block chunk storage slots base_sectors : ℕ) → Header
new_header size block chunk storage slots base_sectors = record (made_header size block chunk storage slots) { tracked = min base_sectors size }

-- over a base of so many sectors the words ask for an image with this header
pub record AsksFor (words : List (List ℕ)) (base_sectors : ℕ) (h : Header) : Type 0 where
  pub size : ℕ
  pub block : ℕ
  pub chunk : ℕ
  pub storage : ℕ
  pub slots : ℕ
  pub spells : Spells words (Make size block chunk storage slots)
  pub header : h ≡ new_header size block chunk storage slots base_sectors

-- the words are no `make`
abbrev pub IsNoMake : List (List ℕ) → Type 0
IsNoMake words = (size block chunk storage slots : ℕ) → Spells words (Make size block chunk storage slots) → ⊥

-- the words ask for a run of one guest without workers, that copies nothing; all other runs are not built yet
abbrev pub AsksRun : List (List ℕ) → Type 0
AsksRun words = Spells words (Run 1 0 false 0)

abbrev pub IsNoRun : List (List ℕ) → Type 0
IsNoRun words = AsksRun words → ⊥

-- the words are none of the commands that are done
abbrev pub IsNoCommand : List (List ℕ) → Type 0
IsNoCommand words = IsNoShow words × IsNoMake words × IsNoRun words
