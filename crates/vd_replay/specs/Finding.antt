-- What the search for a header finds.
use Rattle.std.specs.Prelude.{ℕ, ◌≡◌, ◌<◌, ◌≤◌, List, length, Option, Some, None, Ok}
use Rattle.vd_law.specs.declared.entry.Sector.{Sector}
use Rattle.vd_format.specs.declared.header.Header.{Header}
use Rattle.vd_format.specs.Headers.{header_of}
use Rattle.vd_format.specs.Layouts.{store_need}
use Rattle.vd_image.specs.Openings.{TooSmall, BadHeader, RefusesOpening}
use Rattle.vd_replay.specs.Headers.{first_changed}
use Rattle.vd_replay.specs.Images.{image_of}
use Rattle.vd_replay.specs.declared.error.OpenError.{OpenError}
use Rattle.vd_replay.specs.declared.error.OpenError.TheVariants as error

-- the first sector says this header, and the store is large enough for its layout
pub record Found (held : List Sector) (h : Header) : Type 0 where
  pub some : 0 < length held
  pub reads : header_of (image_of held 0) ≡ Ok h
  pub room : store_need h ≤ length held

-- no field that never changes differs from the kept header, if there is one
abbrev pub Agrees : Option Header → Header → Type 0
Agrees None h = Unit {0}
Agrees (Some kept) h = first_changed kept h ≡ None

-- this field is the first that differs
abbrev pub HasChanged : Option Header → Header → (field : ℕ) → Type 0
HasChanged None h field = ⊥
HasChanged (Some kept) h field = first_changed kept h ≡ Some field

-- what is wrong with a header, on a store of so many sectors
abbrev pub IsWrong : Option Header → Header → (have : ℕ) → OpenError → Type 0
IsWrong kept h have (error.Changed field) = HasChanged kept h field
IsWrong kept h have (error.TooSmall need n) = Agrees kept h × (need ≡ store_need h) × (n ≡ have) × (have < store_need h)
IsWrong kept h have e = ⊥

-- the header that is read, if one is, keeps the fields that never change
abbrev pub KeepsFields : Option Header → List Sector → Type 0
KeepsFields kept held = (h : Header) → 0 < length held → header_of (image_of held 0) ≡ Ok h → Agrees kept h

-- why none was found. Of failed calls nothing is said.
abbrev pub NotFound : Option Header → List Sector → OpenError → Type 0
NotFound kept held (error.Store ticket) = Unit {0}
NotFound kept held (error.Header e) = RefusesOpening (length held) (image_of held) (BadHeader e)
NotFound kept held (error.TooSmall need have) = RefusesOpening (length held) (image_of held) (TooSmall need have) × KeepsFields kept held
NotFound kept held (error.Changed field) = (h : Header) × (0 < length held) × (header_of (image_of held 0) ≡ Ok h) × HasChanged kept h field
NotFound kept held e = ⊥

-- the errors of this search; of a store fault's ticket P holds
abbrev pub IsHeaderSearchError : (P : ℕ → Type 0) → OpenError → Type 0
IsHeaderSearchError P (error.Store ticket) = P ticket
IsHeaderSearchError P (error.Header e) = Unit {0}
IsHeaderSearchError P (error.TooSmall need have) = Unit {0}
IsHeaderSearchError P (error.Changed field) = Unit {0}
IsHeaderSearchError P e = ⊥

-- where the answer is a store fault, P holds of its ticket
abbrev pub ForStore : (ℕ → Type 0) → OpenError → Type 0
ForStore P (error.Store ticket) = P ticket
ForStore P e = Unit {0}
