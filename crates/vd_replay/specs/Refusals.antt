-- Why an image isn't opened, by what the store holds.
use Rattle.std.specs.Prelude.{ℕ, ◌≡◌, ◌<◌, ◌≤◌, false, List, length, Some, Ok}
use Rattle.vd_law.specs.declared.entry.Sector.{Sector}
use Rattle.vd_format.specs.declared.header.Header.{Header}
use Rattle.vd_format.specs.Headers.{header_of}
use Rattle.vd_image.specs.Layouts.{layout_of}
use Rattle.vd_image.specs.Decoders.{entry_at, entry_place}
use Rattle.vd_image.specs.Refusals.{BadEntry, BadRecord, DoubleChunk}
use Rattle.vd_image.specs.Openings.{TooSmall, BadHeader, BadImage, RefusesOpening}
use Rattle.vd_replay.specs.Fresh.{is_fresh}
use Rattle.vd_replay.specs.Headers.{first_changed}
use Rattle.vd_replay.specs.Images.{image_of}
use Rattle.vd_replay.specs.Finding.{Found, KeepsFields}
use Rattle.vd_replay.specs.declared.error.OpenError.{OpenError}
use Rattle.vd_replay.specs.declared.error.OpenError.TheVariants as error

-- the value is the storage field of the chunk's entry in the map
abbrev pub IsValueOf : List Sector → (chunk value : ℕ) → Type 0
IsValueOf held chunk value = (h : Header) × (header_of (image_of held 0) ≡ Ok h) × (value ≡ (entry_at (image_of held ((layout_of h).map_at chunk)) (entry_place chunk)).storage)

-- an image of version 1 that holds more than it was made with
abbrev pub IsNotFresh : List Sector → Type 0
IsNotFresh held = (h : Header) × Found held h × (h.version ≡ 1) × (is_fresh h held ≡ false)

-- what is wrong with an image whose header was found
abbrev pub Unfilled : List Sector → OpenError → Type 0
Unfilled held (error.Store ticket) = Unit {0}
Unfilled held (error.BadEntry chunk value) = RefusesOpening (length held) (image_of held) (BadImage (BadEntry chunk)) × IsValueOf held chunk value
Unfilled held (error.BadRecord slot) = RefusesOpening (length held) (image_of held) (BadImage (BadRecord slot))
Unfilled held (error.DoubleChunk a b) = RefusesOpening (length held) (image_of held) (BadImage (DoubleChunk a b))
Unfilled held error.NotBuilt = IsNotFresh held
Unfilled held e = ⊥

-- The content is refused for this, and for nothing that comes before, where versions below `oldest` are refused. Of failed calls and of memory nothing is said.
abbrev pub Refused : (oldest : ℕ) → List Sector → OpenError → Type 0
Refused oldest held (error.Store ticket) = Unit {0}
Refused oldest held error.NoMemory = Unit {0}
Refused oldest held (error.Header e) = RefusesOpening (length held) (image_of held) (BadHeader e)
Refused oldest held (error.TooSmall need have) = RefusesOpening (length held) (image_of held) (TooSmall need have)
Refused oldest held error.OldVersion = (h : Header) × Found held h × (h.version < oldest)
Refused oldest held (error.BadEntry chunk value) = RefusesOpening (length held) (image_of held) (BadImage (BadEntry chunk)) × IsValueOf held chunk value
Refused oldest held (error.BadRecord slot) = RefusesOpening (length held) (image_of held) (BadImage (BadRecord slot))
Refused oldest held (error.DoubleChunk a b) = RefusesOpening (length held) (image_of held) (BadImage (DoubleChunk a b))
Refused oldest held (error.Changed field) = ⊥
Refused oldest held error.NotBuilt = (oldest ≤ 1) × IsNotFresh held

-- The content is refused for this where it is read again, the header before being `kept`.
abbrev pub RefusedAgain : (kept : Header) → List Sector → OpenError → Type 0
RefusedAgain kept held (error.Changed field) = (h : Header) × (0 < length held) × (header_of (image_of held 0) ≡ Ok h) × (first_changed kept h ≡ Some field)
RefusedAgain kept held error.OldVersion = ⊥
RefusedAgain kept held error.NoMemory = ⊥
RefusedAgain kept held (error.Store ticket) = Unit {0}
RefusedAgain kept held e = Refused 1 held e × KeepsFields (Some kept) held

-- the errors of an opening but those that only a first one gives; of a store fault's ticket P holds
abbrev pub IsOfReload : (P : ℕ → Type 0) → OpenError → Type 0
IsOfReload P (error.Store ticket) = P ticket
IsOfReload P error.OldVersion = ⊥
IsOfReload P error.NoMemory = ⊥
IsOfReload P e = Unit {0}
