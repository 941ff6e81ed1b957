-- What a line says, as a function of its bytes.
use Rattle.std.specs.Prelude.{ℕ, Bool, true, not, ◌&&◌, ◌==◌, nat_le, if◌then◌else◌, List, [], ◌∷◌, Option, Some, None, Result, Ok, Err, codes, option_and_then}
use Rattle.std.specs.Str.{bytes_eq}
use Rattle.std.specs.List.{slice_split}
use Rattle.hex.specs.declared.error.FromHexError.{FromHexError}
use Rattle.hex.specs.Hex.{decode_sized}
use Rattle.vd_decimal.specs.Numbers.{number_in}
use Rattle.vd_law.specs.declared.entry.Sector.{Sector}
use Rattle.vd_trace.specs.declared.line.Line.{Line}
use Rattle.vd_trace.specs.declared.line.Line.TheVariants.{Nothing, Asks, Shows}
use Rattle.vd_trace.specs.declared.line.Work.{Work}
use Rattle.vd_trace.specs.declared.line.Work.TheVariants.{Read, Fill, Put, Flush}

-- the number that a field spells, if it lies in this range
abbrev pub ranged_in : (low high : ℕ) → List ℕ → Option ℕ
ranged_in low high field = option_and_then (λ n. if nat_le low n && nat_le n high then Some n else None) (number_in 10 field)

abbrev pub guest_in : (guests : ℕ) → List ℕ → Option ℕ
guest_in guests field = ranged_in 1 guests field

abbrev pub count_of_field : List ℕ → Option ℕ
count_of_field field = ranged_in 1 2048 field

abbrev pub first_byte : Result (List ℕ) FromHexError → Option ℕ
first_byte (Ok (b ∷ bytes)) = Some b
first_byte (Ok []) = None
first_byte (Err e) = None

abbrev pub byte_in : List ℕ → Option ℕ
byte_in field = first_byte (decode_sized field 1)

abbrev pub as_sector : Result (List ℕ) FromHexError → Option Sector
as_sector (Ok bytes) = Some (record { bytes = bytes })
as_sector (Err e) = None

abbrev pub sector_of_field : List ℕ → Option Sector
sector_of_field field = as_sector (decode_sized field 512)

-- what the fields behind the guest ask
abbrev pub work_in : List (List ℕ) → Option Work
work_in (kind ∷ []) = if bytes_eq kind (codes "F") then Some Flush else None
work_in (kind ∷ first ∷ last ∷ []) =
    if bytes_eq kind (codes "R") then option_and_then (λ f. option_and_then (λ c. Some (Read f c)) (count_of_field last)) (number_in 10 first)
    else if bytes_eq kind (codes "X") then option_and_then (λ f. option_and_then (λ s. Some (Put f s)) (sector_of_field last)) (number_in 10 first)
    else None
work_in (kind ∷ first ∷ count ∷ byte ∷ []) =
    if bytes_eq kind (codes "W") then option_and_then (λ f. option_and_then (λ c. option_and_then (λ b. Some (Fill f c b)) (byte_in byte)) (count_of_field count)) (number_in 10 first)
    else None
work_in _ = None

abbrev pub show_in : (kind first count : List ℕ) → Option Line
show_in kind first count =
    if bytes_eq kind (codes "S") then option_and_then (λ f. option_and_then (λ c. Some (Shows f c)) (count_of_field count)) (number_in 10 first) else None

abbrev pub line_of_fields : (guests : ℕ) → List (List ℕ) → Option Line
line_of_fields guests (kind ∷ first ∷ count ∷ []) = show_in kind first count
line_of_fields guests (guest ∷ more) = option_and_then (λ g. option_and_then (λ w. Some (Asks g w)) (work_in more)) (guest_in guests guest)
line_of_fields guests [] = None

abbrev pub line_in : (guests : ℕ) → List ℕ → Option Line
line_in guests [] = Some Nothing
line_in guests (b ∷ bytes) = if b == 35 then Some Nothing else line_of_fields guests (slice_split (λ x. x == 32) (b ∷ bytes))

-- whether the line may stand behind one that shows, or behind none
abbrev pub may_follow : (shown : Bool) → Line → Bool
may_follow shown Nothing = true
may_follow shown (Asks guest work) = not shown
may_follow shown (Shows first count) = true
