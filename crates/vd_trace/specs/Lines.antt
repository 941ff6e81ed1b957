-- The grammar of a trace's lines.
use Rattle.std.specs.Prelude.{ℕ, ◌≡◌, ◌+◌, ◌<◌, ◌≤◌, ◌==◌, Bool, true, false, List, [], ◌∷◌, length, Ok, codes, sum_by}
use Rattle.std.specs.List.{slice_split, list_any}
use Rattle.hex.specs.Hex.{decode_of}
use Rattle.vd_decimal.specs.Numbers.{SpellsNumber}
use Rattle.vd_trace.specs.declared.line.Line.{Line}
use Rattle.vd_trace.specs.declared.line.Line.TheVariants.{Nothing, Asks, Shows}
use Rattle.vd_trace.specs.declared.line.Work.{Work}
use Rattle.vd_trace.specs.declared.line.Work.TheVariants.{Read, Fill, Put, Flush}

-- a number has at most ten digits, and no leading zero but for `0` itself
abbrev pub IsNumber : List ℕ → ℕ → Type 0
IsNumber field n = SpellsNumber 10 field n

-- a guest is from 1 to the number of guests
abbrev pub IsGuest : (guests : ℕ) → List ℕ → ℕ → Type 0
IsGuest guests field guest = IsNumber field guest × (1 ≤ guest) × (guest ≤ guests)

-- a request has from 1 to 2,048 sectors
abbrev pub IsCount : List ℕ → ℕ → Type 0
IsCount field count = IsNumber field count × (1 ≤ count) × (count ≤ 2048)

-- so many hexadecimal digits, of either case, two for each byte
pub record AreHexDigits (count : ℕ) (field bytes : List ℕ) : Type 0 where
  pub many : length field ≡ count
  pub decoded : decode_of field ≡ Ok bytes

-- what the fields behind the guest ask
abbrev pub SpellsWork : List (List ℕ) → Work → Type 0
SpellsWork (kind ∷ first ∷ count ∷ []) (Read f c) = (kind ≡ codes "R") × IsNumber first f × IsCount count c
SpellsWork (kind ∷ first ∷ count ∷ byte ∷ []) (Fill f c b) = (kind ≡ codes "W") × IsNumber first f × IsCount count c × AreHexDigits 2 byte (b ∷ [])
SpellsWork (kind ∷ first ∷ digits ∷ []) (Put f s) = (kind ≡ codes "X") × IsNumber first f × AreHexDigits 1024 digits s.bytes
SpellsWork (kind ∷ []) Flush = kind ≡ codes "F"
SpellsWork _ _ = ⊥

abbrev pub SpellsFields : (guests : ℕ) → List (List ℕ) → Line → Type 0
SpellsFields guests _ Nothing = ⊥
SpellsFields guests (guest ∷ more) (Asks g work) = IsGuest guests guest g × SpellsWork more work
SpellsFields guests (kind ∷ first ∷ count ∷ []) (Shows f c) = (kind ≡ codes "S") × IsNumber first f × IsCount count c
SpellsFields guests _ _ = ⊥

-- the fields of a line stand between its blanks
abbrev pub fields : List ℕ → List (List ℕ)
fields line = slice_split (λ b. b == 32) line

-- an empty line, and a comment, which begins with `#`
abbrev pub IsSilent : List ℕ → Type 0
IsSilent [] = Unit {0}
IsSilent (b ∷ line) = b ≡ 35

-- what a line says, in a trace of so many guests
abbrev pub SpellsLine : (guests : ℕ) → List ℕ → Line → Type 0
SpellsLine guests line Nothing = IsSilent line
SpellsLine guests line says = SpellsFields guests (fields line) says

abbrev pub is_show : Line → Bool
is_show (Shows first count) = true
is_show says = false

-- behind a line that shows, no line asks
abbrev pub InOrder : (before : List Line) → Line → Type 0
InOrder before (Asks guest work) = list_any is_show before ≡ false
InOrder before says = Unit {0}

-- the line is in the grammar behind these
pub record IsGood (guests : ℕ) (before : List Line) (line : List ℕ) (says : Line) : Type 0 where
  pub short : length line ≤ 1100
  pub spells : SpellsLine guests line says
  pub order : InOrder before says

abbrev pub sectors_of_work : Work → ℕ
sectors_of_work (Read first count) = count
sectors_of_work (Fill first count byte) = count
sectors_of_work (Put first sector) = 1
sectors_of_work Flush = 0

-- how many sectors a line reads, writes or shows
abbrev pub sectors_of_line : Line → ℕ
sectors_of_line Nothing = 0
sectors_of_line (Asks guest work) = sectors_of_work work
sectors_of_line (Shows first count) = count

-- a trace has at most 500,000 lines, and 262,144 sectors in all of them
pub record KeepsLimits (before : List Line) (says : Line) : Type 0 where
  pub lines : length before < 500000
  pub sectors : sum_by sectors_of_line before + sectors_of_line says ≤ 262144
