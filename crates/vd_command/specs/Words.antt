-- The words that spell a command:
--     make IMAGE BASE SIZE BLOCK CHUNK STORAGE SLOTS    the numbers of a header of version 2
--     show IMAGE BASE FIRST COUNT                       COUNT from 1 to 2,048
--     run IMAGE BASE GUESTS WORKERS COPY LIMIT          GUESTS from 1 to 32, WORKERS up to 8, COPY on or off, LIMIT below 2^32
--     retrack IMAGE BASE NEW
--     upgrade IMAGE BASE
--     trace NUMBER GUESTS REQUESTS SIZE                 GUESTS from 1 to 32, REQUESTS up to 4,000, SIZE from 64 to 16,777,216
--     drill NUMBER GUESTS REQUESTS STOP                 GUESTS from 1 to 32, REQUESTS up to 1,000, STOP below 2^32
-- IMAGE and BASE are any words. Numbers are as they are printed, in decimal without sign or leading zero, in at most 10
-- digits; NUMBER is any number below 2^64. All other words are no command.
use Rattle.std.specs.Prelude.{ℕ, ◌≡◌, ◌≤◌, ◌<◌, ◌^◌, Bool, true, false, List, [], ◌∷◌, codes}
use Rattle.std.specs.Fmt.{decimal}
use Rattle.vd_format.specs.declared.header.Header.{Header}
use Rattle.vd_format.specs.Headers.{IsValid}
use Rattle.vd_command.specs.declared.command.Command.{Command}
use Rattle.vd_command.specs.declared.command.Command.TheVariants.{Make, Show, Run, Retrack, Upgrade, Trace, Drill}

abbrev pub switch : Bool → List ℕ
switch true = codes "on"
switch false = codes "off"

-- a command's words on this image and this base
abbrev pub words_of : Command → (image base : List ℕ) → List (List ℕ)
words_of (Make size block chunk storage slots) image base =
    codes "make" ∷ image ∷ base ∷ decimal size ∷ decimal block ∷ decimal chunk ∷ decimal storage ∷ decimal slots ∷ []
words_of (Show first count) image base = codes "show" ∷ image ∷ base ∷ decimal first ∷ decimal count ∷ []
words_of (Run guests workers copying limit) image base =
    codes "run" ∷ image ∷ base ∷ decimal guests ∷ decimal workers ∷ switch copying ∷ decimal limit ∷ []
words_of (Retrack new) image base = codes "retrack" ∷ image ∷ base ∷ decimal new ∷ []
words_of Upgrade image base = codes "upgrade" ∷ image ∷ base ∷ []
words_of (Trace number guests requests size) image base =
    codes "trace" ∷ decimal number ∷ decimal guests ∷ decimal requests ∷ decimal size ∷ []
words_of (Drill number guests requests stop) image base =
    codes "drill" ∷ decimal number ∷ decimal guests ∷ decimal requests ∷ decimal stop ∷ []

-- the header of the image that is made
abbrev pub made_header : (size block chunk storage slots : ℕ) → Header
made_header size block chunk storage slots = record {
  version = 2;
  block = block;
  chunk = chunk;
  storage = storage;
  slots = slots;
  size = size;
  tracked = 0;
  generation = 1;
}

abbrev pub IsInBounds : (least most n : ℕ) → Type 0
IsInBounds least most n = (least ≤ n) × (n ≤ most)

-- the command's numbers keep their rules
abbrev pub HasAllowedNumbers : Command → Type 0
HasAllowedNumbers (Make size block chunk storage slots) = IsValid (made_header size block chunk storage slots)
HasAllowedNumbers (Show first count) = (first < 10 ^ 10) × IsInBounds 1 2048 count
HasAllowedNumbers (Run guests workers copying limit) = IsInBounds 1 32 guests × (workers ≤ 8) × (limit < 2 ^ 32)
HasAllowedNumbers (Retrack new) = new < 10 ^ 10
HasAllowedNumbers Upgrade = Unit {0}
HasAllowedNumbers (Trace number guests requests size) = (number < 2 ^ 64) × IsInBounds 1 32 guests × (requests ≤ 4000) × IsInBounds 64 16777216 size
HasAllowedNumbers (Drill number guests requests stop) = (number < 2 ^ 64) × IsInBounds 1 32 guests × (requests ≤ 1000) × (stop < 2 ^ 32)

pub record Spells (words : List (List ℕ)) (command : Command) : Type 0 where
  pub allowed : HasAllowedNumbers command
  pub image : List ℕ
  pub base : List ℕ
  pub words_are : words ≡ words_of command image base
