-- The command of some words, as a function.
use Rattle.std.specs.Prelude.{ℕ, ◌^◌, ◌-◌, ◌&&◌, Bool, true, false, List, [], ◌∷◌, Option, Some, None, nat_le, codes, is_none, if◌then◌else◌}
use Rattle.std.specs.Option.{option_and_then}
use Rattle.std.specs.Str.{bytes_eq}
use Rattle.vd_decimal.specs.Numbers.{number_in}
use Rattle.vd_format.specs.declared.header.Header.{Header}
use Rattle.vd_format.specs.Headers.{judged_fields, first_wrong}
use Rattle.vd_command.specs.declared.command.Command.{Command}
use Rattle.vd_command.specs.declared.command.Command.TheVariants.{Make, Show, Run, Retrack, Upgrade, Trace, Drill}
use Rattle.vd_command.specs.Words.{made_header}

-- the number, where it lies between these
abbrev pub number_within : (least most : ℕ) → Option ℕ → Option ℕ
number_within least most None = None
number_within least most (Some n) = if nat_le least n && nat_le n most then Some n else None

-- the number that the word spells, where it lies between these
abbrev pub number_between : (least most : ℕ) → List ℕ → Option ℕ
number_between least most word = number_within least most (number_in 10 word)

abbrev pub most_u32 : ℕ
most_u32 = 2 ^ 32 - 1

abbrev pub switch_of : List ℕ → Option Bool
switch_of word = if bytes_eq word (codes "on") then Some true else (if bytes_eq word (codes "off") then Some false else None)

-- what follows from what was found
abbrev pub command_from : {T : Type 0} → Option T → (T → Option Command) → Option Command
command_from found next = option_and_then next found

-- the command that makes this header, where no field breaks its rule
unfoldable pub make_command : Header → Option Command
make_command h = if is_none (first_wrong (judged_fields h true)) then Some (Make h.size h.block h.chunk h.storage h.slots) else None

-- what follows each first word

abbrev pub make_of : List (List ℕ) → Option Command
make_of (image ∷ base ∷ size ∷ block ∷ chunk ∷ storage ∷ slots ∷ []) =
    command_from (number_in 10 size) (λ size. command_from (number_between 0 most_u32 block) (λ block. command_from (number_between 0 most_u32 chunk) (λ chunk.
    command_from (number_between 0 most_u32 storage) (λ storage. command_from (number_between 0 most_u32 slots) (λ slots. make_command (made_header size block chunk storage slots))))))
make_of other = None

abbrev pub show_of : List (List ℕ) → Option Command
show_of (image ∷ base ∷ first ∷ count ∷ []) =
    command_from (number_in 10 first) (λ first. command_from (number_between 1 2048 count) (λ count. Some (Show first count)))
show_of other = None

abbrev pub run_of : List (List ℕ) → Option Command
run_of (image ∷ base ∷ guests ∷ workers ∷ copying ∷ limit ∷ []) =
    command_from (number_between 1 32 guests) (λ guests. command_from (number_between 0 8 workers) (λ workers. command_from (switch_of copying) (λ copying.
    command_from (number_between 0 most_u32 limit) (λ limit. Some (Run guests workers copying limit)))))
run_of other = None

abbrev pub retrack_of : List (List ℕ) → Option Command
retrack_of (image ∷ base ∷ new ∷ []) = command_from (number_in 10 new) (λ new. Some (Retrack new))
retrack_of other = None

abbrev pub upgrade_of : List (List ℕ) → Option Command
upgrade_of (image ∷ base ∷ []) = Some Upgrade
upgrade_of other = None

abbrev pub trace_of : List (List ℕ) → Option Command
trace_of (number ∷ guests ∷ requests ∷ size ∷ []) =
    command_from (number_in 20 number) (λ number. command_from (number_between 1 32 guests) (λ guests. command_from (number_between 0 4000 requests) (λ requests.
    command_from (number_between 64 16777216 size) (λ size. Some (Trace number guests requests size)))))
trace_of other = None

abbrev pub drill_of : List (List ℕ) → Option Command
drill_of (number ∷ guests ∷ requests ∷ stop ∷ []) =
    command_from (number_in 20 number) (λ number. command_from (number_between 1 32 guests) (λ guests. command_from (number_between 0 1000 requests) (λ requests.
    command_from (number_between 0 most_u32 stop) (λ stop. Some (Drill number guests requests stop)))))
drill_of other = None

abbrev pub command_of : List (List ℕ) → Option Command
command_of [] = None
command_of (name ∷ arguments) =
    if bytes_eq name (codes "make") then make_of arguments else (
    if bytes_eq name (codes "show") then show_of arguments else (
    if bytes_eq name (codes "run") then run_of arguments else (
    if bytes_eq name (codes "retrack") then retrack_of arguments else (
    if bytes_eq name (codes "upgrade") then upgrade_of arguments else (
    if bytes_eq name (codes "trace") then trace_of arguments else (
    if bytes_eq name (codes "drill") then drill_of arguments else None))))))
