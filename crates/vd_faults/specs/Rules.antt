-- What the rules of a device say of a ticket.
use Rattle.std.specs.Prelude.{ℕ, ◌+◌, ◌-◌, Bool, true, false, not, ◌&&◌, ◌==◌, nat_le, nat_lt, List, [], ◌∷◌, length, Option, Some, None, if◌then◌else◌}
use Rattle.std.specs.List.{list_any}
use Rattle.vd_law.specs.Entries.{Entry, past}
use Rattle.vd_law.specs.Contents.{issued_contents}
use Rattle.vd_device.specs.declared.ticket.Ticket.{Ticket}
use Rattle.vd_device.specs.declared.ticket.Kind.{Kind}
use Rattle.vd_device.specs.declared.ticket.Kind.TheVariants.{Read, Write, Flush}
use Rattle.vd_faults.specs.declared.rule.Keep.{Keep}
use Rattle.vd_faults.specs.declared.rule.Keep.TheVariants.{Old}
use Rattle.vd_faults.specs.declared.rule.Rule.{Rule}
use Rattle.vd_faults.specs.declared.rule.Rule.TheVariants.{FailNth, FailAt, Hold}

-- the range of a read or a write has sector s
abbrev pub covers_of : Kind → (first count s : ℕ) → Bool
covers_of Read first count s = nat_le first s && nat_lt s (first + count)
covers_of Write first count s = nat_le first s && nat_lt s (first + count)
covers_of Flush first count s = false

abbrev pub covers : Ticket → ℕ → Bool
covers ticket s = covers_of ticket.kind ticket.first ticket.count s

-- the rule holds the ticket back
abbrev pub holds : Ticket → Rule → Bool
holds ticket (FailNth nth keep) = false
holds ticket (FailAt sector nth keep) = false
holds ticket (Hold sector until polls) = covers ticket sector

-- it does, and has no poll left
abbrev pub holds_spent : Ticket → Rule → Bool
holds_spent ticket (FailNth nth keep) = false
holds_spent ticket (FailAt sector nth keep) = false
holds_spent ticket (Hold sector until polls) = covers ticket sector && (polls == 0)

-- a poll of a ticket takes one from each rule that holds it
abbrev pub polled : Ticket → Rule → Rule
polled ticket (FailNth nth keep) = FailNth nth keep
polled ticket (FailAt sector nth keep) = FailAt sector nth keep
polled ticket (Hold sector until polls) = Hold sector until (if covers ticket sector then polls - 1 else polls)

-- the rule stands beyond the ticket's end: a hold is over when a ticket has ended that covers the sector it waits for
abbrev pub outlives : Ticket → Rule → Bool
outlives ticket (FailNth nth keep) = true
outlives ticket (FailAt sector nth keep) = true
outlives ticket (Hold sector until polls) = not (covers ticket until)

abbrev pub is_write : Kind → Bool
is_write Read = false
is_write Write = true
is_write Flush = false

-- Whether the rule fails a store's ticket, which is the `ending`-th to end. While a write is in flight no later one covers
-- any of its sectors: so it is the last write there in the log.
abbrev pub failed_by : (ending : ℕ) (log : List Entry) → Ticket → Rule → Option Keep
failed_by ending log ticket (FailNth nth keep) = if nth == ending then Some keep else None
failed_by ending log ticket (FailAt sector nth keep) =
    if is_write ticket.kind && (covers ticket sector && (length (issued_contents (past log) sector) == nth)) then Some keep else None
failed_by ending log ticket (Hold sector until polls) = None

abbrev pub or_else : Option Keep → Option Keep → Option Keep
or_else None other = other
or_else (Some keep) other = Some keep

-- the first of the rules that fails it
abbrev pub failing : (ending : ℕ) (log : List Entry) → Ticket → List Rule → Option Keep
failing ending log ticket [] = None
failing ending log ticket (rule ∷ rules) = or_else (failed_by ending log ticket rule) (failing ending log ticket rules)

-- How a ticket of a store ends that can't be held any longer: a rule that holds it fails it, and its sectors stay as they were.
abbrev pub fault_of : (ending : ℕ) (log : List Entry) → Ticket → List Rule → Option Keep
fault_of ending log ticket rules =
    if list_any (holds ticket) rules then Some Old else failing ending log ticket rules

-- A base counts the reads of a sector down in the rule, and marks the ticket at which it comes to the end.

-- the next read of these sectors is the one that the rule fails
abbrev pub is_hit : (first count : ℕ) → Rule → Bool
is_hit first count (FailNth nth keep) = false
is_hit first count (FailAt sector nth keep) = covers_of Read first count sector && (nth == 1)
is_hit first count (Hold sector until polls) = false

-- the rule after a read of these sectors was submitted
abbrev pub counted : (first count : ℕ) → Rule → Rule
counted first count (FailNth nth keep) = FailNth nth keep
counted first count (FailAt sector nth keep) = FailAt sector (if covers_of Read first count sector then nth - 1 else nth) keep
counted first count (Hold sector until polls) = Hold sector until polls

-- the rule fails the ticket that ends with this number
abbrev pub is_nth : (ending : ℕ) → Rule → Bool
is_nth ending (FailNth nth keep) = nth == ending
is_nth ending (FailAt sector nth keep) = false
is_nth ending (Hold sector until polls) = false
