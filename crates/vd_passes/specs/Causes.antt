-- Why faults stand in a history: which tickets of a device are named there, and how often the device failed.
use Rattle.std.specs.Prelude.{ℕ, ◌≡◌, ◌+◌, ◌-◌, ◌^◌, ◌<◌, ◌≤◌, ◌⊎◌, ◌==◌, min, Bool, false, if◌then◌else◌, List, length, Option, Some, None, is_some}
use Rattle.std.specs.List.{All, count_by, sum_by}
use Rattle.vd_law.specs.declared.entry.Answer.{Answer}
use Rattle.vd_law.specs.declared.entry.Answer.TheVariants.{StoreFault, BaseFault}
use Rattle.vd_law.specs.Entries.{Entry, Reply, call_of}
use Rattle.vd_device.specs.declared.ticket.Ticket.{Ticket}
use Rattle.vd_device.specs.Calls.{next_number}
use Rattle.vd_passes.specs.declared.pass.Pass.{Pass}
use Rattle.vd_passes.specs.declared.pass.Phase.{Phase}
use Rattle.vd_passes.specs.declared.pass.Phase.TheVariants.{Ready}
use Rattle.vd_passes.specs.declared.pass.Fault.{Fault}
use Rattle.vd_passes.specs.declared.pass.Fault.TheVariants as fault

-- one of the two devices
pub data Device : Type 0 where
  OfStore : Device
  OfBase : Device

-- the ticket of this device that an answer names
abbrev pub named_by : Device → Answer → Option ℕ
named_by OfStore (StoreFault ticket done) = Some ticket
named_by OfBase (BaseFault ticket done) = Some ticket
named_by device answer = None

abbrev pub named_in : Device → Entry → Option ℕ
named_in device (Reply id answer) = named_by device answer
named_in device e = None

abbrev pub is_number : ℕ → Option ℕ → Bool
is_number n None = false
is_number n (Some m) = m == n

-- how many replies name this ticket of the device, and how many name any
abbrev pub times_named : Device → (number : ℕ) → List Entry → ℕ
times_named device number history = count_by (λ e. is_number number (named_in device e)) history

abbrev pub faults_named : Device → List Entry → ℕ
faults_named device history = count_by (λ e. is_some (named_in device e)) history

-- No ticket of the device is named twice, but for the greatest number, which tickets share; and the device has failed as often
-- as its tickets are named, unless its count of faults stands at its last value.
pub record AreCaused (device : Device) (history : List Entry) (faults_at_opening faults : ℕ) : Type 0 where
  pub once : (number : ℕ) → number < 2 ^ 64 - 1 → times_named device number history ≤ 1
  pub counted : min (faults_at_opening + faults_named device history) (2 ^ 64 - 1) ≤ faults

-- What the passes hold of it: tickets in flight, and faults that they are to tell.

abbrev pub one_if : Bool → ℕ
one_if b = if b then 1 else 0

abbrev pub ticket_of_fault : Device → Option Fault → Option ℕ
ticket_of_fault OfStore (Some (fault.Store ticket)) = Some ticket
ticket_of_fault OfBase (Some (fault.Base ticket)) = Some ticket
ticket_of_fault device why = None

-- the ticket that the pass will name in its Reply
abbrev pub to_name : Device → Phase → Option Fault → Option ℕ
to_name device Ready why = ticket_of_fault device why
to_name device phase why = None

abbrev pub ticket_number : Option Ticket → Option ℕ
ticket_number None = None
ticket_number (Some t) = Some t.number

abbrev pub flying_of : Device → Pass → Option ℕ
flying_of OfStore p = ticket_number p.ticket
flying_of OfBase p = ticket_number p.fetch

abbrev pub held_count : Device → (number : ℕ) → Pass → ℕ
held_count device number p = one_if (is_number number (flying_of device p)) + one_if (is_number number (to_name device p.phase p.fault))

abbrev pub owed_count : Device → Pass → ℕ
owed_count device p = one_if (is_some (to_name device p.phase p.fault))

-- Each ticket that the device gave stands in one place: in flight, to be named, or named; and no later one is anywhere.
pub record AreTickets (device : Device) (passes : List Pass) (history : List Entry) (last : ℕ) : Type 0 where
  pub once : (number : ℕ) → number < 2 ^ 64 - 1 → times_named device number history + sum_by (held_count device number) passes ≤ 1
  pub none : (number : ℕ) → last < number → number < 2 ^ 64 - 1 → times_named device number history + sum_by (held_count device number) passes ≡ 0

-- each failure was counted by the device
pub record AreCounted (device : Device) (passes : List Pass) (history : List Entry) (faults_at_opening faults : ℕ) : Type 0 where
  pub counted : min (faults_at_opening + (faults_named device history + sum_by (owed_count device) passes)) (2 ^ 64 - 1) ≤ faults

-- both of a device
pub record FaultsAddUp (device : Device) (passes : List Pass) (history : List Entry) (last faults_at_opening faults : ℕ) : Type 0 where
  pub tickets : AreTickets device passes history last
  pub failures : AreCounted device passes history faults_at_opening faults

-- After a step that may submit a call: the pass has nothing in flight on the device, which gave no ticket, or it has the next one.
abbrev pub HasNextTicket : Device → (last last' : ℕ) → Pass → Type 0
HasNextTicket device last last' p = ((flying_of device p ≡ None) × (last' ≡ last)) ⊎ ((flying_of device p ≡ Some (next_number last)) × (last' ≡ next_number last))

-- each entry is of a call of one of the passes
pub record AreOfPasses (passes : List Pass) (history : List Entry) : Type 0 where
  pub each : All (λ e. (call_of e).pass < length passes) history
