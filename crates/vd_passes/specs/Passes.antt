-- What a pass holds and has in flight.
use Rattle.std.specs.Prelude.{ℕ, ◌≡◌, ◌≢◌, ◌+◌, ◌-◌, ◌*◌, ◌<◌, ◌≤◌, ◌⊎◌, ◌++◌, Bool, true, false, if◌then◌else◌, nat_lt, List, [], ◌∷◌, length, Option, Some, None, slice_get}
use Rattle.vd_law.specs.declared.entry.CallId.{CallId}
use Rattle.vd_law.specs.declared.entry.Sector.{Sector}
use Rattle.vd_law.specs.declared.entry.Answer.{Answer}
use Rattle.vd_law.specs.declared.entry.Answer.TheVariants.{Ok as Fine, StoreFault, BaseFault, Worn}
use Rattle.vd_law.specs.Entries.{Asked, Read, Write, Flush}
use Rattle.vd_device.specs.declared.ticket.Ticket.{Ticket}
use Rattle.vd_device.specs.declared.ticket.Kind.TheVariants.{Read as ReadKind, Write as WriteKind, Flush as FlushKind}
use Rattle.vd_regions.specs.declared.regions.Region.{Region}
use Rattle.vd_regions.specs.declared.regions.Mode.TheVariants.{Shared, Own}
use Rattle.vd_passes.specs.declared.shape.Shape.{Shape}
use Rattle.vd_passes.specs.declared.pass.Pass.{Pass}
use Rattle.vd_passes.specs.declared.pass.Phase.{Phase}
use Rattle.vd_passes.specs.declared.pass.Phase.TheVariants.{Idle, Asked as HasAsked, Held, Fetching, Filled, Issuing, Looking, Flushing, Ready}
use Rattle.vd_passes.specs.declared.pass.Fault.{Fault}
use Rattle.vd_passes.specs.declared.pass.Fault.TheVariants as fault
use Rattle.vd_passes.specs.Laying.{count_below}
use Rattle.vd_passes.specs.Standings.{Standing}

-- the pass holds the region of its block
abbrev pub has_region : Phase → Bool
has_region Idle = false
has_region HasAsked = false
has_region Held = true
has_region Fetching = true
has_region Filled = true
has_region Issuing = true
has_region Looking = true
has_region Flushing = false
has_region Ready = false

-- the region that it holds: its block, to itself where it writes
abbrev pub region_of : Pass → Option Region
region_of p = if has_region p.phase then Some (record { first = p.block; last = p.block; mode = if p.write then Own else Shared }) else None

abbrev pub call_id : ℕ → Pass → CallId
call_id i p = record { pass = i; call = p.call }

-- the ticket covers sector `a` of the store
abbrev pub TicketCovers : Option Ticket → ℕ → Type 0
TicketCovers None a = ⊥
TicketCovers (Some t) a = (t.first ≤ a) × (a < t.first + t.count)

-- the pass is writing the piece in which the guest's sector s lies
pub record IsWriting (p : Pass) (s : ℕ) : Type 0 where
  pub phase : p.phase ≡ Issuing
  pub from : p.first + p.done ≤ s
  pub to : s < p.first + p.done + p.piece

-- the pass has a write in flight that covers sector `a` of the store
pub record IsFilling (p : Pass) (a : ℕ) : Type 0 where
  pub phase : p.phase ≡ Issuing
  pub covers : TicketCovers p.ticket a

abbrev pub ticket_of : Option Ticket → List Ticket
ticket_of None = []
ticket_of (Some t) = t ∷ []

-- what the passes have in flight on the store
abbrev pub tickets_of : List Pass → List Ticket
tickets_of [] = []
tickets_of (p ∷ ps) = ticket_of p.ticket ++ tickets_of ps

-- what the passes have in flight on the base
abbrev pub fetches_of : List Pass → List Ticket
fetches_of [] = []
fetches_of (p ∷ ps) = ticket_of p.fetch ++ fetches_of ps

-- the request that the pass serves
abbrev pub IsRequestOf : Pass → Asked → Type 0
IsRequestOf p (Read first count) = (p.write ≡ false) × (first ≡ p.first) × (count ≡ p.count) × (p.flush ≡ false)
IsRequestOf p (Write first content) = (p.write ≡ true) × (first ≡ p.first) × (length content ≡ p.count) × (p.flush ≡ false)
IsRequestOf p Flush = (p.write ≡ false) × (p.first ≡ 0) × (p.count ≡ 0) × (p.flush ≡ true)

-- The piece of a pass: what is left of its request in one block.
pub record IsPiece (shape : Shape) (p : Pass) : Type 0 where
  pub some : 0 < p.piece
  pub no_more : p.done + p.piece ≤ p.count
  pub from : shape.block * p.block ≤ p.first + p.done
  pub to : p.first + p.done + p.piece ≤ shape.block * p.block + shape.block
  pub in_disk : p.block < shape.blocks
  pub ends : (p.done + p.piece ≡ p.count) ⊎ (p.first + p.done + p.piece ≡ shape.block * p.block + shape.block)

-- A piece goes to its own place where its block is fresh or is written whole, else the block is written round it.
abbrev pub IsStored : (block : ℕ) → List Bool → Pass → Ticket → Type 0
IsStored block fresh p t =
    ((t.first + block * p.block ≡ p.at + (p.first + p.done)) × (t.count ≡ p.piece) × ((slice_get fresh p.block ≡ Some true) ⊎ (p.piece ≡ block)))
    ⊎ ((t.first ≡ p.at) × (t.count ≡ block) × (slice_get fresh p.block ≡ Some false))

-- the part of the block that the base has
pub record IsFetch (shape : Shape) (p : Pass) (t : Ticket) : Type 0 where
  pub kind : t.kind ≡ ReadKind
  pub first : t.first ≡ shape.block * p.block
  pub count : t.count ≡ count_below shape.limit (shape.block * p.block) shape.block

-- the piece is read from its place in the store
pub record IsStoreLook (shape : Shape) (fresh : List Bool) (p : Pass) (t : Ticket) : Type 0 where
  pub has : p.ticket ≡ Some t
  pub none : p.fetch ≡ None
  pub kind : t.kind ≡ ReadKind
  pub first : t.first + shape.block * p.block ≡ p.at + (p.first + p.done)
  pub count : t.count ≡ p.piece
  pub local : slice_get fresh p.block ≡ Some true

-- the part of the piece that the base has is read from there
pub record IsBaseLook (shape : Shape) (fresh : List Bool) (p : Pass) (t : Ticket) : Type 0 where
  pub has : p.fetch ≡ Some t
  pub none : p.ticket ≡ None
  pub kind : t.kind ≡ ReadKind
  pub first : t.first ≡ p.first + p.done
  pub count : t.count ≡ count_below shape.limit (p.first + p.done) p.piece
  pub not_fresh : slice_get fresh p.block ≡ Some false

-- a call of a flush: one that makes durable what is done, or a write below the storage
abbrev pub IsMeta : Shape → Ticket → Type 0
IsMeta shape t = (t.kind ≡ FlushKind) ⊎ ((t.kind ≡ WriteKind) × (t.first + t.count ≤ shape.storage_at))

pub record HasNone (p : Pass) : Type 0 where
  pub ticket : p.ticket ≡ None
  pub fetch : p.fetch ≡ None

-- What a pass has in flight. The block of a piece that is read from the base, or laid into the base's content, isn't fresh.
abbrev pub HasInFlight : Phase → Shape → List Bool → Pass → Type 0
HasInFlight Idle shape fresh p = HasNone p
HasInFlight HasAsked shape fresh p = HasNone p
HasInFlight Held shape fresh p = HasNone p
HasInFlight Fetching shape fresh p = (t : Ticket) × (p.fetch ≡ Some t) × (p.ticket ≡ None) × IsFetch shape p t × (slice_get fresh p.block ≡ Some false)
HasInFlight Filled shape fresh p = HasNone p × (slice_get fresh p.block ≡ Some false)
HasInFlight Issuing shape fresh p = (t : Ticket) × (p.ticket ≡ Some t) × (p.fetch ≡ None) × (t.kind ≡ WriteKind) × IsStored shape.block fresh p t
HasInFlight Looking shape fresh p = (t : Ticket) × (IsStoreLook shape fresh p t ⊎ IsBaseLook shape fresh p t)
HasInFlight Flushing shape fresh p = (p.fetch ≡ None) × ((t : Ticket) → p.ticket ≡ Some t → IsMeta shape t)
HasInFlight Ready shape fresh p = HasNone p

-- how many sectors the open write has
abbrev pub pending_of : Phase → ℕ → ℕ
pending_of Idle piece = 0
pending_of HasAsked piece = 0
pending_of Held piece = 0
pending_of Fetching piece = 0
pending_of Filled piece = 0
pending_of Issuing piece = piece
pending_of Looking piece = 0
pending_of Flushing piece = 0
pending_of Ready piece = 0

-- whether the pass serves a write in this phase alone
abbrev pub writes_in : Phase → Bool
writes_in Idle = false
writes_in HasAsked = false
writes_in Held = false
writes_in Fetching = true
writes_in Filled = true
writes_in Issuing = true
writes_in Looking = false
writes_in Flushing = false
writes_in Ready = false

-- all is done, or a device failed: then a write is broken where it was the store. Worn is of flushes alone.
abbrev pub HasOutcome : Pass → (broken : Bool) → Option Fault → Type 0
HasOutcome p broken None = (p.done ≡ p.count) × (broken ≡ false)
HasOutcome p broken (Some (fault.Store ticket)) = ((p.flush ≡ true) ⊎ (p.done < p.count)) × (broken ≡ p.write)
HasOutcome p broken (Some (fault.Base ticket)) = (p.done < p.count) × (broken ≡ false)
HasOutcome p broken (Some (fault.Worn generation)) = (p.flush ≡ true) × (broken ≡ false)

-- each block of the pass's range has a place in the store
abbrev pub AllPlaced : Shape → (ℕ → Option ℕ) → Pass → Type 0
AllPlaced shape places p = (b : ℕ) → shape.block * b < p.first + p.count → p.first < shape.block * b + shape.block → (x : ℕ) × (places b ≡ Some x)

-- The pass stands where the history says.
pub record IsAsHistorySays (shape : Shape) (fresh : List Bool) (places : ℕ → Option ℕ) (t : Standing) (p : Pass) : Type 0 where
  pub call : t.call ≡ p.call
  pub idle : p.phase ≡ Idle → 0 < p.call → t.progress.answered ≡ true
  pub busy : p.phase ≢ Idle → (r : Asked) × (t.progress.asked ≡ Some r) × IsRequestOf p r
  pub unanswered : p.phase ≢ Idle → t.progress.answered ≡ false
  pub done : p.phase ≢ Idle → t.progress.done ≡ p.done
  pub range : p.phase ≢ Idle → (p.first + p.count ≤ shape.block * shape.blocks) × (p.done ≤ p.count)
  pub pending : p.phase ≢ Idle → t.progress.pending ≡ pending_of p.phase p.piece
  pub whole : p.phase ≢ Idle → p.phase ≢ Ready → (t.progress.broken ≡ false) × (p.fault ≡ None)
  pub ready : p.phase ≡ Ready → HasOutcome p t.progress.broken p.fault
  pub write : writes_in p.phase ≡ true → p.write ≡ true
  pub read : p.phase ≡ Looking → p.write ≡ false
  pub left : p.phase ≡ HasAsked → p.flush ≡ false → p.done < p.count
  -- a flush has no piece, and nothing of it stands in the history but its Ask
  pub flush : p.phase ≡ Flushing → p.flush ≡ true
  pub no_flush : has_region p.phase ≡ true → p.flush ≡ false
  pub unstarted : p.phase ≢ Idle → p.flush ≡ true → t.progress.started ≡ false
  pub placed : p.phase ≢ Idle → p.write ≡ true → AllPlaced shape places p
  pub piece : has_region p.phase ≡ true → IsPiece shape p
  pub at : has_region p.phase ≡ true → (p.write ≡ true) ⊎ (slice_get fresh p.block ≡ Some true) → places p.block ≡ Some p.at
  pub ticket : HasInFlight p.phase shape fresh p
  pub buffer : length p.buffer ≡ shape.block

-- a pass that has asked nothing yet
pub record IsNew (buffer : List Sector) (p : Pass) : Type 0 where
  pub phase : p.phase ≡ Idle
  pub call : p.call ≡ 0
  pub ticket : p.ticket ≡ None
  pub fetch : p.fetch ≡ None
  pub events : p.events ≡ 0
  pub sectors : p.sectors ≡ 0
  pub buffer_is : p.buffer ≡ buffer

-- The pass after a step.

-- it has used this much of its room in the history
abbrev pub after_spending : (events sectors : ℕ) → Pass → Pass
after_spending events sectors p = record p { events = p.events - events; sectors = p.sectors - sectors }

-- it has asked a request, for which this room was left to it
abbrev pub after_ask : Pass → Asked → (events sectors : ℕ) → Pass
after_ask p (Read first count) events sectors = record p { phase = HasAsked; call = p.call + 1; write = false; flush = false; first = first; count = count; done = 0; fault = None; events = events; sectors = sectors }
after_ask p (Write first content) events sectors = record p { phase = HasAsked; call = p.call + 1; write = true; flush = false; first = first; count = length content; done = 0; fault = None; events = events; sectors = sectors }
after_ask p Flush events sectors = record p { phase = HasAsked; call = p.call + 1; write = false; flush = true; first = 0; count = 0; done = 0; fault = None; events = events; sectors = sectors }

-- it has the region of a block, for a piece of so many sectors
abbrev pub after_enter : Pass → (block piece at : ℕ) → Pass
after_enter p block piece at = record p { phase = Held; block = block; piece = piece; at = at }

abbrev pub after_fetch : Pass → Ticket → Pass
after_fetch p ticket = record p { phase = Fetching; fetch = Some ticket }

abbrev pub after_filled : Pass → (buffer : List Sector) → Pass
after_filled p buffer = record p { phase = Filled; fetch = None; buffer = buffer }

abbrev pub after_issue : Pass → Ticket → (buffer : List Sector) → Pass
after_issue p ticket buffer = after_spending 1 p.piece (record p { phase = Issuing; ticket = Some ticket; buffer = buffer })

abbrev pub after_look : Pass → Ticket → Pass
after_look p ticket = record p { phase = Looking; ticket = Some ticket }

abbrev pub after_base_look : Pass → Ticket → Pass
after_base_look p ticket = record p { phase = Looking; fetch = Some ticket }

-- its piece has ended: it goes on with the next, or all is done
abbrev pub after_piece : Pass → Pass
after_piece p = record p { phase = if nat_lt (p.done + p.piece) p.count then HasAsked else Ready; done = p.done + p.piece; ticket = None; fetch = None }

-- a device has failed it
abbrev pub after_fault : Fault → Pass → Pass
after_fault fault p = record p { phase = Ready; fault = Some fault; ticket = None; fetch = None }

-- its flush has a call in flight
abbrev pub after_meta : Pass → Ticket → Pass
after_meta p ticket = record p { phase = Flushing; ticket = Some ticket }

-- its flush is over, or was not begun for this reason
abbrev pub after_flush : Pass → Option Fault → Pass
after_flush p why = record p { phase = Ready; fault = why }

-- it has its reply, and what it didn't use of its room is left again
abbrev pub after_reply : Pass → Pass
after_reply p = record p { phase = Idle; events = 0; sectors = 0 }

-- what a pass that is ready replies
abbrev pub answer_by : Option Fault → (done : ℕ) → Answer
answer_by None done = Fine
answer_by (Some (fault.Store ticket)) done = StoreFault ticket done
answer_by (Some (fault.Base ticket)) done = BaseFault ticket done
answer_by (Some (fault.Worn generation)) done = Worn generation

abbrev pub answer_of : Pass → Answer
answer_of p = answer_by p.fault p.done
