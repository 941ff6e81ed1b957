-- The room in a history that a pass needs for what is left of its request.
use Rattle.std.specs.Prelude.{ℕ, ◌≡◌, ◌+◌, ◌-◌, ◌≤◌, Bool}
use Rattle.vd_law.specs.Needs.{pieces, events_of}
use Rattle.vd_passes.specs.declared.pass.Pass.{Pass}
use Rattle.vd_passes.specs.declared.pass.Phase.{Phase}
use Rattle.vd_passes.specs.declared.pass.Phase.TheVariants.{Idle, Asked as HasAsked, Held, Fetching, Filled, Issuing, Looking, Flushing, Ready}

-- the sectors and the pieces of a pass's request that are left, with the piece that it is at
abbrev pub sectors_left : Pass → ℕ
sectors_left p = p.count - p.done

abbrev pub pieces_left : (block : ℕ) → Pass → ℕ
pieces_left block p = pieces block (p.first + p.done) (sectors_left p)

-- The events that a pass may still need, its Reply among them. The Issue of its piece stands where it is issuing.
abbrev pub events_needed : Phase → (write : Bool) → (pieces : ℕ) → ℕ
events_needed Idle write pieces = 0
events_needed HasAsked write pieces = 1 + events_of write pieces
events_needed Held write pieces = 1 + events_of write pieces
events_needed Fetching write pieces = 1 + events_of write pieces
events_needed Filled write pieces = 1 + events_of write pieces
events_needed Issuing write pieces = events_of write pieces
events_needed Looking write pieces = 1 + events_of write pieces
events_needed Flushing write pieces = 1
events_needed Ready write pieces = 1

-- and the sectors that these tell
abbrev pub sectors_needed : Phase → (left piece : ℕ) → ℕ
sectors_needed Idle left piece = 0
sectors_needed HasAsked left piece = left
sectors_needed Held left piece = left
sectors_needed Fetching left piece = left
sectors_needed Filled left piece = left
sectors_needed Issuing left piece = left - piece
sectors_needed Looking left piece = left
sectors_needed Flushing left piece = 0
sectors_needed Ready left piece = 0

-- the room that is left to the pass suffices, and is none where it has no request
pub record HasRoom (block : ℕ) (p : Pass) : Type 0 where
  pub events : events_needed p.phase p.write (pieces_left block p) ≤ p.events
  pub sectors : sectors_needed p.phase (sectors_left p) p.piece ≤ p.sectors
  pub idle : p.phase ≡ Idle → (p.events ≡ 0) × (p.sectors ≡ 0)
