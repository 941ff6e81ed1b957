-- The write of a piece.
use Rattle.std.specs.Prelude.{ℕ, ◌≡◌, ◌⊎◌, ◌+◌, ◌-◌, ◌*◌, ◌≤◌, Bool, true, List, length, Some, slice_get}
use Rattle.vd_law.specs.declared.entry.Sector.{Sector}
use Rattle.vd_law.specs.Histories.{HistoryState}
use Rattle.vd_device.specs.declared.ticket.Ticket.{Ticket}
use Rattle.vd_device.specs.declared.ticket.Kind.TheVariants.{Write}
use Rattle.vd_device.specs.declared.store.Store as store
use Rattle.vd_device.specs.Calls.{issue_entry}
use Rattle.vd_device.specs.Stores.{Submits}
use Rattle.vd_device.specs.declared.settled.Settled.{Settled}
use Rattle.vd_device.specs.declared.settled.Settled.TheVariants as settled
use Rattle.vd_keeper.specs.Keeping.{KeeperState}
use Rattle.vd_keeper.specs.Moves.{after_owe}
use Rattle.vd_passes.specs.declared.shape.Shape.{Shape}
use Rattle.vd_passes.specs.declared.pass.Pass.{Pass}
use Rattle.vd_passes.specs.declared.pass.Phase.TheVariants.{Held, Filled}
use Rattle.vd_passes.specs.Laying.{content_with_part}
use Rattle.vd_passes.specs.Steps.{CanWrite}
use Rattle.vd_machine.specs.Adding.{CanAdd}

module _ {S : Type 0} (g : store.Ghosts S) where
  -- the store was given the piece in its place, or the buffer with the piece laid into it
  pub record SubmitsPiece (shape : Shape) (p p' : Pass) (part : List Sector) (ticket : Ticket) (s s' : S) : Type 0 where
    pub stored : List Sector
    pub buffer : List Sector
    pub after : p' ≡ record p { buffer = buffer }
    pub kind : ticket.kind ≡ Write
    pub count : ticket.count ≡ length stored
    pub way : ((p.phase ≡ Held) × (stored ≡ part) × (buffer ≡ p.buffer) × (ticket.first + shape.block * p.block ≡ p.at + (p.first + p.done)))
        ⊎ ((p.phase ≡ Filled) × (stored ≡ buffer) × (buffer ≡ content_with_part (p.first + p.done - shape.block * p.block) part p.buffer) × (ticket.first ≡ p.at))
    pub call : Submits g ticket (issue_entry ticket stored) s s'

  -- The piece can be written, and its Issue added: the pass holds a block that is fresh or that its piece is the whole of, or has
  -- the block in its buffer.
  pub record CanIssue (shape : Shape) (fresh : List Bool) (content : List Sector) (history : HistoryState) (s : S) (p : Pass) : Type 0 where
    pub writable : CanWrite g shape s p
    pub inside : p.done + p.piece ≤ length content
    pub way : ((p.phase ≡ Held) × ((slice_get fresh p.block ≡ Some true) ⊎ (p.piece ≡ shape.block))) ⊎ (p.phase ≡ Filled)
    pub room : CanAdd p.piece history (g.events s)

-- The pass serves a write, and holds a block that is fresh or that its piece is the whole of, or has the block in its buffer.
pub record IsWritable (shape : Shape) (fresh : List Bool) (p : Pass) : Type 0 where
  pub write : p.write ≡ true
  pub way : ((p.phase ≡ Held) × ((slice_get fresh p.block ≡ Some true) ⊎ (p.piece ≡ shape.block))) ⊎ (p.phase ≡ Filled)

-- what the end of a write makes of the metadata: where it is done its block is owed, unless every image has it
abbrev pub keeper_after_write : Settled → (block : ℕ) → KeeperState → KeeperState
keeper_after_write settled.Done block k = after_owe block k
keeper_after_write (settled.NotYet same) block k = k
keeper_after_write (settled.Failed number) block k = k
