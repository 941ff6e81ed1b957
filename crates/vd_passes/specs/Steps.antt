-- What each step of a pass asks and does.
use Rattle.std.specs.Prelude.{ℕ, ◌≡◌, ◌+◌, ◌-◌, ◌*◌, ◌^◌, ◌<◌, ◌≤◌, ◌⊎◌, true, List, [], ◌∷◌, ◌++◌, length, replicate, slice_range, Option, Some, None, slice_get}
use Rattle.vd_law.specs.declared.entry.Sector.{Sector}
use Rattle.vd_law.specs.declared.entry.Answer.{Answer}
use Rattle.vd_law.specs.declared.entry.Answer.TheVariants.{Full}
use Rattle.vd_law.specs.Entries.{Asked, Write, Entry, Ask, Issue, Done, Broke, Seen, Reply}
use Rattle.vd_device.specs.declared.store.Store as store
use Rattle.vd_device.specs.declared.base.Base as base
use Rattle.vd_device.specs.declared.ticket.Ticket.{Ticket}
use Rattle.vd_device.specs.declared.ticket.Kind.{Kind}
use Rattle.vd_device.specs.declared.ticket.Kind.TheVariants.{Read as ReadKind, Write as WriteKind, Flush as FlushKind}
use Rattle.vd_device.specs.declared.settled.Settled.{Settled}
use Rattle.vd_device.specs.declared.settled.Settled.TheVariants as settled
use Rattle.vd_device.specs.Tickets.{IsFree, IsInFlight}
use Rattle.vd_device.specs.Calls.{ask_read_entry, ask_flush_entry, issue_entry}
use Rattle.vd_device.specs.Stores.{Submits, SettlesCall}
use Rattle.vd_device.specs.Bases.{SubmitsToBase, SettlesInBase}
use Rattle.vd_passes.specs.declared.shape.Shape.{Shape}
use Rattle.vd_passes.specs.declared.pass.Pass.{Pass}
use Rattle.vd_passes.specs.declared.pass.Phase.TheVariants.{Asked as HasAsked, Held, Filled, Flushing}
use Rattle.vd_passes.specs.declared.pass.Fault.{Fault}
use Rattle.vd_passes.specs.declared.pass.Fault.TheVariants as fault
use Rattle.vd_passes.specs.Laying.{content_with_part, count_below}
use Rattle.vd_passes.specs.Requests.{RequestState, with_pass, with_entry, with_entries, with_fresh}
use Rattle.vd_passes.specs.Standings.{standing}
use Rattle.vd_passes.specs.Passes.{call_id, HasNone, IsPiece, after_ask, after_enter, after_fetch, after_filled, after_issue, after_look, after_base_look, after_piece, after_fault, after_meta, after_flush, after_reply, answer_of, after_spending, IsMeta}
use Rattle.vd_format.specs.Background.{zero_sector}

-- there is a pass of this number, and P holds of it
abbrev pub IsAt : List Pass → ℕ → (Pass → Type 0) → Type 0
IsAt passes i P = (p : Pass) × (slice_get passes i ≡ Some p) × P p

-- the pass has asked a write of this content
abbrev pub HasAskedWrite : List Entry → ℕ → List Sector → Type 0
HasAskedWrite history i content = (first : ℕ) × ((standing history i).progress.asked ≡ Some (Write first content))

-- What a step asks of a pass.

module _ {S : Type 0} (g : store.Ghosts S) where
  -- A pass whose piece can be read from its place in the store: no write in flight touches the place of its block.
  pub record CanRead (shape : Shape) (s : S) (p : Pass) : Type 0 where
    pub piece : IsPiece shape p
    pub none : HasNone p
    pub room : p.at + shape.block ≤ g.sectors s
    pub small : shape.block ≤ 128
    pub bounded : g.sectors s < 2 ^ 64
    pub end : p.first + p.count ≤ 2 ^ 26
    pub free : (first count : ℕ) → p.at ≤ first → first + count ≤ p.at + shape.block → IsFree (g.flight s) (g.depth s) first count

  -- A pass whose piece can be written there, alone or in its buffer.
  pub record CanWrite (shape : Shape) (s : S) (p : Pass) : Type 0 where
    pub read : CanRead shape s p
    pub buffer : length p.buffer ≡ shape.block

  -- A pass that has this kind of call in flight on the store.
  pub record IsWaiting (kind : Kind) (shape : Shape) (s : S) (p : Pass) : Type 0 where
    pub ticket : Ticket
    pub has : p.ticket ≡ Some ticket
    pub none : p.fetch ≡ None
    pub is : ticket.kind ≡ kind
    pub mine : IsInFlight (g.flight s) ticket
    pub piece : IsPiece shape p
    pub end : p.first + p.count ≤ 2 ^ 26

module _ {B : Type 0} (h : base.Ghosts B) where
  -- A pass whose block or piece can be read from the base.
  pub record CanReadBase (shape : Shape) (b : B) (p : Pass) : Type 0 where
    pub piece : IsPiece shape p
    pub none : HasNone p
    pub small : shape.block ≤ 128
    pub limit : shape.limit ≤ h.sectors b
    pub limited : shape.limit ≤ 2 ^ 26
    pub end : p.first + p.count ≤ 2 ^ 26
    pub in_disk : shape.block * p.block + shape.block ≤ 2 ^ 26
    pub buffer : length p.buffer ≡ shape.block
    pub free : (first count : ℕ) → IsFree (h.flight b) (h.depth b) first count

  -- A pass that has a read of at most its block, or of its piece, in flight on the base.
  pub record IsWaitingForBase (shape : Shape) (b : B) (p : Pass) : Type 0 where
    pub ticket : Ticket
    pub has : p.fetch ≡ Some ticket
    pub none : p.ticket ≡ None
    pub is : ticket.kind ≡ ReadKind
    pub mine : IsInFlight (h.flight b) ticket
    pub piece : IsPiece shape p
    pub end : p.first + p.count ≤ 2 ^ 26
    pub buffer : length p.buffer ≡ shape.block

-- Steps that call no device.

-- The pass has asked a request.
pub record Asks (request : Asked) (events sectors : ℕ) (i : ℕ) (r r' : RequestState) : Type 0 where
  pub pass : Pass
  pub there : slice_get r.passes i ≡ Some pass
  pub after : r' ≡ with_entry (Ask (call_id i (after_ask pass request events sectors)) request) (with_pass i (after_ask pass request events sectors) r)

-- The pass has asked a write for which too little storage is free, and has its reply.
pub record AsksFull (request : Asked) (needed free : ℕ) (i : ℕ) (r r' : RequestState) : Type 0 where
  pub pass : Pass
  pub there : slice_get r.passes i ≡ Some pass
  pub after : r' ≡ with_entries (Ask (record { pass = i; call = pass.call + 1 }) request ∷ Reply (record { pass = i; call = pass.call + 1 }) (Full needed free) ∷ [])
      (with_pass i (record pass { call = pass.call + 1 }) r)

-- the piece that begins at the first sector that isn't done
pub record IsPieceToEnter (shape : Shape) (p : Pass) (block piece : ℕ) : Type 0 where
  pub from : shape.block * block ≤ p.first + p.done
  pub to : p.first + p.done < shape.block * block + shape.block
  pub some : 0 < piece
  pub no_more : p.done + piece ≤ p.count
  pub inside : p.first + p.done + piece ≤ shape.block * block + shape.block
  pub ends : (p.done + piece ≡ p.count) ⊎ (p.first + p.done + piece ≡ shape.block * block + shape.block)

-- the pass has the region of its next piece's block, and knows the block's place where it has one
pub record Enters (places : ℕ → Option ℕ) (i : ℕ) (r r' : RequestState) : Type 0 where
  pub pass : Pass
  pub there : slice_get r.passes i ≡ Some pass
  pub block : ℕ
  pub piece : ℕ
  pub at : ℕ
  pub is_next : IsPieceToEnter r.shape pass block piece
  pub place : (x : ℕ) → places block ≡ Some x → at ≡ x
  pub after : r' ≡ with_pass i (after_enter pass block piece at) r

-- the base has nothing of the block, which is zeros
pub record FillsZeros (i : ℕ) (r r' : RequestState) : Type 0 where
  pub pass : Pass
  pub there : slice_get r.passes i ≡ Some pass
  pub nothing : count_below r.shape.limit (r.shape.block * pass.block) r.shape.block ≡ 0
  pub after : r' ≡ with_pass i (after_filled pass (replicate r.shape.block zero_sector)) r

-- The pass has seen this content of its piece, which stands in `out` at the piece's place.
pub record Sees (content : List Sector) (i : ℕ) (r r' : RequestState) (out out' : List Sector) : Type 0 where
  pub pass : Pass
  pub there : slice_get r.passes i ≡ Some pass
  pub long : length content ≡ pass.piece
  pub after : r' ≡ with_entry (Seen (call_id i pass) (pass.first + pass.done) content) (with_pass i (after_spending 1 pass.piece (after_piece pass)) r)
  pub filled : out' ≡ content_with_part pass.done content out

-- the base has nothing of the piece, which is zeros
pub record SeesZeros (i : ℕ) (r r' : RequestState) (out out' : List Sector) : Type 0 where
  pub pass : Pass
  pub there : slice_get r.passes i ≡ Some pass
  pub nothing : count_below r.shape.limit (pass.first + pass.done) pass.piece ≡ 0
  pub sees : Sees (replicate pass.piece zero_sector) i r r' out out'

-- a device has failed the pass
pub record Fails (why : Fault) (i : ℕ) (r r' : RequestState) : Type 0 where
  pub pass : Pass
  pub there : slice_get r.passes i ≡ Some pass
  pub after : r' ≡ with_pass i (after_fault why pass) r

-- A flush is over, or, at the last generation, is not begun.
pub record EndsFlush (why : Option Fault) (i : ℕ) (r r' : RequestState) : Type 0 where
  pub pass : Pass
  pub there : slice_get r.passes i ≡ Some pass
  pub serves : pass.flush ≡ true
  pub none : pass.ticket ≡ None
  pub cause : ((why ≡ None) × (pass.phase ≡ Flushing)) ⊎ ((generation : ℕ) × (why ≡ Some (fault.Worn generation)) × (pass.phase ≡ HasAsked))
  pub after : r' ≡ with_pass i (after_flush pass why) r

-- the pass has its reply
pub record Replies (answer : Answer) (i : ℕ) (r r' : RequestState) : Type 0 where
  pub pass : Pass
  pub there : slice_get r.passes i ≡ Some pass
  pub is : answer ≡ answer_of pass
  pub after : r' ≡ with_entry (Reply (call_id i pass) answer) (with_pass i (after_reply pass) r)

-- What the end of a call makes of its pass, its block and the history.

-- what the settle of a base read makes of a pass that fetches
abbrev pub after_base_read : Settled → Pass → Ticket → (block : ℕ) → (content : List Sector) → Pass
after_base_read settled.Done p ticket block content = after_filled p (content ++ replicate (block - length content) zero_sector)
after_base_read (settled.NotYet same) p ticket block content = p
after_base_read (settled.Failed number) p ticket block content = after_fault (fault.Base ticket.number) p

-- the end of a write
abbrev pub after_write : Settled → Pass → Ticket → (i : ℕ) → RequestState → RequestState
after_write settled.Done pass ticket i r = with_fresh pass.block (with_entry (Done (call_id i pass)) (with_pass i (after_spending 1 0 (after_piece pass)) r))
after_write (settled.NotYet same) pass ticket i r = r
after_write (settled.Failed number) pass ticket i r = with_entry (Broke (call_id i pass)) (with_pass i (after_spending 1 0 (after_fault (fault.Store ticket.number) pass)) r)

-- the end of a read
abbrev pub EndsRead : Settled → (content : List Sector) → (why : Fault) → (i : ℕ) → (r r' : RequestState) → (out out' : List Sector) → Type 0
EndsRead settled.Done content why i r r' out out' = Sees content i r r' out out'
EndsRead (settled.NotYet same) content why i r r' out out' = (r' ≡ r) × (out' ≡ out)
EndsRead (settled.Failed number) content why i r r' out out' = Fails why i r r' × (out' ≡ out)

-- the end of a call of a flush
abbrev pub meta_settled : Settled → Pass → Ticket → Pass
meta_settled settled.Done p ticket = record p { ticket = None }
meta_settled (settled.NotYet same) p ticket = p
meta_settled (settled.Failed number) p ticket = after_fault (fault.Store ticket.number) p

-- the entry with which a call of a flush begins
abbrev pub meta_entry : Kind → Ticket → List Sector → Entry
meta_entry ReadKind ticket content = ask_read_entry ticket
meta_entry WriteKind ticket content = issue_entry ticket content
meta_entry FlushKind ticket content = ask_flush_entry ticket

-- what the store is given for a piece: the piece, or the block with the piece laid into it
pub record IsGiven (r : RequestState) (pass : Pass) (part : List Sector) (ticket : Ticket) (stored buffer : List Sector) : Type 0 where
  pub count : ticket.count ≡ length stored
  pub way : ((stored ≡ part) × (buffer ≡ pass.buffer) × (pass.phase ≡ Held) × ((slice_get r.fresh pass.block ≡ Some true) ⊎ (pass.piece ≡ r.shape.block)) × (ticket.first + r.shape.block * pass.block ≡ pass.at + (pass.first + pass.done)))
      ⊎ ((stored ≡ buffer) × (buffer ≡ content_with_part (pass.first + pass.done - r.shape.block * pass.block) part pass.buffer) × (pass.phase ≡ Filled) × (ticket.first ≡ pass.at))

-- Steps that call the store.
module _ {S : Type 0} (g : store.Ghosts S) where
  -- the pass has issued its piece, and has a ticket for it
  pub record Issues (content : List Sector) (i : ℕ) (r r' : RequestState) (s s' : S) : Type 0 where
    pub pass : Pass
    pub ticket : Ticket
    pub stored : List Sector
    pub buffer : List Sector
    pub there : slice_get r.passes i ≡ Some pass
    pub after : r' ≡ with_entry (Issue (call_id i pass) (pass.first + pass.done) (slice_range content pass.done (pass.done + pass.piece))) (with_pass i (after_issue pass ticket buffer) r)
    pub kind : ticket.kind ≡ WriteKind
    pub given : IsGiven r pass (slice_range content pass.done (pass.done + pass.piece)) ticket stored buffer
    pub call : Submits g ticket (issue_entry ticket stored) s s'

  -- The write is settled: it is done and its block fresh, or late, or it has failed.
  pub record WriteSettled (answer : Settled) (i : ℕ) (r r' : RequestState) (s s' : S) : Type 0 where
    pub pass : Pass
    pub ticket : Ticket
    pub there : slice_get r.passes i ≡ Some pass
    pub has : pass.ticket ≡ Some ticket
    pub after : r' ≡ after_write answer pass ticket i r
    pub call : SettlesCall g answer ticket [] [] s s'

  -- the pass has submitted a read of its piece to the store
  pub record Looks (i : ℕ) (r r' : RequestState) (s s' : S) : Type 0 where
    pub pass : Pass
    pub ticket : Ticket
    pub there : slice_get r.passes i ≡ Some pass
    pub after : r' ≡ with_pass i (after_look pass ticket) r
    pub kind : ticket.kind ≡ ReadKind
    pub first : ticket.first + r.shape.block * pass.block ≡ pass.at + (pass.first + pass.done)
    pub count : ticket.count ≡ pass.piece
    pub call : Submits g ticket (ask_read_entry ticket) s s'

  -- the read of a piece from the store is settled
  pub record LookSettled (answer : Settled) (i : ℕ) (r r' : RequestState) (s s' : S) (out out' : List Sector) : Type 0 where
    pub pass : Pass
    pub ticket : Ticket
    pub front : List Sector
    pub content : List Sector
    pub there : slice_get r.passes i ≡ Some pass
    pub has : pass.ticket ≡ Some ticket
    pub effect : EndsRead answer content (fault.Store ticket.number) i r r' out out'
    pub call : SettlesCall g answer ticket front content s s'

  -- the pass, which has asked a flush or has it under way, has submitted a call of it: a store flush, or a write of this content
  pub record SubmitsMeta (content : List Sector) (i : ℕ) (r r' : RequestState) (s s' : S) : Type 0 where
    pub pass : Pass
    pub ticket : Ticket
    pub there : slice_get r.passes i ≡ Some pass
    pub serves : pass.flush ≡ true
    pub phase : (pass.phase ≡ HasAsked) ⊎ (pass.phase ≡ Flushing)
    pub none : pass.ticket ≡ None
    pub after : r' ≡ with_pass i (after_meta pass ticket) r
    pub is_meta : IsMeta r.shape ticket
    pub count : ticket.kind ≡ WriteKind → ticket.count ≡ length content
    pub call : Submits g ticket (meta_entry ticket.kind ticket content) s s'

  -- a call of a flush is settled
  pub record MetaSettled (answer : Settled) (i : ℕ) (r r' : RequestState) (s s' : S) : Type 0 where
    pub pass : Pass
    pub ticket : Ticket
    pub there : slice_get r.passes i ≡ Some pass
    pub phase : pass.phase ≡ Flushing
    pub has : pass.ticket ≡ Some ticket
    pub after : r' ≡ with_pass i (meta_settled answer pass ticket) r
    pub call : SettlesCall g answer ticket [] [] s s'

-- Steps that call the base.
module _ {B : Type 0} (h : base.Ghosts B) where
  -- the pass has submitted the base read of its block
  pub record Fetches (i : ℕ) (r r' : RequestState) (b b' : B) : Type 0 where
    pub pass : Pass
    pub ticket : Ticket
    pub there : slice_get r.passes i ≡ Some pass
    pub after : r' ≡ with_pass i (after_fetch pass ticket) r
    pub kind : ticket.kind ≡ ReadKind
    pub first : ticket.first ≡ r.shape.block * pass.block
    pub count : ticket.count ≡ count_below r.shape.limit (r.shape.block * pass.block) r.shape.block
    pub call : SubmitsToBase h ticket b b'

  -- The base read is settled. What was read stands at the buffer's front, and zeros behind it.
  pub record FetchSettled (answer : Settled) (i : ℕ) (r r' : RequestState) (b b' : B) : Type 0 where
    pub pass : Pass
    pub ticket : Ticket
    pub front : List Sector
    pub content : List Sector
    pub there : slice_get r.passes i ≡ Some pass
    pub has : pass.fetch ≡ Some ticket
    pub long : length content ≡ ticket.count
    pub after : r' ≡ with_pass i (after_base_read answer pass ticket r.shape.block content) r
    pub call : SettlesInBase h answer ticket front content b b'

  -- the pass has submitted a read of what the base has of its piece
  pub record LooksAtBase (i : ℕ) (r r' : RequestState) (b b' : B) : Type 0 where
    pub pass : Pass
    pub ticket : Ticket
    pub there : slice_get r.passes i ≡ Some pass
    pub after : r' ≡ with_pass i (after_base_look pass ticket) r
    pub kind : ticket.kind ≡ ReadKind
    pub first : ticket.first ≡ pass.first + pass.done
    pub count : ticket.count ≡ count_below r.shape.limit (pass.first + pass.done) pass.piece
    pub call : SubmitsToBase h ticket b b'

  -- The read of a piece from the base is settled. Behind what was read the piece is zeros.
  pub record BaseLookSettled (answer : Settled) (i : ℕ) (r r' : RequestState) (b b' : B) (out out' : List Sector) : Type 0 where
    pub pass : Pass
    pub ticket : Ticket
    pub front : List Sector
    pub content : List Sector
    pub there : slice_get r.passes i ≡ Some pass
    pub has : pass.fetch ≡ Some ticket
    pub long : length content ≡ ticket.count
    pub effect : EndsRead answer (content ++ replicate (pass.piece - ticket.count) zero_sector) (fault.Base ticket.number) i r r' out out'
    pub call : SettlesInBase h answer ticket front content b b'
