-- How many pieces a request has, and the room in the history that a pass needs for those that are left.
use Rattle.std.proofs.Common.{◌≡◌, ℕ, zero, suc, ◌+◌, ◌-◌, ◌*◌, ◌/◌, ◌%◌, ◌<◌, ◌≤◌, Bool, true, false, List, [], ◌∷◌, length, refl, sym, ◌∙◌, ap, subst, inl, inr, arith, Some}
use Rattle.std.specs.Prelude.{nat_lt, if◌then◌else◌, slice_get, slice_set}
use Rattle.std.specs.List.{sum_by}
use Rattle.std.proofs.Math.Nat.{mul-suc, mul_comm, add-div_right}
use Rattle.std.proofs.lemmas.Nat.{div-mul-add, mod-mul-add, le-div}
use Rattle.std.proofs.lemmas.Bool.{cases_lt, lt-ltb, le-ltb}
pub use Rattle.vd_lists.proofs.Counting.{sum_at_place as sum-part, sum_of_changed as sum-set}
use Rattle.vd_law.specs.declared.entry.Sector.{Sector}
use Rattle.vd_law.specs.Entries.{Asked, Read, Write, Flush}
use Rattle.vd_law.specs.Logs.{asked_content}
use Rattle.vd_law.specs.Needs.{pieces, events_of, request_room}
use Rattle.vd_device.specs.declared.ticket.Ticket.{Ticket}
use Rattle.vd_passes.specs.declared.shape.Shape.{Shape}
use Rattle.vd_passes.specs.declared.pass.Pass.{Pass}
use Rattle.vd_passes.specs.declared.pass.Phase.{Phase}
use Rattle.vd_passes.specs.declared.pass.Phase.TheVariants.{Idle, Asked as HasAsked, Held, Fetching, Filled, Issuing, Looking, Flushing, Ready}
use Rattle.vd_passes.specs.declared.pass.Fault.{Fault}
use Rattle.vd_passes.proofs.Lists.{at-set}
use Rattle.vd_passes.specs.Needs.{sectors_left, pieces_left, events_needed, sectors_needed, HasRoom}
use Rattle.vd_passes.specs.Passes.{IsPiece, after_spending, after_ask, after_enter, after_fetch, after_filled, after_issue, after_look, after_base_look, after_piece, after_fault, after_reply}

-- The pieces of a range that begins in block b.
pub pieces-from : (block b first count : ℕ) → block * b ≤ first → first < block * b + block → pieces block first count ≡ (first - block * b + count + (block - 1)) / block
pieces-from block b first count from to =
    let e : first ≡ b * block + (first - block * b) = (let c = mul_comm block b in omega arith) in
    let r : first % block ≡ first - block * b = ap (λ (n : ℕ). n % block) e ∙ mod-mul-add b block (first - block * b) (omega arith) in
    ap (λ (n : ℕ). (n + count + (block - 1)) / block) r

-- it ends in that block
pub pieces-one : (block b first count : ℕ) → block * b ≤ first → 0 < count → first + count ≤ block * b + block → pieces block first count ≡ 1
pieces-one block b first count from some to =
    let n : first - block * b + count + (block - 1) ≡ 1 * block + (first - block * b + count - 1) = omega arith in
    pieces-from block b first count from (omega arith) ∙ ap (λ (k : ℕ). k / block) n ∙ div-mul-add 1 block (first - block * b + count - 1) (omega arith)

-- or its first piece ends at the end of the block
pub pieces-more : (block b first piece count : ℕ) → block * b ≤ first → 0 < piece → first + piece ≡ block * b + block → piece ≤ count → pieces block (first + piece) (count - piece) + 1 ≡ pieces block first count
pieces-more block b first piece count from some ends fits =
    let s : block * suc b ≡ block * b + block = mul-suc block b in
    let behind : pieces block (first + piece) (count - piece) ≡ (first + piece - block * suc b + (count - piece) + (block - 1)) / block = pieces-from block (suc b) (first + piece) (count - piece) (omega arith) (omega arith) in
    let n : first - block * b + count + (block - 1) ≡ (first + piece - block * suc b + (count - piece) + (block - 1)) + block = omega arith in
    ap (λ (k : ℕ). k + 1) behind
    ∙ sym (add-div_right (first + piece - block * suc b + (count - piece) + (block - 1)) (omega arith))
    ∙ ap (λ (k : ℕ). k / block) (sym n)
    ∙ sym (pieces-from block b first count from (omega arith))

pub pieces-some : (block first count : ℕ) → 0 < block → 0 < count → 0 < pieces block first count
pieces-some block first count full some = le-div 1 (first % block + count + (block - 1)) block full (omega arith)

-- What is left after a piece of a pass.
module _ {shape : Shape} {p : Pass} (piece : IsPiece shape p) where
  block-some : 0 < shape.block
  block-some = let a = piece.some in let b = piece.from in let c = piece.to in omega arith

  left-some : 0 < sectors_left p
  left-some = let a = piece.some in let b = piece.no_more in omega arith

  pub pieces-left : 0 < pieces_left shape.block p
  pieces-left = pieces-some shape.block (p.first + p.done) (sectors_left p) block-some left-some

  behind-end : p.first + p.done + p.piece ≡ shape.block * p.block + shape.block → pieces shape.block (p.first + (p.done + p.piece)) (p.count - (p.done + p.piece)) + 1 ≡ pieces_left shape.block p
  behind-end ends =
      let first : p.first + (p.done + p.piece) ≡ p.first + p.done + p.piece = omega arith in
      let count : p.count - (p.done + p.piece) ≡ sectors_left p - p.piece = omega arith in
      ap (λ (n : ℕ). pieces shape.block n (p.count - (p.done + p.piece)) + 1) first
      ∙ ap (λ (n : ℕ). pieces shape.block (p.first + p.done + p.piece) n + 1) count
      ∙ pieces-more shape.block p.block (p.first + p.done) p.piece (sectors_left p) piece.from piece.some ends (let b = piece.no_more in omega arith)

  -- where more is to be done, the piece was one of the pieces
  pub pieces-behind : p.done + p.piece < p.count → pieces shape.block (p.first + (p.done + p.piece)) (p.count - (p.done + p.piece)) + 1 ≡ pieces_left shape.block p
  pieces-behind less = elim piece.ends [ inl all ↦ absurd (omega (arith, all, less)) | inr ends ↦ behind-end ends ]

  -- where no more is, it was the last
  pub pieces-last : p.done + p.piece ≡ p.count → pieces_left shape.block p ≡ 1
  pieces-last all = pieces-one shape.block p.block (p.first + p.done) (sectors_left p) piece.from left-some (let b = piece.to in let c = piece.no_more in omega arith)

-- The room that each step uses, and what it leaves.

-- a pass that has neither its next event nor its reply yet
abbrev pub is_before_event : Phase → Bool
is_before_event Idle = false
is_before_event HasAsked = true
is_before_event Held = true
is_before_event Fetching = true
is_before_event Filled = true
is_before_event Issuing = false
is_before_event Looking = true
is_before_event Flushing = false
is_before_event Ready = false

events-before : (phase : Phase) (write : Bool) (pieces : ℕ) → is_before_event phase ≡ true → events_needed phase write pieces ≡ 1 + events_of write pieces
events-before Idle write pieces is = cc
events-before HasAsked write pieces is = refl
events-before Held write pieces is = refl
events-before Fetching write pieces is = refl
events-before Filled write pieces is = refl
events-before Issuing write pieces is = cc
events-before Looking write pieces is = refl
events-before Flushing write pieces is = cc
events-before Ready write pieces is = cc

sectors-before : (phase : Phase) (left piece : ℕ) → is_before_event phase ≡ true → sectors_needed phase left piece ≡ left
sectors-before Idle left piece is = cc
sectors-before HasAsked left piece is = refl
sectors-before Held left piece is = refl
sectors-before Fetching left piece is = refl
sectors-before Filled left piece is = refl
sectors-before Issuing left piece is = cc
sectors-before Looking left piece is = refl
sectors-before Flushing left piece is = cc
sectors-before Ready left piece is = cc

-- a pass that has no request needs none
pub room-idle : (block : ℕ) (p : Pass) → p.phase ≡ Idle → p.events ≡ 0 → p.sectors ≡ 0 → HasRoom block p
room-idle block p idle no_events no_sectors = record {
  events = let e = ap (λ ph. events_needed ph p.write (pieces_left block p)) idle in omega arith;
  sectors = let e = ap (λ ph. sectors_needed ph (sectors_left p) p.piece) idle in omega arith;
  idle = λ is. (no_events, no_sectors);
}

pub room-replied : (block : ℕ) (p : Pass) → HasRoom block (after_reply p)
room-replied block p = record { events = omega arith; sectors = omega arith; idle = λ is. (refl, refl) }

from-start : (block first count : ℕ) → pieces block (first + 0) (count - 0) ≡ pieces block first count
from-start block first count = let e : first + 0 ≡ first = omega arith in let f : count - 0 ≡ count = omega arith in ap (λ (n : ℕ). pieces block n (count - 0)) e ∙ ap (λ (n : ℕ). pieces block first n) f

-- a flush has none
no-pieces : (block : ℕ) → pieces block 0 0 ≡ 0
no-pieces zero = refl
no-pieces (suc b) =
    let n : 0 - suc b * 0 + 0 + (suc b - 1) ≡ 0 * suc b + b = omega arith in
    pieces-from (suc b) 0 0 0 (omega arith) (omega arith) ∙ ap (λ (k : ℕ). k / suc b) n ∙ div-mul-add 0 (suc b) b (omega arith)

-- Its Ask is told, and the rest of what its request needs is left.
pub room-asked : (block : ℕ) (p : Pass) (request : Asked) (events sectors : ℕ) → (request_room block request).events ≤ events + 1 → (request_room block request).sectors ≤ sectors + length (asked_content request) → HasRoom block (after_ask p request events sectors)
room-asked block p (Read first count) events sectors enough_events enough_sectors = record {
  events = let e = from-start block first count in omega arith;
  sectors = omega arith;
  idle = λ is. absurd (cc);
}
room-asked block p (Write first content) events sectors enough_events enough_sectors = record {
  events = let e = from-start block first (length content) in omega arith;
  sectors = omega arith;
  idle = λ is. absurd (cc);
}
room-asked block p Flush events sectors enough_events enough_sectors = record {
  events = let n = no-pieces block in omega arith;
  sectors = omega arith;
  idle = λ is. absurd (cc);
}

-- Steps that use none.

module _ {block : ℕ} {p : Pass} (room : HasRoom block p) where
  kept : (p' : Pass) → is_before_event p.phase ≡ true → is_before_event p'.phase ≡ true → p'.write ≡ p.write → pieces_left block p' ≡ pieces_left block p → sectors_left p' ≡ sectors_left p → p'.events ≡ p.events → p'.sectors ≡ p.sectors → HasRoom block p'
  kept p' before after write pieces left events sectors = record {
    events = let a = room.events in let e = events-before p.phase p.write (pieces_left block p) before in let f = events-before p'.phase p'.write (pieces_left block p') after in
        let g : events_of p'.write (pieces_left block p') ≡ events_of p.write (pieces_left block p) = ap (λ (w : Bool). events_of w (pieces_left block p')) write ∙ ap (events_of p.write) pieces in omega arith;
    sectors = let a = room.sectors in let e = sectors-before p.phase (sectors_left p) p.piece before in let f = sectors-before p'.phase (sectors_left p') p'.piece after in omega arith;
    idle = λ is. absurd (let b = ap is_before_event is in cc);
  }

  pub room-entered : is_before_event p.phase ≡ true → (b piece at : ℕ) → HasRoom block (after_enter p b piece at)
  room-entered before b piece at = kept (after_enter p b piece at) before refl refl refl refl refl refl

  pub room-fetched : is_before_event p.phase ≡ true → (ticket : Ticket) → HasRoom block (after_fetch p ticket)
  room-fetched before ticket = kept (after_fetch p ticket) before refl refl refl refl refl refl

  pub room-filled : is_before_event p.phase ≡ true → (buffer : List Sector) → HasRoom block (after_filled p buffer)
  room-filled before buffer = kept (after_filled p buffer) before refl refl refl refl refl refl

  pub room-looked : is_before_event p.phase ≡ true → (ticket : Ticket) → HasRoom block (after_look p ticket)
  room-looked before ticket = kept (after_look p ticket) before refl refl refl refl refl refl

  pub room-base_looked : is_before_event p.phase ≡ true → (ticket : Ticket) → HasRoom block (after_base_look p ticket)
  room-base_looked before ticket = kept (after_base_look p ticket) before refl refl refl refl refl refl

  -- a device has failed a read: the Reply alone is left
  pub room-failed : is_before_event p.phase ≡ true → (fault : Fault) → HasRoom block (after_fault fault p)
  room-failed before fault = record { events = let a = room.events in let e = events-before p.phase p.write (pieces_left block p) before in omega arith; sectors = omega arith; idle = λ is. absurd (cc) }

  -- the Reply has its event
  pub room-reply : p.phase ≡ Ready → 0 < p.events
  room-reply ready = let a = room.events in let e = ap (λ ph. events_needed ph p.write (pieces_left block p)) ready in omega arith

-- Steps that use an event.

twice : (write : Bool) (pieces : ℕ) → write ≡ true → events_of write pieces ≡ 2 * pieces
twice write pieces is = ap (λ (w : Bool). events_of w pieces) is

once : (write : Bool) (pieces : ℕ) → write ≡ false → events_of write pieces ≡ pieces
once write pieces is = ap (λ (w : Bool). events_of w pieces) is

-- what a step used of its room
pub record Uses (events sectors : ℕ) (p p' : Pass) : Type 0 where
  pub events_used : p'.events + events ≡ p.events
  pub sectors_used : p'.sectors + sectors ≡ p.sectors

one-more : (write : Bool) (pieces : ℕ) → events_of write (pieces + 1) ≡ events_of write pieces + events_of write 1
one-more true pieces = omega arith
one-more false pieces = refl

-- no pass is idle at the end of its piece
unidle : (more : Bool) → (if more then HasAsked else Ready) ≡ Idle → ⊥
unidle true is = cc
unidle false is = cc

module _ {shape : Shape} {p : Pass} (piece : IsPiece shape p) (room : HasRoom shape.block p) where
  -- after the end of its piece the pass has its next one to do, or its Reply
  ended : (events sectors : ℕ) → events + 1 + events_of p.write (pieces_left shape.block p) ≤ p.events + events_of p.write 1 → sectors_left p ≤ p.sectors - sectors + p.piece → HasRoom shape.block (after_spending events sectors (after_piece p))
  ended events sectors enough_events enough_sectors =
      let behind : ℕ = pieces shape.block (p.first + (p.done + p.piece)) (p.count - (p.done + p.piece)) in
      elim (cases_lt (p.done + p.piece) p.count) [
        | inl less ↦
            let is : nat_lt (p.done + p.piece) p.count ≡ true = lt-ltb _ _ less in
            let e : events_of p.write (pieces_left shape.block p) ≡ events_of p.write behind + events_of p.write 1 = ap (events_of p.write) (sym (pieces-behind piece less)) ∙ one-more p.write behind in
            record {
              events = subst (λ (b : Bool). events_needed (if b then HasAsked else Ready) p.write behind ≤ p.events - events) (sym is) (omega (arith, e, enough_events));
              sectors = subst (λ (b : Bool). sectors_needed (if b then HasAsked else Ready) (p.count - (p.done + p.piece)) p.piece ≤ p.sectors - sectors) (sym is) (omega (arith, less, enough_sectors));
              idle = λ idle. absurd (unidle (nat_lt (p.done + p.piece) p.count) idle);
            }
        | inr more ↦
            let is : nat_lt (p.done + p.piece) p.count ≡ false = le-ltb _ _ more in
            let e : events_of p.write (pieces_left shape.block p) ≡ events_of p.write 1 = ap (events_of p.write) (pieces-last piece (let n = piece.no_more in omega (arith, n, more))) in
            record {
              events = subst (λ (b : Bool). events_needed (if b then HasAsked else Ready) p.write behind ≤ p.events - events) (sym is) (omega (arith, e, enough_events));
              sectors = subst (λ (b : Bool). sectors_needed (if b then HasAsked else Ready) (p.count - (p.done + p.piece)) p.piece ≤ p.sectors - sectors) (sym is) (omega arith);
              idle = λ idle. absurd (unidle (nat_lt (p.done + p.piece) p.count) idle);
            }
      ]

  -- a piece is issued
  pub room-issued : is_before_event p.phase ≡ true → (ticket : Ticket) (buffer : List Sector) → HasRoom shape.block (after_issue p ticket buffer) × Uses 1 p.piece p (after_issue p ticket buffer)
  room-issued before ticket buffer =
      let a = room.events in let b = room.sectors in let e = events-before p.phase p.write (pieces_left shape.block p) before in let f = sectors-before p.phase (sectors_left p) p.piece before in let n = piece.no_more in
      (record { events = omega arith; sectors = omega arith; idle = λ idle. absurd (cc) }, record { events_used = omega arith; sectors_used = omega arith })

  -- a write that is issued needs its end and the Reply at least
  issuing-events : p.phase ≡ Issuing → p.write ≡ true → 2 * pieces_left shape.block p ≤ p.events
  issuing-events is write = let a = room.events in let e = ap (λ ph. events_needed ph p.write (pieces_left shape.block p)) is in let f = twice p.write (pieces_left shape.block p) write in omega arith

  issuing-sectors : p.phase ≡ Issuing → sectors_left p ≤ p.sectors + p.piece
  issuing-sectors is = let a = room.sectors in let e = ap (λ ph. sectors_needed ph (sectors_left p) p.piece) is in omega arith

  -- the piece is written
  pub room-written : p.phase ≡ Issuing → p.write ≡ true → HasRoom shape.block (after_spending 1 0 (after_piece p)) × Uses 1 0 p (after_spending 1 0 (after_piece p))
  room-written is write =
      let a = issuing-events is write in let b = issuing-sectors is in let c = pieces-left piece in let f = twice p.write (pieces_left shape.block p) write in let g = twice p.write 1 write in
      (ended 1 0 (omega arith) (omega arith), record { events_used = omega arith; sectors_used = omega arith })

  -- the store has failed it
  pub room-broke : p.phase ≡ Issuing → p.write ≡ true → (fault : Fault) → HasRoom shape.block (after_spending 1 0 (after_fault fault p)) × Uses 1 0 p (after_spending 1 0 (after_fault fault p))
  room-broke is write fault =
      let a = issuing-events is write in let c = pieces-left piece in
      (record { events = omega arith; sectors = omega arith; idle = λ idle. absurd (cc) }, record { events_used = omega arith; sectors_used = omega arith })

  -- the piece is seen
  pub room-seen : is_before_event p.phase ≡ true → p.write ≡ false → HasRoom shape.block (after_spending 1 p.piece (after_piece p)) × Uses 1 p.piece p (after_spending 1 p.piece (after_piece p))
  room-seen before read =
      let a = room.events in let b = room.sectors in let e = events-before p.phase p.write (pieces_left shape.block p) before in let h = sectors-before p.phase (sectors_left p) p.piece before in
      let f = once p.write (pieces_left shape.block p) read in let g = once p.write 1 read in let n = piece.no_more in
      (ended 1 p.piece (omega arith) (omega arith), record { events_used = omega arith; sectors_used = omega arith })

-- What each pass of a list has left suffices, where one of them changes.
pub rooms-set : (block : ℕ) (passes : List Pass) (i : ℕ) (p p' : Pass) → slice_get passes i ≡ Some p → ((j : ℕ) (q : Pass) → slice_get passes j ≡ Some q → HasRoom block q) → HasRoom block p'
    → (j : ℕ) (q : Pass) → slice_get (slice_set passes i p') j ≡ Some q → HasRoom block q
rooms-set block passes i p p' there each room j q at = elim (at-set passes i j p' p q there at) [
  | inl a ↦ subst (HasRoom block) (sym a.1) room
  | inr a ↦ each j q a.1
]

pub sum-uses : (passes : List Pass) (i events sectors : ℕ) (p p' : Pass) → slice_get passes i ≡ Some p → Uses events sectors p p'
    → (sum_by (λ (q : Pass). q.events) (slice_set passes i p') + events ≡ sum_by (λ (q : Pass). q.events) passes) × (sum_by (λ (q : Pass). q.sectors) (slice_set passes i p') + sectors ≡ sum_by (λ (q : Pass). q.sectors) passes)
sum-uses passes i events sectors p p' there uses =
    let a = sum-set (λ (q : Pass). q.events) passes i p p' there in let b = sum-set (λ (q : Pass). q.sectors) passes i p p' there in
    let c = uses.events_used in let d = uses.sectors_used in (omega (arith, a, c), omega (arith, b, d))
