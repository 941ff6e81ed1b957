-- A pass after the end of the read of its piece.
use Rattle.std.proofs.Common.{◌≡◌, ℕ, ◌+◌, ◌-◌, ◌≤◌, Bool, List, [], ◌∷◌, ◌++◌, length, take, drop, replicate, refl, sym, ◌∙◌, ap, subst, append_assoc, arith, Some, None, slice_get, slice_set}
use borrow.Rule.Slice.PartMut.{put_mid, mid_of, mid_len, put_same, Post-is}
use Rattle.vd_law.specs.declared.entry.Sector.{Sector}
use Rattle.vd_law.specs.declared.entry.CallId.{CallId}
use Rattle.vd_law.specs.Entries.{Entry, Seen}
use Rattle.vd_law.specs.Histories.{HistoryState}
use Rattle.vd_device.specs.declared.base.Base as base
use Rattle.vd_device.specs.declared.ticket.Ticket.{Ticket}
use Rattle.vd_device.specs.declared.settled.Settled.{Settled}
use Rattle.vd_passes.specs.declared.shape.Shape.{Shape}
use Rattle.vd_passes.specs.declared.pass.Pass.{Pass}
use Rattle.vd_passes.specs.declared.pass.Fault.TheVariants as fault
use Rattle.vd_passes.specs.Buffers.{BufferSettled}
use Rattle.vd_passes.specs.Laying.{content_with_part}
use Rattle.vd_passes.specs.Passes.{after_piece, after_fault, after_spending}
use Rattle.vd_passes.specs.Requests.{RequestState, requests}
use Rattle.vd_passes.specs.Steps.{Sees, EndsRead, BaseLookSettled}
use Rattle.vd_machine.specs.Adding.{AddsEntries}
use Rattle.vd_machine.proofs.Ended.{requests-are, own-entry}
use Rattle.vd_format.specs.Background.{zero_sector}

-- the piece's part of a list
abbrev pub part_of : Pass → List Sector → List Sector
part_of q out = mid_of q.done (q.done + q.piece - q.done) out

abbrev pub with_part : Pass → (out part : List Sector) → List Sector
with_part q out part = put_mid q.done (q.done + q.piece - q.done) out part

pub part-long : (q : Pass) (out : List Sector) → q.done + q.piece ≤ length out → length (part_of q out) ≡ q.piece
part-long q out fits = let e : q.done + q.piece - q.done ≡ q.piece = omega arith in mid_len q.done (q.done + q.piece) out fits ∙ e

pub part-kept : (q : Pass) (out part : List Sector) → part ≡ part_of q out → with_part q out part ≡ out
part-kept q out part same = ap (with_part q out) same ∙ put_same q.done (q.done + q.piece - q.done) out

part-laid : (q : Pass) (out part : List Sector) → length part ≡ q.piece → with_part q out part ≡ content_with_part q.done part out
part-laid q out part long =
    ap (λ (xs : List Sector). take q.done out ++ (part ++ xs)) (Post-is q.done (q.done + q.piece) out (omega arith) ∙ ap (λ (n : ℕ). drop (q.done + n) out) (sym long))
    ∙ sym (append_assoc (take q.done out) part (drop (q.done + length part) out))

-- it has seen this part
pub sees-part : {shape : Shape} {fresh : List Bool} {i : ℕ} {passes : List Pass} {entries entries' : List Entry} {out : List Sector} (q e s : Pass) (id : CallId) (part : List Sector) → slice_get passes i ≡ Some q → e ≡ after_piece q → s ≡ after_spending 1 e.piece e
    → id.pass ≡ i → id.call ≡ q.call → entries' ≡ entries ++ Seen id (q.first + q.done) part ∷ [] → length part ≡ q.piece
    → Sees part i (requests shape fresh passes entries) (requests shape fresh (slice_set passes i s) entries') out (with_part q out part)
sees-part {i = i} {passes} {entries} {entries'} {out} q e s id part there ended used pass call entry long = record {
  pass = q;
  there = there;
  long = long;
  after = requests-are refl (ap (λ (x : Pass). slice_set passes i x) (used ∙ ap (λ (x : Pass). after_spending 1 x.piece x) ended))
      (own-entry (λ (c : CallId). Seen c (q.first + q.done) part) id i q entries entries' pass call entry);
  filled = part-laid q out part long;
}

pub extends-part : {numbers : List ℕ} {history history' : HistoryState} (part : List Sector) (piece : ℕ) → length part ≡ piece → AddsEntries numbers (length part) history history' → AddsEntries numbers piece history history'
extends-part {numbers} {history} {history'} part piece long extends = subst (λ (n : ℕ). AddsEntries numbers n history history') long extends

-- the base has failed it
pub base-read-failed : (q r f : Pass) (number n : ℕ) → r ≡ record q { fetch = None } → n ≡ number → f ≡ after_fault (fault.Base n) r → f ≡ after_fault (fault.Base number) q
base-read-failed q r f number n took is failed = failed ∙ ap (after_fault (fault.Base n)) took ∙ ap (λ (m : ℕ). after_fault (fault.Base m) q) is

-- the base's ticket was put back
pub fetch-back : (q r s : Pass) (t same : Ticket) → r ≡ record q { fetch = None } → q.fetch ≡ Some t → same ≡ t → s ≡ record r { fetch = Some same } → s ≡ q
fetch-back q r s t same took has is after =
    after ∙ ap (λ (x : Pass). record x { fetch = Some same }) took ∙ ap (λ (u : Ticket). record q { fetch = Some u }) is ∙ ap (λ o. record q { fetch = o }) (sym has)

-- what was read from the base of the part, with zeros behind it
pub padded-part : (content old new : List Sector) (count piece : ℕ) → new ≡ content ++ replicate (length old - length content) zero_sector → length old ≡ piece → length content ≡ count → new ≡ content ++ replicate (piece - count) zero_sector
padded-part content old new count piece is long read = is ∙ ap (λ (n : ℕ). content ++ replicate (n - length content) zero_sector) long ∙ ap (λ (n : ℕ). content ++ replicate (piece - n) zero_sector) read

pub base-look-settled : {answer : Settled} {i : ℕ} {r r' : RequestState} {B : Type 0} {h : base.Ghosts B} {b b' : B} {old new out out' : List Sector} {q : Pass} {ticket : Ticket}
    → slice_get r.passes i ≡ Some q → q.fetch ≡ Some ticket → (settled : BufferSettled h answer ticket old new b b')
    → EndsRead answer (settled.content ++ replicate (q.piece - ticket.count) zero_sector) (fault.Base ticket.number) i r r' out out' → BaseLookSettled h answer i r r' b b' out out'
base-look-settled {q = q} {ticket} there has settled effect = record {
  pass = q;
  ticket = ticket;
  front = settled.front;
  content = settled.content;
  there = there;
  has = has;
  long = settled.long;
  effect = effect;
  call = settled.settles;
}
