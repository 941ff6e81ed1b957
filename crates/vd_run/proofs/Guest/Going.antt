-- The requests of a guest, served one after the other.
use Rattle.std.proofs.Common.{◌≡◌, ℕ, ◌+◌, ◌≤◌, arith, Option, List, [], ◌∷◌, ◌++◌, length, take, drop, sym, ◌∙◌, ap, subst, Some, slice_get}
use Rattle.std.specs.List.{All, AllByRecursion}
use Rattle.std.proofs.lemmas.List.{take_more, take_all}
use Rattle.std.proofs.lemmas.Option.{get_or_from_slice_get, slice_get_within}
use Rattle.vd_law.specs.declared.entry.Room.{Room}
use Rattle.vd_law.specs.Entries.{Asked, Flush, Entry}
use Rattle.vd_law.specs.Rules.{IsRegular}
use Rattle.vd_passes.specs.declared.pass.Pass.{Pass}
use Rattle.vd_machine.specs.Asking.{Suffices}
use Rattle.vd_run.specs.Serving.{requests_in, IsServable, IsResting, IsUnused, IsServed}
use Rattle.vd_run.specs.Driving.{IsAskOf, Serves, with_flush}
use Rattle.vd_run.proofs.Guest.Needs.{rest-suffices}
use Rattle.vd_run.proofs.Guest.Alone.{regular-alone}
use Rattle.vd_law.specs.Needs.{request_room, requests_room}

-- the request of this number is in order
pub servable-at : {size size' : ℕ} {request : Asked} (requests : List Asked) (at : ℕ) → size' ≡ size → slice_get requests at ≡ Some request → All (IsServable size) requests → IsServable size' request
servable-at {size} {size'} {request} requests at same there all = subst (λ (n : ℕ). IsServable n request) (sym same) (subst (IsServable size) (get_or_from_slice_get requests at request request there) (all at request (slice_get_within requests at request there)))

-- so many of the requests are served, and the spare room suffices for the rest and a flush
pub record IsServing (requests : List Asked) (block at : ℕ) (passes : List Pass) (flusher : Option ℕ) (entries : List Entry) (left : Room) : Type 0 where
  pub resting : IsResting passes flusher
  pub asked : requests_in entries 1 ≡ take at requests
  pub alone : AllByRecursion (IsAskOf 1) entries
  pub room : Suffices (with_flush (requests_room block (drop at requests))) left

pub none-served : {requests : List Asked} {block : ℕ} {passes : List Pass} {flusher : Option ℕ} {entries : List Entry} {left : Room} → IsUnused passes flusher entries → Suffices (with_flush (requests_room block requests)) left → IsServing requests block 0 passes flusher entries left
none-served unused room = record {
  resting = unused.resting;
  asked = ap (λ (es : List Entry). requests_in es 1) unused.empty;
  alone = subst (AllByRecursion (IsAskOf 1)) (sym unused.empty) tt;
  room = room;
}

pub one-served : {requests : List Asked} {block at : ℕ} {passes passes' : List Pass} {flusher flusher' : Option ℕ} {entries entries' : List Entry} {left left' : Room} (request : Asked)
    → slice_get requests at ≡ Some request → IsResting passes' flusher' → Serves request block entries entries' left left' → IsServing requests block at passes flusher entries left → IsServing requests block (at + 1) passes' flusher' entries' left'
one-served {requests} {block} {at} {left = left} {left' = left'} request there resting serves now = record {
  resting = resting;
  asked = serves.asked ∙ ap (λ (rs : List Asked). rs ++ request ∷ []) now.asked
      ∙ ap (λ (r : Asked). take at requests ++ r ∷ []) (sym (get_or_from_slice_get requests at request request there)) ∙ sym (take_more requests at request (slice_get_within requests at request there));
  alone = serves.alone now.alone;
  room = rest-suffices block requests at request there left left' serves.events_left serves.sectors_left now.room;
}

pub all-served : {requests : List Asked} {block at : ℕ} {flusher : Option ℕ} {left : Room} (passes : List Pass) (entries : List Entry) (size : ℕ) → length requests ≤ at → IsRegular size entries → IsServing requests block at passes flusher entries left → IsServed requests passes entries
all-served {requests} {at = at} passes entries size all regular now = record {
  asked = now.asked ∙ take_all at requests all;
  alone = regular-alone size 1 entries regular now.alone;
  idle = now.resting.idle;
}

-- room for a flush is left
pub flush-suffices : {requests : List Asked} {block at : ℕ} {passes : List Pass} {flusher : Option ℕ} {entries : List Entry} {left : Room} (block' : ℕ) → IsServing requests block at passes flusher entries left → Suffices (request_room block' Flush) left
flush-suffices block' now = let events = now.room.0 in (omega (arith, events), omega arith)
