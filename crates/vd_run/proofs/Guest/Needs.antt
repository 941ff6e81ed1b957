-- What the requests of one guest take is no more than what all take.
use Rattle.std.proofs.Common.{◌≡◌, ℕ, ◌+◌, ◌≤◌, ◌==◌, Bool, true, false, List, [], ◌∷◌, drop, Some, slice_get, ◌∙◌, ap, arith}
use Rattle.std.specs.Prelude.{map, filter, sum_by, if◌then◌else◌}
use Rattle.std.proofs.lemmas.List.Sums.{sum_by-cons, sum_by-drop_more}
use Rattle.std.proofs.lemmas.Option.{get_or_from_slice_get, slice_get_within}
use Rattle.vd_law.specs.declared.entry.Room.{Room}
use Rattle.vd_law.specs.Entries.{Asked}
use Rattle.vd_trace.specs.Traces.{Asking, work_asked, requests_of, works_asked}
use Rattle.vd_machine.specs.Asking.{Suffices}
use Rattle.vd_run.specs.Driving.{with_flush}
use Rattle.vd_law.specs.Needs.{request_room, requests_room}

-- a sum over some is at most that over all
sum-some : {X Y : Type 0} (p : X → Bool) (view : X → Y) (f : Y → ℕ) (xs : List X) → sum_by f (map view (filter p xs)) ≤ sum_by f (map view xs)
sum-some p view f [] = omega arith
sum-some {X} {Y} p view f (x ∷ xs) = rw (sum_by-cons f (view x) (map view xs)) (by (p x) (sum-some p view f xs)) where
  by : (own : Bool) → sum_by f (map view (filter p xs)) ≤ sum_by f (map view xs) → sum_by f (map view (if own then x ∷ filter p xs else filter p xs)) ≤ f (view x) + sum_by f (map view xs)
  by true rest = rw (sum_by-cons f (view x) (map view (filter p xs))) (omega (arith, rest))
  by false rest = omega (arith, rest)

-- Where the room suffices for all that is asked and a flush, it suffices for one guest and the flush.
pub guest-suffices : (block guest : ℕ) (asks : List Asking) (left : Room) → Suffices (with_flush (requests_room block (works_asked asks))) left → Suffices (with_flush (requests_room block (requests_of guest asks))) left
guest-suffices block guest asks left (events, sectors) = (
  omega (arith, events, sum-some (λ a. a.guest == guest) (λ a. work_asked a.work) (λ r. (request_room block r).events) asks),
  omega (arith, sectors, sum-some (λ a. a.guest == guest) (λ a. work_asked a.work) (λ r. (request_room block r).sectors) asks),
)

module _ (block : ℕ) (requests : List Asked) (at : ℕ) (request : Asked) (there : slice_get requests at ≡ Some request) where
  rest-needs : (f : Asked → ℕ) → sum_by f (drop at requests) ≡ f request + sum_by f (drop (at + 1) requests)
  rest-needs f = sum_by-drop_more f requests at request (slice_get_within requests at request there)
      ∙ ap (λ (r : Asked). f r + sum_by f (drop (at + 1) requests)) (get_or_from_slice_get requests at request request there)

  -- Room for the rest is room for the next of them,
  pub next-suffices : (left : Room) → Suffices (with_flush (requests_room block (drop at requests))) left → Suffices (request_room block request) left
  next-suffices left (events, sectors) = (omega (arith, events, rest-needs (λ r. (request_room block r).events)), omega (arith, sectors, rest-needs (λ r. (request_room block r).sectors)))

  -- and behind it for those that are left.
  pub rest-suffices : (left left' : Room) → left.events ≤ left'.events + (request_room block request).events → left.sectors ≤ left'.sectors + (request_room block request).sectors → Suffices (with_flush (requests_room block (drop at requests))) left → Suffices (with_flush (requests_room block (drop (at + 1) requests))) left'
  rest-suffices left left' more_events more_sectors (events, sectors) = (
    omega (arith, events, more_events, rest-needs (λ r. (request_room block r).events)),
    omega (arith, sectors, more_sectors, rest-needs (λ r. (request_room block r).sectors)),
  )
