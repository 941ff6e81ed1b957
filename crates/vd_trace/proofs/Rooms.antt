-- The room that requests take.
use Rattle.std.proofs.Common.{◌≡◌, ℕ, ◌+◌, ◌*◌, ◌<◌, ◌≤◌, List, [], ◌∷◌, ◌++◌, length, replicate, refl, ap, ◌∙◌, subst, arith, length-append}
use Rattle.std.proofs.lemmas.List.Sums.{sum_by-cons, sum_by-append}
use Rattle.std.proofs.lemmas.List.Elements.{All-head, All-tail}
use Rattle.std.proofs.lemmas.List.{length-map, length-replicate, get_or_append_left, get_or-append-add}
use Rattle.std.specs.Prelude.{map, sum_by}
use Rattle.std.specs.List.{All}
use Rattle.vd_law.specs.declared.entry.Room.{Room}
use Rattle.vd_law.specs.declared.entry.Sector.{Sector}
use Rattle.vd_law.specs.Needs.{pieces, request_room, requests_room}
use Rattle.vd_law.proofs.NeedLaws.{pieces-most}
use Rattle.vd_trace.specs.declared.kept.Item.{Item}
use Rattle.vd_trace.specs.declared.kept.Stored.{Stored}
use Rattle.vd_trace.specs.declared.kept.Stored.TheVariants as stored
use Rattle.vd_trace.specs.declared.line.Work.{Work}
use Rattle.vd_trace.specs.declared.line.Work.TheVariants.{Read, Fill, Put, Flush}
use Rattle.vd_trace.specs.Lines.{sectors_of_line, sectors_of_work}
use Rattle.vd_trace.specs.Traces.{Asking, Script, work_asked, works_asked}
use Rattle.vd_trace.specs.Texts.{asking_line, showing_line, IsRequest, IsLine, IsScript}
use Rattle.vd_trace.specs.Keeping.{work_of, asking_of, room_in}

events-few : (block : ℕ) (work : Work) → 0 < block → IsRequest work → (request_room block (work_asked work)).events ≤ 2 + 2 * sectors_of_work work
events-few block (Read f c) some is = omega (arith, pieces-most block f c some is.1)
events-few block (Fill f c b) some is =
    let s : Sector = record { bytes = replicate 512 b } in let many = ap (pieces block f) (length-replicate c s) in omega (arith, many, pieces-most block f c some is.1)
events-few block (Put f s) some is = omega (arith, pieces-most block f 1 some (omega arith))
events-few block Flush some is = omega arith

told-few : (block : ℕ) (work : Work) → (request_room block (work_asked work)).sectors ≤ 2 * sectors_of_work work
told-few block (Read f c) = omega arith
told-few block (Fill f c b) = let s : Sector = record { bytes = replicate 512 b } in omega (arith, length-replicate c s)
told-few block (Put f s) = omega arith
told-few block Flush = omega arith

all-events : (block guests : ℕ) (asks : List Asking) → 0 < block → All (IsLine guests) (map asking_line asks) →
    (requests_room block (works_asked asks)).events ≤ 2 * length asks + 2 * sum_by sectors_of_line (map asking_line asks)
all-events block guests [] some all = omega arith
all-events block guests (a ∷ asks) some all =
    let here = All-head (IsLine guests) (asking_line a) (map asking_line asks) all in
    rw (sum_by-cons (λ r. (request_room block r).events) (work_asked a.work) (works_asked asks), sum_by-cons sectors_of_line (asking_line a) (map asking_line asks))
    (omega (arith, events-few block a.work some here.3, all-events block guests asks some (All-tail (IsLine guests) (asking_line a) (map asking_line asks) all)))

all-told : (block : ℕ) (asks : List Asking) → (requests_room block (works_asked asks)).sectors ≤ 2 * sum_by sectors_of_line (map asking_line asks)
all-told block [] = omega arith
all-told block (a ∷ asks) =
    rw (sum_by-cons (λ r. (request_room block r).sectors) (work_asked a.work) (works_asked asks), sum_by-cons sectors_of_line (asking_line a) (map asking_line asks))
    (omega (arith, told-few block a.work, all-told block asks))

-- a fact of each element holds of each at the front, and of each behind
pub front : {X : Type 0} (P : X → Type 0) (xs ys : List X) → All P (xs ++ ys) → All P xs
front P xs ys all = λ k d inside. subst P (get_or_append_left xs ys d k inside) (all k d (omega (arith, length-append xs ys)))

pub behind : {X : Type 0} (P : X → Type 0) (xs ys : List X) → All P (xs ++ ys) → All P ys
behind P xs ys all = λ k d inside. subst P (get_or-append-add xs ys k d) (all (length xs + k) d (omega (arith, length-append xs ys)))

-- what a trace needs is within its limits
pub need-few : (block : ℕ) (trace : Script) → 0 < block → IsScript trace →
    ((requests_room block (works_asked trace.asks)).events ≤ 1524288) × ((requests_room block (works_asked trace.asks)).sectors ≤ 524288)
need-few block trace some is =
    let asks = map asking_line trace.asks in
    let shows = map showing_line trace.shows in
    let many : length (asks ++ shows) ≡ length trace.asks + length shows = length-append asks shows ∙ ap (λ (n : ℕ). n + length shows) (length-map trace.asks asking_line) in
    let sectors : sum_by sectors_of_line (asks ++ shows) ≡ sum_by sectors_of_line asks + sum_by sectors_of_line shows = sum_by-append sectors_of_line asks shows in (
      omega (arith, many, sectors, is.few, is.small, all-events block trace.guests trace.asks some (front (IsLine trace.guests) asks shows is.ranges)),
      omega (arith, sectors, is.small, all-told block trace.asks),
    )

-- what is needed does not look at the sectors
room-in : (block : ℕ) (sectors : List Sector) (s : Stored) → request_room block (work_asked (work_of sectors s)) ≡ request_room block (work_asked (work_of [] s))
room-in block sectors (stored.Read f c) = refl
room-in block sectors (stored.Fill f c b) = refl
room-in block sectors (stored.Put f p) = refl
room-in block sectors stored.Flush = refl

pub room-kept : (f : Room → ℕ) (block : ℕ) (sectors : List Sector) (items : List Item) →
    sum_by (λ r. f (request_room block r)) (works_asked (map (asking_of sectors) items)) ≡ sum_by (λ i. f (room_in block i)) items
room-kept f block sectors [] = refl
room-kept f block sectors (i ∷ items) =
    rw (
      sum_by-cons (λ r. f (request_room block r)) (work_asked (work_of sectors i.work)) (works_asked (map (asking_of sectors) items)),
      sum_by-cons (λ x. f (room_in block x)) i items,
      ap f (room-in block sectors i.work),
    )
    (ap (λ (n : ℕ). f (room_in block i) + n) (room-kept f block sectors items))
