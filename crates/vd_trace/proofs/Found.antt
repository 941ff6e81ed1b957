-- A guest's request is found by its number.
use Rattle.std.proofs.Common.{◌≡◌, ℕ, ◌-◌, ◌<◌, ◌≤◌, List, Some, length, get_or, ap, sym, ◌∙◌, subst, arith, Vec}
use Rattle.std.proofs.lemmas.List.{get_or_default, get_or-map, length-map}
use Rattle.std.specs.Prelude.{slice_get, map}
use Rattle.std.specs.List.{All}
use Rattle.std.specs.declared.alloc.Global.{Global}
use Rattle.vd_trace.specs.declared.trace.Trace.TheInside.{Inside}
use Rattle.vd_law.specs.declared.entry.Sector.{Sector}
use Rattle.vd_law.specs.Entries as law
use Rattle.vd_trace.specs.declared.kept.Item.{Item}
use Rattle.vd_trace.specs.Traces.{Script, script, work_asked}
use Rattle.vd_trace.specs.TraceFields.{script_in, IsTrace}
use Rattle.vd_trace.specs.declared.kept.Shown.{Shown}
use Rattle.vd_trace.specs.Texts.{asking_line, showing_line, IsRangeOfLine, IsRequest, IsLine}
use Rattle.vd_trace.specs.Keeping.{positions, work_of, asking_of, showing_of}
use Rattle.vd_trace.proofs.Rooms.{front, behind}
use Rattle.vd_trace.proofs.Requests.{own-places, length-positions, inside-where-some, positions-at, IsPlaced}

pub guest-of : (t : Inside) (guest at : ℕ) → IsTrace t → at < length (script (script_in t) guest) → (1 ≤ guest) × (guest ≤ length t.places.items)
guest-of t guest at is some = inside-where-some t.sectors.items (length t.places.items) guest at t.items.items is.items.guests_in some

own-of : (t : Inside) (guest at : ℕ) → IsTrace t → at < length (script (script_in t) guest) → (own : Vec ℕ Global) → own ≡ get_or t.places.items (guest - 1) own → own.items ≡ positions guest 0 t.items.items
own-of t guest at is some own found =
    let inside = guest-of t guest at is some in
    ap (λ (v : Vec ℕ Global). v.items) found ∙ own-places (length t.places.items) t.sectors.items t.items.items t.places.items _ is.items guest inside.0 inside.1 own

pub place-of : (t : Inside) (guest at : ℕ) → IsTrace t → at < length (script (script_in t) guest) → (own : Vec ℕ Global) → own ≡ get_or t.places.items (guest - 1) own → at < length own.items
place-of t guest at is some own found =
    omega (arith, some, length-positions t.sectors.items guest 0 t.items.items, ap length (own-of t guest at is some own found))

pub item-of : (t : Inside) (guest at : ℕ) → IsTrace t → at < length (script (script_in t) guest) → (own : Vec ℕ Global) → own ≡ get_or t.places.items (guest - 1) own → (place : ℕ) → place ≡ get_or own.items at place →
    IsPlaced t.sectors.items t.items.items place (slice_get (script (script_in t) guest) at)
item-of t guest at is some own found place read =
    let inside : at < length (positions guest 0 t.items.items) = omega (arith, some, length-positions t.sectors.items guest 0 t.items.items) in
    let same : place ≡ get_or (positions guest 0 t.items.items) at 0 - 0 =
    read ∙ get_or_default own.items at place 0 (place-of t guest at is some own found) ∙ ap (λ places. get_or places at 0) (own-of t guest at is some own found) ∙ omega arith in
    rw same (positions-at t.sectors.items guest 0 t.items.items at inside).1

pub some-of : (t : Inside) (now : Script) (guest at : ℕ) → script_in t ≡ now → at < length (script now guest) → at < length (script (script_in t) guest)
some-of t now guest at is some = subst (λ (s : Script). at < length (script s guest)) (sym is) some

-- what is handed out of its item
pub handed-out : (t : Inside) (now : Script) (guest at place : ℕ) (item : Item) (asked : law.Asked) → script_in t ≡ now → IsPlaced t.sectors.items t.items.items place (slice_get (script (script_in t) guest) at) →
    item ≡ get_or t.items.items place item → (sectors : List Sector) → sectors ≡ t.sectors.items → asked ≡ work_asked (work_of sectors item.work) → slice_get (script now guest) at ≡ Some asked
handed-out t now guest at place item asked is placed found sectors same out =
    subst (λ (s : Script). slice_get (script s guest) at ≡ Some asked) is
    (placed.told item ∙ ap Some (ap (λ (i : Item). work_asked (work_of t.sectors.items i.work)) (sym found) ∙ ap (λ (own : List Sector). work_asked (work_of own item.work)) (sym same) ∙ sym out))

-- each item asks for a range of its own, and each line that shows has one

pub request-ranged : (t : Inside) (place : ℕ) (item : Item) → IsTrace t → place < length t.items.items → item ≡ get_or t.items.items place item → (sectors : List Sector) → sectors ≡ t.sectors.items → IsRequest (work_of sectors item.work)
request-ranged t place item is inside found sectors same =
    let own = asking_of t.sectors.items in
    let guests = length t.places.items in
    let asks = map asking_line (map own t.items.items) in
    let within : place < length (map own t.items.items) = omega (arith, inside, length-map t.items.items own) in
    let every : All (IsLine guests) asks = front (IsLine guests) asks (map showing_line (map showing_of t.shows.items)) is.script.ranges in
    let here : IsLine guests (get_or asks place (asking_line (own item))) = every place (asking_line (own item)) (omega (arith, within, length-map (map own t.items.items) asking_line)) in
    let which : get_or asks place (asking_line (own item)) ≡ asking_line (own item) =
    get_or-map asking_line (map own t.items.items) place (own item) (asking_line (own item)) within ∙ ap asking_line (get_or-map own t.items.items place item (own item) inside ∙ ap own (sym found)) in
    let line : IsLine guests (asking_line (own item)) = subst (IsLine guests) which here in
    subst (λ (s : List Sector). IsRequest (work_of s item.work)) (sym same) line.3

pub shown-ranged : (t : Inside) (place : ℕ) (shown : Shown) → IsTrace t → place < length t.shows.items → shown ≡ get_or t.shows.items place shown → IsRangeOfLine shown.first shown.count
shown-ranged t place shown is inside found =
    let guests = length t.places.items in
    let asks = map asking_line (map (asking_of t.sectors.items) t.items.items) in
    let shows = map showing_line (map showing_of t.shows.items) in
    let line = showing_line (showing_of shown) in
    let within : place < length (map showing_of t.shows.items) = omega (arith, inside, length-map t.shows.items showing_of) in
    let every : All (IsLine guests) shows = behind (IsLine guests) asks shows is.script.ranges in
    let here : IsLine guests (get_or shows place line) = every place line (omega (arith, within, length-map (map showing_of t.shows.items) showing_line)) in
    let which : get_or shows place line ≡ line =
    get_or-map showing_line (map showing_of t.shows.items) place (showing_of shown) line within ∙ ap showing_line (get_or-map showing_of t.shows.items place shown (showing_of shown) inside ∙ ap showing_of (sym found)) in
    subst (IsLine guests) which here
