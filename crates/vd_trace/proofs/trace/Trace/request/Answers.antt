use Rattle.std.proofs.Common.{◌<◌, ◌≤◌, List, length, sym, subst, arith}
use Rattle.std.proofs.lemmas.List.Elements.{All-get_or}
use Rattle.std.specs.Prelude.{slice_get}
use Rattle.vd_law.specs.declared.entry.Sector.{Sector}
use Rattle.vd_trace.specs.declared.kept.Item.{Item}
use Rattle.vd_trace.specs.Traces.{script}
use Rattle.vd_trace.specs.TraceFields.{script_in}
use Rattle.vd_trace.specs.Keeping.{HasSectorAmong, sectors_in}
use Rattle.vd_trace.proofs.Requests.{IsPlaced}
use Rattle.vd_trace.proofs.Found.{guest-of, place-of, item-of, some-of, handed-out, request-ranged}
use Rattle.vd_trace.proofs.trace.Trace.request.Goals as goal
use Rattle.vd_trace.proofs.trace.Trace.request.Goals.{After-self, After-index, After-as_slice}

some : (c : After-self) → c.args.at < length (script (script_in c.self.inside) c.args.guest)
some c = some-of c.self.inside c.args.self.now c.args.guest c.args.at c.self.view_is c.requires.at

pub overflow_sub-guest : goal.overflow_sub-guest
overflow_sub-guest c = (guest-of c.self.inside c.args.guest c.args.at c.self.invariant (some c)).0

pub index-requires : goal.index-requires
index-requires c = let own = guest-of c.self.inside c.args.guest c.args.at c.self.invariant (some c) in omega (arith, own.0, own.1)

some-index : (c : After-index) → c.args.at < length (script (script_in c.self.inside) c.args.guest)
some-index c = some-of c.self.inside c.args.self.now c.args.guest c.args.at c.self.view_is c.requires.at

pub index-place-requires : goal.index-place-requires
index-place-requires c =
    let inside = place-of c.self.inside c.args.guest c.args.at c.self.invariant (some-index c) c.index.result.now c.index.ensures in omega (arith, inside, c.index.result.now.ok.0)

placed : (c : After-as_slice) → IsPlaced c.self.inside.sectors.items c.self.inside.items.items c.index-place.result.now (slice_get (script (script_in c.self.inside) c.args.guest) c.args.at)
placed c = item-of c.self.inside c.args.guest c.args.at c.self.invariant
    (some-of c.self.inside c.args.self.now c.args.guest c.args.at c.self.view_is c.requires.at) c.index.result.now c.index.ensures c.index-place.result.now c.index-place.ensures

pub index-requires-2 : goal.index-requires-2
index-requires-2 c = let inside = (placed c).inside in omega (arith, inside, c.self.inside.items.ok.0)

pub hand_out-requires-clause-stored : goal.hand_out-requires-clause-stored
hand_out-requires-clause-stored c =
    let sectors = c.self.inside.sectors.items in
    let kept : HasSectorAmong (length sectors) c.index-2.result.now.work = subst (λ (i : Item). HasSectorAmong (length sectors) i.work) (sym c.index-2.ensures)
    (All-get_or (λ (i : Item). HasSectorAmong (length sectors) i.work) c.self.inside.items.items c.index-place.result.now c.index-2.result.now (item-of c.self.inside c.args.guest c.args.at c.self.invariant (some-of c.self.inside c.args.self.now c.args.guest c.args.at c.self.view_is c.requires.at)
    c.index.result.now c.index.ensures c.index-place.result.now c.index-place.ensures).inside c.self.invariant.items.stored) in
    subst (λ (s : List Sector). HasSectorAmong (length s) c.index-2.result.now.work) (sym c.as_slice.ensures.value) kept

pub hand_out-requires-clause-room : goal.hand_out-requires-clause-room
hand_out-requires-clause-room c =
    let most : sectors_in c.index-2.result.now.work ≤ 2048 = subst (λ (i : Item). sectors_in i.work ≤ 2048) (sym c.index-2.ensures)
    (All-get_or (λ (i : Item). sectors_in i.work ≤ 2048) c.self.inside.items.items c.index-place.result.now c.index-2.result.now (item-of c.self.inside c.args.guest c.args.at c.self.invariant (some-of c.self.inside c.args.self.now c.args.guest c.args.at c.self.view_is c.requires.at)
    c.index.result.now c.index.ensures c.index-place.result.now c.index-place.ensures).inside c.self.invariant.items.sized) in
    omega (arith, most, c.requires.room)

pub returns-clause-request : goal.returns-clause-request
returns-clause-request c = handed-out c.self.inside c.args.self.now c.args.guest c.args.at c.index-place.result.now c.index-2.result.now _ c.self.view_is
    (item-of c.self.inside c.args.guest c.args.at c.self.invariant
    (some-of c.self.inside c.args.self.now c.args.guest c.args.at c.self.view_is c.requires.at) c.index.result.now c.index.ensures c.index-place.result.now c.index-place.ensures)
    c.index-2.ensures c.as_slice.result.now c.as_slice.ensures.value c.hand_out.ensures.request

pub returns-clause-range : goal.returns-clause-range
returns-clause-range c = c.hand_out.ensures.range
    (request-ranged c.self.inside c.index-place.result.now c.index-2.result.now c.self.invariant
    (item-of c.self.inside c.args.guest c.args.at c.self.invariant
    (some-of c.self.inside c.args.self.now c.args.guest c.args.at c.self.view_is c.requires.at) c.index.result.now c.index.ensures c.index-place.result.now c.index-place.ensures).inside
    c.index-2.ensures c.as_slice.result.now c.as_slice.ensures.value)
