use Rattle.std.proofs.Common.{List, ◌∙◌, ap, refl, sym}
use Rattle.std.specs.Prelude.{sum_by}
use Rattle.vd_trace.specs.declared.kept.Item.{Item}
use Rattle.vd_trace.specs.TraceFields.{script_in}
use Rattle.vd_trace.specs.Keeping.{room_in}
use Rattle.vd_trace.proofs.Rooms.{need-few, room-kept}
use Rattle.vd_trace.proofs.trace.Trace.need.Goals as goal

pub returns-clause-need : goal.returns-clause-need
returns-clause-need c =
    let events = c.needed.ensures.events ∙ ap (λ (items : List Item). sum_by (λ i. (room_in c.args.block i).events) items) c.as_slice.ensures.value ∙ sym (room-kept (λ r. r.events) c.args.block c.self.inside.sectors.items c.self.inside.items.items) in
    let sectors = c.needed.ensures.sectors ∙ ap (λ (items : List Item). sum_by (λ i. (room_in c.args.block i).sectors) items) c.as_slice.ensures.value ∙ sym (room-kept (λ r. r.sectors) c.args.block c.self.inside.sectors.items c.self.inside.items.items) in
    rw (← c.self.view_is, ← events, ← sectors) refl

pub returns-clause-events : goal.returns-clause-events
returns-clause-events c =
    let events = c.needed.ensures.events ∙ ap (λ (items : List Item). sum_by (λ i. (room_in c.args.block i).events) items) c.as_slice.ensures.value ∙ sym (room-kept (λ r. r.events) c.args.block c.self.inside.sectors.items c.self.inside.items.items) in
    rw events (need-few c.args.block (script_in c.self.inside) c.requires c.self.invariant.script).0

pub returns-clause-sectors : goal.returns-clause-sectors
returns-clause-sectors c =
    let sectors = c.needed.ensures.sectors ∙ ap (λ (items : List Item). sum_by (λ i. (room_in c.args.block i).sectors) items) c.as_slice.ensures.value ∙ sym (room-kept (λ r. r.sectors) c.args.block c.self.inside.sectors.items c.self.inside.items.items) in
    rw sectors (need-few c.args.block (script_in c.self.inside) c.requires c.self.invariant.script).1
