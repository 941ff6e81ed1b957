use Rattle.std.proofs.Common.{Vec, ℕ, length, ◌∙◌, ap, sym, refl}
use Rattle.std.specs.declared.alloc.Global.{Global}
use Rattle.vd_trace.proofs.Requests.{own-places, length-positions}
use Rattle.vd_trace.proofs.trace.Trace.count.Goals as goal

pub returns-then-not-is_guest : goal.returns-then-not-is_guest
returns-then-not-is_guest c = sym (c.is_guest.ensures.outside c.if-not-is_guest.true)

pub returns : goal.returns
returns c =
    let own = rw (← c.self.view_is) at c.if-not-is_guest.ensures.inside.0 refl in
    rw (← c.self.view_is) (c.len.ensures ∙ c.index.result.now.ok.0 ∙ ap length (ap (λ (v : Vec ℕ Global). v.items) c.index.ensures
    ∙ own-places (length c.self.inside.places.items) c.self.inside.sectors.items c.self.inside.items.items c.self.inside.places.items _ c.self.invariant.items c.args.guest own.0 own.1 _)
    ∙ length-positions c.self.inside.sectors.items c.args.guest 0 c.self.inside.items.items)
