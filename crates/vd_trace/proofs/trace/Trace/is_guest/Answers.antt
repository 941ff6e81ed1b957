use Rattle.std.proofs.Common.{arith, length}
use Rattle.std.proofs.lemmas.Bool.{leb-false}
use Rattle.vd_trace.proofs.Requests.{none-outside}
use Rattle.vd_trace.proofs.trace.Trace.is_guest.Goals as goal

pub returns-then-guest-ge1-clause-outside : goal.returns-then-guest-ge1-clause-outside
returns-then-guest-ge1-clause-outside c = λ e. rw (← c.self.view_is)
    (none-outside c.self.inside.sectors.items (length c.self.inside.places.items) c.args.guest c.self.inside.items.items c.self.invariant.items.guests_in (λ low high. let over = leb-false c.args.guest c.len.result e in omega (arith, over, high, c.len.ensures)))

pub returns-else-guest-ge1-clause-outside : goal.returns-else-guest-ge1-clause-outside
returns-else-guest-ge1-clause-outside c = λ e. rw (← c.self.view_is)
    (none-outside c.self.inside.sectors.items (length c.self.inside.places.items) c.args.guest c.self.inside.items.items c.self.invariant.items.guests_in (λ low high. let under = leb-false 1 c.args.guest e in omega (arith, under, low)))
