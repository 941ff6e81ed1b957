use Rattle.std.proofs.Common.{rules}
use Rattle.std.proofs.lemmas.Bool.{false≢true}
use Rattle.vd_table.proofs.Links.{all_used, not_all_used, least_free}
use Rattle.vd_table.proofs.table.Table.take.Goals as goal

pub returns-in_default-clause-full : goal.returns-in_default-clause-full
returns-in_default-clause-full c = rw (← c.self.view_is) ((λ e. all_used c.self.inside.storage.items c.self.inside.owners.items c.self.inside.free c.self.invariant (c.in_default.ensures.none.0 (search rules))), (λ e. search rules))

pub returns-clause-full : goal.returns-clause-full
returns-clause-full c = rw (← c.self.view_is) ((λ e. absurd (false≢true e)), (λ e. absurd (not_all_used c.self.inside.storage.items c.self.inside.owners.items c.self.inside.free c.self.invariant c.in-Some.least c.in-Some.ensures.lowest.is_marked e)))

pub returns-clause-least : goal.returns-clause-least
returns-clause-least c = rw (← c.self.view_is) (least_free c.self.inside.storage.items c.self.inside.owners.items c.self.inside.free c.self.invariant c.in-Some.least c.in-Some.ensures.lowest)
