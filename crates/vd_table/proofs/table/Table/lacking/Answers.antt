use Rattle.vd_table.proofs.Links.{one_to_one}
use Rattle.vd_table.proofs.table.Table.lacking.Goals as goal

pub returns-clause-one_to_one : goal.returns-clause-one_to_one
returns-clause-one_to_one c = rw (← c.self.view_is) (one_to_one c.self.inside.storage.items c.self.inside.owners.items c.self.inside.free c.self.invariant)
