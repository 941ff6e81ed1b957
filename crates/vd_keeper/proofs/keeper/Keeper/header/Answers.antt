use Rattle.vd_keeper.proofs.keeper.Keeper.header.Goals as goal

pub returns-clause-kept : goal.returns-clause-kept
returns-clause-kept c = rw (← c.self.view_is) c.self.invariant.keeping
