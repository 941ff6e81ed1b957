use Rattle.vd_file.proofs.base.FileBaseBase.submit_read.Goals as goal

pub returns-clause-flight : goal.returns-clause-flight
returns-clause-flight c = rw (← c.self.view_is) c.submit_read.ensures.flight
