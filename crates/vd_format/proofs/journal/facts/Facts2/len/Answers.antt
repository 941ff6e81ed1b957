use Rattle.std.proofs.Common.{length, ap, arith}
use Rattle.std.proofs.lemmas.List.{length-take}
use Rattle.vd_format.proofs.journal.facts.Facts2.len.Goals as goal

pub returns-clause-len : goal.returns-clause-len
returns-clause-len c = omega (arith, ap length c.self.view_is, length-take c.self.inside.len c.self.inside.facts)
