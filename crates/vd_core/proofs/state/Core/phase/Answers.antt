use Rattle.std.proofs.Common.{sym}
use Rattle.vd_legal.proofs.Standing.{standing}
use Rattle.vd_core.proofs.state.Core.phase.Goals as goal

pub returns-clause-stands : goal.returns-clause-stands
returns-clause-stands g c = rw (sym c.self.view_is) (standing c.self.invariant.0.sound c.args.pass)

pub returns-clause-attended : goal.returns-clause-attended
returns-clause-attended g c = rw (sym c.self.view_is) c.self.invariant.0.sound.metadata.attended
