use Rattle.std.proofs.Common.{ap, arith}
use Rattle.vd_file.proofs.Flight.{taken}
use Rattle.vd_file.proofs.store.FileStore.end.Goals as goal

pub returns-then-is_done-clause-flight : goal.returns-then-is_done-clause-flight
returns-then-is_done-clause-flight c = taken c.args.self.now _ c.args.ticket (omega (arith, ap (λ s. s.flying) c.self.view_is)) (ap (λ s. s.sectors) c.self.view_is)

pub returns-clause-flight : goal.returns-clause-flight
returns-clause-flight c = taken c.args.self.now _ c.args.ticket (omega (arith, ap (λ s. s.flying) c.self.view_is)) (ap (λ s. s.sectors) c.self.view_is)
