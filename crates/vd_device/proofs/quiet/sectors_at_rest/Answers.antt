use Rattle.std.proofs.Common.{ℕ, [], subst, arith}
use Rattle.vd_device.specs.Disks.{TellsOrStopped}
use Rattle.vd_device.proofs.QuietLaws.{none_open}
use Rattle.vd_device.proofs.quiet.sectors_at_rest.Goals as goal

pub returns-clause-ready : goal.returns-clause-ready
returns-clause-ready g c = record {
  idle_is = c.requires.idle;
  deep = omega arith;
  told = λ records. subst (λ (n : ℕ). TellsOrStopped (g.S.Store.tells c.args.store.now) n (g.S.Store.disk c.args.store.now)) c.events-events.ensures.value (c.events-events.ensures.stopped records);
  rest = λ told s. none_open s _ (c.in_flight-flying.ensures.writes told [] c.requires.idle s);
}
