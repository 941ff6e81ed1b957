use Rattle.std.proofs.Common.{sym, arith}
use Rattle.vd_legal.proofs.Rooming.{rising-below}
use Rattle.vd_legal.proofs.Ending.{none-in-flight, none-in-base-flight}
use Rattle.vd_core.proofs.Known.{known-history, has-ended}
use Rattle.vd_core.proofs.state.Core.finish.Goals as goal

pub returns-clause-none_in_flight : goal.returns-clause-none_in_flight
returns-clause-none_in_flight g c = none-in-flight c.self.invariant.0.sound.coherent (rw (sym c.self.view_is) at c.requires.idle)

pub returns-clause-none_in_base_flight : goal.returns-clause-none_in_base_flight
returns-clause-none_in_base_flight g c = none-in-base-flight c.self.invariant.0.sound.coherent (rw (sym c.self.view_is) at c.requires.idle)

pub returns-clause-known : goal.returns-clause-known
returns-clause-known g c = rw (sym c.self.view_is) (known-history c.self.invariant.0 c.in_flight-flight.ensures.recorded)

pub returns-clause-ended : goal.returns-clause-ended
returns-clause-ended g c =
    let idle = rw (sym c.self.view_is) at c.requires.idle in let events = c.events-events.ensures in let kept = c.self.invariant.0 in let later =
    kept.sound.roomy.later in
    rw (sym c.self.view_is) (has-ended kept c.in_flight-flight.ensures.recorded c.self.invariant.2.valid idle (λ told. record {
      opened = (kept.logged told).since;
      below = rising-below _ _ _ c.log-entries.ensures.rising (let runs = events.running told in let value = events.value in omega (arith, later, runs, value));
    }))
