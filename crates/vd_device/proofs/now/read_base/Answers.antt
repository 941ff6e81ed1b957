use Rattle.std.proofs.Common.{◌∙◌, sym, arith}
use Rattle.vd_device.proofs.Flights.{put_flight, put_taken}
use Rattle.vd_device.proofs.Keeping.{base-keeps-on}
use Rattle.vd_device.proofs.now.read_base.Goals as goal

pub wait-requires-clause-mine : goal.wait-requires-clause-mine
wait-requires-clause-mine g c = put_flight _ _ _ _ c.requires.free.1 c.submit_read-ticket.ensures.flight

pub returns-in-Done-clause-calls : goal.returns-in-Done-clause-calls
returns-in-Done-clause-calls g c =
    let t = c.submit_read-ticket.ensures in let w = c.in-Done.ensures in record {
      number = w.last ∙ t.next.last ∙ t.next.number;
      fault = tt;
      cause = tt;
      flight = put_taken _ _ _ _ t.flight w.settles;
      keeps = base-keeps-on _ _ _ _ (record { counts = t.counts; telling = t.telling }) (record { counts = w.counts; telling = w.telling });
    }

pub returns-in-Failed-clause-calls : goal.returns-in-Failed-clause-calls
returns-in-Failed-clause-calls g c =
    let t = c.submit_read-ticket.ensures in let w = c.in-Failed.ensures in record {
      number = w.last ∙ t.next.last ∙ t.next.number;
      fault = w.settles.0 ∙ sym (w.last ∙ t.next.last);
      cause = (let r = w.cause.1 in let p = t.counts.faults in omega arith);
      flight = put_taken _ _ _ _ t.flight w.settles.2;
      keeps = base-keeps-on _ _ _ _ (record { counts = t.counts; telling = t.telling }) (record { counts = w.counts; telling = w.telling });
    }
