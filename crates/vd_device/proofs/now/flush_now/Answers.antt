use Rattle.std.proofs.Common.{◌∙◌, sym, arith}
use Rattle.vd_device.proofs.Flights.{put_flight, put_taken}
use Rattle.vd_device.proofs.Keeping.{keeps-on}
use Rattle.vd_device.proofs.Logs.{flush_is, flushed_is, unflushed_is, records_as}
use Rattle.vd_device.proofs.now.flush_now.Goals as goal

pub wait-requires-clause-mine : goal.wait-requires-clause-mine
wait-requires-clause-mine g c = put_flight _ _ _ _ c.requires.place.1 c.submit_flush-ticket.ensures.flight

pub returns-in-Done-clause-calls : goal.returns-in-Done-clause-calls
returns-in-Done-clause-calls g c =
    let t = c.submit_flush-ticket.ensures in let w = c.in-Done.ensures in let number = w.last ∙ t.next.last in record {
      number = number ∙ t.next.number;
      fault = tt;
      cause = tt;
      flight = put_taken _ _ _ _ t.flight w.settles;
      keeps = keeps-on _ _ _ _ (record { counts = t.counts; telling = t.takes.keeps }) (record { counts = w.counts; telling = w.takes.keeps });
      recorded = λ r. records_as _ _ _ _ _ _ _ _ _ _ (flush_is c.submit_flush-ticket.result _ number) (flushed_is c.submit_flush-ticket.result _ _ number t.kind) (t.takes.recorded (w.takes.keeps.recorded_before r)) (w.takes.recorded r);
    }

pub returns-in-Failed-clause-calls : goal.returns-in-Failed-clause-calls
returns-in-Failed-clause-calls g c =
    let t = c.submit_flush-ticket.ensures in let w = c.in-Failed.ensures in let number = w.last ∙ t.next.last in record {
      number = number ∙ t.next.number;
      fault = w.settles.0 ∙ sym (w.last ∙ t.next.last);
      cause = (let r = w.cause.1 in let p = t.counts.faults in omega arith);
      flight = put_taken _ _ _ _ t.flight w.settles.2;
      keeps = keeps-on _ _ _ _ (record { counts = t.counts; telling = t.takes.keeps }) (record { counts = w.counts; telling = w.takes.keeps });
      recorded = λ r. records_as _ _ _ _ _ _ _ _ _ _ (flush_is c.submit_flush-ticket.result _ number) (unflushed_is c.submit_flush-ticket.result _ number t.kind) (t.takes.recorded (w.takes.keeps.recorded_before r)) (w.takes.recorded r);
    }
