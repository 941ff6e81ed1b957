use Rattle.std.proofs.Common.{sym, ◌∙◌, ap, subst}
use Rattle.vd_device.specs.declared.patient.Patient.{Patient}
use Rattle.vd_device.specs.Bases.{KeepsBase}
use Rattle.vd_device.proofs.Keeping.{keeps-on}
use Rattle.vd_run.proofs.Guest.Passing.{rests-at}
use Rattle.vd_run.proofs.Guest.Flushing.{not-answered, flush-asked, flush-goes, flush-fewer, flush-ended, flush-spends}
use Rattle.vd_machine.specs.Views.{View}
use Rattle.vd_run.proofs.Guest.Logging.{logs-asked, logs-on, logs-end}
use Rattle.vd_device.specs.Patients.{patient_store, patient_base}
use Rattle.vd_run.proofs.Guest.Leaving.{disk-then, ask-disk, ask-flusher, ask-store, ask-base, step-disk}
use Rattle.vd_run.proofs.serving.flush.Goals as goal

pub ask-requires-clause-phase : goal.ask-requires-clause-phase
ask-requires-clause-phase g c = rests-at c.args.pass c.requires.pass c.requires.can.resting

pub unreachable-requires : goal.unreachable-requires
unreachable-requires g c = not-answered c.in-Some.field-0 c.requires.can.room c.in-Some.ensures.asks.ends

pub loop-answer-init : goal.loop-answer-init
loop-answer-init g c =
    let asks = c.ask.ensures.asks in let asked = flush-asked c.in_default.ensures.asks.ends c.requires.can.room (ask-flusher asks) c.requires.can.resting in record {
      flushing = asked.0;
      logs = logs-asked c.in_default.ensures.asks.ends (ap (λ (v : View _ _). v.keeping) asks.others);
      fresh = ap (λ (v : View _ _). v.fresh) asks.others;
      room = (asked.1, asked.2);
      disk = ask-disk asks;
      keeps = ask-store asks c.ask.ensures.told;
      base_keeps = ask-base asks (patient_base g.B.Base);
    }

pub loop-answer-smaller : goal.loop-answer-smaller
loop-answer-smaller g c = flush-fewer c.in-Again.ensures.drives

pub loop-answer-preserved : goal.loop-answer-preserved
loop-answer-preserved g c =
    let now = c.loop-answer.invariant in let next = c.next.ensures in let drives = c.in-Again.ensures.drives in record {
      flushing = flush-goes drives now.flushing;
      logs = logs-on (patient_store g.S.Store) c.args.pass c.loop-answer.core c.next.new.core c.args.core.now.keeping c.in-Again.ensures.makes now.logs;
      fresh = next.fresh ∙ now.fresh;
      room = flush-spends drives now.room;
      disk = disk-then now.disk (step-disk next.leaves);
      keeps = keeps-on (patient_store g.S.Store) c.args.core.now.store c.loop-answer.core.store c.next.new.core.store now.keeps next.keeps;
      base_keeps = subst (λ (b : Patient _). KeepsBase (patient_base g.B.Base) c.args.core.now.base b) (sym next.base) now.base_keeps;
    }

pub returns-in-Ended : goal.returns-in-Ended
returns-in-Ended g c =
    let now = c.loop-answer.invariant in let next = c.next.ensures in let drives = c.in-Ended.ensures.drives in let ended = flush-ended c.in-Ended.answer drives now.flushing in record {
      resting = ended.0;
      flushes = ended.1;
      logged = logs-end (patient_store g.S.Store) c.args.pass c.loop-answer.core c.next.new.core c.args.core.now.keeping c.in-Ended.answer c.in-Ended.ensures.makes now.logs;
      fresh = next.fresh ∙ now.fresh;
      room = flush-spends drives now.room;
      disk = disk-then now.disk (step-disk next.leaves);
      keeps = keeps-on (patient_store g.S.Store) c.args.core.now.store c.loop-answer.core.store c.next.new.core.store now.keeps next.keeps;
      base_keeps = subst (λ (b : Patient _). KeepsBase (patient_base g.B.Base) c.args.core.now.base b) (sym next.base) now.base_keeps;
    }
