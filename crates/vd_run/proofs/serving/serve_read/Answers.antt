use Rattle.std.proofs.Common.{lit<, ℕ, false, length, ◌∙◌, sym, ap, subst}
use Rattle.vd_device.proofs.Keeping.{keeps-on, base-keeps-on}
use Rattle.vd_passes.specs.declared.shape.Shape.{Shape}
use Rattle.vd_run.proofs.Guest.Passing.{IsBusy, rests-at, asked-read, goes-on, fewer-left, ended}
use Rattle.vd_run.proofs.Guest.Asks.{ask-serves, serves-on}
use Rattle.vd_device.specs.Patients.{patient_store, patient_base}
use Rattle.vd_run.proofs.Guest.KeptOut.{reader-out}
use Rattle.vd_run.proofs.Guest.Leaving.{disk-then, ask-disk, ask-flusher, ask-store, ask-base, step-disk}
use Rattle.vd_run.proofs.serving.serve_read.Goals as goal

pub ask-requires-clause-phase : goal.ask-requires-clause-phase
ask-requires-clause-phase g c = rests-at 1 (lit< tt) c.requires.can.resting

pub returns-then-is_some-clause-keeps : goal.returns-then-is_some-clause-keeps
returns-then-is_some-clause-keeps g c = ask-store c.ask.ensures.asks c.ask.ensures.told

pub returns-then-is_some-clause-base_keeps : goal.returns-then-is_some-clause-base_keeps
returns-then-is_some-clause-base_keeps g c = ask-base c.ask.ensures.asks (patient_base g.B.Base)

pub loop-init : goal.loop-init
loop-init g c =
    let asks = c.ask.ensures.asks in
    let busy = asked-read c.ask.result c.args.first (length c.args.out.now) (sym c.is_some.ensures ∙ c.if-is_some.false) asks.ends (ask-flusher asks) c.requires.can.resting in record {
      busy = busy;
      serves = ask-serves c.ask.result c.requires.can.room asks.ends;
      disk = ask-disk asks;
      keeps = ask-store asks c.ask.ensures.told;
      base_keeps = ask-base asks (patient_base g.B.Base);
    }

pub loop-smaller : goal.loop-smaller
loop-smaller g c = fewer-left c.next.new.core.shape.block (ap (λ (s : Shape). s.block) c.next.ensures.leaves.shape) c.in-Again.ensures.drives

pub loop-preserved : goal.loop-preserved
loop-preserved g c =
    let now = c.loop.invariant in let next = c.next.ensures in let drives = c.in-Again.ensures.drives in record {
      busy = subst (λ (n : ℕ). IsBusy false n c.next.new.core.passes c.next.new.core.flusher) (sym next.room) (goes-on drives next.flusher now.busy);
      serves = serves-on drives now.serves;
      disk = disk-then now.disk (step-disk next.leaves);
      keeps = keeps-on (patient_store g.S.Store) c.args.core.now.store c.loop.core.store c.next.new.core.store now.keeps next.keeps;
      base_keeps = base-keeps-on (patient_base g.B.Base) c.args.core.now.base c.loop.core.base c.next.new.core.base now.base_keeps next.base_keeps;
    }

pub returns : goal.returns
returns g c =
    let now = c.loop.invariant in let next = c.next.ensures in record {
      resting = ended c.next.result c.in_default.not-Again next.drives next.late (λ by busy. reader-out (patient_store g.S.Store) (patient_base g.B.Base) 1 c.loop.core c.next.new.core by busy c.loop.out c.next.new.out next.makes) next.flusher now.busy;
      serves = serves-on next.drives now.serves;
      disk = disk-then now.disk (step-disk next.leaves);
      keeps = keeps-on (patient_store g.S.Store) c.args.core.now.store c.loop.core.store c.next.new.core.store now.keeps next.keeps;
      base_keeps = base-keeps-on (patient_base g.B.Base) c.args.core.now.base c.loop.core.base c.next.new.core.base now.base_keeps next.base_keeps;
    }
