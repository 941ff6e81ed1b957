use Rattle.std.proofs.Common.{sym, ◌*◌, ℕ, ap, subst, arith}
use Rattle.vd_device.proofs.Keeping.{keeps-on, keeps-same, base-keeps-on, base-keeps-same}
use Rattle.vd_passes.specs.declared.shape.Shape.{Shape}
use Rattle.vd_trace.specs.Traces.{script}
use Rattle.vd_trace.specs.Scripts.{request_of}
use Rattle.vd_run.specs.Driving.{Serves}
use Rattle.vd_run.proofs.Guest.Needs.{guest-suffices, next-suffices}
use Rattle.vd_run.proofs.Guest.Going.{servable-at, none-served, one-served, all-served, flush-suffices}
use Rattle.vd_device.specs.Patients.{patient_store, patient_base}
use Rattle.vd_run.proofs.Guest.Leaving.{same-disk, disk-then}
use Rattle.vd_run.proofs.serving.serve.Goals as goal
use Rattle.vd_machine.specs.Asking.{Suffices}
use Rattle.vd_law.specs.Needs.{request_room}

pub loop-at-init : goal.loop-at-init
loop-at-init g c = record {
  serving = none-served c.requires.unused (guest-suffices c.args.core.now.shape.block 1 c.args.trace.now.asks c.args.core.now.spare c.requires.room);
  disk = same-disk;
  keeps = keeps-same (patient_store g.S.Store) c.args.core.now.store c.history.ensures.known.opening.since.store.telling.state;
  base_keeps = base-keeps-same (patient_base g.B.Base) c.args.core.now.base;
}

pub serve_one-requires-clause-servable : goal.serve_one-requires-clause-servable
serve_one-requires-clause-servable g c =
    servable-at (script c.args.trace.now 1) c.loop-at.at (ap (λ (s : Shape). s.block * s.blocks) c.loop-at.invariant.disk.shape) c.request-asked.ensures.request c.requires.servable

pub serve_one-requires-clause-room : goal.serve_one-requires-clause-room
serve_one-requires-clause-room g c =
    let now = c.loop-at.invariant in let asked = request_of c.request-asked.result c.request-asked.new.content in
    let block = ap (λ (s : Shape). s.block) now.disk.shape in
    subst (λ (b : ℕ). Suffices (request_room b asked) c.loop-at.core.spare) (sym block)
    (next-suffices c.args.core.now.shape.block (script c.args.trace.now 1) c.loop-at.at asked c.request-asked.ensures.request c.loop-at.core.spare now.serving.room)

pub loop-at-preserved : goal.loop-at-preserved
loop-at-preserved g c =
    let now = c.loop-at.invariant in let one = c.serve_one.ensures in let new = c.serve_one.new.core in
    let asked = request_of c.request-asked.result c.request-asked.new.content in
    let serves = subst (λ (b : ℕ). Serves asked b c.loop-at.core.history.log.entries new.history.log.entries c.loop-at.core.spare new.spare) (ap (λ (s : Shape). s.block) now.disk.shape) one.serves in record {
      serving = one-served asked c.request-asked.ensures.request one.resting serves now.serving;
      disk = disk-then now.disk one.disk;
      keeps = keeps-on (patient_store g.S.Store) c.args.core.now.store c.loop-at.core.store new.store now.keeps one.keeps;
      base_keeps = base-keeps-on (patient_base g.B.Base) c.args.core.now.base c.loop-at.core.base new.base now.base_keeps one.base_keeps;
    }

pub returns-clause-served : goal.returns-clause-served
returns-clause-served g c =
    let many = c.count-at-end.ensures in let all = c.loop-at-test.false in
    all-served c.loop-at.core.passes c.loop-at.core.history.log.entries (c.loop-at.core.shape.block * c.loop-at.core.shape.blocks) (omega (arith, many, all)) c.history-2.ensures.known.regular c.loop-at.invariant.serving

pub returns-clause-resting : goal.returns-clause-resting
returns-clause-resting g c = c.loop-at.invariant.serving.resting

pub returns-clause-room : goal.returns-clause-room
returns-clause-room g c = flush-suffices c.loop-at.core.shape.block c.loop-at.invariant.serving
