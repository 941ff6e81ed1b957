use Rattle.std.proofs.Common.{◌≡◌, ◌+◌, ◌≤◌}
use Rattle.vd_device.specs.Stores.{KeepsStore}
use Rattle.vd_device.specs.Bases.{KeepsBase}
use Rattle.vd_run.specs.Driving.{IsSameDisk}
use Rattle.vd_device.specs.Patients.{patient_store, patient_base}
use Rattle.vd_passes.specs.Steps.{IsAt}
use Rattle.vd_run.proofs.Guest.Flushing.{IsFlushing, steps_at}
use Rattle.vd_run.proofs.Guest.Logging.{Logs}
use Rattle.vd_run.proofs.serving.flush.Given as goal

abbrev pub invariant-loop-answer : goal.invariant-loop-answer
invariant-loop-answer g l = record {
  flushing : IsFlushing l.pass l.core.passes l.core.flusher l.fn.core.history.log.entries l.core.history.log.entries;
  logs : IsAt l.core.passes l.pass (Logs l.fn.core.keeping l.core.keeping);
  fresh : l.core.fresh ≡ l.fn.core.fresh;
  room : (l.fn.core.spare.events ≤ l.core.spare.events + 2) × (l.fn.core.spare.sectors ≤ l.core.spare.sectors);
  disk : IsSameDisk l.fn.core l.core;
  keeps : KeepsStore (patient_store g.S.Store) l.fn.core.store l.core.store;
  base_keeps : KeepsBase (patient_base g.B.Base) l.fn.core.base l.core.base;
}

abbrev pub decreases-loop-answer : goal.decreases-loop-answer
decreases-loop-answer g l = steps_at l.core.keeping l.core.passes l.pass
