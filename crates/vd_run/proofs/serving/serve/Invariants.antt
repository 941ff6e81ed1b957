use Rattle.vd_trace.specs.Traces.{script}
use Rattle.vd_device.specs.Stores.{KeepsStore}
use Rattle.vd_device.specs.Bases.{KeepsBase}
use Rattle.vd_run.specs.Driving.{IsSameDisk}
use Rattle.vd_device.specs.Patients.{patient_store, patient_base}
use Rattle.vd_run.proofs.Guest.Going.{IsServing}
use Rattle.vd_run.proofs.serving.serve.Given as goal

abbrev pub invariant-loop-at : goal.invariant-loop-at
invariant-loop-at g l = record {
  serving : IsServing (script l.trace 1) l.fn.core.shape.block l.at l.core.passes l.core.flusher l.core.history.log.entries l.core.spare;
  disk : IsSameDisk l.fn.core l.core;
  keeps : KeepsStore (patient_store g.S.Store) l.fn.core.store l.core.store;
  base_keeps : KeepsBase (patient_base g.B.Base) l.fn.core.base l.core.base;
}
