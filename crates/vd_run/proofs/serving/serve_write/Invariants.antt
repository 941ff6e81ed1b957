use Rattle.std.proofs.Common.{true, length}
use Rattle.vd_law.specs.Entries.{Write}
use Rattle.vd_passes.specs.Steps.{HasAskedWrite}
use Rattle.vd_device.specs.Stores.{KeepsStore}
use Rattle.vd_device.specs.Bases.{KeepsBase}
use Rattle.vd_run.specs.Driving.{Serves, IsSameDisk}
use Rattle.vd_device.specs.Patients.{patient_store, patient_base}
use Rattle.vd_run.proofs.Guest.Passing.{IsBusy, steps_at}
use Rattle.vd_run.proofs.serving.serve_write.Given as goal

abbrev pub invariant-loop : goal.invariant-loop
invariant-loop g l = record {
  busy : IsBusy true (length l.content) l.core.passes l.core.flusher;
  content : HasAskedWrite l.core.history.log.entries 1 l.content;
  serves : Serves (Write l.first l.content) l.fn.core.shape.block l.fn.core.history.log.entries l.core.history.log.entries l.fn.core.spare l.core.spare;
  disk : IsSameDisk l.fn.core l.core;
  keeps : KeepsStore (patient_store g.S.Store) l.fn.core.store l.core.store;
  base_keeps : KeepsBase (patient_base g.B.Base) l.fn.core.base l.core.base;
}

abbrev pub decreases-loop : goal.decreases-loop
decreases-loop g l = steps_at l.core.shape.block l.core.passes
