-- What a patient device tells: what the device tells that it waits for, and none of its settles is late.
use Rattle.std.specs.Prelude.{ℕ}
use Rattle.vd_device.specs.declared.store.Store as store
use Rattle.vd_device.specs.declared.base.Base as base
use Rattle.vd_device.specs.declared.patient.Patient.{Patient}

abbrev pub patient_store : {S : Type 0} → store.Ghosts S → store.Ghosts (Patient S)
patient_store g = record {
  tells = λ p. g.tells p.inner;
  records = λ p. g.records p.inner;
  disk = λ p. g.disk p.inner;
  flight = λ p. g.flight p.inner;
  sectors = λ p. g.sectors p.inner;
  depth = λ p. g.depth p.inner;
  faults = λ p. g.faults p.inner;
  late = λ p. 0;
  events = λ p. g.events p.inner;
  last = λ p. g.last p.inner;
}

abbrev pub patient_base : {B : Type 0} → base.Ghosts B → base.Ghosts (Patient B)
patient_base h = record {
  tells = λ p. h.tells p.inner;
  content = λ p. h.content p.inner;
  flight = λ p. h.flight p.inner;
  sectors = λ p. h.sectors p.inner;
  depth = λ p. h.depth p.inner;
  faults = λ p. h.faults p.inner;
  late = λ p. 0;
  last = λ p. h.last p.inner;
}
