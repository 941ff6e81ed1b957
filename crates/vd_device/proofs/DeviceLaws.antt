-- What commands leave of the devices, one after another, and what they leave that only wait.
use Rattle.std.proofs.Common.{ℕ, ◌≡◌, ◌≤◌, [], arith}
use Rattle.vd_device.specs.declared.store.Store as store
use Rattle.vd_device.specs.declared.base.Base as base
use Rattle.vd_device.specs.declared.patient.Patient.{Patient}
use Rattle.vd_device.specs.Stores.{KeepsStore}
use Rattle.vd_device.specs.Bases.{KeepsBase}
use Rattle.vd_device.proofs.Keeping.{keeps-on}
use Rattle.vd_device.specs.Quiet.{OnlyReadsBase}
use Rattle.vd_device.proofs.QuietLaws.{reads_twice, base_reads_twice}
use Rattle.vd_device.specs.Devices.{Devices, devices, AreReadOnly, Leaves, waited_store, waited_base}
use Rattle.vd_device.specs.Patients.{patient_store, patient_base}

module _ {S : Type 0} {g : store.Ghosts S} where
  -- what is left of a store is left of one that is only waited for
  pub waited : {s s' : S} → KeepsStore g s s' → KeepsStore (waited_store g) s s'
  waited keeps = record {
    counts = record { sectors = keeps.counts.sectors; depth = keeps.counts.depth; faults = keeps.counts.faults; late = omega arith; last = keeps.counts.last };
    telling = record {
      events = keeps.telling.events;
      told_before = keeps.telling.told_before;
      recorded_before = keeps.telling.recorded_before;
      goes_on = keeps.telling.goes_on;
      state = keeps.telling.state;
      stood = keeps.telling.stood;
    };
  }

module _ {B : Type 0} {h : base.Ghosts B} where
  pub base_waited : {b b' : B} → OnlyReadsBase h b b' → OnlyReadsBase (waited_base h) b b'
  base_waited reads = record {
    keeps = record {
      counts = record { sectors = reads.keeps.counts.sectors; depth = reads.keeps.counts.depth; faults = reads.keeps.counts.faults; late = omega arith; last = reads.keeps.counts.last };
      telling = record { told_before = reads.keeps.telling.told_before; content = reads.keeps.telling.content };
    };
    idle = reads.idle;
  }

module _ {S B : Type 0} {g : store.Ghosts S} {h : base.Ghosts B} where
  pub both_read_twice : {d d' d'' : Devices S B} → AreReadOnly g h d d' → AreReadOnly g h d' d'' → AreReadOnly g h d d''
  both_read_twice x y = record { store = reads_twice x.store y.store; base = base_reads_twice x.base y.base }

  -- calls that only read leave the devices so
  pub reads_leave : {d d' : Devices S B} → AreReadOnly g h d d' → Leaves g h d d'
  reads_leave reads = record { idle = reads.store.idle; store = waited reads.store.keeps; base = base_waited reads.base }

  pub leaves_twice : {d d' d'' : Devices S B} → Leaves g h d d' → Leaves g h d' d'' → Leaves g h d d''
  leaves_twice {d} {d'} {d''} x y = record {
    idle = y.idle;
    store = keeps-on (waited_store g) d.store d'.store d''.store x.store y.store;
    base = base_reads_twice x.base y.base;
  }

-- what is left of patient devices is left of the devices in them
pub patient_leaves : {S B : Type 0} (g : store.Ghosts S) (h : base.Ghosts B) (p p' : Patient S) (q q' : Patient B) → g.flight p'.inner [] → h.flight q'.inner [] → KeepsStore (patient_store g) p p' → KeepsBase (patient_base h) q q'
    → Leaves g h (devices p.inner q.inner) (devices p'.inner q'.inner)
patient_leaves g h p p' q q' idle base_idle keeps base_keeps = record {
  idle = idle;
  store = record {
    counts = record { sectors = keeps.counts.sectors; depth = keeps.counts.depth; faults = keeps.counts.faults; late = omega arith; last = keeps.counts.last };
    telling = record {
      events = keeps.telling.events;
      told_before = keeps.telling.told_before;
      recorded_before = keeps.telling.recorded_before;
      goes_on = keeps.telling.goes_on;
      state = keeps.telling.state;
      stood = keeps.telling.stood;
    };
  };
  base = record {
    keeps = record {
      counts = record { sectors = base_keeps.counts.sectors; depth = base_keeps.counts.depth; faults = base_keeps.counts.faults; late = omega arith; last = base_keeps.counts.last };
      telling = record { told_before = base_keeps.telling.told_before; content = base_keeps.telling.content };
    };
    idle = base_idle;
  };
}
