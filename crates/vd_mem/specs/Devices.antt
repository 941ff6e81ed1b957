-- What a store in memory tells as a store, with a fuse or without, and what a base in memory tells as a base.
use Rattle.std.specs.Prelude.{length}
use Rattle.vd_device.specs.declared.store.Store as store
use Rattle.vd_device.specs.declared.base.Base as base
use Rattle.vd_mem.specs.declared.fuse.Fuse.{Fuse}
use Rattle.vd_faults.specs.Tapes.{events_told}
use Rattle.vd_mem.specs.StoreState.{MemStoreState, StillRuns, disk_of}
use Rattle.vd_mem.specs.Flying.{Flies}
use Rattle.vd_mem.specs.BaseState.{MemBaseState, FliesBase}

-- It tells its log always, and what its sectors hold until it stops.
abbrev pub mem_store : store.Ghosts MemStoreState
mem_store = record {
  tells = StillRuns;
  records = λ m. Unit {0};
  disk = disk_of;
  flight = Flies;
  sectors = λ m. length m.start;
  depth = λ m. 128;
  faults = λ m. m.faults;
  late = λ m. m.late;
  events = λ m. events_told m.log m.over;
  last = λ m. m.last;
}

-- what the store within tells
abbrev pub fused : store.Ghosts Fuse
fused = record {
  tells = λ f. StillRuns f.inner;
  records = λ f. Unit {0};
  disk = λ f. disk_of f.inner;
  flight = λ f. Flies f.inner;
  sectors = λ f. length f.inner.start;
  depth = λ f. 128;
  faults = λ f. f.inner.faults;
  late = λ f. f.inner.late;
  events = λ f. events_told f.inner.log f.inner.over;
  last = λ f. f.inner.last;
}

-- It tells what its sectors hold.
abbrev pub mem_base : base.Ghosts MemBaseState
mem_base = record {
  tells = λ b. Unit {0};
  content = λ b. b.content;
  flight = FliesBase;
  sectors = λ b. length b.content;
  depth = λ b. 128;
  faults = λ b. b.faults;
  late = λ b. b.late;
  last = λ b. b.last;
}
