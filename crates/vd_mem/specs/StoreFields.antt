-- What the fields of a store in memory stand for, and what holds of them.
use Rattle.std.specs.Prelude.{◌≡◌, length}
use Rattle.vd_mem.specs.declared.mem_store.MemStore.TheInside.{Inside}
use Rattle.vd_mem.specs.StoreState.{MemStoreState}
use Rattle.vd_mem.specs.Sound.{IsSoundMemStore}
use Rattle.vd_faults.specs.Traced.{IsTracedTape}

abbrev pub memory_of : Inside → MemStoreState
memory_of m = record {
  start = m.start.items;
  held = m.held.items;
  log = m.tape.log;
  fuse = m.tape.fuse;
  over = m.tape.over;
  rules = m.tickets.rules;
  last = m.tickets.last;
  flying = m.tickets.flying;
  ended = m.tickets.ended;
  faults = m.tickets.faults;
  late = m.tickets.late;
}

pub record IsStore (m : Inside) : Type 0 where
  pub sound : IsSoundMemStore (memory_of m)
  pub traced : IsTracedTape (length m.start.items) m.tape
  -- the room for a crash was reserved
  pub scratch : length m.versions.items ≡ length m.start.items
