-- What the fields of a base in memory stand for.
use Rattle.vd_mem.specs.declared.mem_base.MemBase.TheInside.{Inside}
use Rattle.vd_mem.specs.BaseState.{MemBaseState}

abbrev pub base_of : Inside → MemBaseState
base_of b = record {
  content = b.content.items;
  rules = b.tickets.rules;
  last = b.tickets.last;
  flying = b.tickets.flying;
  ended = b.tickets.ended;
  faults = b.tickets.faults;
  late = b.tickets.late;
}
