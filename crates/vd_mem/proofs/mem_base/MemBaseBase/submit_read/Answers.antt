use Rattle.std.proofs.Common.{length, sym, refl, ap, arith}
use Rattle.vd_mem.specs.BaseState.{MemBaseState, IsReadWithin}
use Rattle.vd_mem.specs.BaseFields.{base_of}
use Rattle.vd_mem.proofs.Bases.{base-puts}
use Rattle.vd_mem.proofs.mem_base.MemBaseBase.submit_read.Goals as goal

abbrev before : goal.After-new → MemBaseState
before c = base_of c.self.inside

abbrev after : goal.After-new → MemBaseState
after c = record {
  content = c.self.inside.content.items;
  rules = c.count-fails.new.self;
  last = c.submit-number.new.self.last;
  flying = c.submit-number.new.self.flying;
  ended = c.submit-number.new.self.ended;
  faults = c.submit-number.new.self.faults;
  late = c.submit-number.new.self.late;
}

read : (c : goal.After-new) → IsReadWithin (length (before c).content) c.new.result
read c =
    let range = rw (sym c.self.view_is) at c.requires.range in
    (c.new.ensures.kind, omega (arith, range.2, c.new.ensures.first, c.new.ensures.count))

pub returns-clause-flight : goal.returns-clause-flight
returns-clause-flight c =
    rw (sym c.self.view_is) (base-puts (before c) (after c) c.new.result (read c) refl (ap (λ t. t.flying) c.submit-number.ensures.after))
