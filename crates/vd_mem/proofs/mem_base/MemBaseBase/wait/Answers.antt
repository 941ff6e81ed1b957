use Rattle.std.proofs.Common.{not, sym, refl, ap, ◌∙◌}
use Rattle.vd_device.specs.Calls.{settled_of}
use Rattle.vd_mem.specs.BaseState.{MemBaseState, FliesBase}
use Rattle.vd_mem.specs.BaseFields.{base_of}
use Rattle.vd_mem.proofs.Bases.{base-takes, base-mine, base-reads, base-gives}
use Rattle.vd_mem.proofs.Ending.{answer-settles}
use Rattle.vd_mem.proofs.mem_base.MemBaseBase.wait.Goals as goal

pub give-requires-clause-within : goal.give-requires-clause-within
give-requires-clause-within c =
    let mine = rw (sym c.self.view_is) at c.requires.mine in (base-mine (base_of c.self.inside) c.args.ticket mine).1

pub give-requires-clause-room : goal.give-requires-clause-room
give-requires-clause-room c =
    let mine = rw (sym c.self.view_is) at c.requires.mine in c.requires.room ∙ base-reads (base_of c.self.inside) c.args.ticket mine

abbrev before : goal.After-answer → MemBaseState
before c = base_of c.self.inside

abbrev after : goal.After-answer → MemBaseState
after c = record {
  content = c.self.inside.content.items;
  rules = c.end.new.self.rules;
  last = c.end.new.self.last;
  flying = c.end.new.self.flying;
  ended = c.end.new.self.ended;
  faults = c.end.new.self.faults;
  late = c.end.new.self.late;
}

pub returns-clause-settles : goal.returns-clause-settles
returns-clause-settles c =
    rw (sym c.self.view_is) (answer-settles (not c.fails-done.result) (settled_of c.answer.result) c.spend.result c.args.ticket c.args.out.now c.give.new.out (FliesBase (before c)) (FliesBase (after c)) c.answer.ensures c.spend.ensures c.give.ensures.unread
    (base-takes (before c) (after c) c.args.ticket refl (ap (λ t. t.flying) c.end.ensures.after)))

pub returns-clause-gives : goal.returns-clause-gives
returns-clause-gives c =
    base-gives (not c.fails-done.result) (settled_of c.answer.result) c.spend.result c.args.ticket c.give.new.out c.self.inside.content.items c.answer.ensures c.give.ensures.read
