use Rattle.std.proofs.Common.{ap, sym, ◌∙◌}
use Rattle.vd_keeper.specs.Moves.{is_settling}
use Rattle.vd_keeper.proofs.Laws.{full-storage, puts-leave, settled-header, same-image}
use Rattle.vd_keeper.proofs.tests.step.Goals as goal

pub put-put-requires-clause-storage : goal.put-put-requires-clause-storage
put-put-requires-clause-storage c = full-storage c.args.table.now c.args.keeper.now c.header-header.ensures.kept c.requires

pub settled-requires-then-is_due : goal.settled-requires-then-is_due
settled-requires-then-is_due c = record {
  stage = ap is_settling ((puts-leave c.args.table.now c.args.keeper.now c.put-put.new.self c.put-put.result c.put-put.ensures.next).stage ∙ sym c.in-Puts.ensures);
}

pub returns-in-DataFlush : goal.returns-in-DataFlush
returns-in-DataFlush c = same-image c.args.keeper.now.header c.settled.new.self.header (settled-header c.args.ok c.args.keeper.now c.settled.new.self c.settled.ensures.done c.settled.ensures.failed)

pub returns-then-is_due : goal.returns-then-is_due
returns-then-is_due c =
    same-image c.args.keeper.now.header c.settled-then-is_due.new.self.header
    (settled-header c.args.ok c.put-put.new.self c.settled-then-is_due.new.self c.settled-then-is_due.ensures.done c.settled-then-is_due.ensures.failed
    ∙ (puts-leave c.args.table.now c.args.keeper.now c.put-put.new.self c.put-put.result c.put-put.ensures.next).header)
