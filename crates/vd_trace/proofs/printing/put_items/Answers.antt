use Rattle.std.proofs.Common.{arith}
use Rattle.vd_trace.specs.declared.kept.Stored.TheVariants.{Read}
use Rattle.vd_trace.specs.Printing.{item_text}
use Rattle.vd_trace.proofs.Pieces.{pieces-failed}
use Rattle.vd_trace.proofs.printing.put_items.Goals as goal

pub returns-in_err-put_item-clause-writes : goal.returns-in_err-put_item-clause-writes
returns-in_err-put_item-clause-writes g c = λ told.
    pieces-failed (item_text c.args.sectors.now) c.args.items.now c.loop-item.item-index (record { number = 0; guest = 0; work = Read 0 0 }) (omega arith) c.from_residual.ensures.0
    (c.loop-item.invariant.wrote (c.put_item.ensures.told_before told)) (c.in_err-put_item.ensures.writes told)
