use Rattle.std.proofs.Common.{arith, ◌/◌}
use Rattle.vd_machine.proofs.Claiming.{quotient-near}
use Rattle.vd_machine.proofs.asking.run.Goals as goal

pub overflow_sub-result : goal.overflow_sub-result
overflow_sub-result c =
    let first = c.in-Write.first in let last = c.saturating_sub.result in let shape = c.args.shape.now in
    quotient-near shape.chunk (first / shape.block) (last / shape.block) c.requires.chunk (quotient-near shape.block first last c.requires.some (omega (arith, c.saturating_sub.ensures)))
