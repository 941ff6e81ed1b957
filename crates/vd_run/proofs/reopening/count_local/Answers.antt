use Rattle.std.proofs.Common.{◌+◌, ◌∙◌, ap, sym, arith, true, false, Some}
use Rattle.vd_run.proofs.LocalLaws.{count_more, count_few}
use Rattle.vd_run.proofs.reopening.count_local.Goals as goal
use Rattle.vd_run.proofs.reopening.count_local.Goals.{then-get, else-get}

pub overflow_add-local : goal.overflow_add-local
overflow_add-local c = let k = count_few c.args.state.now.fresh.bits c.loop-block.block in omega (arith, k, c.loop-block.invariant)

pub loop-block-preserved : goal.loop-block-preserved
loop-block-preserved c = elim c.if-get.branch [
  | then-get w ↦ w.local-is ∙ ap (λ n. n + 1) c.loop-block.invariant ∙ sym (count_more c.args.state.now.fresh.bits c.loop-block.block true (c.get.ensures ∙ ap Some w.if-get.true))
  | else-get w ↦ w.local-is ∙ c.loop-block.invariant ∙ omega arith ∙ sym (count_more c.args.state.now.fresh.bits c.loop-block.block false (c.get.ensures ∙ ap Some w.if-get.false))
]
