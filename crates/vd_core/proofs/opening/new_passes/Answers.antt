use Rattle.std.proofs.Common.{arith, subst}
use Rattle.vd_passes.specs.Passes.{IsNew}
use Rattle.vd_core.proofs.NewPasses.{new-push}
use Rattle.vd_core.proofs.opening.new_passes.Goals as goal

pub loop-preserved : goal.loop-preserved
loop-preserved c =
    let pushed = c.push_pass.ensures.pass in (
      new-push c.loop.counter c.args.block c.loop.passes.items c.push_pass.new.passes.items pushed.0 c.loop.invariant.0 (subst (λ b. IsNew b pushed.0) c.in-Ok.ensures pushed.1) pushed.2,
      (let room = c.push_pass.ensures.room in let had = c.loop.invariant.1 in omega arith),
    )
