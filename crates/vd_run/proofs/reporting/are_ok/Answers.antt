use Rattle.std.proofs.Common.{Bool, ◌&&◌, take, ap, sym, ◌∙◌}
use Rattle.vd_report.specs.Ending.{are_ok}
use Rattle.vd_run.proofs.RunningLaws.{ok_more}
use Rattle.vd_run.proofs.reporting.are_ok.Goals as goal

pub loop-at-preserved : goal.loop-at-preserved
loop-at-preserved c =
    ap (λ (b : Bool). b && c.is_ok-ok.result) c.loop-at.invariant ∙ ap (λ (b : Bool). are_ok (take c.loop-at.at c.args.log.now.entries) && b) c.is_ok-ok.ensures
    ∙ sym (ok_more c.args.log.now.entries c.loop-at.at _ c.event.ensures)
