use Rattle.std.proofs.Common.{◌∙◌, refl}
use Rattle.core_rows.proofs.Runs.{goes-on, ended, as-many, other-arm, others-same, others-asked}
use Rattle.core_rows.proofs.calls.end_write.Goals as goal

pub loop-init : goal.loop-init
loop-init g c = (c.requires.busy, refl, refl, λ other apart. refl, λ other said asked. asked)

pub loop-preserved : goal.loop-preserved
loop-preserved g c =
    let now = c.loop.invariant in (
      goes-on c.next.result (other-arm c.next.result c.in-Again.is) c.next.ensures.drives now.0,
      c.next.ensures.leaves.shape ∙ now.1,
      as-many c.next.ensures.drives ∙ now.2,
      λ other apart. others-same c.next.ensures.drives other apart ∙ now.3 other apart,
      λ other said asked. others-asked c.next.ensures.drives other said (now.4 other said asked),
    )

pub returns-in-Ended : goal.returns-in-Ended
returns-in-Ended g c =
    let now = c.loop.invariant in record {
      idle = ended c.in-Ended.answer c.in-Ended.ensures.drives;
      shape = c.next.ensures.leaves.shape ∙ now.1;
      passes = as-many c.next.ensures.drives ∙ now.2;
      others = λ other apart. others-same c.next.ensures.drives other apart ∙ now.3 other apart;
      asked = λ other said asked. others-asked c.next.ensures.drives other said (now.4 other said asked);
    }
