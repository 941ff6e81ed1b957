use Rattle.std.proofs.Common.{◌∙◌}
use Rattle.vd_law.specs.Entries.{Write}
use Rattle.core_rows.proofs.Runs.{same-shape, goes-on, ended, answered-idle, as-many, as-many-asked, asked-write, still-asked, other-arm}
use Rattle.core_rows.proofs.calls.write.Goals as goal

pub returns-in-Some-clause-idle : goal.returns-in-Some-clause-idle
returns-in-Some-clause-idle g c = answered-idle c.in-Some.answer (Write c.args.first c.args.content.now) c.in-Some.ensures.asks.ends c.requires.idle

pub returns-in-Some-clause-passes : goal.returns-in-Some-clause-passes
returns-in-Some-clause-passes g c = as-many-asked c.ask.result (Write c.args.first c.args.content.now) c.ask.ensures.asks.ends

pub loop-init : goal.loop-init
loop-init g c = let asked = asked-write c.ask.result c.args.first c.args.content.now c.in_default.not-Some c.ask.ensures.asks.ends in (asked.0, asked.1, same-shape c.ask.ensures.asks.others, as-many-asked c.ask.result (Write c.args.first c.args.content.now) c.ask.ensures.asks.ends)

pub returns-in-Ended-clause-idle : goal.returns-in-Ended-clause-idle
returns-in-Ended-clause-idle g c = ended c.in-Ended.answer c.in-Ended.ensures.drives

pub loop-preserved : goal.loop-preserved
loop-preserved g c =
    let now = c.loop.invariant in
    (goes-on c.next.result (other-arm c.next.result c.in-Again.is) c.next.ensures.drives now.0, still-asked c.args.content.now c.next.ensures.drives now.1, c.next.ensures.leaves.shape ∙ now.2, as-many c.next.ensures.drives ∙ now.3)
