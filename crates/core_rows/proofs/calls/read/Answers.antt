use Rattle.std.proofs.Common.{◌∙◌, ℕ, false, sym, subst, length}
use Rattle.vd_passes.specs.Steps.{IsAt}
use Rattle.core_rows.proofs.Runs.{IsBusyWith, same-shape, goes-on, ended, as-many, as-many-asked, asked-read, other-arm}
use Rattle.vd_law.specs.Entries.{Read}
use Rattle.core_rows.proofs.calls.read.Goals as goal

pub loop-init : goal.loop-init
loop-init g c = (asked-read c.ask.result c.args.first (length c.args.out.now) c.in_default.not-Some c.ask.ensures.asks.ends, same-shape c.ask.ensures.asks.others, as-many-asked c.ask.result (Read c.args.first (length c.args.out.now)) c.ask.ensures.asks.ends)

pub returns-in-Ended-clause-idle : goal.returns-in-Ended-clause-idle
returns-in-Ended-clause-idle g c = ended c.in-Ended.answer c.in-Ended.ensures.drives

pub loop-preserved : goal.loop-preserved
loop-preserved g c =
    let kept = goes-on c.next.result (other-arm c.next.result c.in-Again.is) c.next.ensures.drives c.loop.invariant.0 in
    (subst (λ (n : ℕ). IsAt c.next.new.core.passes c.args.pass (IsBusyWith false n)) (sym c.next.ensures.room) kept, c.next.ensures.leaves.shape ∙ c.loop.invariant.1, as-many c.next.ensures.drives ∙ c.loop.invariant.2)
