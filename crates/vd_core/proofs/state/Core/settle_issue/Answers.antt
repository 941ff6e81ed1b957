use Rattle.std.proofs.Common.{sym, ap, ◌∙◌}
use Rattle.vd_passes.proofs.Holding.{write_settled-regions}
use Rattle.vd_machine.specs.declared.outcome.Outcome.{Outcome}
use Rattle.vd_machine.specs.Steps.{By_settle_issue}
use Rattle.vd_machine.specs.WriteSteps.{SettleIssueStep}
use Rattle.vd_core.specs.Outcomes.{step_of, regions_after_end}
use Rattle.vd_legal.proofs.Devices.{region-within}
use Rattle.vd_legal.proofs.Settling.{waiting-issue, can-end}
use Rattle.vd_metadata.proofs.FlushingReady.{blocks-same}
use Rattle.vd_core.proofs.Releasing.{counted, ended-held, marked-sized}
use Rattle.vd_machine.specs.Views.{View}
use Rattle.vd_core.specs.declared.state.Core.TheView.{view}
use Rattle.vd_core.proofs.Kept.{kept-on}
use Rattle.vd_core.proofs.state.Core.settle_issue.Given.{Over}
use Rattle.vd_core.proofs.state.Core.settle_issue.Goals as goal
use Rattle.vd_core.proofs.state.Core.settle_issue.Goals.{After-release}

abbrev was : (g : Over) (c : After-release g) → View g.row.S.Denot g.row.B.Denot
was g c = view g.row.S.Denot g.row.B.Denot g.S.Store g.B.Base c.self.inside

-- what it makes of the core, but for the number of steps
abbrev now : (g : Over) (c : After-release g) → View g.row.S.Denot g.row.B.Denot
now g c = record (was g c) {
  store = c.settle_write-outcome.new.store;
  fresh = c.settle_write-outcome.new.fresh.bits;
  keeping = c.settle_write-outcome.new.keeper;
  passes = c.settle_write-outcome.new.passes.items;
  history = c.settle_write-outcome.new.history;
}

pub settle_write-outcome-requires-clause-waiting : goal.settle_write-outcome-requires-clause-waiting
settle_write-outcome-requires-clause-waiting g c = let at = rw
    (sym c.self.view_is) at c.requires.phase in waiting-issue c.self.invariant.0.sound c.args.pass at

pub settle_write-outcome-requires-clause-room : goal.settle_write-outcome-requires-clause-room
settle_write-outcome-requires-clause-room g c = let at = rw (sym c.self.view_is) at c.requires.phase in can-end c.self.invariant.0.sound c.args.pass at

pub settle_write-outcome-requires-clause-blocks : goal.settle_write-outcome-requires-clause-blocks
settle_write-outcome-requires-clause-blocks g c = sym (blocks-same c.self.invariant.0.sound c.self.invariant.0.sound.metadata)

pub release-requires : goal.release-requires
release-requires g c =
    let at = rw (sym c.self.view_is) at c.requires.phase in
    region-within c.self.inside.regions c.self.inside.passes.items c.args.pass at.0 c.self.invariant.1 at.1

step : (g : Over) (c : After-release g) → SettleIssueStep g.S.Store c.settle_write-outcome.ensures.settled.0 c.args.pass (was g c)
    (record (now g c) { steps = c.one_more-self-inside.result })
step g c = let done = c.settle_write-outcome.ensures in record {
  issuing = rw (sym c.self.view_is) at c.requires.phase;
  settles = done.settled.2;
  extends = done.settled.3;
  owes = done.settled.5;
  running = done.running;
  keeps = done.keeps;
  others = counted (now g c) c.one_more-self-inside.ensures;
}

pub invariant_of-self : goal.invariant_of-self
invariant_of-self g c =
    let done = c.settle_write-outcome.ensures in let answer = done.settled.0 in let kept = kept-on (By_settle_issue answer (step g c)) c.self.invariant.0 in
    let after = c.release.ensures.regions ∙ ap (λ (o : Outcome). regions_after_end o c.args.pass c.self.inside.regions) done.settled.1 in (
      kept,
      ended-held answer c.args.pass c.self.inside.passes.items c.settle_write-outcome.new.passes.items c.self.invariant.1 after
          (write_settled-regions done.settled.2),
      marked-sized c.self.inside.state c.settle_write-outcome.new.fresh c.self.invariant.2 done.chunk (kept.sound.coherent.size
          ∙ sym c.self.invariant.0.sound.coherent.size),
    )

pub returns : goal.returns
returns g c = let done = c.settle_write-outcome.ensures in rw (sym c.self.view_is) (record {
  settles = (
    done.settled.0,
    c.release.ensures.step
        ∙ ap step_of done.settled.1,
    step g c,
  );
})
