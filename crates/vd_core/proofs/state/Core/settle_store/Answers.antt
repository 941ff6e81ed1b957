use Rattle.std.proofs.Common.{sym, ap, ◌∙◌}
use Rattle.vd_passes.proofs.Holding.{look_settled-regions}
use Rattle.vd_machine.specs.declared.outcome.Outcome.{Outcome}
use Rattle.vd_machine.specs.Steps.{By_settle_store_look}
use Rattle.vd_machine.specs.ReadSteps.{SettleStoreLookStep}
use Rattle.vd_core.specs.Outcomes.{step_of, regions_after_end}
use Rattle.vd_legal.proofs.Devices.{region-within}
use Rattle.vd_legal.proofs.Seeing.{waiting-for-look}
use Rattle.vd_core.proofs.Releasing.{counted, ended-held}
use Rattle.vd_machine.specs.Views.{View}
use Rattle.vd_core.specs.declared.state.Core.TheView.{view}
use Rattle.vd_core.proofs.Kept.{kept-on}
use Rattle.vd_core.proofs.state.Core.settle_store.Given.{Over}
use Rattle.vd_core.proofs.state.Core.settle_store.Goals as goal
use Rattle.vd_core.proofs.state.Core.settle_store.Goals.{After-release}

abbrev was : (g : Over) (c : After-release g) → View g.row.S.Denot g.row.B.Denot
was g c = view g.row.S.Denot g.row.B.Denot g.S.Store g.B.Base c.self.inside

-- what it makes of the core, but for the number of steps
abbrev now : (g : Over) (c : After-release g) → View g.row.S.Denot g.row.B.Denot
now g c = record (was g c) {
  store = c.settle_store_look-outcome.new.store;
  passes = c.settle_store_look-outcome.new.passes.items;
  history = c.settle_store_look-outcome.new.history;
}

pub settle_store_look-outcome-requires-clause-waiting : goal.settle_store_look-outcome-requires-clause-waiting
settle_store_look-outcome-requires-clause-waiting g c =
    let at = rw (sym c.self.view_is) at c.requires.phase in
    waiting-for-look c.self.invariant.0.sound c.args.pass c.args.out.now at

pub release-requires : goal.release-requires
release-requires g c =
    let at = rw (sym c.self.view_is) at c.requires.phase in
    region-within c.self.inside.regions c.self.inside.passes.items c.args.pass at.0 c.self.invariant.1 at.1

step : (g : Over) (c : After-release g) → SettleStoreLookStep g.S.Store c.settle_store_look-outcome.ensures.settled.0 c.args.pass c.args.out.now
    c.settle_store_look-outcome.new.out (was g c)
    (record (now g c) { steps = c.one_more-self-inside.result })
step g c = let done = c.settle_store_look-outcome.ensures in record {
  looking = rw (sym c.self.view_is) at c.requires.phase;
  settles = done.settled.2 c.self.inside.state.fresh.bits;
  extends = done.settled.3;
  running = done.running;
  keeps = done.keeps;
  others = counted (now g c) c.one_more-self-inside.ensures;
}

pub invariant_of-self : goal.invariant_of-self
invariant_of-self g c =
    let settled = c.settle_store_look-outcome.ensures.settled in let after = c.release.ensures.regions
    ∙ ap (λ (o : Outcome). regions_after_end o c.args.pass c.self.inside.regions) settled.1 in (
      kept-on (By_settle_store_look settled.0 c.args.out.now c.settle_store_look-outcome.new.out (step g c)) c.self.invariant.0,
      ended-held settled.0 c.args.pass c.self.inside.passes.items c.settle_store_look-outcome.new.passes.items c.self.invariant.1 after (look_settled-regions
          (step g c).settles),
      c.self.invariant.2,
    )

pub returns : goal.returns
returns g c = let settled = c.settle_store_look-outcome.ensures.settled in rw (sym c.self.view_is) (record {
  settles = (
    settled.0,
    c.release.ensures.step
        ∙ ap step_of settled.1,
    step g c,
  );
})
