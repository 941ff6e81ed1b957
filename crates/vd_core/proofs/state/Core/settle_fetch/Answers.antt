use Rattle.std.proofs.Common.{sym, refl, ap, ◌∙◌, true}
use Rattle.vd_passes.specs.declared.pass.Phase.TheVariants.{Fetching}
use Rattle.vd_passes.proofs.Holding.{phase-at, fetch_settled-regions}
use Rattle.vd_machine.specs.declared.outcome.Outcome.{Outcome}
use Rattle.vd_machine.specs.Steps.{By_settle_fetch}
use Rattle.vd_machine.specs.WriteSteps.{SettleFetchStep}
use Rattle.vd_core.specs.Outcomes.{step_of, regions_after_failure}
use Rattle.vd_legal.proofs.Devices.{region-within}
use Rattle.vd_legal.proofs.Fetching.{waiting-block}
use Rattle.vd_core.proofs.Releasing.{counted, fetched-held}
use Rattle.vd_machine.specs.Views.{View}
use Rattle.vd_core.specs.declared.state.Core.TheView.{view}
use Rattle.vd_core.proofs.Kept.{kept-on}
use Rattle.vd_core.proofs.state.Core.settle_fetch.Given.{Over}
use Rattle.vd_core.proofs.state.Core.settle_fetch.Goals as goal
use Rattle.vd_core.proofs.state.Core.settle_fetch.Goals.{After-release_failed}

abbrev was : (g : Over) (c : After-release_failed g) → View g.row.S.Denot g.row.B.Denot
was g c = view g.row.S.Denot g.row.B.Denot g.S.Store g.B.Base c.self.inside

-- what it makes of the core, but for the number of steps
abbrev now : (g : Over) (c : After-release_failed g) → View g.row.S.Denot g.row.B.Denot
now g c = record (was g c) { base = c.settle_block-outcome.new.base; passes = c.settle_block-outcome.new.passes.items }

pub settle_block-outcome-requires : goal.settle_block-outcome-requires
settle_block-outcome-requires g c =
    let at = rw (sym c.self.view_is) at c.requires.phase in
    record { waiting = waiting-block c.self.invariant.0.sound c.args.pass at }

pub release_failed-requires : goal.release_failed-requires
release_failed-requires g c =
    let at = rw (sym c.self.view_is) at c.requires.phase in
    region-within c.self.inside.regions c.self.inside.passes.items c.args.pass at.0 c.self.invariant.1 at.1

step : (g : Over) (c : After-release_failed g) → SettleFetchStep g.B.Base c.settle_block-outcome.ensures.settled.0 c.args.pass (was g c)
    (record (now g c) { steps = c.one_more-self-inside.result })
step g c = let done = c.settle_block-outcome.ensures in record {
  fetching = rw (sym c.self.view_is) at c.requires.phase;
  settles = done.settled.2 c.self.inside.state.fresh.bits c.self.inside.history.log.entries;
  keeps = done.keeps;
  others = counted (now g c) c.one_more-self-inside.ensures;
}

pub invariant_of-self : goal.invariant_of-self
invariant_of-self g c =
    let at = rw (sym c.self.view_is) at c.requires.phase in let settled = c.settle_block-outcome.ensures.settled in
    let after = c.release_failed.ensures.regions ∙ ap (λ (o : Outcome). regions_after_failure o c.args.pass c.self.inside.regions) settled.1 in (
      kept-on (By_settle_fetch settled.0 (step g c)) c.self.invariant.0,
      fetched-held settled.0 c.args.pass c.self.inside.passes.items c.settle_block-outcome.new.passes.items c.self.invariant.1 after (fetch_settled-regions
          (phase-at true Fetching _ c.args.pass refl at) (step g c).settles),
      c.self.invariant.2,
    )

pub returns-clause-settles : goal.returns-clause-settles
returns-clause-settles g c = let settled = c.settle_block-outcome.ensures.settled in rw (sym c.self.view_is) (
  settled.0,
  c.release_failed.ensures.step
      ∙ ap step_of settled.1,
  step g c,
)
