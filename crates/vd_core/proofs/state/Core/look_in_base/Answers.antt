use Rattle.std.proofs.Common.{sym, refl, ◌∙◌, true}
use Rattle.vd_passes.specs.declared.pass.Phase.TheVariants.{Held}
use Rattle.vd_passes.proofs.Holding.{phase-at, looks_at_base-regions}
use Rattle.vd_machine.specs.Steps.{By_base_look}
use Rattle.vd_machine.specs.ReadSteps.{BaseLookStep}
use Rattle.vd_legal.proofs.Looking.{can-look-in-base}
use Rattle.vd_core.proofs.Releasing.{counted}
use Rattle.vd_machine.specs.Views.{View}
use Rattle.vd_core.specs.declared.state.Core.TheView.{view}
use Rattle.vd_core.proofs.Kept.{kept-on}
use Rattle.vd_core.proofs.state.Core.look_in_base.Given.{Over}
use Rattle.vd_core.proofs.state.Core.look_in_base.Goals as goal
use Rattle.vd_core.proofs.state.Core.look_in_base.Goals.{After-look_at_base}

abbrev was : (g : Over) (c : After-look_at_base g) → View g.row.S.Denot g.row.B.Denot
was g c = view g.row.S.Denot g.row.B.Denot g.S.Store g.B.Base c.self.inside

-- what it makes of the core, but for the number of steps
abbrev now : (g : Over) (c : After-look_at_base g) → View g.row.S.Denot g.row.B.Denot
now g c = record (was g c) { base = c.look_at_base.new.base; passes = c.look_at_base.new.passes.items }

pub look_at_base-requires : goal.look_at_base-requires
look_at_base-requires g c =
    let at = rw (sym c.self.view_is) at c.requires.phase in
    record { ready = can-look-in-base c.self.invariant.0.sound c.args.pass at }

step : (g : Over) (c : After-look_at_base g) → BaseLookStep g.B.Base c.args.pass (was g c) (record (now g c) { steps = c.one_more-self-inside.result })
step g c = let done = c.look_at_base.ensures in record {
  reader = rw (sym c.self.view_is) at c.requires.phase;
  looks = done.looks c.self.inside.state.fresh.bits c.self.inside.history.log.entries;
  number = done.number;
  keeps = done.keeps;
  others = counted (now g c) c.one_more-self-inside.ensures;
}

pub invariant_of-self : goal.invariant_of-self
invariant_of-self g c =
    let at = rw (sym c.self.view_is) at c.requires.phase in (
      kept-on (By_base_look (step g c)) c.self.invariant.0,
      c.self.invariant.1
          ∙ sym (looks_at_base-regions (phase-at true Held _ c.args.pass refl (at.0, at.1, at.2.0.phase)) (step g c).looks),
      c.self.invariant.2,
    )

pub returns : goal.returns
returns g c = rw (sym c.self.view_is) (record { looks = step g c })
