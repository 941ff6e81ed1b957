use Rattle.std.proofs.Common.{sym, ap, ◌∙◌, List, Option, None, slice_set}
use Rattle.vd_regions.specs.declared.regions.Region.{Region}
use Rattle.vd_passes.proofs.Holding.{sees-regions}
use Rattle.vd_machine.specs.Steps.{By_zeros}
use Rattle.vd_machine.specs.ReadSteps.{ZerosStep}
use Rattle.vd_legal.proofs.Devices.{region-within}
use Rattle.vd_legal.proofs.Looking.{can-see-zeros, zeros-seen}
use Rattle.vd_core.proofs.Releasing.{counted}
use Rattle.vd_machine.specs.Views.{View, view_requests}
use Rattle.vd_core.specs.declared.state.Core.TheView.{view}
use Rattle.vd_core.proofs.Kept.{kept-on}
use Rattle.vd_core.proofs.state.Core.look_at_zeros.Given.{Over}
use Rattle.vd_core.proofs.state.Core.look_at_zeros.Goals as goal
use Rattle.vd_core.proofs.state.Core.look_at_zeros.Goals.{After-see_zeros}

abbrev was : (g : Over) (c : After-see_zeros g) → View g.row.S.Denot g.row.B.Denot
was g c = view g.row.S.Denot g.row.B.Denot g.S.Store g.B.Base c.self.inside

-- what it makes of the core, but for the number of steps
abbrev now : (g : Over) (c : After-see_zeros g) → View g.row.S.Denot g.row.B.Denot
now g c = record (was g c) { passes = c.see_zeros.new.passes.items; history = c.see_zeros.new.history }

pub see_zeros-requires-clause-ready : goal.see_zeros-requires-clause-ready
see_zeros-requires-clause-ready g c =
    let at = rw (sym c.self.view_is) at c.requires.phase in
    can-see-zeros c.self.invariant.0.sound c.args.pass (at.0, at.1, (at.2.0.0, at.2.0.1)) c.args.out.now at.2.1

pub free-requires : goal.free-requires
free-requires g c =
    let at = rw (sym c.self.view_is) at c.requires.phase in
    region-within c.self.inside.regions c.self.inside.passes.items c.args.pass at.0 c.self.invariant.1 at.1

step : (g : Over) (c : After-see_zeros g) → ZerosStep g.S.Store c.args.pass c.args.out.now c.see_zeros.new.out (was g c)
    (record (now g c) { steps = c.one_more-self-inside.result })
step g c =
    let at = rw (sym c.self.view_is) at c.requires.phase in let told = c.see_zeros.ensures.sees in record {
      reader = at;
      sees = zeros-seen {r = view_requests (was g c)} (at.0, at.1, at.2.0.2) (told.0, told.1, told.2.0 c.self.inside.shape c.self.inside.state.fresh.bits);
      extends = (told.0, told.1, told.2.1);
      running = c.see_zeros.ensures.running;
      others = counted (now g c) c.one_more-self-inside.ensures;
    }

pub invariant_of-self : goal.invariant_of-self
invariant_of-self g c =
    let seen = step g (goal.at.invariant_of-self g c).After-see_zeros in (
      kept-on (By_zeros c.args.out.now c.see_zeros.new.out seen) c.self.invariant.0,
      c.free.ensures.held ∙ ap (λ (rs : List (Option Region)). slice_set rs c.args.pass None) c.self.invariant.1 ∙ sym (sees-regions seen.sees.sees),
      c.self.invariant.2,
    )

pub returns : goal.returns
returns g c = rw (sym c.self.view_is) (record { sees = step g (goal.at.returns g c).After-see_zeros })
