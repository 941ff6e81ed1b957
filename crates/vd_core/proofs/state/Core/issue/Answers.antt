use Rattle.std.proofs.Common.{◌≡◌, sym, refl, ◌∙◌, inl, inr, true}
use Rattle.vd_passes.specs.declared.pass.Phase.TheVariants.{Held, Filled}
use Rattle.vd_passes.specs.Passes.{has_region}
use Rattle.vd_passes.proofs.Holding.{issues-regions}
use Rattle.vd_passes.proofs.Regions.{region-of}
use Rattle.vd_machine.specs.Steps.{By_issue}
use Rattle.vd_machine.specs.WriteSteps.{IssueStep}
use Rattle.vd_legal.proofs.Issuing.{can-issue}
use Rattle.vd_core.proofs.Releasing.{counted}
use Rattle.vd_machine.specs.Views.{View}
use Rattle.vd_core.specs.declared.state.Core.TheView.{view}
use Rattle.vd_core.proofs.Kept.{kept-on}
use Rattle.vd_core.proofs.state.Core.issue.Given.{Over}
use Rattle.vd_core.proofs.state.Core.issue.Goals as goal
use Rattle.vd_core.proofs.state.Core.issue.Goals.{After-issue_piece}

abbrev was : (g : Over) (c : After-issue_piece g) → View g.row.S.Denot g.row.B.Denot
was g c = view g.row.S.Denot g.row.B.Denot g.S.Store g.B.Base c.self.inside

-- what it makes of the core, but for the number of steps
abbrev now : (g : Over) (c : After-issue_piece g) → View g.row.S.Denot g.row.B.Denot
now g c = record (was g c) { store = c.issue_piece.new.store; passes = c.issue_piece.new.passes.items; history = c.issue_piece.new.history }

pub issue_piece-requires-clause-ready : goal.issue_piece-requires-clause-ready
issue_piece-requires-clause-ready g c =
    let at = rw (sym c.self.view_is) at c.requires.phase in let asked = rw (sym c.self.view_is) at c.requires.content in
    can-issue c.self.invariant.0.sound c.args.pass c.args.content.now at asked

step : (g : Over) (c : After-issue_piece g) → IssueStep g.S.Store c.args.content.now c.args.pass (was g c)
    (record (now g c) { steps = c.one_more-self-inside.result })
step g c = let done = c.issue_piece.ensures in record {
  writer = rw (sym c.self.view_is) at c.requires.phase;
  content_asked = rw (sym c.self.view_is) at c.requires.content;
  issues = done.issues;
  extends = done.extends;
  number = done.number;
  running = done.running;
  keeps = done.keeps;
  others = counted (now g c) c.one_more-self-inside.ensures;
}

pub invariant_of-self : goal.invariant_of-self
invariant_of-self g c =
    let at = rw (sym c.self.view_is) at c.requires.phase in
    let holds : has_region at.0.phase ≡ true = elim at.2.way [ inl held ↦ region-of _ Held refl held.0 | inr filled ↦ region-of _ Filled refl filled ] in (
      kept-on (By_issue c.args.content.now (step g c)) c.self.invariant.0,
      c.self.invariant.1
          ∙ sym (issues-regions (at.0, at.1, holds) c.issue_piece.ensures.issues),
      c.self.invariant.2,
    )

pub returns : goal.returns
returns g c = rw (sym c.self.view_is) (record { issues = step g c })
