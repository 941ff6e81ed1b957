use Rattle.std.proofs.Common.{sym, ◌∙◌, None, slice_set}
use Rattle.vd_passes.proofs.Flushing.{ends_flush-regions}
use Rattle.vd_machine.proofs.Sending.{seals-flush}
use Rattle.vd_machine.specs.Views.{View, view_requests}
use Rattle.vd_machine.specs.Steps.{By_seal}
use Rattle.vd_machine.specs.FlushSteps.{SealStep}
use Rattle.vd_metadata.proofs.FlushingReady.{between-calls}
use Rattle.vd_core.proofs.Releasing.{counted}
use Rattle.vd_core.specs.declared.state.Core.TheView.{view}
use Rattle.vd_core.proofs.Kept.{kept-on}
use Rattle.vd_core.proofs.state.Core.seal.Given.{Over}
use Rattle.vd_core.proofs.state.Core.seal.Goals as goal
use Rattle.vd_core.proofs.state.Core.seal.Goals.{After-end_flush}

abbrev was : (g : Over) (c : After-end_flush g) → View g.row.S.Denot g.row.B.Denot
was g c = view g.row.S.Denot g.row.B.Denot g.S.Store g.B.Base c.self.inside

-- what it makes of the core, but for the number of steps
abbrev now : (g : Over) (c : After-end_flush g) → View g.row.S.Denot g.row.B.Denot
now g c = record (was g c) { keeping = c.seal.new.self; flusher = None; passes = slice_set c.self.inside.passes.items c.args.pass c.end_flush.new.self }

step : (g : Over) (c : After-end_flush g) → SealStep c.args.pass (was g c) (record (now g c) { steps = c.one_more-self-inside.result })
step g c = let at = rw (sym c.self.view_is) at c.requires.phase in record {
  between = at;
  stage = rw (sym c.self.view_is) at c.requires.stage;
  seals = seals-flush {r = view_requests (was g c)} c.index_mut.result.now c.end_flush.new.self c.index_mut.ensures.value
      (between-calls c.self.invariant.0.sound c.self.invariant.0.sound.metadata c.args.pass at) c.end_flush.ensures c.seal.ensures;
  others = counted (now g c) c.one_more-self-inside.ensures;
}

pub invariant_of-self : goal.invariant_of-self
invariant_of-self g c =
    let sealed = step g (goal.at.invariant_of-self g c).After-end_flush in
    (kept-on (By_seal sealed) c.self.invariant.0, c.self.invariant.1 ∙ sym (ends_flush-regions sealed.seals.ends), c.self.invariant.2)

pub returns : goal.returns
returns g c = rw (sym c.self.view_is) (record { seals = step g (goal.at.returns g c).After-end_flush })
