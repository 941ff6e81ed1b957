use Rattle.std.proofs.Common.{sym, ap, ◌∙◌}
use Rattle.vd_keeper.specs.Keeping.{KeeperState}
use Rattle.vd_keeper.specs.Moves.{after_adopt}
use Rattle.vd_machine.specs.Views.{View}
use Rattle.vd_machine.specs.Steps.{By_adopt}
use Rattle.vd_machine.specs.FlushSteps.{AdoptStep}
use Rattle.vd_metadata.proofs.FlushingReady.{idle-rest, chunk-same, blocks-same}
use Rattle.vd_core.proofs.Releasing.{counted}
use Rattle.vd_core.specs.declared.state.Core.TheView.{view}
use Rattle.vd_core.proofs.Kept.{kept-on}
use Rattle.vd_core.proofs.state.Core.adopt.Given.{Over}
use Rattle.vd_core.proofs.state.Core.adopt.Goals as goal
use Rattle.vd_core.proofs.state.Core.adopt.Goals.{After-adopt}

abbrev was : (g : Over) (c : After-adopt g) → View g.row.S.Denot g.row.B.Denot
was g c = view g.row.S.Denot g.row.B.Denot g.S.Store g.B.Base c.self.inside

-- what it makes of the core, but for the number of steps
abbrev now : (g : Over) (c : After-adopt g) → View g.row.S.Denot g.row.B.Denot
now g c = record (was g c) { keeping = c.adopt.new.self }

pub adopt-requires-clause-rest : goal.adopt-requires-clause-rest
adopt-requires-clause-rest g c = let idle = rw (sym c.self.view_is) at c.requires.idle in idle-rest c.self.invariant.0.sound c.self.invariant.0.sound.metadata
    idle

pub adopt-requires-clause-chunk : goal.adopt-requires-clause-chunk
adopt-requires-clause-chunk g c = c.self.invariant.2.chunk ∙ chunk-same c.self.invariant.0.sound c.self.invariant.0.sound.metadata

pub adopt-requires-clause-blocks : goal.adopt-requires-clause-blocks
adopt-requires-clause-blocks g c = blocks-same c.self.invariant.0.sound c.self.invariant.0.sound.metadata

step : (g : Over) (c : After-adopt g) → AdoptStep (was g c) (record (now g c) { steps = c.one_more-self-inside.result })
step g c = record {
  idle = rw (sym c.self.view_is) at c.requires.idle;
  others = ap (λ (k : KeeperState). record (was g c) { keeping = k; steps = c.one_more-self-inside.result }) c.adopt.ensures
      ∙ counted (record (was g c) { keeping = after_adopt c.self.inside.state.fresh.bits c.self.inside.keeper }) c.one_more-self-inside.ensures;
}

pub invariant_of-self : goal.invariant_of-self
invariant_of-self g c = (kept-on {i = 0} (By_adopt (step g c)) c.self.invariant.0, c.self.invariant.1, c.self.invariant.2)

pub returns : goal.returns
returns g c = rw (sym c.self.view_is) (record { adopts = step g c })
