use Rattle.std.proofs.Common.{sym, refl, ◌∙◌, true}
use Rattle.vd_passes.specs.declared.pass.Phase.TheVariants.{Held}
use Rattle.vd_passes.proofs.Fetching.{can-read-base}
use Rattle.vd_passes.proofs.Holding.{phase-at}
use Rattle.vd_machine.specs.Steps.{By_fetch}
use Rattle.vd_machine.specs.WriteSteps.{FetchStep}
use Rattle.vd_core.proofs.Releasing.{counted, fetch-regions}
use Rattle.vd_machine.specs.Views.{View}
use Rattle.vd_core.specs.declared.state.Core.TheView.{view}
use Rattle.vd_core.proofs.Kept.{kept-on}
use Rattle.vd_core.proofs.state.Core.fetch.Given.{Over}
use Rattle.vd_core.proofs.state.Core.fetch.Goals as goal
use Rattle.vd_core.proofs.state.Core.fetch.Goals.{After-fetch_block}

abbrev was : (g : Over) (c : After-fetch_block g) → View g.row.S.Denot g.row.B.Denot
was g c = view g.row.S.Denot g.row.B.Denot g.S.Store g.B.Base c.self.inside

-- what it makes of the core, but for the number of steps
abbrev now : (g : Over) (c : After-fetch_block g) → View g.row.S.Denot g.row.B.Denot
now g c = record (was g c) { base = c.fetch_block.new.base; passes = c.fetch_block.new.passes.items }

pub fetch_block-requires : goal.fetch_block-requires
fetch_block-requires g c =
    let at = rw (sym c.self.view_is) at c.requires.phase in
    record { ready = can-read-base c.self.invariant.0.sound.coherent c.args.pass (at.0, at.1, at.2.held) }

step : (g : Over) (c : After-fetch_block g) → FetchStep g.B.Base c.args.pass (was g c) (record (now g c) { steps = c.one_more-self-inside.result })
step g c = let done = c.fetch_block.ensures in record {
  writer = rw (sym c.self.view_is) at c.requires.phase;
  fetches = done.fetches c.self.inside.state.fresh.bits c.self.inside.history.log.entries;
  number = done.number;
  keeps = done.keeps;
  others = counted (now g c) c.one_more-self-inside.ensures;
}

pub invariant_of-self : goal.invariant_of-self
invariant_of-self g c =
    let at = rw (sym c.self.view_is) at c.requires.phase in (
      kept-on (By_fetch (step g c)) c.self.invariant.0,
      c.self.invariant.1
          ∙ sym (fetch-regions (phase-at true Held _ c.args.pass refl (at.0, at.1, at.2.held)) (step g c).fetches),
      c.self.invariant.2,
    )

pub returns : goal.returns
returns g c = rw (sym c.self.view_is) (record { fetches = step g c })
