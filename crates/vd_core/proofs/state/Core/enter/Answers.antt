use Rattle.std.proofs.Common.{sym}
use Rattle.vd_legal.proofs.Entering.{can-enter}
use Rattle.vd_core.proofs.Releasing.{enter-held, enter-step, kept_out-step, entered, holds-nothing}
use Rattle.vd_core.proofs.Kept.{kept-on}
use Rattle.vd_core.proofs.state.Core.enter.Goals as goal

pub enter_block-requires-clause-can : goal.enter_block-requires-clause-can
enter_block-requires-clause-can g c = let at = rw (sym c.self.view_is) at c.requires.phase in can-enter c.self.invariant.0.sound c.args.pass (
  at.0,
  at.1,
  (at.2.asked, at.2.no_flush),
)

pub enter_block-requires-clause-nothing : goal.enter_block-requires-clause-nothing
enter_block-requires-clause-nothing g c = let at = rw (sym c.self.view_is) at c.requires.phase in holds-nothing c.self.inside.passes.items c.args.pass
    c.self.invariant.1 at

pub invariant_of-self : goal.invariant_of-self
invariant_of-self g c =
    let at = rw (sym c.self.view_is) at c.requires.phase in let done = c.enter_block.ensures in let result = c.enter_block.result in
    let sound = c.self.invariant.0.sound in let i = c.args.pass in
    let was = c.self.inside.regions in let regions = c.enter_block.new.regions in let passes = c.enter_block.new.passes.items in
    let held = c.self.invariant.1 in let counts = c.one_more-self-inside.ensures in (
      kept-on (entered result (kept_out-step sound i at was regions passes held counts result done.busy)
          (enter-step sound i at was regions passes held counts result done.enters)) c.self.invariant.0,
      enter-held sound i at was regions passes held counts result done.busy done.enters,
      c.self.invariant.2,
    )

pub returns-clause-enters : goal.returns-clause-enters
returns-clause-enters g c =
    let at = rw (sym c.self.view_is) at c.requires.phase in
    rw (sym c.self.view_is) (enter-step c.self.invariant.0.sound c.args.pass at c.self.inside.regions c.enter_block.new.regions c.enter_block.new.passes.items
    c.self.invariant.1 c.one_more-self-inside.ensures c.enter_block.result c.enter_block.ensures.enters)

pub returns-clause-busy : goal.returns-clause-busy
returns-clause-busy g c =
    let at = rw (sym c.self.view_is) at c.requires.phase in
    rw (sym c.self.view_is) (kept_out-step c.self.invariant.0.sound c.args.pass at c.self.inside.regions c.enter_block.new.regions
    c.enter_block.new.passes.items c.self.invariant.1 c.one_more-self-inside.ensures c.enter_block.result c.enter_block.ensures.busy)
