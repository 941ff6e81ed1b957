use Rattle.std.proofs.Common.{◌≡◌, true, sym, arith}
use Rattle.vd_passes.specs.declared.pass.Pass.{Pass}
use Rattle.vd_passes.specs.Passes.{has_region}
use Rattle.vd_machine.proofs.Members.{read-there, at-same}
use Rattle.vd_legal.proofs.Looking.{holder-fits}
use Rattle.vd_core.proofs.state.Core.is_fresh.Goals as goal

pub overflow_cast-block : goal.overflow_cast-block
overflow_cast-block g c =
    let at = rw (sym c.self.view_is) at c.requires in let passes = c.self.inside.passes.items in
    let there = read-there passes c.args.pass at.0 c.index.result.now at.1 c.index.ensures in
    let holds = at-same passes c.args.pass at.0 c.index.result.now (λ (p : Pass). has_region p.phase ≡ true) at.1 there at.2 in
    let fits = holder-fits c.self.invariant.0.sound c.args.pass c.index.result.now there holds in omega (arith, fits.2)

pub get-requires : goal.get-requires
get-requires g c =
    let at = rw (sym c.self.view_is) at c.requires in let passes = c.self.inside.passes.items in
    let there = read-there passes c.args.pass at.0 c.index.result.now at.1 c.index.ensures in
    let holds = at-same passes c.args.pass at.0 c.index.result.now (λ (p : Pass). has_region p.phase ≡ true) at.1 there at.2 in
    (holder-fits c.self.invariant.0.sound c.args.pass c.index.result.now there holds).1

pub returns : goal.returns
returns g c =
    let at = rw (sym c.self.view_is) at c.requires in let passes = c.self.inside.passes.items in
    let there = read-there passes c.args.pass at.0 c.index.result.now at.1 c.index.ensures in
    rw (sym c.self.view_is) (c.index.result.now, there, c.get.ensures)
