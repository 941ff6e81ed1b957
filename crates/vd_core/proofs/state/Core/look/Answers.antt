use Rattle.std.proofs.Common.{◌≡◌, ◌+◌, ◌<◌, sym, refl, inl, inr, arith, length}
use Rattle.vd_passes.specs.declared.pass.Pass.{Pass}
use Rattle.vd_passes.specs.declared.pass.Phase.TheVariants.{Held}
use Rattle.vd_passes.specs.Laying.{count_below}
use Rattle.vd_passes.proofs.Regions.{region-of}
use Rattle.vd_machine.specs.ReadSteps.{IsReader}
use Rattle.vd_machine.proofs.Members.{read-there, at-same}
use Rattle.vd_legal.proofs.Looking.{holder-fits}
use Rattle.vd_core.proofs.state.Core.look.Goals as goal

pub overflow_add-p : goal.overflow_add-p
overflow_add-p g c =
    let at = rw (sym c.self.view_is) at c.requires.phase in let q = c.index-p.result.now in let passes = c.self.inside.passes.items in
    let there = read-there passes c.args.pass at.0 q at.1 c.index-p.ensures in
    let reads = at-same passes c.args.pass at.0 q IsReader at.1 there at.2.0 in
    let fits = holder-fits c.self.invariant.0.sound c.args.pass q there (region-of _ Held refl reads.phase) in omega (arith, fits.0)

pub overflow_cast-p : goal.overflow_cast-p
overflow_cast-p g c =
    let at = rw (sym c.self.view_is) at c.requires.phase in let q = c.index-p.result.now in let passes = c.self.inside.passes.items in
    let there = read-there passes c.args.pass at.0 q at.1 c.index-p.ensures in
    let reads = at-same passes c.args.pass at.0 q IsReader at.1 there at.2.0 in
    let fits = holder-fits c.self.invariant.0.sound c.args.pass q there (region-of _ Held refl reads.phase) in omega (arith, fits.2)

pub get-requires : goal.get-requires
get-requires g c =
    let at = rw (sym c.self.view_is) at c.requires.phase in let q = c.index-p.result.now in let passes = c.self.inside.passes.items in
    let there = read-there passes c.args.pass at.0 q at.1 c.index-p.ensures in
    let reads = at-same passes c.args.pass at.0 q IsReader at.1 there at.2.0 in
    (holder-fits c.self.invariant.0.sound c.args.pass q there (region-of _ Held refl reads.phase)).1

pub look_in_store-requires : goal.look_in_store-requires
look_in_store-requires g c =
    let at = rw (sym c.self.view_is) at c.requires.phase in let q = c.index-p.result.now in let passes = c.self.inside.passes.items in
    let there = read-there passes c.args.pass at.0 q at.1 c.index-p.ensures in
    rw (sym c.self.view_is) (record { phase = (q, there, (at-same passes c.args.pass at.0 q IsReader at.1 there at.2.0, c.if-get.ensures)) })

pub look_in_base-requires : goal.look_in_base-requires
look_in_base-requires g c =
    let at = rw (sym c.self.view_is) at c.requires.phase in let q = c.index-p.result.now in let passes = c.self.inside.passes.items in
    let there = read-there passes c.args.pass at.0 q at.1 c.index-p.ensures in
    let some : 0 < count_below c.self.inside.shape.limit (q.first + q.done) q.piece = (let more = c.if-count-gt0.true in
    let count = c.below-count.ensures in omega (arith, more, count)) in
    rw (sym c.self.view_is) (record { phase = (q, there, (at-same passes c.args.pass at.0 q IsReader at.1 there at.2.0, c.if-get.ensures, some)) })

pub look_at_zeros-requires : goal.look_at_zeros-requires
look_at_zeros-requires g c =
    let at = rw (sym c.self.view_is) at c.requires.phase in let q = c.index-p.result.now in let passes = c.self.inside.passes.items in
    let there = read-there passes c.args.pass at.0 q at.1 c.index-p.ensures in
    let none : count_below c.self.inside.shape.limit (q.first + q.done) q.piece ≡ 0 = (let more = c.if-count-gt0.false in
    let count = c.below-count.ensures in omega (arith, more, count)) in
    let long = at-same passes c.args.pass at.0 q (λ (p : Pass). p.count ≡ length c.args.out.now) at.1 there at.2.1 in
    rw (sym c.self.view_is) (record { phase = (q, there, ((at-same passes c.args.pass at.0 q IsReader at.1 there at.2.0, c.if-get.ensures, none), long)) })

pub returns-then-get : goal.returns-then-get
returns-then-get g c = record { looks = inl (c.look_in_store.ensures.looks, refl) }

pub returns-then-count-gt0 : goal.returns-then-count-gt0
returns-then-count-gt0 g c = record { looks = inr (inl (c.look_in_base.ensures.looks, refl)) }

pub returns-else-count-gt0 : goal.returns-else-count-gt0
returns-else-count-gt0 g c = record { looks = inr (inr c.look_at_zeros.ensures.sees) }
