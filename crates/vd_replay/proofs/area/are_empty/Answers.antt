use Rattle.std.proofs.Common.{◌+◌, ◌-◌, ◌&&◌, Bool, drop, sym, ◌∙◌, ap, []}
use Rattle.vd_replay.specs.Fresh.{are_empty}
use Rattle.vd_replay.proofs.AreaLaws.{empty-next, empty-all}
use Rattle.vd_replay.proofs.area.are_empty.Goals as goal

pub returns-then-not-begins_with_zeros : goal.returns-then-not-begins_with_zeros
returns-then-not-begins_with_zeros c =
    sym (c.loop-sector.invariant ∙ empty-next c.loop-sector.left c.args.sectors.now c.loop-sector.sector-index (record { bytes = [] }) c.loop-sector-test.true
    ∙ ap (λ (b : Bool). b && are_empty (c.loop-sector.left - 512) (drop (c.loop-sector.sector-index + 1) c.args.sectors.now)) (sym c.if-not-begins_with_zeros.ensures))

pub loop-sector-preserved : goal.loop-sector-preserved
loop-sector-preserved c =
    c.loop-sector.invariant ∙ empty-next c.loop-sector.left c.args.sectors.now c.loop-sector.sector-index (record { bytes = [] }) c.loop-sector-test.true
    ∙ ap (λ (b : Bool). b && are_empty (c.loop-sector.left - 512) (drop (c.loop-sector.sector-index + 1) c.args.sectors.now)) (sym c.if-not-begins_with_zeros.ensures)
    ∙ ap (λ n. are_empty n (drop (c.loop-sector.sector-index + 1) c.args.sectors.now)) (sym c.saturating_sub-left.ensures)

pub returns : goal.returns
returns c = sym (c.loop-sector.invariant ∙ empty-all c.loop-sector.left c.args.sectors.now c.loop-sector.sector-index c.loop-sector-test.false)
