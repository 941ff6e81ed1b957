use Rattle.std.proofs.Common.{◌∙◌, ap, arith}
use Rattle.vd_bits.specs.Rows.{row}
use Rattle.vd_bits.proofs.RowFills.{all_down}
use Rattle.std.proofs.lemmas.Grind.{div_ceil_times}
use Rattle.vd_bits.proofs.flags.Flags.new.Goals as goal

pub returns : goal.returns
returns c =
    let d = div_ceil_times c.args.len 64 (omega arith) in
    ap (λ ws. row ws c.args.len) (c.in_ok-words.ensures.items_if_clones_equal (λ y e. e))
    ∙ (all_down c.div_ceil.result c.args.len (record { enough = omega (arith, c.div_ceil.ensures); needed = omega (arith, c.div_ceil.ensures) })).1
