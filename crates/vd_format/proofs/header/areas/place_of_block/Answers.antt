use Rattle.std.proofs.Common.{◌+◌, ◌*◌, ◌%◌, ap, arith}
use Rattle.vd_format.proofs.Places.{at-most-product}
use Rattle.vd_format.proofs.header.areas.place_of_block.Goals as goal

pub overflow_mul-result : goal.overflow_mul-result
overflow_mul-result c =
    let h = at-most-product (c.args.p * c.args.chunk + c.args.b % c.args.chunk) c.args.block c.requires.block in
    let e = ap (λ n. n * c.args.chunk) c.from.ensures in
    omega (arith, c.requires.fits, h, e)
