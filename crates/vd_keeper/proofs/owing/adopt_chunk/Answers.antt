use Rattle.std.proofs.Common.{◌-◌, bit_and, refl, arith}
use Rattle.std.proofs.lemmas.Nat.{and_le_l}
use Rattle.vd_bits.specs.Blocks.{bits_in}
use Rattle.vd_bits.specs.Masks.{mask_of}
use Rattle.vd_keeper.proofs.Chunked.{mask-fits}
use Rattle.vd_keeper.proofs.Joining.{adopted-more, adopted-none}
use Rattle.vd_keeper.proofs.owing.adopt_chunk.Goals as goal

pub add_mask-requires-clause-exist : goal.add_mask-requires-clause-exist
add_mask-requires-clause-exist c =
    rw c.mask.ensures (omega (arith, and_le_l (mask_of (bits_in c.args.fresh.now c.args.chunk)) (18446744073709551615 - c.mask-2.result), mask-fits c.args.fresh.now c.args.owed.now c.args.chunk c.requires.fresh_chunk c.requires.fresh_size))

pub returns-then-more-gt0 : goal.returns-then-more-gt0
returns-then-more-gt0 c =
    adopted-more c.args.owed.now c.args.fresh.now c.args.stale.now c.args.chunk (bit_and c.mask.result (18446744073709551615 - c.mask-2.result)) c.requires.fresh_chunk c.requires.stale_chunk c.requires.fresh_size c.requires.stale_size c.requires.most
    (rw (← c.mask-2.ensures) c.mask-2.type_inv) (rw (c.mask.ensures, c.mask-2.ensures) refl) c.add_mask.new.self c.add_mask.ensures

pub returns-else-more-gt0 : goal.returns-else-more-gt0
returns-else-more-gt0 c =
    adopted-none c.args.owed.now c.args.fresh.now c.args.stale.now c.args.chunk (bit_and c.mask.result (18446744073709551615 - c.mask-2.result)) c.requires.fresh_chunk c.requires.stale_chunk c.requires.fresh_size c.requires.stale_size c.requires.most
    (rw (← c.mask-2.ensures) c.mask-2.type_inv) (rw (c.mask.ensures, c.mask-2.ensures) refl) c.if-more-gt0.false
