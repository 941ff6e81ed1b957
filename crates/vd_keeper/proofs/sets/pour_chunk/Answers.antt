use Rattle.std.proofs.Common.{length, refl, sym}
use Rattle.std.specs.Int.RustNames.{bit_or}
use Rattle.std.proofs.lemmas.Nat.{pow_pos}
use Rattle.vd_bits.specs.Blocks.{bits_in}
use Rattle.vd_keeper.proofs.Chunked.{both-fit, mask-fits, has-more, has-none}
use Rattle.vd_keeper.proofs.sets.pour_chunk.Goals as goal

pub put_mask-requires-clause-exist : goal.put_mask-requires-clause-exist
put_mask-requires-clause-exist c = rw (c.mask.ensures, c.mask-2.ensures) (both-fit c.args.into.now c.args.from.now c.args.chunk (sym c.requires.chunk) (sym c.requires.size))

pub returns-clause-into : goal.returns-clause-into
returns-clause-into c =
    rw c.put_mask.ensures
    (has-more c.args.into.now c.args.chunk _ (bit_or c.mask.result c.mask-2.result) (rw (c.requires.chunk, c.requires.size) c.requires.inside) (mask-fits c.args.from.now c.args.into.now c.args.chunk (sym c.requires.chunk) (sym c.requires.size)) (rw (c.mask.ensures, c.mask-2.ensures) refl))

pub returns-clause-from : goal.returns-clause-from
returns-clause-from c = rw c.put_mask-2.ensures (has-none c.args.from.now c.args.chunk c.requires.inside (pow_pos (length (bits_in c.args.from.now c.args.chunk))))
