use Rattle.std.proofs.Common.{◌*◌, ◌<◌, ◌^◌, length, sym, refl}
use Rattle.std.specs.Int.RustNames.{bit_or}
use Rattle.std.proofs.lemmas.Nat.{or_lt}
use Rattle.std.proofs.lemmas.Simd.{mask_l-lt}
use Rattle.vd_bits.specs.Blocks.{bits_in}
use Rattle.vd_keeper.specs.Sets.{HasMore}
use Rattle.vd_keeper.proofs.Chunked.{has-more}
use Rattle.vd_keeper.proofs.SetLaws.{masked-chunk, masked-indexed}
use Rattle.vd_keeper.proofs.sets.BlockSet.add_mask.Goals as goal
use Rattle.vd_keeper.proofs.sets.BlockSet.add_mask.Goals.{After-put_mask}

fits : (c : After-put_mask) → c.args.mask < 2 ^ length (bits_in c.self.inside.blocks c.args.chunk)
fits c = rw (sym c.self.view_is) at c.requires.exist

inside : (c : After-put_mask) → c.args.chunk * c.self.inside.blocks.chunk < length c.self.inside.blocks.bits
inside c = rw (sym c.self.view_is) at c.requires.inside

more : (c : After-put_mask) → HasMore c.self.inside.blocks c.put_mask.new.self c.args.chunk c.args.mask
more c = rw c.put_mask.ensures (has-more c.self.inside.blocks c.args.chunk c.args.mask (bit_or c.mask.result c.args.mask) (inside c) (fits c) (rw c.mask.ensures refl))

pub put_mask-requires-clause-exist : goal.put_mask-requires-clause-exist
put_mask-requires-clause-exist c =
    rw c.mask.ensures (or_lt (length (bits_in c.self.inside.blocks c.args.chunk)) _ c.args.mask (mask_l-lt (bits_in c.self.inside.blocks c.args.chunk)) (rw (sym c.self.view_is) at c.requires.exist))

pub mark-requires : goal.mark-requires
mark-requires c =
    let k = (goal.at.mark-requires c).After-put_mask in
    rw c.from.ensures (masked-chunk c.self.inside c.put_mask.new.self c.args.chunk c.args.mask c.self.invariant (more k) (inside k) (fits k) c.requires.some)

pub invariant_of-self : goal.invariant_of-self
invariant_of-self c =
    let k = (goal.at.invariant_of-self c).After-put_mask in
    rw (c.mark.ensures, c.from.ensures) (masked-indexed c.self.inside c.put_mask.new.self c.args.chunk c.args.mask c.self.invariant (more k) (inside k) (fits k) c.requires.some)

pub returns : goal.returns
returns c = rw (← c.self.view_is) (more (goal.at.returns c).After-put_mask)
