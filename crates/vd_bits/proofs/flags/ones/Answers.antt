use Rattle.vd_bits.proofs.BitLaws.{kept_ones}
use Rattle.vd_bits.proofs.flags.ones.Goals as goal

pub returns : goal.returns
returns c = kept_ones c.args.count c.requires.most
