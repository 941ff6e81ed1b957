use Rattle.vd_bits.proofs.Splices.{bit_there}
use Rattle.vd_bits.proofs.flags.Flags.get.Goals as goal

pub returns : goal.returns
returns c = bit_there c.args.self.now c.args.at c.part.result c.requires c.part.ensures
