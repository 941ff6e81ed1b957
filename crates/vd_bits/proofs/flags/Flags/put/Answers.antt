use Rattle.std.proofs.Common.{◌∙◌}
use Rattle.vd_bits.proofs.Splices.{one_spliced}
use Rattle.vd_bits.proofs.flags.Flags.put.Goals as goal

pub returns : goal.returns
returns c = c.put_part.ensures ∙ one_spliced c.args.self.now c.args.at c.args.up c.requires
