use Rattle.std.proofs.Common.{sym}
use Rattle.vd_bits.proofs.RowLaws.{length_of_row}
use Rattle.vd_bits.proofs.flags.Flags.len.Goals as goal

pub returns : goal.returns
returns c = sym (length_of_row c.self.inside.words.items c.self.inside.len c.args.self.now c.self.view_is)
