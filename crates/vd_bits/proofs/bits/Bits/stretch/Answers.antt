use Rattle.std.proofs.Common.{arith}
use Rattle.vd_bits.proofs.Chunks.{chunk_in_word}
use Rattle.vd_bits.proofs.bits.Bits.stretch.Goals as goal

pub returns-clause-one_word : goal.returns-clause-one_word
returns-clause-one_word c = omega (arith, chunk_in_word c.args.chunk_number c.self.inside.chunk c.self.invariant.some c.self.invariant.even)
