use Rattle.vd_trace.proofs.Digits.{Reads}
use Rattle.vd_trace.proofs.hex_digits.read.Given as goal

abbrev pub invariant-pairs : goal.invariant-pairs
invariant-pairs l = Reads l.digits l.bytes l.i l.all
