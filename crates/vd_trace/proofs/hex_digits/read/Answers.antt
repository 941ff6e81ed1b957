use Rattle.std.proofs.Common.{arith}
use Rattle.std.proofs.lemmas.Bool.{OnTrue_from, OnFalse_from, ltb-true, ltb-false}
use Rattle.vd_trace.proofs.Digits.{reads-none, reads-pair, reads-all, reads-bad}
use Rattle.vd_trace.proofs.hex_digits.read.Goals as goal

pub pairs-init : goal.pairs-init
pairs-init c = reads-none c.args.digits.now c.args.bytes.now

pub pairs-preserved : goal.pairs-preserved
pairs-preserved c =
    reads-pair c.args.digits.now c.pairs.bytes c.as_chunks.result.0.now _ c.pairs.i c.pairs.all c.from_le_bytes-pair.result c.value-high.result c.value-low.result
    (λ k. (c.type_inv.digits k).fits) (omega arith) (omega arith) c.as_chunks.ensures.front c.from_le_bytes-pair.ensures c.value-high.ensures c.value-low.ensures c.pairs.invariant

pub returns-clause-spelled : goal.returns-clause-spelled
returns-clause-spelled c =
    OnTrue_from _ _ (λ small. reads-all c.args.digits.now c.pairs.bytes c.pairs.i c.pairs.all (omega arith) (omega arith) c.pairs.invariant (ltb-true _ _ small))

pub returns-clause-refused : goal.returns-clause-refused
returns-clause-refused c =
    OnFalse_from _ _ (λ large. reads-bad c.args.digits.now c.pairs.bytes c.pairs.i c.pairs.all (omega arith) c.pairs.invariant (ltb-false _ _ large))
